-- Where a key stands in a block, by its words, and what the block has there.
use Rattle.std.proofs.Common.{◌≡◌, ℕ, ◌+◌, ◌*◌, ◌<◌, inl, inr, sym, ap, ◌∙◌, subst, arith, length, None}
use Rattle.std.proofs.lemmas.Bool.{le-leb}
use Rattle.jo_value.specs.declared.value.Key.{Key}
use Rattle.jo_value.specs.declared.value.Key.TheVariants.{Name, Index}
use Rattle.jo_value.specs.declared.value.NameId.{NameId}
use Rattle.jo_value.specs.Words.{slot_bits}
use Rattle.jo_model.specs.Objects.{Object, property}
use Rattle.jo_rule.specs.Views.{View}
use Rattle.jo_rule.specs.Dictionaries.{HasProperties, slot_in}
use Rattle.jo_dict.specs.Blocks.{IsRoomFor, OnlyCounts}
use Rattle.jo_dict.specs.declared.place.Place.{Place}
use Rattle.jo_dict.specs.declared.place.Place.TheVariants.{At, Beyond, NoMoreNames}
use Rattle.jo_dict.specs.declared.place.Spot.TheVariants.{Element, End, Pair}
use Rattle.jo_dict.specs.Locating.{IsLocated, IsLocatedIn, IsSpotIn}
use Rattle.jo_dict.specs.inner.Places.{IsNamed, IsPlaceOf}
use Rattle.jo_dict.proofs.Reading.{name_absent, name_found}
use Rattle.jo_dict.proofs.Adding.{there, not_there}

-- steps that only count leave it
pub located_still : (v u : View) (key : Key) (place : Place) → OnlyCounts v u → IsLocated v key place → IsLocated u key place
located_still v u key place e is = subst (λ (x : View). IsLocated x key place) (sym e) is

module _ {f : ℕ → ℕ} {room : ℕ} {z : Object} (p : HasProperties f room z) where
  -- the block has as many pairs as the object has names
  pub named_names : {name : NameId} {names place : ℕ} → IsNamed f name names place → names ≡ length z.names
  named_names is = sym is.count ∙ p.count

  pub named_place : {name : NameId} {names place : ℕ} → IsNamed f name names place → IsPlaceOf f (length z.names) name.0 place
  named_place {name} {names} {place} is = subst (λ (n : ℕ). IsPlaceOf f n name.0 place) (named_names is) is.at

  pub pair_below : (name : NameId) (at names : ℕ) → IsSpotIn f room (Name name) (Pair at names) → at < length z.names
  pair_below name at names h = let e = named_names h.0 in let lt = h.1 in omega arith

  -- what is found of the room for a key
  pub room_of : (key : Key) (place : Place) → IsLocatedIn f room key place → IsRoomFor room z key place
  room_of (Name name) (At (Pair at names)) h = inl (there p name (named_place h.0) (pair_below name at names h))
  room_of (Name name) (At (End new names)) h = inr (let e = named_names h.1 in let lt = h.2 in omega arith)
  room_of (Name name) (At (Element i)) h = absurd h
  room_of (Index index) (At (Pair at names)) h = absurd h
  room_of (Index index) (At (End new names)) h = absurd h
  room_of (Index index) (At (Element i)) h = h.1
  room_of (Name name) NoMoreNames h = let e = named_names h in (not_there p name (named_place h) e, le-leb 64 (length z.names) (omega arith))
  room_of (Index index) NoMoreNames h = absurd h
  room_of (Name name) (Beyond i) h = absurd h
  room_of (Index index) (Beyond i) h = (ap Index (sym h.0), omega (arith, h.0, h.1))

  -- ---- what the block has there

  pub pair_slot : (key : Key) (at names : ℕ) → IsSpotIn f room key (Pair at names) → slot_bits (slot_in (property z key)) ≡ f (3 + 2 * at)
  pair_slot (Name name) at names h = name_found p name (named_place h.0) (pair_below name at names h)
  pair_slot (Index index) at names h = absurd h

  pub element_slot : (key : Key) (i : ℕ) → IsSpotIn f room key (Element i) → slot_bits (slot_in (property z key)) ≡ f (130 + i)
  element_slot (Name name) i h = absurd h
  element_slot (Index index) i h = sym (p.elements index h.1) ∙ ap (λ (k : ℕ). f (130 + k)) (sym h.0)

  pub none_at_end : (key : Key) (new : NameId) (names : ℕ) → IsSpotIn f room key (End new names) → property z key ≡ None
  none_at_end (Name name) new names h = name_absent p name (named_place h.1) (named_names h.1)
  none_at_end (Index index) new names h = absurd h

  pub none_in_full : (key : Key) → IsLocatedIn f room key NoMoreNames → property z key ≡ None
  none_in_full (Name name) h = name_absent p name (named_place h) (named_names h)
  none_in_full (Index index) h = absurd h

  pub none_beyond : (key : Key) (i : ℕ) → IsLocatedIn f room key (Beyond i) → property z key ≡ None
  none_beyond (Name name) i h = absurd h
  none_beyond (Index index) i h = p.beyond index h.1
