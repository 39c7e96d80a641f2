-- An object whose names and values have words keeps that.
use Rattle.std.proofs.Common.{Bool, refl, ◌≡◌, ℕ, suc, true, false, List, ◌∷◌, take, drop, insert, remove}
use Rattle.std.specs.Prelude.{All}
use Rattle.std.proofs.lemmas.List.Elements.{All-append, All-cons, All-take, All-drop, All-push, All-set}
use Rattle.jo_value.specs.declared.value.Key.{Key}
use Rattle.jo_value.specs.declared.value.Key.TheVariants.{Name, Index}
use Rattle.jo_value.specs.declared.value.NameId.{NameId}
use Rattle.jo_value.specs.declared.value.Value.{Value}
use Rattle.jo_value.specs.declared.words.slot.Slot.TheVariants.{Holds}
use Rattle.jo_value.specs.Words.{IsSlot}
use Rattle.jo_model.specs.Objects.{Object, name_place, element_place, with_value, with_property, without_property, has_property, is_full_for}
use Rattle.jo_model.specs.One.{put_in}
use Rattle.jo_rule.specs.Dictionaries.{IsNameWord, IsKeyWord}
use Rattle.jo_rule.specs.Contents.{HasWords}

abbrev NamedWord : NameId × Value → Type 0
NamedWord p = IsNameWord p.0 × IsSlot (Holds p.1)

abbrev ElementWord : ℕ × Value → Type 0
ElementWord p = IsSlot (Holds p.1)

inserted : {A : Type 0} (Q : A → Type 0) (l : List A) (i : ℕ) (x : A) → Q x → All Q l → All Q (insert l i x)
inserted {A} Q l i x one all = All-append Q (take i l) (x ∷ drop i l) (All-take Q i l all) (All-cons Q x (drop i l) one (All-drop Q i l all))

removed : {A : Type 0} (Q : A → Type 0) (l : List A) (i : ℕ) → All Q l → All Q (remove l i)
removed {A} Q l i all = All-append Q (take i l) (drop (suc i) l) (All-take Q i l all) (All-drop Q (suc i) l all)

pub words_set : (z : Object) (key : Key) (v : Value) → IsKeyWord key × IsSlot (Holds v) → HasWords z → HasWords (with_value z key v)
words_set z (Name name) v is h = record { names = All-set NamedWord z.names (name_place z name) (name, v) is h.names; elements = h.elements }
words_set z (Index index) v is h = record { names = h.names; elements = All-set ElementWord z.elements (element_place z index) (index, v) is.1 h.elements }

pub words_more : (z : Object) (key : Key) (v : Value) → IsKeyWord key × IsSlot (Holds v) → HasWords z → HasWords (with_property z key v)
words_more z (Name name) v is h = record { names = All-push NamedWord z.names (name, v) h.names is; elements = h.elements }
words_more z (Index index) v is h = record { names = h.names; elements = inserted ElementWord z.elements _ (index, v) is.1 h.elements }

pub words_less : (z : Object) (key : Key) → HasWords z → HasWords (without_property z key)
words_less z (Name name) h = record { names = removed NamedWord z.names (name_place z name) h.names; elements = h.elements }
words_less z (Index index) h = record { names = h.names; elements = removed ElementWord z.elements (element_place z index) h.elements }

put_by : (z : Object) (key : Key) (v : Value) (there full : Bool) → has_property z key ≡ there → is_full_for z key ≡ full → IsKeyWord key × IsSlot (Holds v) → HasWords z → HasWords (put_in z key v).0
put_by z key v true full e f is h = rw e (words_set z key v is h)
put_by z key v false true e f is h = rw (e, f) h
put_by z key v false false e f is h = rw (e, f) (words_more z key v is h)

pub words_put : (z : Object) (key : Key) (v : Value) → IsKeyWord key × IsSlot (Holds v) → HasWords z → HasWords (put_in z key v).0
words_put z key v is h = put_by z key v (has_property z key) (is_full_for z key) refl refl is h
