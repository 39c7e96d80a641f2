-- The steps that load keep the rule, and tell what they find.
use Rattle.std.proofs.Common.{◌≡◌, ◌+◌, ◌*◌, ◌<◌, ℕ, true, false, List, length, set, sym, refl, ap, ◌∙◌, subst, ⊎_elim, arith, Option, Some, None}
use mathlib.Core.Option.{some}
use lib.ListN.{get_elem?}
use Rattle.std.specs.Prelude.{nat_lt}
use Rattle.std.proofs.lemmas.Bool.{le-ltb, lt-ltb, and_from}
use Rattle.jo_value.specs.declared.limits.TheConstants.{MOST_STORAGE, MOST_OBJECTS}
use Rattle.jo_value.specs.declared.value.ObjId.{ObjId}
use Rattle.jo_value.specs.declared.words.cell.Cell.{Cell}
use Rattle.jo_model.specs.declared.call.Call.TheVariants as call
use Rattle.jo_model.specs.Heaps.{objects_of, IsBorn}
use Rattle.jo_model.specs.Logs.{Log, after}
use Rattle.jo_rule.specs.declared.event.Event.{Event}
use Rattle.jo_rule.specs.declared.event.Event.TheVariants.{Nothing, Place, Refuse}
use Rattle.jo_rule.specs.Names.{WordName, cell, storage, word_at, is_word, is_object, word_numbered}
use Rattle.jo_rule.specs.Areas.{Words, put}
use Rattle.jo_rule.specs.Contents.{word_of_cell, is_born}
use Rattle.jo_rule.specs.Events.{changes}
use Rattle.jo_rule.specs.Marks.{Mark}
use Rattle.jo_rule.specs.Owned.{address_of}
use Rattle.jo_rule.specs.Rule.{Rule}
use Rattle.jo_rule.specs.Steps.{with_placed}
use Rattle.jo_rule.specs.Tidy.{own_changes}
use Rattle.jo_rule.specs.Views.{View}
use Rattle.jo_model.proofs.ValidEdits.{within_most}
use Rattle.jo_rule.proofs.Heaps.{born-longer, within_passes, passes-after, formed-after}
use Rattle.jo_rule.proofs.Contents.{standing}
use Rattle.jo_rule.proofs.Histories.{begins_itself}
use Rattle.jo_rule.proofs.Names.{word_back, put_same}
use Rattle.jo_rule.proofs.Stores.{loads, reads_own, reads_held, refuses_new, refuses_spent}
use Rattle.jo_rule.proofs.Tidy.{looking_changes, placing_changes}
use Rattle.jo_steps.specs.Counting.{one_load}
use Rattle.jo_steps.specs.Holding.{lock_of, IsFreshAt, IsHeldAt, MayLoadOwn}
use Rattle.jo_steps.specs.Effects.{MayPlaceByLoad}
use Rattle.jo_steps.specs.inner.KindsOfLoads.{IsCellWordOf, looked, loaded_own, stayed}
use Rattle.jo_steps.specs.inner.Tables.{Keeps}

-- ---- the words that are loaded

-- the table has the cell of an object that is born
pub born_there : (P : ℕ) (log : Log Mark) (o : ObjId) → 0 < P → IsBorn (after P log) o → is_object P o ≡ true
born_there P log o passes_some born =
    let lt = within_passes (after P log) o born in
    let passes = passes-after P log passes_some in
    and_from (nat_lt o.pass P) (nat_lt o.serial MOST_OBJECTS) (lt-ltb o.pass P (omega arith)) (lt-ltb o.serial MOST_OBJECTS (within_most (after P log) o (formed-after P log) born))

-- the number of a word tells its name, and the table has it
pub record IsNumbered (P at : ℕ) (name : WordName) : Type 0 where
  pub number : at ≡ word_at P name
  pub there : is_word P name ≡ true

numbered : (P at : ℕ) (name : WordName) → IsNumbered P at name → word_numbered P at ≡ name
numbered P at name is = ap (word_numbered P) is.number ∙ word_back P name is.there

there_numbered : (P at : ℕ) (name : WordName) → IsNumbered P at name → (at ≡ word_at P (word_numbered P at)) × (is_word P (word_numbered P at) ≡ true)
there_numbered P at name is = subst (λ (n : WordName). (at ≡ word_at P n) × (is_word P n ≡ true)) (sym (numbered P at name is)) (is.number, is.there)

-- so it is with the words that may be loaded
fresh_at : (P : ℕ) (v : View) (k at : ℕ) → v.number < P → IsFreshAt P v k at → IsNumbered P at (storage (address_of v.number k))
fresh_at P v k at below is = let lt = is.within in record { number = is.number; there = lt-ltb (address_of v.number k) (MOST_STORAGE * P) (omega arith) }

held_at : (P : ℕ) (v : View) (k at : ℕ) → IsHeldAt P v k at → IsNumbered P at (storage ((lock_of v).cell.address + k))
held_at P v k at is = record { number = is.number; there = lt-ltb ((lock_of v).cell.address + k) (MOST_STORAGE * P) is.inside }

-- the table has an own word that is loaded
pub own_there : (P : ℕ) (v : View) (at : ℕ) → v.number < P → MayLoadOwn P v at → (at ≡ word_at P (word_numbered P at)) × (is_word P (word_numbered P at) ≡ true)
own_there P v at below may =
    ⊎_elim (λ f. there_numbered P at (storage (address_of v.number f.0)) (fresh_at P v f.0 at below f.1)) (λ h. there_numbered P at (storage ((lock_of v).cell.address + h.0)) (held_at P v h.0 at h.1)) may

-- ---- the steps

-- a load stores the word as it was
loaded : (P : ℕ) (w : Words) (m : WordName) (views : List View) → Rule P w views → Rule P (put w m (w m)) views
loaded P w m views r = subst (λ (x : Words). Rule P x views) (sym (put_same w m)) r

-- the event that a load places keeps the rule, and adds no change
record PlacedByLoad {P : ℕ} {w : Words} {views : List View} (id : ℕ) (v : View) (r : Rule P w views) (event : Event) : Type 0 where
  rule : Rule P w (set views id (with_placed P v event r.log (one_load v.counts)))
  changes : own_changes P (with_placed P v event r.log (one_load v.counts)) ≡ own_changes P v

module _ {P : ℕ} {w : Words} {views : List View} (id : ℕ) (v : View) (r : Rule P w views) (at : get_elem? views id ≡ some v) (l : v.live ≡ true) where
  -- such an event does
  places : (event : Event) → MayPlaceByLoad P v event → PlacedByLoad id v r event
  places Nothing may = record {
    rule = loads id v r at l r.log (one_load v.counts) (r.histories.seen id v at l) (begins_itself r.log);
    changes = looking_changes id v r at l r.log (one_load v.counts) (r.histories.seen id v at l);
  }
  places (Place call.New) may =
      let own = r.owned.objects id v at l in
      let objects = length (objects_of (after P r.log) v.number) in
      let spent : nat_lt objects MOST_OBJECTS ≡ false = le-ltb objects MOST_OBJECTS (omega arith) in
      let still : changes (after P r.log) v.number call.New ≡ false = rw spent refl in
      record {
        rule = refuses_new id v r at l (one_load v.counts) may;
        changes = placing_changes id v r at l (Place call.New) (one_load v.counts) ∙ (rw still (omega arith));
      }
  places (Place _) may = absurd may
  places (Refuse call.New spent) may = record {
    rule = refuses_spent id v r at l call.New spent (one_load v.counts) may;
    changes = placing_changes id v r at l (Refuse call.New spent) (one_load v.counts) ∙ (omega arith);
  }
  places (Refuse _ spent) may = absurd may

-- a cell that is there
there_is : (x : Option Cell) → is_born x ≡ true → (c : Cell) × (x ≡ Some c)
there_is None e = (let no : false ≡ true = e in absurd cc)
there_is (Some c) e = (c, refl)

-- what is found where the cell of an object is that is born in what was seen
pub finds : {P : ℕ} {w : Words} {views : List View} (id : ℕ) (v : View) → Rule P w views → get_elem? views id ≡ some v → v.live ≡ true → v.flat ≡ false → (o : ObjId) → IsBorn (after P v.past.seen) o → IsCellWordOf o (w (cell o))
finds {P} id v r at l none_ o born =
    let seen = r.histories.seen id v at l in
    let now : IsBorn (after P r.log) o = subst (λ (x : Log Mark). IsBorn (after P x) o) (sym seen.1) (born-longer P v.past.seen seen.0 o born) in
    let c = there_is (r.cell o) (r.contents.born o ∙ lt-ltb o.serial (length (objects_of (after P r.log) o.pass)) now) in
    let s = standing r.contents o c.0 c.1 in
    let d = r.allowed.dictionaries (sym (r.allowed.agreed id v at l) ∙ none_) o c.0 c.1 in
    record { cell = c.0; is = record { is_cell = s.cell; kind = d.kind; structure = d.structure; owner = s.owner }; is_word = r.coded o ∙ ap word_of_cell c.1 }

-- a load of the cell of an object that is born
pub keeps_look : (P id : ℕ) (o : ObjId) (event : Event) (v : View) → v.live ≡ true → v.flat ≡ false → IsBorn (after P v.past.seen) o → MayPlaceByLoad P v event → Keeps P (cell o) (λ n. n) id v (looked P o event v)
keeps_look P id o event v l none_ born may w views r at =
    let p = places id v r at l event may in
    let u = with_placed P v event r.log (one_load v.counts) in (
      u,
      loaded P w (cell o) (set views id u) p.rule,
      refl,
      refl,
      (record { log = r.log; more = r.histories.seen id v at l; view = refl; objects = sym (r.owned.objects id v at l); changes = p.changes }, finds id v r at l none_ o born),
    )

-- a load of a word that no other pass may change
pub keeps_own : (P id at : ℕ) (v : View) → v.live ≡ true → v.number < P → Keeps P (word_numbered P at) (λ n. n) id v (loaded_own P at v)
keeps_own P id number v l below w views r at =
    let u : View = record v { counts = one_load v.counts } in (
      u,
      loaded P w (word_numbered P number) (set views id u) (loads id v r at l v.past.seen (one_load v.counts) (begins_itself v.past.seen) (r.histories.seen id v at l)),
      refl,
      refl,
      (
        record {
          fresh = λ k is. ap w (numbered P number (storage (address_of v.number k)) (fresh_at P v k number below is)) ∙ reads_own id v r at l k is.nameless is.within;
          held = λ k is. ap w (numbered P number (storage ((lock_of v).cell.address + k)) (held_at P v k number is)) ∙ reads_held id v r at l (lock_of v) k is.lock is.kind is.within;
        },
        refl,
      ),
    )

-- a load of any word, which tells nothing of it
pub keeps_still : (P id : ℕ) (m : WordName) (v : View) → v.live ≡ true → Keeps P m (λ n. n) id v (stayed v)
keeps_still P id m v l w views r at = (v, loaded P w m (set views id v) (loads id v r at l v.past.seen v.counts (begins_itself v.past.seen) (r.histories.seen id v at l)), refl, refl, refl)
