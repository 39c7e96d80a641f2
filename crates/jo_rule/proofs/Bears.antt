-- An object is born, as a dictionary without properties in a block of its pass's storage.
use Rattle.std.proofs.Common.{◌≡◌, ◌≢◌, ◌+◌, ◌<◌, ◌≤◌, ℕ, true, false, List, refl, sym, ap, ◌∙◌, subst, ⊎_elim, arith, length, set, Option, Some, None}
use mathlib.Core.Option.{some}
use lib.ListN.{get_elem?}
use Rattle.std.specs.Prelude.{nat_lt}
use Rattle.std.proofs.lemmas.Bool.{cases_eq, cases_lt, le-ltb, lt-ltb, and_from}
use Rattle.jo_value.specs.declared.capacities.TheConstants.{MOST_PASSES}
use Rattle.jo_value.specs.declared.limits.TheConstants.{MOST_OBJECTS}
use Rattle.jo_value.specs.declared.value.ObjId.{ObjId}
use Rattle.jo_value.specs.declared.value.Sid.{Sid}
use Rattle.jo_value.specs.declared.words.cell.Cell.{Cell}
use Rattle.jo_value.specs.Words.{cell_bits}
use Rattle.jo_model.specs.declared.call.Call.TheVariants as call
use Rattle.jo_model.specs.Objects.{Object, empty_object}
use Rattle.jo_model.specs.Heaps.{Heap, objects_of, object_of, with_new_object, IsBorn}
use Rattle.jo_model.specs.declared.call.Reply.TheVariants as reply
use Rattle.jo_model.specs.One.{one}
use Rattle.jo_model.specs.Logs.{after}
use Rattle.jo_rule.proofs.Histories.{numbers}
use Rattle.jo_rule.specs.declared.counts.Counts.{Counts}
use Rattle.jo_rule.specs.declared.event.Event.TheVariants.{Place}
use Rattle.jo_rule.specs.Names.{cell, is_word}
use Rattle.jo_rule.specs.Areas.{Words, put, set_object}
use Rattle.jo_rule.specs.Shapes.{Shape}
use Rattle.jo_rule.specs.Spots.{Location, values}
use Rattle.jo_rule.specs.Views.{View, word_in}
use Rattle.jo_rule.specs.Events.{recorded, MayPlace}
use Rattle.jo_rule.specs.Dictionaries.{block_size, HasProperties}
use Rattle.jo_rule.specs.Contents.{Role, Now, unborn_now, word_of_cell, is_born, Stands, HasWords}
use Rattle.jo_rule.specs.Owned.{address_of}
use Rattle.jo_rule.specs.Rule.{Rule}
use Rattle.jo_rule.specs.Steps.{MayBear, born_cell, with_named, with_birth}
use Rattle.jo_rule.proofs.Concluded.{unopened_none, follows_unopened, concluded_event}
use Rattle.jo_rule.proofs.Raised.{raised_cell}
use Rattle.jo_rule.proofs.Lists.{no_item}
use Rattle.jo_rule.proofs.Heaps.{passes-after, new-lengths, new-objects}
use Rattle.jo_rule.proofs.Events.{after_new, event_valid, event_refuses, no_words, new_reply}
use Rattle.jo_rule.proofs.Contents.{unborn_state, unborn_cell}
use Rattle.jo_rule.proofs.Locks.{moves_locks}
use Rattle.jo_rule.proofs.Naming.{named_roles, named_grows, named_still, named_inside, named_elsewhere, named_own, named_stands}
use Rattle.jo_rule.proofs.Moves.{moves, pins_absent, no_pins_unborn}
use Rattle.jo_rule.proofs.Sights.{sighted_dropped, stamps_kept}
use Rattle.jo_rule.proofs.Marked.{born_so_birth, born_so_event}
use Rattle.jo_rule.proofs.Timing.{timed_dropped}
use Rattle.jo_rule.proofs.Counted.{counts_dictionary, new_counts}
use Rattle.jo_rule.proofs.Sets.{object_here, object_else, cases_object}
use Rattle.jo_rule.proofs.Stores.{numbers_of}

-- an unborn object is empty
pub unborn_object : (v : Location → ℕ) (role : ℕ → Role) (shape : Sid → Shape) (o : ObjId) (x : Option Cell) (now : Now) (z : Object) → x ≡ None → Stands v role shape o x now z → z ≡ empty_object
unborn_object v role shape o None now z e h = h.1
unborn_object v role shape o (Some c) now z e h = (let no : Some c ≡ None = e in absurd cc)

-- the object that a pass bears next
abbrev pub next_object : View → ObjId
next_object v = record { pass = v.number; serial = v.births.objects }

pub below_more : (i n : ℕ) → i ≢ n → nat_lt i n ≡ nat_lt i (n + 1)
below_more i n d = ⊎_elim (λ lt. lt-ltb i n lt ∙ sym (lt-ltb i (n + 1) (omega arith))) (λ ge. le-ltb i n ge ∙ sym (le-ltb i (n + 1) (omega arith))) (cases_lt i n)

module _ {P : ℕ} {w : Words} {views : List View} (id : ℕ) (v : View) (r : Rule P w views) (at : get_elem? views id ≡ some v) (l : v.live ≡ true) where
  -- the cell of the next object is a word of the table
  pub next_word : v.births.objects < MOST_OBJECTS → is_word P (cell (next_object v)) ≡ true
  next_word few =
      let lt = (r.histories.seated id v at l).own.1 in
      let made = r.histories.few in
      and_from (nat_lt v.number P) (nat_lt v.births.objects MOST_OBJECTS) (lt-ltb v.number P (omega arith)) (lt-ltb v.births.objects MOST_OBJECTS few)

  -- The next object of a pass is born, by a store to its cell word, which was 0. Its block is filled before.
  pub bears : (k room : ℕ) (counts : Counts) → P ≤ MOST_PASSES → MayBear v k room
      → (w (cell (next_object v)) ≡ 0) × Rule P (put w (cell (next_object v)) (cell_bits (born_cell v.number (address_of v.number k)))) (set views id (with_birth P v r.log (with_named v.storage k (block_size room)) counts))
      × IsBorn (after P (recorded P v.number (Place call.New) r.log)) (next_object v) × ((one (after P r.log) v.number call.New).1 ≡ reply.Made (next_object v))
  bears k room counts most may_bear =
      let capacity = may_bear.block.capacity in
      let none_held = may_bear.no_lock in
      let few = may_bear.few in
      let from = may_bear.block.from in
      let to = may_bear.block.to in
      let head = may_bear.block.header in
      let has = may_bear.block.properties in
      let t = v.number in
      let o = next_object v in
      let c' = born_cell t (address_of t k) in
      let u = with_birth P v r.log (with_named v.storage k (block_size room)) counts in
      let same = numbers_of v u refl refl refl refl refl refl in
      let own = r.owned.storage id v at l in
      let objects : v.births.objects ≡ length (objects_of (after P r.log) t) = r.owned.objects id v at l in
      let lt = (r.histories.seated id v at l).own.1 in
      let made = r.histories.few in
      let passes = passes-after P r.log (omega arith) in
      let heap' = after P (recorded P t (Place call.New) r.log) in
      let is : heap' ≡ with_new_object (after P r.log) t = after_new P t r.log (omega arith) in
      let lengths = new-lengths (after P r.log) t (omega arith) in
      let here_long : length (objects_of heap' t) ≡ length (objects_of (after P r.log) t) + 1 = ap (λ (h : Heap). length (objects_of h t)) is ∙ lengths.0 in
      let else_long : (p : ℕ) → p ≢ t → length (objects_of heap' p) ≡ length (objects_of (after P r.log) p) = λ p n. ap (λ (h : Heap). length (objects_of h p)) is ∙ lengths.1 p n in
      let still : (q : ObjId) → object_of heap' q ≡ object_of (after P r.log) q = λ q. ap (λ (h : Heap). object_of h q) is ∙ new-objects (after P r.log) t q in
      let unborn : r.cell o ≡ None = unborn_cell (r.cell o) (r.contents.born o ∙ le-ltb v.births.objects (length (objects_of (after P r.log) t)) (omega arith)) in
      let empty : object_of (after P r.log) o ≡ empty_object = unborn_object (values w) r.role r.shape o (r.cell o) (r.now o) (object_of (after P r.log) o) unborn (r.contents.stands o) in
      let used = own.used in
      let root = r.shaped.roots t (omega arith) in
      let stamps : (i : ℕ) → 0 ≡ (r.now o).stamps i = λ i. sym (ap (λ (z : Now). z.stamps i) (unborn_state r.contents o unborn)) in
      let may : MayPlace P v (Place call.New) = (record { object = tt; key = tt; values = tt }, tt) in (
        r.coded o ∙ ap word_of_cell unborn,
        moves id v u r at l same (Place call.New) o c' (record unborn_now { settled = true; room = room }) (named_roles r.role (address_of t k) room o) (λ f. record { kind = refl; structure = refl }) (event_refuses P v (Place call.New) r.log (r.histories.own id v at l) may) refl
            record {
              grows = named_grows own o k room from to;
              still = named_still own o k room from to head;
              inside = named_inside own o k room from to P (omega arith) r.contents.inside;
              elsewhere = named_elsewhere own o k room from to;
            }
            record {
              others = λ q n. still q;
              lengths = else_long;
              words = subst HasWords (sym (still o ∙ empty)) no_words;
              valid = event_valid P v (Place call.New) r.log (r.histories.seen id v at l) (omega arith) may r.contents.valid;
            }
            record {
              cell = record { sid = omega arith; address = omega arith; owner = omega arith };
              structure = ap (λ (z : Shape). z.born) root.1;
              root = ap (λ (z : Shape). z.root) root.1;
              owner = refl;
              kind = named_stands own o k room from to c' (record unborn_now { settled = true }) (object_of heap' o) refl capacity refl (subst (HasProperties (λ j. word_in v.storage.fresh (k + j)) room) (sym (still o ∙ empty)) has);
            }
            (λ q. ⊎_elim
            (λ (e : q ≡ o). ap is_born (ap (set_object r.cell o (Some c')) e ∙ object_here r.cell o (Some c')) ∙ sym (ap (λ (x : ObjId). nat_lt x.serial (length (objects_of heap' x.pass))) e ∙ lt-ltb v.births.objects (length (objects_of heap' t)) (omega arith)))
            (λ (n : q ≢ o). ap is_born (object_else r.cell o q (Some c') n) ∙ (r.contents.born q ∙ ⊎_elim
            (λ (e : q.pass ≡ t).
            let apart : q.serial ≢ v.births.objects = λ f. n (λ i. record { pass = e i; serial = f i }) in
            let long : length (objects_of heap' q.pass) ≡ length (objects_of (after P r.log) q.pass) + 1 = ap (λ (p : ℕ). length (objects_of heap' p)) e ∙ (here_long ∙ ap (λ (p : ℕ). length (objects_of (after P r.log) p) + 1) (sym e)) in
            let end : v.births.objects ≡ length (objects_of (after P r.log) q.pass) = objects ∙ ap (λ (p : ℕ). length (objects_of (after P r.log) p)) (sym e) in
            below_more q.serial (length (objects_of (after P r.log) q.pass)) (λ f. apart (f ∙ sym end)) ∙ ap (nat_lt q.serial) (sym long))
            (λ (m : q.pass ≢ t). ap (nat_lt q.serial) (sym (else_long q.pass m))) (cases_eq q.pass t))) (cases_object q o))
            (named_own own o k room from to) (ap (λ (n : ℕ). n + 1) objects ∙ sym here_long) refl
            (moves_locks views id v u at l l o c' (record unborn_now { settled = true; room = room }) r.locks.holder r.locks (λ q n. refl) (λ q n. still q)
            (λ j y n f ly g h e. (let t' = r.locks.held j y f ly g h in let no : None ≡ Some g.cell = sym unborn ∙ (ap r.cell (sym e) ∙ t'.cell) in absurd cc))
            (λ g f. absurd (no_item g v.lock none_held f)) (λ q n g f e. absurd (no_item g v.lock none_held f)) (λ b. (let no : false ≡ true = b in absurd cc)))
            (pins_absent r id o c' (record unborn_now { settled = true; room = room }) (named_roles r.role (address_of t k) room o) (no_pins_unborn r o unborn) stamps)
            (sighted_dropped (r.sights.each id v at l) v.quarantine (stamps_kept (r.sights.each id v at l) o (record unborn_now { settled = true; room = room }) stamps))
            (set_object r.so o true) (born_so_event P t (Place call.New) r.log (born_so_birth r.born_so o c' true unborn (λ k. refl) (λ k. (let no : false ≡ true = k in absurd cc)))) (λ h. absurd (⊎_elim (λ (f : false ≡ true). (let no : false ≡ true = f in cc)) (λ (f : false ≡ true). (let no : false ≡ true = f in cc)) h)) (counts_dictionary o r.shape c' refl (λ q n. new_counts P t r.log q))
            (concluded_event views id v u at l (numbers same) r.concluded r.histories (Place call.New) (follows_unopened P r.log v.number (Place call.New) (unopened_none none_held)) (unopened_none none_held) refl refl)
            (raised_cell views id v u at l (numbers same) r.histories r.raised refl refl o None c' unborn (omega arith)) (timed_dropped (r.timing.timed id v at l)),
        omega arith,
        new_reply (after P r.log) t (omega arith) ∙ ap (λ (n : ℕ). reply.Made (record { pass = t; serial = n })) (sym objects),
      )
