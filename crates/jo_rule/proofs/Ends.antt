-- What the rule gives when the first pass has joined all others into itself: one legal history, and the objects that
-- it leaves.
use Rattle.std.proofs.Common.{◌≡◌, ◌≢◌, ◌+◌, ◌<◌, ◌≤◌, ℕ, zero, suc, Bool, true, false, cond, eqb, List, [], ◌∷◌, refl, sym, ap, ◌∙◌, subst, inl, inr, ⊎_elim, arith, length, slice_get, Option, Some, None}
use mathlib.Core.Option.{some, some-injective}
use lib.ListN.{get_elem?}
use Rattle.std.proofs.lemmas.Bool.{both_ways, cases_eq, cases_lt, cond_both, eqb-true, eqb-false, lt-ltb, le-ltb}
use Rattle.jo_value.specs.declared.value.ObjId.{ObjId}
use Rattle.jo_value.specs.declared.words.cell.Cell.{Cell}
use Rattle.jo_value.specs.declared.words.cell.Kind.{Kind}
use Rattle.jo_value.specs.declared.words.cell.Kind.TheVariants.{Flat, Segmented, Opening, Dictionary}
use Rattle.jo_model.specs.Objects.{Object}
use Rattle.jo_model.specs.Heaps.{objects_of, object_of, IsBorn}
use Rattle.jo_model.specs.Logs.{Log, changes_of, after, IsLawfulLog}
use Rattle.jo_model.specs.Placed.{PlacedCall}
use Rattle.jo_model.specs.Joined.{IsPlacedBy, IsHistoryOfCalls}
use Rattle.jo_model.specs.Placed.{weave}
use Rattle.jo_model.proofs.Growing.{order-is}
use Rattle.jo_model.proofs.Joined.{joined}
use Rattle.jo_rule.specs.Names.{cell}
use Rattle.jo_rule.specs.Areas.{Words, stored}
use Rattle.jo_rule.specs.Marks.{Mark}
use Rattle.jo_rule.specs.Views.{View, Kept}
use Rattle.jo_rule.specs.Dictionaries.{dictionary_header}
use Rattle.jo_rule.specs.Histories.{ArePlacedIn, Home, HasItsEntries}
use Rattle.jo_rule.specs.Spots.{Spot, offset, element, values}
use Rattle.jo_rule.specs.Roles.{place_by, frame}
use Rattle.jo_rule.specs.Contents.{word_of_cell, is_born, is_keyed, is_segmented, StandsAtPlaces, StandsAs}
use Rattle.jo_rule.specs.Rule.{Rule}
use Rattle.jo_rule.specs.Ending.{HasJoinedAll, kept_calls, calls_of_pass, listed, all_calls, HasEnded, IsWritten, IsWrittenAtPlaces, IsLeft}
use Rattle.jo_rule.proofs.Lists.{one_there, no_item}
use Rattle.jo_rule.proofs.Contents.{standing, dictionary_of}
use Rattle.jo_rule.proofs.Layouts.{reads_frame}
use Rattle.jo_rule.proofs.Passes.{none_by, nothing_placed}

-- ---- lists by numbers

listed_length : {A : Type 0} (n : ℕ) (f : ℕ → A) → length (listed n f) ≡ n
listed_length zero f = refl
listed_length (suc n) f = ap suc (listed_length n (λ k. f (suc k)))

listed_at : {A : Type 0} (n : ℕ) (f : ℕ → A) (t : ℕ) (a : A) → slice_get (listed n f) t ≡ Some a → f t ≡ a
listed_at zero f t a e = absurd cc
listed_at (suc n) f zero a e = cc
listed_at (suc n) f (suc t) a e = listed_at n (λ k. f (suc k)) t a e

-- the calls that are kept of a pass are those of one that is kept, or there are none of it
kept_none : (p : Kept) (kept : List Kept) (t : ℕ) → p.number ≢ t → ((k : ℕ) (q : Kept) → get_elem? kept k ≡ some q → q.number ≢ t) → (k : ℕ) (q : Kept) → get_elem? (p ∷ kept) k ≡ some q → q.number ≢ t
kept_none p kept t n h zero q f = subst (λ (x : Kept). x.number ≢ t) (some-injective p q f) n
kept_none p kept t n h (suc k) q f = h k q f

kept_by : (Q : List PlacedCall → Type 0) (kept : List Kept) (t : ℕ) → ((k : ℕ) (q : Kept) → get_elem? kept k ≡ some q → q.number ≡ t → Q q.calls) → (((k : ℕ) (q : Kept) → get_elem? kept k ≡ some q → q.number ≢ t) → Q []) → Q (kept_calls kept t)
kept_by Q [] t there none_ = none_ (λ k q e. absurd cc)
kept_by Q (p ∷ kept) t there none_ =
    cond_both (eqb p.number t) p.calls (kept_calls kept t) Q (λ e. there 0 p refl (eqb-true p.number t e))
    (λ e. kept_by Q kept t (λ k q f. there (suc k) q f) (λ others. none_ (kept_none p kept t (eqb-false p.number t e) others)))

module _ {P : ℕ} {w : Words} {views : List View} (id : ℕ) (v : View) (r : Rule P w views) (at : get_elem? views id ≡ some v) (l : v.live ≡ true) (all : HasJoinedAll v) where
  made_is : v.made ≡ r.made
  made_is = r.histories.counted id v at l all.first

  -- no other view is live
  alone : (j : ℕ) (y : View) → get_elem? views j ≡ some y → y.live ≡ true → j ≡ id
  alone j y e ly =
      let own = (r.histories.seated j y e ly).own in
      let mine = (r.histories.seated id v at l).own in
      ⊎_elim (λ (z : y.number ≡ 0). ap (λ (h : Home). h.seat) (sym own.0 ∙ (ap r.home (z ∙ sym all.first) ∙ mine.0)))
      (λ (n : y.number ≢ 0).
      let lt = own.1 in
      let k = all.others y.number (omega arith) (let m = made_is in omega arith) in
      let kept = (r.histories.seated id v at l).others k.0 k.1 k.2 in
      let place : 0 ≡ k.0 + 1 = ap (λ (h : Home). h.place) (sym own.0 ∙ (ap r.home (sym k.3) ∙ kept.0)) in absurd (omega arith)) (cases_eq y.number 0)

  -- it has seen the whole log
  saw_all : v.past.seen ≡ r.log
  saw_all =
      let whole = r.histories.whole in
      let here = alone r.histories.whole_at whole.view whole.there whole.live in
      let was : whole.view ≡ v = one_there views id whole.view v (ap (get_elem? views) (sym here) ∙ whole.there) at in
      ap (λ (x : View). x.past.seen) (sym was) ∙ whole.all

  -- no cell is locked
  unlocked : (o : ObjId) (c : Cell) → r.cell o ≡ Some c → (b : Bool) → c.locked ≡ b → b ≡ false
  unlocked o c e false is = refl
  unlocked o c e true is =
      let h = r.locks.locked o c e is in
      let here = alone (r.locks.holder o) h.view h.there h.live in
      let was : h.view ≡ v = one_there views id h.view v (ap (get_elem? views) (sym here) ∙ h.there) at in
      absurd (no_item h.lock v.lock all.unlocked (ap (λ (x : View). x.lock) (sym was) ∙ h.held))

  placed_by : (t : ℕ) (calls : List PlacedCall) → ArePlacedIn P v.past.seen t calls → HasItsEntries P r.log v.past.seen t calls → IsPlacedBy P v.past.seen t calls
  placed_by t calls p e = record { lawful = p.lawful; ordered = order-is P v.past.seen 0 calls (length v.past.seen) p.ordered; changes = ap (changes_of t) saw_all ∙ e }

  -- a pass that was not made has none
  placed_none : (t : ℕ) → r.made ≤ t → IsPlacedBy P v.past.seen t []
  placed_none t le = placed_by t [] (nothing_placed P v.past.seen t) (none_by t r.log (λ n e is. let lt = r.histories.authors n e is in omega arith))

  placed_pass : (t : ℕ) → IsPlacedBy P v.past.seen t (calls_of_pass v t)
  placed_pass t = by (eqb v.number t) refl
    where
      by : (b : Bool) → eqb v.number t ≡ b → IsPlacedBy P v.past.seen t (cond b v.past.calls (kept_calls v.kept t))
      by true e = subst (λ (x : ℕ). IsPlacedBy P v.past.seen x v.past.calls) (eqb-true v.number t e) (placed_by v.number v.past.calls (r.placements.own id v at l) (r.histories.own id v at l))
      by false e = kept_by (IsPlacedBy P v.past.seen t) v.kept t
          (λ k q f is. subst (λ (x : ℕ). IsPlacedBy P v.past.seen x q.calls) is (placed_by q.number q.calls (r.placements.kept id v at l k q f) (r.histories.kept id v at l k q f)))
          (λ none_. placed_none t (⊎_elim
          (λ (lt : t < r.made). (let other = eqb-false v.number t e in let k = all.others t (let z = all.first in omega arith) (let m = made_is in omega arith) in absurd (none_ k.0 k.1 k.2 k.3)))
          (λ (le : r.made ≤ t). le) (cases_lt t r.made)))

  pub ends : HasEnded P w v
  ends = record {
    placed = record {
      all = listed_length P (calls_of_pass v);
      logged = subst (λ (x : Log Mark). IsLawfulLog P x) (sym saw_all) r.histories.lawful;
      each = λ t calls e. subst (IsPlacedBy P v.past.seen t) (listed_at P (calls_of_pass v) t calls e) (placed_pass t);
    };
    node = r.node;
    shape = r.shape;
    shaped = r.shaped;
    objects = λ o born.
        let now : IsBorn (after P r.log) o = subst (λ (x : Log Mark). IsBorn (after P x) o) saw_all born in
        born_by o (r.cell o) refl (r.contents.born o ∙ lt-ltb o.serial (length (objects_of (after P r.log) o.pass)) now);
    dictionaries = λ none_ o born.
        let now : IsBorn (after P r.log) o = subst (λ (x : Log Mark). IsBorn (after P x) o) saw_all born in
        plain_by (sym (r.allowed.agreed id v at l) ∙ none_) o (r.cell o) refl (r.contents.born o ∙ lt-ltb o.serial (length (objects_of (after P r.log) o.pass)) now);
    unborn = λ o none_.
        unborn_by o (r.cell o) refl (r.contents.born o ∙ le-ltb o.serial (length (objects_of (after P r.log) o.pass)) (⊎_elim
        (λ (lt : o.serial < length (objects_of (after P r.log) o.pass)). absurd (none_ (subst (λ (x : Log Mark). IsBorn (after P x) o) (sym saw_all) lt)))
        (λ (le : length (objects_of (after P r.log) o.pass) ≤ o.serial). le) (cases_lt o.serial (length (objects_of (after P r.log) o.pass)))));
  }
    where
      ended : (z z' : Object) → z ≡ z' → (o : ObjId) → IsLeft w r.shape o z → IsLeft w r.shape o z'
      ended z z' e o h = subst (IsLeft w r.shape o) e h

      saw_object : (o : ObjId) → object_of (after P r.log) o ≡ object_of (after P v.past.seen) o
      saw_object o = ap (λ (x : Log Mark). object_of (after P x) o) (sym saw_all)

      dictionary_left : (o : ObjId) (c : Cell) → r.cell o ≡ Some c → c.locked ≡ false → c.kind ≡ Dictionary → IsWritten w o (object_of (after P r.log) o)
      dictionary_left o c e free kind =
          let s = standing r.contents o c e in
          let d = dictionary_of s kind in record {
            found = c;
            room = (r.now o).room;
            is_cell = s.cell;
            word = r.coded o ∙ ap word_of_cell e;
            unlocked = free;
            kind = kind;
            capacity = d.capacity;
            header = r.contents.still c.address (dictionary_header (r.now o).room) d.header;
            properties = d.properties free;
            words = r.contents.words o;
          }

      places_left : (o : ObjId) (c : Cell) → r.cell o ≡ Some c → c.locked ≡ false → is_keyed c.kind ≡ true → (r.now o).segmented ≡ is_segmented c.kind → StandsAtPlaces (values w) r.role (r.shape c.sid) o c (r.now o) (object_of (after P r.log) o)
          → IsWrittenAtPlaces w r.shape o (object_of (after P r.log) o)
      places_left o c e free keyed sg t =
          let s = standing r.contents o c e in
          let reads : (y : Spot) → place_by (is_segmented c.kind) (stored w) o c.address y ≡ frame r.role (r.now o).segmented o c.address y = λ y. ap (λ (b : Bool). place_by b (stored w) o c.address y) (sym sg) ∙ reads_frame r.role (stored w) o c.address (r.now o).segmented r.contents.still t.block y in record {
            found = c;
            is_cell = s.cell;
            word = r.coded o ∙ ap word_of_cell e;
            unlocked = free;
            kind = keyed;
            names = t.keys.names;
            inside = λ name j f g. t.keys.inside name j f (sym (reads (offset j)) ∙ g);
            values = λ key y p f g. t.keys.values key y p f (sym (reads y) ∙ g);
            beyond = λ i f. t.keys.beyond i (sym (reads (element i)) ∙ f);
            words = r.contents.words o;
          }

      left_by : (o : ObjId) (c : Cell) → r.cell o ≡ Some c → c.locked ≡ false → (k : Kind) → c.kind ≡ k → StandsAs k (values w) r.role (r.shape c.sid) o c (r.now o) (object_of (after P r.log) o) → IsLeft w r.shape o (object_of (after P r.log) o)
      left_by o c e free Flat is h = inr (places_left o c e free (ap is_keyed is) (h.0.segmented_is ∙ sym (ap is_segmented is)) h.1)
      left_by o c e free Segmented is h = inr (places_left o c e free (ap is_keyed is) (h.0.segmented_is ∙ sym (ap is_segmented is)) h.1)
      left_by o c e free Opening is h = absurd (both_ways c.locked free h.0)
      left_by o c e free Dictionary is h = inl (dictionary_left o c e free is)

      born_by : (o : ObjId) (x : Option Cell) → r.cell o ≡ x → is_born x ≡ true → IsLeft w r.shape o (object_of (after P v.past.seen) o)
      born_by o None e is = (let no : false ≡ true = is in absurd cc)
      born_by o (Some c) e is =
          let free : c.locked ≡ false = unlocked o c e c.locked refl in
          ended (object_of (after P r.log) o) (object_of (after P v.past.seen) o) (saw_object o) o (left_by o c e free c.kind refl (standing r.contents o c e).kind)

      plain_by : r.allowed.flat ≡ false → (o : ObjId) (x : Option Cell) → r.cell o ≡ x → is_born x ≡ true → IsWritten w o (object_of (after P v.past.seen) o)
      plain_by none_ o None e is = (let no : false ≡ true = is in absurd cc)
      plain_by none_ o (Some c) e is = subst (IsWritten w o) (saw_object o) (dictionary_left o c e (unlocked o c e c.locked refl) (r.allowed.dictionaries none_ o c e).kind)

      unborn_by : (o : ObjId) (x : Option Cell) → r.cell o ≡ x → is_born x ≡ false → w (cell o) ≡ 0
      unborn_by o None e is = r.coded o ∙ ap word_of_cell e
      unborn_by o (Some c) e is = (let no : true ≡ false = is in absurd cc)

  -- so the calls of all passes make one legal history, which leaves the objects
  pub ends_in_one_history : IsHistoryOfCalls P v.past.seen (all_calls P v) (weave v.past.seen (all_calls P v))
  ends_in_one_history = joined P v.past.seen (all_calls P v) ends.placed
