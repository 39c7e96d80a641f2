-- What an event does to the names of objects, by the log; and structures against the log.
use Rattle.std.proofs.Common.{◌≡◌, ◌≢◌, ◌+◌, ◌≤◌, ℕ, Bool, true, false, [], ◌∷◌, ◌++◌, refl, sym, ap, ◌∙◌, subst, ⊎_elim, arith, Option, Some, None}
use Rattle.std.specs.Prelude.{if◌then◌else◌, ◌&&◌, fold}
use Rattle.std.proofs.lemmas.Bool.{cases_Bool}
use Rattle.jo_value.specs.declared.value.Key.TheVariants.{Name, Index}
use Rattle.jo_value.specs.declared.value.NameId.{NameId}
use Rattle.jo_value.specs.declared.value.ObjId.{ObjId}
use Rattle.jo_value.specs.declared.value.Sid.{Sid}
use Rattle.jo_value.specs.declared.value.Value.{Value}
use Rattle.jo_value.specs.declared.words.cell.Cell.{Cell}
use Rattle.jo_value.specs.Values.{is_same_object}
use Rattle.jo_model.specs.declared.call.Call.{Call}
use Rattle.jo_model.specs.declared.call.Call.TheVariants as call
use Rattle.jo_model.specs.Objects.{has_property, is_full_for}
use Rattle.jo_model.specs.Heaps.{Heap, heap_at_start, object_of}
use Rattle.jo_model.specs.Logs.{LogEntry, change, mark, Log, after_log_entry, after}
use Rattle.jo_rule.specs.declared.event.Event.{Event}
use Rattle.jo_rule.specs.declared.event.Event.TheVariants.{Nothing, Place, Refuse}
use Rattle.jo_rule.specs.Areas.{set_object}
use Rattle.jo_rule.specs.Marks.{Mark, adds_name, removes_name, count_in, names_added, names_removed}
use Rattle.jo_rule.specs.Shapes.{Shape}
use Rattle.jo_rule.specs.Contents.{is_dictionary}
use Rattle.jo_rule.specs.Events.{changes, recorded, IsEventOn, object_called}
use Rattle.jo_rule.specs.Counted.{adds_to, removes_from, Counted, CountsGo}
use Rattle.jo_rule.proofs.Names.{same_object}
use Rattle.jo_rule.proofs.Sets.{cases_object, object_here, object_else, other_object}

-- ---- one more entry

pub count_push : (test : Heap → LogEntry Mark → Bool) (heap : Heap) (log : Log Mark) (e : LogEntry Mark) → count_in test heap (log ++ e ∷ []) ≡ count_in test heap log + (if test (fold after_log_entry heap log) e then 1 else 0)
count_push test heap [] e = omega arith
count_push test heap (d ∷ log) e = let h = count_push test (after_log_entry heap d) log e in omega arith

abbrev as_one : Bool → ℕ
as_one b = if b then 1 else 0

none_one : (b : Bool) → b ≡ false → as_one b ≡ 0
none_one b e = ap as_one e

and_no : (b : Bool) → (b && false) ≡ false
and_no true = refl
and_no false = refl

none_by : (b c : Bool) → c ≡ false → ◌≡◌ {A = ℕ} (if b then as_one c else 0) 0
none_by true c e = ap as_one e
none_by false c e = refl

module _ (P t : ℕ) (log : Log Mark) where
  -- a call that is placed, and stands in the log where it is a change
  placed_count : (test : Heap → LogEntry Mark → Bool) (c : Call) (b : Bool) → count_in test (heap_at_start P) (if b then log ++ change t c ∷ [] else log) ≡ count_in test (heap_at_start P) log + (if b then (if test (after P log) (change t c) then 1 else 0) else 0)
  placed_count test c true = count_push test (heap_at_start P) log (change t c)
  placed_count test c false = omega arith

  -- a test that no such call passes
  placed_none : (test : Heap → LogEntry Mark → Bool) (c : Call) → test (after P log) (change t c) ≡ false → count_in test (heap_at_start P) (recorded P t (Place c) log) ≡ count_in test (heap_at_start P) log
  placed_none test c e =
      let h = placed_count test c (changes (after P log) t c) in
      let z = none_by (changes (after P log) t c) (test (after P log) (change t c)) e in omega (arith, h, z)

  mark_none : (test : Heap → LogEntry Mark → Bool) (by : ℕ) (m : Mark) → test (after P log) (mark by m) ≡ false → count_in test (heap_at_start P) (log ++ mark by m ∷ []) ≡ count_in test (heap_at_start P) log
  mark_none test by m e = let h = count_push test (heap_at_start P) log (mark by m) in let z = none_one (test (after P log) (mark by m)) e in omega (arith, h, z)

  -- marks count for no names
  pub mark_counts : (by : ℕ) (m : Mark) (q : ObjId) → (names_added P q (log ++ mark by m ∷ []) ≡ names_added P q log) × (names_removed P q (log ++ mark by m ∷ []) ≡ names_removed P q log)
  mark_counts by m q = (mark_none (adds_name q) by m refl, mark_none (removes_name q) by m refl)

  same_call : (o q : ObjId) → Some o ≡ Some q → o ≡ q
  same_call o q e = cc

  -- a call on another object counts for no names of this one
  elsewhere_adds : (c : Call) (o q : ObjId) → object_called c ≡ Some o → q ≢ o → adds_name q (after P log) (change t c) ≡ false
  elsewhere_adds call.New o q e n = refl
  elsewhere_adds (call.Get p key) o q e n = refl
  elsewhere_adds (call.Has p key) o q e n = refl
  elsewhere_adds (call.Names p) o q e n = refl
  elsewhere_adds (call.Put p (Name name) value) o q e n = let d : is_same_object p q ≡ false = other_object p q (λ f. n (sym f ∙ same_call p o e)) in rw d refl
  elsewhere_adds (call.Put p (Index index) value) o q e n = refl
  elsewhere_adds (call.Delete p key) o q e n = refl
  elsewhere_adds (call.Cas p key expected desired) o q e n = refl

  elsewhere_removes : (c : Call) (o q : ObjId) → object_called c ≡ Some o → q ≢ o → removes_name q (after P log) (change t c) ≡ false
  elsewhere_removes call.New o q e n = refl
  elsewhere_removes (call.Get p key) o q e n = refl
  elsewhere_removes (call.Has p key) o q e n = refl
  elsewhere_removes (call.Names p) o q e n = refl
  elsewhere_removes (call.Put p key value) o q e n = refl
  elsewhere_removes (call.Delete p (Name name)) o q e n = other_object p q (λ f. n (sym f ∙ same_call p o e))
  elsewhere_removes (call.Delete p (Index index)) o q e n = refl
  elsewhere_removes (call.Cas p key expected desired) o q e n = refl

  -- an event on an object counts for it alone
  pub event_elsewhere : (event : Event) (o q : ObjId) → IsEventOn o event → q ≢ o → (names_added P q (recorded P t event log) ≡ names_added P q log) × (names_removed P q (recorded P t event log) ≡ names_removed P q log)
  event_elsewhere Nothing o q on n = (refl, refl)
  event_elsewhere (Place c) o q on n = (placed_none (adds_name q) c (elsewhere_adds c o q on n), placed_none (removes_name q) c (elsewhere_removes c o q on n))
  event_elsewhere (Refuse c spent) o q on n = (refl, refl)

  -- a New counts for no names
  pub new_counts : (q : ObjId) → (names_added P q (recorded P t (Place call.New) log) ≡ names_added P q log) × (names_removed P q (recorded P t (Place call.New) log) ≡ names_removed P q log)
  new_counts q = (placed_none (adds_name q) call.New refl, placed_none (removes_name q) call.New refl)

  put_count : (p : ObjId) (name : NameId) (value : Value) (here full : Bool) → has_property (object_of (after P log) p) (Name name) ≡ here → is_full_for (object_of (after P log) p) (Name name) ≡ full
      → (if changes (after P log) t (call.Put p (Name name) value) then (if adds_name p (after P log) (change t (call.Put p (Name name) value)) then 1 else 0) else 0) ≡ adds_to (Place (call.Put p (Name name) value)) (object_of (after P log) p)
  put_count p name value true full e f = rw e (none_one (is_same_object p p && false) (and_no (is_same_object p p)))
  put_count p name value false true e f = rw (e, f) refl
  put_count p name value false false e f = rw (e, f, same_object p) refl

  delete_count : (p : ObjId) (name : NameId) (here : Bool) → has_property (object_of (after P log) p) (Name name) ≡ here
      → (if changes (after P log) t (call.Delete p (Name name)) then (if removes_name p (after P log) (change t (call.Delete p (Name name))) then 1 else 0) else 0) ≡ removes_from (Place (call.Delete p (Name name))) (object_of (after P log) p)
  delete_count p name true e = rw (e, same_object p) refl
  delete_count p name false e = rw e refl

  -- an event on an object counts as it changes its names
  counts_adds : (c : Call) (o : ObjId) → object_called c ≡ Some o → names_added P o (recorded P t (Place c) log) ≡ names_added P o log + adds_to (Place c) (object_of (after P log) o)
  counts_adds call.New o e = (let no : None ≡ Some o = e in absurd cc)
  counts_adds (call.Get p key) o e = let h = placed_none (adds_name o) (call.Get p key) refl in omega (arith, h)
  counts_adds (call.Has p key) o e = let h = placed_none (adds_name o) (call.Has p key) refl in omega (arith, h)
  counts_adds (call.Names p) o e = let h = placed_none (adds_name o) (call.Names p) refl in omega (arith, h)
  counts_adds (call.Put p (Name name) value) o e =
      let c = call.Put p (Name name) value in
      subst (λ (q : ObjId). names_added P q (recorded P t (Place c) log) ≡ names_added P q log + adds_to (Place c) (object_of (after P log) q)) (same_call p o e)
      (placed_count (adds_name p) c (changes (after P log) t c) ∙ ap (λ (n : ℕ). names_added P p log + n) (put_count p name value (has_property (object_of (after P log) p) (Name name)) (is_full_for (object_of (after P log) p) (Name name)) refl refl))
  counts_adds (call.Put p (Index index) value) o e = let h = placed_none (adds_name o) (call.Put p (Index index) value) refl in omega (arith, h)
  counts_adds (call.Delete p key) o e = let h = placed_none (adds_name o) (call.Delete p key) refl in omega (arith, h)
  counts_adds (call.Cas p key expected desired) o e = let h = placed_none (adds_name o) (call.Cas p key expected desired) refl in omega (arith, h)

  counts_removes : (c : Call) (o : ObjId) → object_called c ≡ Some o → names_removed P o (recorded P t (Place c) log) ≡ names_removed P o log + removes_from (Place c) (object_of (after P log) o)
  counts_removes call.New o e = (let no : None ≡ Some o = e in absurd cc)
  counts_removes (call.Get p key) o e = let h = placed_none (removes_name o) (call.Get p key) refl in omega (arith, h)
  counts_removes (call.Has p key) o e = let h = placed_none (removes_name o) (call.Has p key) refl in omega (arith, h)
  counts_removes (call.Names p) o e = let h = placed_none (removes_name o) (call.Names p) refl in omega (arith, h)
  counts_removes (call.Put p key value) o e = let h = placed_none (removes_name o) (call.Put p key value) refl in omega (arith, h)
  counts_removes (call.Delete p (Name name)) o e =
      let c = call.Delete p (Name name) in
      subst (λ (q : ObjId). names_removed P q (recorded P t (Place c) log) ≡ names_removed P q log + removes_from (Place c) (object_of (after P log) q)) (same_call p o e)
      (placed_count (removes_name p) c (changes (after P log) t c) ∙ ap (λ (n : ℕ). names_removed P p log + n) (delete_count p name (has_property (object_of (after P log) p) (Name name)) refl))
  counts_removes (call.Delete p (Index index)) o e = let h = placed_none (removes_name o) (call.Delete p (Index index)) refl in omega (arith, h)
  counts_removes (call.Cas p key expected desired) o e = let h = placed_none (removes_name o) (call.Cas p key expected desired) refl in omega (arith, h)

  pub event_counts : (event : Event) (o : ObjId) → IsEventOn o event → (names_added P o (recorded P t event log) ≡ names_added P o log + adds_to event (object_of (after P log) o)) × (names_removed P o (recorded P t event log) ≡ names_removed P o log + removes_from event (object_of (after P log) o))
  event_counts Nothing o on = (omega arith, omega arith)
  event_counts (Place c) o on = (counts_adds c o on, counts_removes c o on)
  event_counts (Refuse c spent) o on = (omega arith, omega arith)

-- ---- the part

module _ {P : ℕ} {log : Log Mark} {cells : ObjId → Option Cell} {shape : Sid → Shape} (r : Counted P log cells shape) where
  -- no object's names change
  pub counted_log : {log' : Log Mark} → ((q : ObjId) → (names_added P q log' ≡ names_added P q log) × (names_removed P q log' ≡ names_removed P q log)) → Counted P log' cells shape
  counted_log {log'} same = record {
    unborn = λ o e. let s = same o in let h = r.unborn o e in (s.0 ∙ h.0, s.1 ∙ h.1);
    depth = λ o c e k. let s = same o in r.depth o c e k ∙ sym ((λ i. s.0 i + s.1 i));
    top = λ o c e k. subst (λ (n : ℕ). (shape c.sid).top ≤ n) (sym (same o).0) (r.top o c e k);
  }

  -- a cell becomes another
  pub counted_cell : {log' : Log Mark} (o : ObjId) (c : Cell) → CountsGo P log log' o shape c → Counted P log' (set_object cells o (Some c)) shape
  counted_cell {log'} o c go = record {
    unborn = λ q e. ⊎_elim (λ (f : q ≡ o). (let no : Some c ≡ None = sym (ap (set_object cells o (Some c)) f ∙ object_here cells o (Some c)) ∙ e in absurd cc))
        (λ (n : q ≢ o). let s = go.others q n in let h = r.unborn q (sym (object_else cells o q (Some c) n) ∙ e) in (s.0 ∙ h.0, s.1 ∙ h.1)) (cases_object q o);
    depth = λ q d e k. ⊎_elim
        (λ (f : q ≡ o).
        let both : Some c ≡ Some d = sym (ap (set_object cells o (Some c)) f ∙ object_here cells o (Some c)) ∙ e in
        let one : c ≡ d = cc in
        subst (λ (x : ObjId × Cell). (shape x.1.sid).depth ≡ names_added P x.0 log' + names_removed P x.0 log') (λ i. (sym f i, one i)) (go.depth (ap (λ (z : Cell). is_dictionary z.kind) one ∙ k)))
        (λ (n : q ≢ o). let s = go.others q n in r.depth q d (sym (object_else cells o q (Some c) n) ∙ e) k ∙ sym ((λ i. s.0 i + s.1 i))) (cases_object q o);
    top = λ q d e k. ⊎_elim
        (λ (f : q ≡ o).
        let both : Some c ≡ Some d = sym (ap (set_object cells o (Some c)) f ∙ object_here cells o (Some c)) ∙ e in
        let one : c ≡ d = cc in
        subst (λ (x : ObjId × Cell). (shape x.1.sid).top ≤ names_added P x.0 log') (λ i. (sym f i, one i)) (go.top (ap (λ (z : Cell). is_dictionary z.kind) one ∙ k)))
        (λ (n : q ≢ o). subst (λ (m : ℕ). (shape d.sid).top ≤ m) (sym (go.others q n).0) (r.top q d (sym (object_else cells o q (Some c) n) ∙ e) k)) (cases_object q o);
  }

  -- structures are born
  pub counted_shapes : {shape' : Sid → Shape} → ((o : ObjId) (c : Cell) → cells o ≡ Some c → shape' c.sid ≡ shape c.sid) → Counted P log cells shape'
  counted_shapes {shape'} kept = record {
    unborn = r.unborn;
    depth = λ o c e k. ap (λ (z : Shape). z.depth) (kept o c e) ∙ r.depth o c e k;
    top = λ o c e k. subst (λ (z : Shape). z.top ≤ names_added P o log) (sym (kept o c e)) (r.top o c e k);
  }

-- where the cell is a dictionary's, nothing is counted
pub counts_dictionary : {P : ℕ} {log log' : Log Mark} (o : ObjId) (shape : Sid → Shape) (c : Cell) → is_dictionary c.kind ≡ true → ((q : ObjId) → q ≢ o → (names_added P q log' ≡ names_added P q log) × (names_removed P q log' ≡ names_removed P q log)) → CountsGo P log log' o shape c
counts_dictionary {P} {log} {log'} o shape c is others = record { others = others; depth = λ e. absurd (Rattle.std.proofs.lemmas.Bool.both_ways (is_dictionary c.kind) e is); top = λ e. absurd (Rattle.std.proofs.lemmas.Bool.both_ways (is_dictionary c.kind) e is) }

-- where the log and the structure are the same
pub counts_same : {P : ℕ} {log : Log Mark} {cells : ObjId → Option Cell} {shape : Sid → Shape} (r : Counted P log cells shape) (o : ObjId) (d c : Cell) → cells o ≡ Some d → is_dictionary d.kind ≡ false → c.sid ≡ d.sid → CountsGo P log log o shape c
counts_same {P} {log} {cells} {shape} r o d c is kind sid = record {
  others = λ q n. (refl, refl);
  depth = λ e. ap (λ (s : Sid). (shape s).depth) sid ∙ r.depth o d is kind;
  top = λ e. subst (λ (s : Sid). (shape s).top ≤ names_added P o log) (sym sid) (r.top o d is kind);
}

-- where an event on the object changes its names, and its structure goes on with them
pub counts_go : {P : ℕ} {log : Log Mark} {cells : ObjId → Option Cell} {shape : Sid → Shape} (r : Counted P log cells shape) (t : ℕ) (event : Event) (o : ObjId) (d c : Cell) (a b : ℕ) → IsEventOn o event → cells o ≡ Some d → is_dictionary d.kind ≡ false → adds_to event (object_of (after P log) o) ≡ a → removes_from event (object_of (after P log) o) ≡ b
    → (shape c.sid).depth ≡ (shape d.sid).depth + (a + b) → (shape c.sid).top ≤ (shape d.sid).top + a → CountsGo P log (recorded P t event log) o shape c
counts_go {P} {log} {cells} {shape} r t event o d c a b on is kind adds removes depth top =
    let e = event_counts P t log event o on in
    let e0 = e.0 in
    let e1 = e.1 in
    let old = r.depth o d is kind in
    let high = r.top o d is kind in record {
      others = λ q n. event_elsewhere P t log event o q on n;
      depth = λ k. omega (arith, e0, e1, adds, removes, depth, old);
      top = λ k. omega (arith, e0, adds, top, high);
    }
