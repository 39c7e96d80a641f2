-- Marks: they stay where the log grows, and where a cell changes that needs no mark or has one behind it.
use Rattle.std.proofs.Common.{◌≡◌, ◌≢◌, ◌⊎◌, ◌+◌, ℕ, zero, suc, Bool, true, false, List, [], ◌∷◌, ◌++◌, length, refl, sym, ap, ◌∙◌, subst, inl, inr, ⊎_elim, arith, slice_get, Option, Some, None}
use Rattle.std.specs.Prelude.{count_by, if◌then◌else◌}
use Rattle.std.proofs.lemmas.Bool.{both_ways}
use Rattle.std.proofs.lemmas.List.Sums.{sum_by_push}
use Rattle.jo_value.specs.declared.capacities.TheConstants.{VALID}
use Rattle.jo_value.specs.declared.value.ObjId.{ObjId}
use Rattle.jo_value.specs.declared.value.Sid.{Sid}
use Rattle.jo_value.specs.declared.words.cell.Cell.{Cell}
use Rattle.jo_model.specs.declared.call.Call.{Call}
use Rattle.jo_model.specs.Logs.{LogEntry, change, mark, Log, after}
use Rattle.jo_model.proofs.Beginnings.{get-push}
use Rattle.jo_rule.specs.declared.event.Event.{Event}
use Rattle.jo_rule.specs.declared.event.Event.TheVariants.{Nothing, Place, Refuse}
use Rattle.jo_rule.specs.declared.watched.SetKind.{SetKind}
use Rattle.jo_rule.specs.Areas.{set_object}
use Rattle.jo_rule.specs.Marks.{Mark, fired, opened, is_foreign_mark, HasForeignMark}
use Rattle.jo_rule.specs.Events.{changes, recorded}
use Rattle.jo_rule.specs.Shapes.{Shape}
use Rattle.jo_rule.specs.Contents.{is_keyed, is_segmented}
use Rattle.jo_rule.specs.Marked.{WasOpened, WasFired, BornSo, Marked}
use Rattle.jo_rule.proofs.Sets.{cases_object, object_here, object_else}

-- ---- the log grows

pub get_before : {A : Type 0} (l : List A) (x : A) (n : ℕ) (a : A) → slice_get l n ≡ Some a → slice_get (l ++ x ∷ []) n ≡ Some a
get_before [] x n a e = (let no : None ≡ Some a = e in absurd cc)
get_before (y ∷ l) x zero a e = e
get_before (y ∷ l) x (suc n) a e = get_before l x n a e

pub get_last : {A : Type 0} (l : List A) (x : A) → slice_get (l ++ x ∷ []) (length l) ≡ Some x
get_last [] x = refl
get_last (y ∷ l) x = get_last l x

pub foreign_more : (log : Log Mark) (e : LogEntry Mark) (p : ℕ) → HasForeignMark p log → HasForeignMark p (log ++ e ∷ [])
foreign_more log e p h =
    let more : count_by (is_foreign_mark p) (log ++ e ∷ []) ≡ count_by (is_foreign_mark p) log + (if is_foreign_mark p e then 1 else 0) = sum_by_push (λ x. if is_foreign_mark p x then 1 else 0) log e in
    omega (arith, more)

pub foreign_last : (log : Log Mark) (e : LogEntry Mark) (p : ℕ) → is_foreign_mark p e ≡ true → HasForeignMark p (log ++ e ∷ [])
foreign_last log e p is =
    let more : count_by (is_foreign_mark p) (log ++ e ∷ []) ≡ count_by (is_foreign_mark p) log + 1 = sum_by_push (λ x. if is_foreign_mark p x then 1 else 0) log e ∙ ap (λ (b : Bool). count_by (is_foreign_mark p) log + (if b then 1 else 0)) is in
    omega (arith, more)

pub opened_more : {log : Log Mark} {o : ObjId} (e : LogEntry Mark) → WasOpened log o → WasOpened (log ++ e ∷ []) o
opened_more {log} {o} e h = record { at = h.at; by = h.by; cause = h.cause; is = get_before log e h.at (mark h.by (opened o h.cause)) h.is }

pub fired_more : {log : Log Mark} {s : Sid} {which : SetKind} (e : LogEntry Mark) → WasFired log s which → WasFired (log ++ e ∷ []) s which
fired_more {log} {s} {which} e h = record { at = h.at; by = h.by; object = h.object; is = get_before log e h.at (mark h.by (fired s which h.object)) h.is }

-- a mark that is not the last entry was there before
pub opened_before : {log : Log Mark} {o : ObjId} (e : LogEntry Mark) → ((by : ℕ) (m : Mark) → e ≡ mark by m → (q : ObjId) → q ≡ o → (cause : Rattle.jo_rule.specs.declared.cause.Cause.Cause) → m ≢ opened q cause) → WasOpened (log ++ e ∷ []) o → WasOpened log o
opened_before {log} {o} e other h = elim (get-push log e h.at (mark h.by (opened o h.cause)) h.is) [
  | inl was ↦ record { at = h.at; by = h.by; cause = h.cause; is = was.1 }
  | inr new ↦ absurd (other h.by (opened o h.cause) new.1 o refl h.cause refl)
]

pub fired_before : {log : Log Mark} {s : Sid} {which : SetKind} (e : LogEntry Mark) → ((by : ℕ) (o : ObjId) → e ≢ mark by (fired s which o)) → WasFired (log ++ e ∷ []) s which → WasFired log s which
fired_before {log} {s} {which} e other h = elim (get-push log e h.at (mark h.by (fired s which h.object)) h.is) [
  | inl was ↦ record { at = h.at; by = h.by; object = h.object; is = was.1 }
  | inr new ↦ absurd (other h.by h.object new.1)
]

module _ {log : Log Mark} {cells : ObjId → Option Cell} {so : ObjId → Bool} (r : BornSo log cells so) where
  -- one more entry, which opens no object
  pub born_so_more : (e : LogEntry Mark) → ((by : ℕ) (m : Mark) → e ≡ mark by m → (q : ObjId) (cause : Rattle.jo_rule.specs.declared.cause.Cause.Cause) → m ≢ opened q cause) → BornSo (log ++ e ∷ []) cells so
  born_so_more e other = record {
    dictionaries = λ o c is k. ⊎_elim (λ (a : so o ≡ true). inl a) (λ (a : WasOpened log o). inr (opened_more e a)) (r.dictionaries o c is k);
    others = r.others;
    unopened = λ o c is k h. r.unopened o c is k (opened_before e (λ by m f q same cause. other by m f q cause) h);
    unborn = λ o is h. r.unborn o is (opened_before e (λ by m f q same cause. other by m f q cause) h);
    apart = λ o is h. r.apart o is (opened_before e (λ by m f q same cause. other by m f q cause) h);
  }

  -- a cell becomes another that is born so, or that has keys where it had them
  pub born_so_cell : (o : ObjId) (c d : Cell) → cells o ≡ Some d → is_keyed c.kind ≡ is_keyed d.kind → BornSo log (set_object cells o (Some c)) so
  born_so_cell o c d was same =
      let back : (q : ObjId) (x : Cell) → set_object cells o (Some c) q ≡ Some x → (y : Cell) × (cells q ≡ Some y) × (is_keyed y.kind ≡ is_keyed x.kind) = λ q x e. ⊎_elim
      (λ (f : q ≡ o). let both : Some c ≡ Some x = sym (ap (set_object cells o (Some c)) f ∙ object_here cells o (Some c)) ∙ e in let one : c ≡ x = cc in (d, ap cells f ∙ was, sym same ∙ ap (λ (z : Cell). is_keyed z.kind) one))
      (λ (f : q ≢ o). (x, sym (object_else cells o q (Some c) f) ∙ e, refl)) (cases_object q o) in record {
        dictionaries = λ q x e k. let b = back q x e in r.dictionaries q b.0 b.1 (b.2 ∙ k);
        others = λ q x e k. let b = back q x e in r.others q b.0 b.1 (b.2 ∙ k);
        unopened = λ q x e k. let b = back q x e in r.unopened q b.0 b.1 (b.2 ∙ k);
        unborn = λ q e. ⊎_elim
            (λ (f : q ≡ o). (let no : Some c ≡ None = sym (ap (set_object cells o (Some c)) f ∙ object_here cells o (Some c)) ∙ e in absurd cc))
            (λ (f : q ≢ o). r.unborn q (sym (object_else cells o q (Some c) f) ∙ e)) (cases_object q o);
        apart = r.apart;
      }

  -- an object is born, as a dictionary or with its keys at places
  pub born_so_birth : (o : ObjId) (c : Cell) (b : Bool) → cells o ≡ None → (is_keyed c.kind ≡ false → b ≡ true) → (is_keyed c.kind ≡ true → b ≡ false) → BornSo log (set_object cells o (Some c)) (set_object so o b)
  born_so_birth o c b was dictionary other =
      let one : (x : Cell) → set_object cells o (Some c) o ≡ Some x → c ≡ x = λ x e. let both : Some c ≡ Some x = sym (object_here cells o (Some c)) ∙ e in cc in
      let cases : (Q : ObjId → Type 0) → Q o → ((q : ObjId) → q ≢ o → Q q) → (q : ObjId) → Q q = λ Q here there q. ⊎_elim (λ (f : q ≡ o). subst Q (sym f) here) (λ (f : q ≢ o). there q f) (cases_object q o) in record {
        dictionaries = cases (λ q. (x : Cell) → set_object cells o (Some c) q ≡ Some x → is_keyed x.kind ≡ false → (set_object so o b q ≡ true) ⊎ WasOpened log q)
            (λ x e k. inl (object_here so o b ∙ dictionary (ap (λ (z : Cell). is_keyed z.kind) (one x e) ∙ k)))
            (λ q n x e k. subst (λ (z : Bool). (z ≡ true) ⊎ WasOpened log q) (sym (object_else so o q b n)) (r.dictionaries q x (sym (object_else cells o q (Some c) n) ∙ e) k));
        others = cases (λ q. (x : Cell) → set_object cells o (Some c) q ≡ Some x → is_keyed x.kind ≡ true → set_object so o b q ≡ false)
            (λ x e k. object_here so o b ∙ other (ap (λ (z : Cell). is_keyed z.kind) (one x e) ∙ k))
            (λ q n x e k. object_else so o q b n ∙ r.others q x (sym (object_else cells o q (Some c) n) ∙ e) k);
        unopened = cases (λ q. (x : Cell) → set_object cells o (Some c) q ≡ Some x → is_keyed x.kind ≡ true → WasOpened log q → ⊥) (λ x e k. r.unborn o was) (λ q n x e k. r.unopened q x (sym (object_else cells o q (Some c) n) ∙ e) k);
        unborn = cases (λ q. set_object cells o (Some c) q ≡ None → WasOpened log q → ⊥) (λ e. (let no : Some c ≡ None = sym (object_here cells o (Some c)) ∙ e in absurd cc)) (λ q n e. r.unborn q (sym (object_else cells o q (Some c) n) ∙ e));
        apart = cases (λ q. set_object so o b q ≡ true → WasOpened log q → ⊥) (λ e. r.unborn o was) (λ q n e. r.apart q (sym (object_else so o q b n) ∙ e));
      }

  -- an object is opened, with its mark
  pub born_so_opened : (o : ObjId) (c d : Cell) (by : ℕ) (cause : Rattle.jo_rule.specs.declared.cause.Cause.Cause) → cells o ≡ Some d → is_keyed d.kind ≡ true → is_keyed c.kind ≡ false → BornSo (log ++ mark by (opened o cause) ∷ []) (set_object cells o (Some c)) so
  born_so_opened o c d by cause was key' key =
      let e : LogEntry Mark = mark by (opened o cause) in
      let here : WasOpened (log ++ e ∷ []) o = record { at = length log; by = by; cause = cause; is = get_last log e } in
      let away : (q : ObjId) → q ≢ o → WasOpened (log ++ e ∷ []) q → WasOpened log q = λ q n h. opened_before e (λ by' m f p same why g. (let both : mark by (opened o cause) ≡ mark by' (opened p why) = f ∙ ap (λ (z : Mark). mark by' z) g in n (sym same ∙ (let k : o ≡ p = cc in sym k)))) h in
      let cases : (Q : ObjId → Type 0) → Q o → ((q : ObjId) → q ≢ o → Q q) → (q : ObjId) → Q q = λ Q h there q. ⊎_elim (λ (f : q ≡ o). subst Q (sym f) h) (λ (f : q ≢ o). there q f) (cases_object q o) in
      let no_key : (x : Cell) → set_object cells o (Some c) o ≡ Some x → is_keyed x.kind ≡ true → ⊥ = λ x f k. (let both : Some c ≡ Some x = sym (object_here cells o (Some c)) ∙ f in let same : c ≡ x = cc in both_ways (is_keyed x.kind) (ap (λ (z : Cell). is_keyed z.kind) (sym same) ∙ key) k) in record {
        dictionaries = cases (λ q. (x : Cell) → set_object cells o (Some c) q ≡ Some x → is_keyed x.kind ≡ false → (so q ≡ true) ⊎ WasOpened (log ++ e ∷ []) q) (λ x f k. inr here)
            (λ q n x f k. ⊎_elim (λ (a : so q ≡ true). inl a) (λ (a : WasOpened log q). inr (opened_more e a)) (r.dictionaries q x (sym (object_else cells o q (Some c) n) ∙ f) k));
        others = cases (λ q. (x : Cell) → set_object cells o (Some c) q ≡ Some x → is_keyed x.kind ≡ true → so q ≡ false) (λ x f k. absurd (no_key x f k)) (λ q n x f k. r.others q x (sym (object_else cells o q (Some c) n) ∙ f) k);
        unopened = cases (λ q. (x : Cell) → set_object cells o (Some c) q ≡ Some x → is_keyed x.kind ≡ true → WasOpened (log ++ e ∷ []) q → ⊥) (λ x f k h. no_key x f k) (λ q n x f k h. r.unopened q x (sym (object_else cells o q (Some c) n) ∙ f) k (away q n h));
        unborn = cases (λ q. set_object cells o (Some c) q ≡ None → WasOpened (log ++ e ∷ []) q → ⊥) (λ f h. (let no : Some c ≡ None = sym (object_here cells o (Some c)) ∙ f in absurd cc)) (λ q n f h. r.unborn q (sym (object_else cells o q (Some c) n) ∙ f) (away q n h));
        apart = cases (λ q. so q ≡ true → WasOpened (log ++ e ∷ []) q → ⊥) (λ f h. both_ways (so o) (r.others o d was key') f) (λ q n f h. r.apart q f (away q n h));
      }

module _ {log : Log Mark} {cells : ObjId → Option Cell} {shape : Sid → Shape} {sets : Sid → SetKind → ℕ} (r : Marked log cells shape sets) where
  -- one more entry, which fires no set
  pub marked_more : (e : LogEntry Mark) → ((by : ℕ) (s : Sid) (which : SetKind) (o : ObjId) → e ≢ mark by (fired s which o)) → Marked (log ++ e ∷ []) cells shape sets
  marked_more e other = record {
    shared = λ o c is h. foreign_more log e o.pass (r.shared o c is h);
    disturbed = λ s which n. foreign_more log e (shape s).root (r.disturbed s which n);
    noted = λ s which n. fired_more e (r.noted s which n);
    valid = λ s which v h. r.valid s which v (fired_before e (λ by o. other by s which o) h);
    rooted = λ n by s which o is. elim (get-push log e n (mark by (fired s which o)) is) [
      | inl was ↦ r.rooted n by s which o was.1
      | inr new ↦ absurd (other by s which o new.1)
    ];
  }

  -- a cell changes: it has the bit or is segmented only with a mark behind it
  pub marked_cell : (o : ObjId) (c : Cell) → ((c.shared_write ≡ true) ⊎ (is_segmented c.kind ≡ true) → HasForeignMark o.pass log) → Marked log (set_object cells o (Some c)) shape sets
  marked_cell o c mine = record {
    shared = λ q x e h. ⊎_elim
        (λ (f : q ≡ o).
        let both : Some c ≡ Some x = sym (ap (set_object cells o (Some c)) f ∙ object_here cells o (Some c)) ∙ e in
        let one : c ≡ x = cc in
        subst (λ (z : ObjId). HasForeignMark z.pass log) (sym f) (mine (subst (λ (z : Cell). (z.shared_write ≡ true) ⊎ (is_segmented z.kind ≡ true)) (sym one) h)))
        (λ (n : q ≢ o). r.shared q x (sym (object_else cells o q (Some c) n) ∙ e) h) (cases_object q o);
    disturbed = r.disturbed;
    noted = r.noted;
    valid = r.valid;
    rooted = r.rooted;
  }

  -- a structure is born; the sets of one that was not are valid
  pub marked_shapes : {shape' : Sid → Shape} → ((s : Sid) → (shape s).born ≡ true → shape' s ≡ shape s) → Marked log cells shape' sets
  marked_shapes {shape'} kept = record {
    shared = r.shared;
    disturbed = λ s which n.
        let f = r.noted s which n in
        let born = (r.rooted f.at f.by s which f.object f.is).0 in
        subst (λ (z : Shape). HasForeignMark z.root log) (sym (kept s born)) (r.disturbed s which n);
    noted = r.noted;
    valid = r.valid;
    rooted = λ n by s which o is. let k = r.rooted n by s which o is in subst (λ (z : Shape). (z.born ≡ true) × (z.root ≡ o.pass)) (sym (kept s k.0)) k;
  }

  -- a mark stands behind a set that is no longer valid, for each object whose structure comes from the same root
  pub behind : (s : Sid) (which : SetKind) (p : ℕ) → sets s which ≢ VALID → (shape s).root ≡ p → HasForeignMark p log
  behind s which p n root = subst (λ (z : ℕ). HasForeignMark z log) root (r.disturbed s which n)

-- ---- events

module _ {cells : ObjId → Option Cell} {so : ObjId → Bool} where
  born_so_by : (s : ℕ) (c : Call) (log : Log Mark) (b : Bool) → BornSo log cells so → BornSo (if b then log ++ change s c ∷ [] else log) cells so
  born_so_by s c log true r = born_so_more r (change s c) (λ by m e. (let no : change s c ≡ mark by m = e in absurd cc))
  born_so_by s c log false r = r

  pub born_so_event : (P s : ℕ) (event : Event) (log : Log Mark) → BornSo log cells so → BornSo (recorded P s event log) cells so
  born_so_event P s Nothing log r = r
  born_so_event P s (Place c) log r = born_so_by s c log (changes (after P log) s c) r
  born_so_event P s (Refuse c spent) log r = r

module _ {cells : ObjId → Option Cell} {shape : Sid → Shape} {sets : Sid → SetKind → ℕ} where
  marked_by : (s : ℕ) (c : Call) (log : Log Mark) (b : Bool) → Marked log cells shape sets → Marked (if b then log ++ change s c ∷ [] else log) cells shape sets
  marked_by s c log true r = marked_more r (change s c) (λ by t which o e. (let no : change s c ≡ mark by (fired t which o) = e in cc))
  marked_by s c log false r = r

  pub marked_event : (P s : ℕ) (event : Event) (log : Log Mark) → Marked log cells shape sets → Marked (recorded P s event log) cells shape sets
  marked_event P s Nothing log r = r
  marked_event P s (Place c) log r = marked_by s c log (changes (after P log) s c) r
  marked_event P s (Refuse c spent) log r = r
