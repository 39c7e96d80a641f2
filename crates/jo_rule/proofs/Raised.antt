-- Raises of the epoch against the reasons for them: a step of one pass keeps the sum where the reasons grow as it says.
use Rattle.std.proofs.Common.{◌≡◌, ◌≢◌, ◌⊎◌, ◌+◌, ◌*◌, ◌<◌, ◌≤◌, ℕ, zero, suc, Bool, true, false, List, [], ◌∷◌, ◌++◌, refl, sym, ap, ◌∙◌, subst, inl, inr, ⊎_elim, arith, length, length-set, set, Option, Some, None, if◌then◌else◌}
use mathlib.Core.Option.{some}
use lib.ListN.{get_elem?}
use Rattle.std.specs.Prelude.{nat_eq}
use Rattle.std.proofs.lemmas.Bool.{cases_eq, both_ways}
use Rattle.jo_value.specs.declared.capacities.TheConstants.{VALID, FIRING, MOST_STRUCTURES, MOST_PASSES, MOST_DEPTH, UNSTAMPED}
use Rattle.jo_value.specs.declared.limits.TheConstants.{MOST_OBJECTS}
use Rattle.jo_value.specs.declared.value.ObjId.{ObjId}
use Rattle.jo_value.specs.declared.value.Sid.{Sid}
use Rattle.jo_value.specs.declared.words.cell.Cell.{Cell}
use Rattle.jo_model.specs.Logs.{Log}
use Rattle.jo_rule.specs.declared.watched.SetKind.{SetKind}
use Rattle.jo_rule.specs.declared.watched.SetKind.TheVariants.{Transition, Write}
use Rattle.jo_rule.specs.Areas.{set_number, set_object}
use Rattle.jo_rule.specs.Marks.{Mark}
use Rattle.jo_rule.specs.Shapes.{Shape}
use Rattle.jo_rule.specs.Contents.{is_keyed}
use Rattle.jo_rule.specs.Views.{View, Kept, Time, Firing}
use Rattle.jo_rule.specs.Lists.{Each}
use Rattle.jo_rule.specs.Histories.{Home, Histories}
use Rattle.jo_rule.specs.Raised.{MOST_UNOWED, sum_below, set_reasons, cell_reasons, structure_reasons, object_reasons, reasons, IsRaising, ViewIsRaising, HasFirer, IsQuiet, Raised}
use Rattle.jo_rule.specs.Steps.{split_left, split_right, kept_of, joined, spent_view}
use Rattle.jo_rule.proofs.Lists.{set_there, set_else, at_longer, same_item, no_item, one_there, at_append, no_each, live_set, live_same, live_more, live_joined, live_one}
use Rattle.jo_rule.proofs.Sets.{cases_object, object_here, object_else, number_here, number_else}
use Rattle.jo_rule.proofs.Histories.{SameNumbers, alone, alone_kept}

-- ---- sums

-- no term is less, so no sum is
pub sum_more : (n : ℕ) (f g : ℕ → ℕ) → ((j : ℕ) → f j ≤ g j) → sum_below n f ≤ sum_below n g
sum_more zero f g h = omega arith
sum_more (suc n) f g h = let a = sum_more n f g h in let b = h n in omega arith

-- and where one term is more by a, so is the sum
pub sum_one : (n i : ℕ) (f g : ℕ → ℕ) (a : ℕ) → i < n → ((j : ℕ) → f j ≤ g j) → f i + a ≤ g i → sum_below n f + a ≤ sum_below n g
sum_one zero i f g a lt h here = absurd (omega arith)
sum_one (suc n) i f g a lt h here = ⊎_elim
    (λ (e : i ≡ n). let old = sum_more n f g h in let at_n : f n + a ≤ g n = subst (λ (x : ℕ). f x + a ≤ g x) e here in omega arith)
    (λ (d : i ≢ n). let old = sum_one n i f g a (omega arith) h here in let b = h n in omega arith) (cases_eq i n)

-- n terms of at most b each
pub sum_most : (n b : ℕ) (f : ℕ → ℕ) → ((j : ℕ) → f j ≤ b) → sum_below n f ≤ n * b
sum_most zero b f h = omega arith
sum_most (suc n) b f h = let a = sum_most n b f h in let c = h n in let d : suc n * b ≡ n * b + b = omega arith in omega arith

-- one term becomes another
pub sum_set : (n i x : ℕ) (f : ℕ → ℕ) → i < n → sum_below n (set_number f i x) + f i ≡ sum_below n f + x
sum_set zero i x f lt = absurd (omega arith)
sum_set (suc n) i x f lt = ⊎_elim
    (λ (e : i ≡ n).
    let old = sum_kept n i x f (omega arith) in
    let here : set_number f i x n ≡ x = ap (set_number f i x) (sym e) ∙ number_here f i x in
    let there : f i ≡ f n = ap f e in
    omega (arith, old, here, there))
    (λ (d : i ≢ n). let old = sum_set n i x f (omega arith) in let away : set_number f i x n ≡ f n = number_else f i n x (λ k. d (sym k)) in omega (arith, old, away)) (cases_eq i n)
  where
    sum_kept : (m i x : ℕ) (f : ℕ → ℕ) → m ≤ i → sum_below m (set_number f i x) ≡ sum_below m f
    sum_kept zero i x f le = refl
    sum_kept (suc m) i x f le = let old = sum_kept m i x f (omega arith) in let away : set_number f i x m ≡ f m = number_else f i m x (omega arith) in omega (arith, old, away)

-- ---- reasons

-- 1 where it is not so
abbrev as_reason : Bool → ℕ
as_reason b = if b then 0 else 1

-- a cell of the same structure, with keys at places as before or not, has as many reasons
pub as_many : (shape : Sid → Shape) (d c : Cell) → c.sid ≡ d.sid → is_keyed c.kind ≡ is_keyed d.kind → cell_reasons shape (Some d) ≤ cell_reasons shape (Some c)
as_many shape d c sid kind = let a = ap (λ (s : Sid). (shape s).depth) sid in let b : as_reason (is_keyed c.kind) ≡ as_reason (is_keyed d.kind) = ap as_reason kind in omega (arith, a, b)

-- one whose keys lay at places has as many more as its structure is deeper
pub many_deeper : (shape : Sid → Shape) (d c : Cell) (n : ℕ) → is_keyed d.kind ≡ true → (shape d.sid).depth + n ≤ (shape c.sid).depth → cell_reasons shape (Some d) + n ≤ cell_reasons shape (Some c)
many_deeper shape d c n keyed deep = let b : as_reason (is_keyed d.kind) ≡ 0 = ap as_reason keyed in omega (arith, b)

-- and one more where they do no more
pub many_opened : (shape : Sid → Shape) (d c : Cell) → is_keyed d.kind ≡ true → is_keyed c.kind ≡ false → c.sid ≡ d.sid → cell_reasons shape (Some d) + 1 ≤ cell_reasons shape (Some c)
many_opened shape d c keyed other sid = let a = ap (λ (s : Sid). (shape s).depth) sid in let b : as_reason (is_keyed d.kind) ≡ 0 = ap as_reason keyed in let e : as_reason (is_keyed c.kind) ≡ 1 = ap as_reason other in omega (arith, a, b, e)

-- the cell of an object becomes another
pub reasons_cell : (n m P : ℕ) (cells : ObjId → Option Cell) (shape : Sid → Shape) (sets : Sid → SetKind → ℕ) (o : ObjId) (c : Cell) (a : ℕ) → (a ≡ 0) ⊎ ((o.pass < P) × (o.serial < m)) → cell_reasons shape (cells o) + a ≤ cell_reasons shape (Some c)
    → reasons n m P cells shape sets + a ≤ reasons n m P (set_object cells o (Some c)) shape sets
reasons_cell n m P cells shape sets o c a within grows =
    let cells' = set_object cells o (Some c) in
    let each : (q : ObjId) → cell_reasons shape (cells q) ≤ cell_reasons shape (cells' q) = λ q. ⊎_elim
    (λ (e : q ≡ o). subst (λ (x : ObjId). cell_reasons shape (cells x) ≤ cell_reasons shape (cells' x)) (sym e) (subst (λ (x : Option Cell). cell_reasons shape (cells o) ≤ cell_reasons shape x) (sym (object_here cells o (Some c))) (omega arith)))
    (λ (d : q ≢ o). subst (λ (x : Option Cell). cell_reasons shape (cells q) ≤ cell_reasons shape x) (sym (object_else cells o q (Some c) d)) (omega arith)) (cases_object q o) in
    let rows : (p : ℕ) → sum_below m (object_reasons shape cells p) ≤ sum_below m (object_reasons shape cells' p) = λ p. sum_more m (object_reasons shape cells p) (object_reasons shape cells' p) (λ k. each (record { pass = p; serial = k })) in
    let all = sum_more P (λ p. sum_below m (object_reasons shape cells p)) (λ p. sum_below m (object_reasons shape cells' p)) rows in
    ⊎_elim (λ (z : a ≡ 0). omega arith)
    (λ (t : (o.pass < P) × (o.serial < m)).
    let here : cell_reasons shape (cells o) + a ≤ cell_reasons shape (cells' o) = subst (λ (x : Option Cell). cell_reasons shape (cells o) + a ≤ cell_reasons shape x) (sym (object_here cells o (Some c))) grows in
    let row = sum_one m o.serial (object_reasons shape cells o.pass) (object_reasons shape cells' o.pass) a t.1 (λ k. each (record { pass = o.pass; serial = k })) here in
    let sum = sum_one P o.pass (λ p. sum_below m (object_reasons shape cells p)) (λ p. sum_below m (object_reasons shape cells' p)) a t.0 rows row in
    omega arith) within

-- sets go on
pub reasons_sets : (n m P : ℕ) (cells : ObjId → Option Cell) (shape : Sid → Shape) (sets sets' : Sid → SetKind → ℕ) (a s : ℕ) → (a ≡ 0) ⊎ (s < n) → ((k : ℕ) → structure_reasons sets k ≤ structure_reasons sets' k) → structure_reasons sets s + a ≤ structure_reasons sets' s
    → reasons n m P cells shape sets + a ≤ reasons n m P cells shape sets'
reasons_sets n m P cells shape sets sets' a s within each here = ⊎_elim
    (λ (z : a ≡ 0). let sum = sum_more n (structure_reasons sets) (structure_reasons sets') each in omega arith)
    (λ (lt : s < n). let sum = sum_one n s (structure_reasons sets) (structure_reasons sets') a lt each here in omega arith) within

-- ---- the part

-- what a view owes, whether it is out, whether objects may be born flat in its heap, and the firing that it owes
abbrev pub debts_of : View → ℕ × Bool × Bool × Option Firing
debts_of v = (v.time.owed, v.time.out, v.flat, v.sets.firing)

-- whether objects may be born flat in the heap of a view, and the firing that it owes
abbrev pub flat_of : View → Bool × Option Firing
flat_of v = (v.flat, v.sets.firing)

-- a firing that is owed stays owed, of the same set
abbrev pub StaysFiring : Option Firing → Option Firing → Type 0
StaysFiring a b = (f : Firing) → a ≡ Some f → (g : Firing) × (b ≡ Some g) × (g.structure ≡ f.structure) × (g.which ≡ f.which)

-- the same firing stays owed
pub stays_firing : {a b : Option Firing} → a ≡ b → StaysFiring a b
stays_firing {a} {b} e f is = (f, sym e ∙ is, refl, refl)

module _ (views : List View) (id : ℕ) (v u : View) (at : get_elem? views id ≡ some v) (l : v.live ≡ true) (same : SameNumbers v u) {P made E : ℕ} {log : Log Mark} {home : ℕ → Home} (hist : Histories P log made home views) {cells : ObjId → Option Cell} {shape : Sid → Shape} {sets : Sid → SetKind → ℕ} (r : Raised P made E cells shape sets views) where
  -- a set that was owed by a view is owed then
  keeps_firer : StaysFiring v.sets.firing u.sets.firing → (s : Sid) (which : SetKind) → HasFirer views s which → HasFirer (set views id u) s which
  keeps_firer stays s which h = ⊎_elim
      (λ (e : h.seat ≡ id).
      let was : h.view ≡ v = one_there views id h.view v (ap (get_elem? views) (sym e) ∙ h.there) at in
      let t = stays h.firing (ap (λ (x : View). x.sets.firing) (sym was) ∙ h.owes) in
      record { seat = id; view = u; firing = t.0; there = set_there views id v u at; live = sym same.live ∙ l; owes = t.1; structure = t.2 ∙ h.structure; kind = t.3 ∙ h.kind })
      (λ (n : h.seat ≢ id). record { seat = h.seat; view = h.view; firing = h.firing; there = set_else views id h.seat u n ∙ h.there; live = h.live; owes = h.owes; structure = h.structure; kind = h.kind }) (cases_eq h.seat id)

  -- one that another view owes too
  keeps_else : (s : Sid) (which : SetKind) → ((f : Firing) → v.sets.firing ≡ Some f → f.structure ≡ s → f.which ≡ which → ⊥) → HasFirer views s which → HasFirer (set views id u) s which
  keeps_else s which none_ h = ⊎_elim
      (λ (e : h.seat ≡ id).
      let was : h.view ≡ v = one_there views id h.view v (ap (get_elem? views) (sym e) ∙ h.there) at in
      absurd (none_ h.firing (ap (λ (x : View). x.sets.firing) (sym was) ∙ h.owes) h.structure h.kind))
      (λ (n : h.seat ≢ id). record { seat = h.seat; view = h.view; firing = h.firing; there = set_else views id h.seat u n ∙ h.there; live = h.live; owes = h.owes; structure = h.structure; kind = h.kind }) (cases_eq h.seat id)

  quiet_same : debts_of v ≡ debts_of u → IsQuiet id u
  quiet_same d f =
      let q = r.quiet id v at l (ap (λ (x : ℕ × Bool × Bool × Option Firing). x.2) d ∙ f) in
      (sym (ap (λ (x : ℕ × Bool × Bool × Option Firing). x.1) d) ∙ q.0, sym (ap (λ (x : ℕ × Bool × Bool × Option Firing). x.0) d) ∙ q.1, sym (ap (λ (x : ℕ × Bool × Bool × Option Firing). x.3) d) ∙ q.2)

  fires_same : debts_of v ≡ debts_of u → (s : Sid) (which : SetKind) → sets s which ≡ FIRING → HasFirer (set views id u) s which
  fires_same d s which e = keeps_firer (stays_firing (ap (λ (x : ℕ × Bool × Bool × Option Firing). x.3) d)) s which (r.firing s which e)

  owed_same : debts_of v ≡ debts_of u → v.time.owed ≡ u.time.owed
  owed_same d = ap (λ (x : ℕ × Bool × Bool × Option Firing). x.0) d

  -- a step of a pass, by what it owes and has raised after it
  pub raised_go : (E' : ℕ) (cells' : ObjId → Option Cell) (shape' : Sid → Shape) (sets' : Sid → SetKind → ℕ) → ((s : Sid) → (shape' s).born ≡ true → s.0 < r.structures) → ((s : Sid) (which : SetKind) → sets' s which ≡ FIRING → HasFirer (set views id u) s which) → IsQuiet id u → u.time.unowed ≤ MOST_UNOWED
      → (E' + u.time.owed) + (reasons r.structures r.objects P cells shape sets + v.time.unowed) ≤ (E + v.time.owed) + (reasons r.structures r.objects P cells' shape' sets' + u.time.unowed) → Raised P made E' cells' shape' sets' (set views id u)
  raised_go E' cells' shape' sets' inside fires quiet most gain =
      let t = v.number in
      let x = u.time.owed in
      let y = u.time.unowed in
      let owed' = set_number r.owed t x in
      let unowed' = set_number r.unowed t y in
      let mine = r.each id v at l in
      let below = (hist.seated id v at l).own.1 in
      let made_few = hist.few in
      let one = sum_set P t x r.owed (omega arith) in
      let two = sum_set P t y r.unowed (omega arith) in
      let owes = mine.owes in
      let free = mine.free in
      let old = r.sum in
      let away : (q : ℕ) → t ≢ q → (owed' q ≡ r.owed q) × (unowed' q ≡ r.unowed q) = λ q d. (number_else r.owed t q x (λ e. d (sym e)), number_else r.unowed t q y (λ e. d (sym e))) in record {
        owed = owed';
        unowed = unowed';
        structures = r.structures;
        objects = r.objects;
        structures_are = r.structures_are;
        objects_are = r.objects_are;
        inside = inside;
        few = λ q. ⊎_elim (λ (e : q ≡ t). subst (λ (k : ℕ). k ≤ MOST_UNOWED) (sym (ap unowed' e ∙ number_here r.unowed t y)) most)
            (λ (d : q ≢ t). subst (λ (k : ℕ). k ≤ MOST_UNOWED) (sym (away q (λ e. d (sym e))).1) (r.few q)) (cases_eq q t);
        unmade = λ q le. let a = away q (λ e. omega arith) in let b = r.unmade q le in (a.0 ∙ b.0, a.1 ∙ b.1);
        each = live_set (ViewIsRaising r.owed r.unowed) (ViewIsRaising owed' unowed') views id u r.each
            (λ j z n e lz h. let a = away z.number (alone views id v u at l same hist j z n e lz) in record {
              owes = h.owes ∙ sym a.0;
              free = h.free ∙ sym a.1;
              kept_free = λ k q f. let b = h.kept_free k q f in let a' = away q.number (alone_kept views id v u at l same hist j z e lz k q f) in (b.0 ∙ sym a'.1, a'.0 ∙ b.1);
            })
            (subst (λ (z : ℕ × List Kept). IsRaising owed' unowed' z.0 u.time z.1) (λ i. (same.number i, same.kept i)) record {
              owes = sym (number_here r.owed t x);
              free = sym (number_here r.unowed t y);
              kept_free = λ k q f. let b = mine.kept_free k q f in let a' = away q.number (alone_kept views id v u at l same hist id v at l k q f) in (b.0 ∙ sym a'.1, a'.0 ∙ b.1);
            });
        sum = omega arith;
        firing = fires;
        quiet = live_same IsQuiet views id u r.quiet quiet;
      }

  -- nothing of it changes
  pub raised_same : debts_of v ≡ debts_of u → v.time.unowed ≡ u.time.unowed → Raised P made E cells shape sets (set views id u)
  raised_same d unowed = let owed = owed_same d in let f = r.few v.number in let g = (r.each id v at l).free in raised_go E cells shape sets r.inside (fires_same d) (quiet_same d) (omega arith) (omega arith)

  -- the pass goes out
  pub raised_out : v.flat ≡ u.flat → v.sets.firing ≡ u.sets.firing → v.time.owed ≡ u.time.owed → v.time.unowed ≡ u.time.unowed → u.time.out ≡ true → Raised P made E cells shape sets (set views id u)
  raised_out flat firing owed unowed out =
      let f = r.few v.number in
      let g = (r.each id v at l).free in
      raised_go E cells shape sets r.inside (λ s which e. keeps_firer (stays_firing firing) s which (r.firing s which e)) (λ k. let q = r.quiet id v at l (flat ∙ k) in (out, sym owed ∙ q.1, sym firing ∙ q.2)) (omega arith) (omega arith)

  -- the pass comes in, in a heap where objects may be born flat
  pub raised_in : v.flat ≡ true → flat_of v ≡ flat_of u → v.time.owed ≡ u.time.owed → v.time.unowed ≡ u.time.unowed → Raised P made E cells shape sets (set views id u)
  raised_in may still owed unowed =
      let f = r.few v.number in
      let g = (r.each id v at l).free in
      raised_go E cells shape sets r.inside (λ s which e. keeps_firer (stays_firing (ap (λ (x : Bool × Option Firing). x.1) still)) s which (r.firing s which e)) (λ k. absurd (both_ways v.flat (ap (λ (x : Bool × Option Firing). x.0) still ∙ k) may)) (omega arith) (omega arith)

  -- a cell becomes another, with no fewer reasons
  pub raised_cell : debts_of v ≡ debts_of u → v.time.unowed ≡ u.time.unowed → (o : ObjId) (x : Option Cell) (c : Cell) → cells o ≡ x → cell_reasons shape x ≤ cell_reasons shape (Some c) → Raised P made E (set_object cells o (Some c)) shape sets (set views id u)
  raised_cell d unowed o x c was grows =
      let owed = owed_same d in
      let e = ap (cell_reasons shape) was in
      let f = r.few v.number in
      let g = (r.each id v at l).free in
      let more = reasons_cell r.structures r.objects P cells shape sets o c 0 (inl refl) (omega (arith, e)) in
      raised_go E (set_object cells o (Some c)) shape sets r.inside (fires_same d) (quiet_same d) (omega arith) (omega arith)

  -- a cell becomes another with one reason more, so one more raise may be owed
  pub raised_reason : v.flat ≡ true → flat_of v ≡ flat_of u → u.time.owed ≡ v.time.owed + 1 → v.time.unowed ≡ u.time.unowed → (o : ObjId) (d c : Cell) → cells o ≡ Some d → (o.pass < P) × (o.serial < MOST_OBJECTS) → cell_reasons shape (Some d) + 1 ≤ cell_reasons shape (Some c) → Raised P made E (set_object cells o (Some c)) shape sets (set views id u)
  raised_reason flat still owed unowed o d c was within grows =
      let e = ap (cell_reasons shape) was in
      let pass = within.0 in
      let serial = within.1 in
      let f = r.few v.number in
      let g = (r.each id v at l).free in
      let all = r.objects_are in
      let more = reasons_cell r.structures r.objects P cells shape sets o c 1 (inr (pass, omega arith)) (omega (arith, e)) in
      raised_go E (set_object cells o (Some c)) shape sets r.inside (λ s which e'. keeps_firer (stays_firing (ap (λ (x : Bool × Option Firing). x.1) still)) s which (r.firing s which e')) (λ f. absurd (both_ways v.flat (ap (λ (x : Bool × Option Firing). x.0) still ∙ f) flat)) (omega arith) (omega arith)

  -- the epoch is raised, which was owed
  pub raised_owed : v.flat ≡ u.flat → StaysFiring v.sets.firing u.sets.firing → v.time.owed ≡ u.time.owed + 1 → v.time.unowed ≡ u.time.unowed → Raised P made (E + 1) cells shape sets (set views id u)
  raised_owed flat stays owed unowed = let f = r.few v.number in let g = (r.each id v at l).free in raised_go (E + 1) cells shape sets r.inside (λ s which e. keeps_firer stays s which (r.firing s which e)) (λ k. absurd (let none_ = (r.quiet id v at l (flat ∙ k)).1 in omega arith)) (omega arith) (omega arith)

  -- the epoch is raised, which was not owed
  pub raised_free : debts_of v ≡ debts_of u → u.time.unowed ≡ v.time.unowed + 1 → v.time.unowed < MOST_UNOWED → Raised P made (E + 1) cells shape sets (set views id u)
  raised_free d unowed room = let owed = owed_same d in raised_go (E + 1) cells shape sets r.inside (fires_same d) (quiet_same d) (omega arith) (omega arith)

  -- sets go on, with no fewer reasons
  pub raised_sets : v.flat ≡ u.flat → (f0 : Firing) → v.sets.firing ≡ Some f0 → v.time.owed ≡ u.time.owed → v.time.unowed ≡ u.time.unowed → (sets' : Sid → SetKind → ℕ) → ((s : Sid) (which : SetKind) → set_reasons (sets s which) ≤ set_reasons (sets' s which)) → ((s : Sid) (which : SetKind) → sets' s which ≡ FIRING → (sets s which ≡ FIRING) × ((f0.structure ≡ s) → (f0.which ≡ which) → ⊥)) → Raised P made E cells shape sets' (set views id u)
  raised_sets flat f0 due owed unowed sets' more others =
      let f = r.few v.number in
      let g = (r.each id v at l).free in
      let each : (k : ℕ) → structure_reasons sets k ≤ structure_reasons sets' k = λ k. let a = more (record { 0 = k }) Transition in let b = more (record { 0 = k }) Write in omega arith in
      let sum = reasons_sets r.structures r.objects P cells shape sets sets' 0 0 (inl refl) each (let a = each 0 in omega arith) in
      raised_go E cells shape sets' r.inside (λ s which e. let b = others s which e in keeps_else s which (λ f is x y. let one : f0 ≡ f = same_item f0 f v.sets.firing due is in b.1 (ap (λ (z : Firing). z.structure) one ∙ x) (ap (λ (z : Firing). z.which) one ∙ y)) (r.firing s which b.0))
      (λ k. absurd (no_item f0 v.sets.firing (r.quiet id v at l (flat ∙ k)).2 due)) (omega arith) (omega arith)

  -- a set is no longer valid, so one more raise may be owed
  pub raised_set_reason : v.flat ≡ true → v.flat ≡ u.flat → v.sets.firing ≡ None → u.time.owed ≡ v.time.owed + 1 → v.time.unowed ≡ u.time.unowed → (sets' : Sid → SetKind → ℕ) → ((s : Sid) (which : SetKind) → set_reasons (sets s which) ≤ set_reasons (sets' s which)) → (s : Sid) (which : SetKind) (f0 : Firing) → u.sets.firing ≡ Some f0 → f0.structure ≡ s → f0.which ≡ which → ((t : Sid) (kind : SetKind) → sets' t kind ≡ FIRING → (sets t kind ≡ FIRING) ⊎ ((t ≡ s) × (kind ≡ which))) → (shape s).born ≡ true → set_reasons (sets s which) + 1 ≤ set_reasons (sets' s which) → Raised P made E cells shape sets' (set views id u)
  raised_set_reason may flat none_ owed unowed sets' more s which f0 due is_s is_kind only born one =
      let f = r.few v.number in
      let g = (r.each id v at l).free in
      let each : (k : ℕ) → structure_reasons sets k ≤ structure_reasons sets' k = λ k. let a = more (record { 0 = k }) Transition in let b = more (record { 0 = k }) Write in omega arith in
      let sum = reasons_sets r.structures r.objects P cells shape sets sets' 1 s.0 (inr (r.inside s born)) each (both_kinds sets sets' s which more one) in
      raised_go E cells shape sets' r.inside (λ t kind e. ⊎_elim (λ (x : sets t kind ≡ FIRING). keeps_else t kind (λ f is a b. no_item f v.sets.firing none_ is) (r.firing t kind x))
      (λ (x : (t ≡ s) × (kind ≡ which)). record { seat = id; view = u; firing = f0; there = set_there views id v u at; live = sym same.live ∙ l; owes = due; structure = is_s ∙ sym x.0; kind = is_kind ∙ sym x.1 }) (only t kind e))
      (λ k. absurd (both_ways v.flat (flat ∙ k) may)) (omega arith) (omega arith)
    where
      both_kinds : (a b : Sid → SetKind → ℕ) (s : Sid) (which : SetKind) → ((t : Sid) (kind : SetKind) → set_reasons (a t kind) ≤ set_reasons (b t kind)) → set_reasons (a s which) + 1 ≤ set_reasons (b s which) → structure_reasons a s.0 + 1 ≤ structure_reasons b s.0
      both_kinds a b s Transition more one = let other = more s Write in omega arith
      both_kinds a b s Write more one = let other = more s Transition in omega arith

  -- a structure of a pass is born
  pub raised_shapes : debts_of v ≡ debts_of u → v.time.unowed ≡ u.time.unowed → (shape' : Sid → Shape) → ((o : ObjId) (c : Cell) → cells o ≡ Some c → shape' c.sid ≡ shape c.sid) → ((s : Sid) → (shape' s).born ≡ true → s.0 < MOST_STRUCTURES * P) → Raised P made E cells shape' sets (set views id u)
  raised_shapes d unowed shape' kept inside =
      let owed = owed_same d in
      let f = r.few v.number in
      let g = (r.each id v at l).free in
      let all = r.structures_are in
      let one : (o : ObjId) → cell_reasons shape (cells o) ≤ cell_reasons shape' (cells o) = λ o. of_cell (cells o) (kept o) in
      let rows : (p : ℕ) → sum_below r.objects (object_reasons shape cells p) ≤ sum_below r.objects (object_reasons shape' cells p) = λ p. sum_more r.objects (object_reasons shape cells p) (object_reasons shape' cells p) (λ k. one (record { pass = p; serial = k })) in
      let sum = sum_more P (λ p. sum_below r.objects (object_reasons shape cells p)) (λ p. sum_below r.objects (object_reasons shape' cells p)) rows in
      raised_go E cells shape' sets (λ s b. let lt = inside s b in omega arith) (fires_same d) (quiet_same d) (omega arith) (omega arith)
    where
      of_cell : (x : Option Cell) → ((c : Cell) → x ≡ Some c → shape' c.sid ≡ shape c.sid) → cell_reasons shape x ≤ cell_reasons shape' x
      of_cell None h = omega arith
      of_cell (Some c) h = let e = ap (λ (z : Shape). z.depth) (h c refl) in omega (arith, e)

most_one : (b : Bool) → as_reason b ≤ 1
most_one true = omega arith
most_one false = omega arith

most_reasons : (shape : Sid → Shape) (x : Option Cell) → ((s : Sid) → (shape s).depth ≤ MOST_DEPTH) → cell_reasons shape x ≤ 129
most_reasons shape None deep = omega arith
most_reasons shape (Some c) deep = let d = deep c.sid in let k = most_one (is_keyed c.kind) in omega arith

module _ {P made E : ℕ} {cells : ObjId → Option Cell} {shape : Sid → Shape} {sets : Sid → SetKind → ℕ} {views : List View} (r : Raised P made E cells shape sets views) where
  -- a pass is made, which owes nothing
  pub raised_split : (id : ℕ) (v : View) → get_elem? views id ≡ some v → v.live ≡ true → v.made ≡ made → Raised P (made + 1) E cells shape sets (set views id (split_left v) ++ split_right v ∷ [])
  raised_split id v at l is = record {
    owed = r.owed;
    unowed = r.unowed;
    structures = r.structures;
    objects = r.objects;
    structures_are = r.structures_are;
    objects_are = r.objects_are;
    inside = r.inside;
    few = r.few;
    unmade = λ t le. r.unmade t (omega arith);
    each = live_more (ViewIsRaising r.owed r.unowed) (set views id (split_left v)) (split_right v) (length views) (length-set views id (split_left v)) (live_same (ViewIsRaising r.owed r.unowed) views id (split_left v) r.each (r.each id v at l))
        (λ _. let z = r.unmade v.made (omega arith) in record { owes = sym z.0; free = sym z.1; kept_free = no_each (λ k q. (q.unowed ≡ r.unowed q.number) × (r.owed q.number ≡ 0)) });
    sum = r.sum;
    firing = λ s which e. split_firer s which (r.firing s which e);
    quiet = live_more IsQuiet (set views id (split_left v)) (split_right v) (length views) (length-set views id (split_left v)) (live_same IsQuiet views id (split_left v) r.quiet (r.quiet id v at l)) (λ _ f. (refl, refl, refl));
  }
    where
      split_firer : (s : Sid) (which : SetKind) → HasFirer views s which → HasFirer (set views id (split_left v) ++ split_right v ∷ []) s which
      split_firer s which h = ⊎_elim
          (λ (e : h.seat ≡ id).
          let was : h.view ≡ v = one_there views id h.view v (ap (get_elem? views) (sym e) ∙ h.there) at in
          record { seat = id; view = split_left v; firing = h.firing; there = at_longer (set views id (split_left v)) (split_right v ∷ []) id (split_left v) (set_there views id v (split_left v) at); live = l; owes = ap (λ (x : View). x.sets.firing) (sym was) ∙ h.owes; structure = h.structure; kind = h.kind })
          (λ (n : h.seat ≢ id). record { seat = h.seat; view = h.view; firing = h.firing; there = at_longer (set views id (split_left v)) (split_right v ∷ []) h.seat h.view (set_else views id h.seat (split_left v) n ∙ h.there); live = h.live; owes = h.owes; structure = h.structure; kind = h.kind }) (cases_eq h.seat id)

  -- a pass is joined that owes no firing, and what it raised is kept
  pub raised_joined : (id other : ℕ) (v u : View) → get_elem? views id ≡ some v → get_elem? views other ≡ some u → v.live ≡ true → u.live ≡ true → id ≢ other → u.time.owed ≡ 0 → u.sets.firing ≡ None → Raised P made E cells shape sets (set (set views id (joined v u)) other spent_view)
  raised_joined id other v u at at' l lu ne no_raise none_ = record {
    owed = r.owed;
    unowed = r.unowed;
    structures = r.structures;
    objects = r.objects;
    structures_are = r.structures_are;
    objects_are = r.objects_are;
    inside = r.inside;
    few = r.few;
    unmade = r.unmade;
    each = live_joined (ViewIsRaising r.owed r.unowed) (ViewIsRaising r.owed r.unowed) views id other (joined v u) spent_view refl r.each (λ j y n m e ly q. q) record {
      owes = (r.each id v at l).owes;
      free = (r.each id v at l).free;
      kept_free = λ k q e. elim (at_append v.kept (kept_of u ∷ u.kept) k q e) [
        | inl was ↦ (r.each id v at l).kept_free k q was
        | inr new ↦ of_other (r.each other u at' lu) new.0 q new.2
      ];
    };
    sum = r.sum;
    firing = λ s which e. joined_firer s which (r.firing s which e);
    quiet = live_joined IsQuiet IsQuiet views id other (joined v u) spent_view refl r.quiet (λ j y n m e ly q. q) (r.quiet id v at l);
  }
    where
      joined_firer : (s : Sid) (which : SetKind) → HasFirer views s which → HasFirer (set (set views id (joined v u)) other spent_view) s which
      joined_firer s which h =
          let far : h.seat ≢ other = λ e. (let was : h.view ≡ u = one_there views other h.view u (ap (get_elem? views) (sym e) ∙ h.there) at' in no_item h.firing u.sets.firing none_ (ap (λ (x : View). x.sets.firing) (sym was) ∙ h.owes)) in
          ⊎_elim
          (λ (e : h.seat ≡ id).
          let was : h.view ≡ v = one_there views id h.view v (ap (get_elem? views) (sym e) ∙ h.there) at in
          record { seat = id; view = joined v u; firing = h.firing; there = set_else (set views id (joined v u)) other id spent_view ne ∙ set_there views id v (joined v u) at; live = l; owes = ap (λ (x : View). x.sets.firing) (sym was) ∙ h.owes; structure = h.structure; kind = h.kind })
          (λ (n : h.seat ≢ id). record { seat = h.seat; view = h.view; firing = h.firing; there = set_else (set views id (joined v u)) other h.seat spent_view far ∙ (set_else views id h.seat (joined v u) n ∙ h.there); live = h.live; owes = h.owes; structure = h.structure; kind = h.kind }) (cases_eq h.seat id)

      of_other : IsRaising r.owed r.unowed u.number u.time u.kept → (k : ℕ) (q : Kept) → get_elem? (kept_of u ∷ u.kept) k ≡ some q → (q.unowed ≡ r.unowed q.number) × (r.owed q.number ≡ 0)
      of_other b zero q e = subst (λ (x : Kept). (x.unowed ≡ r.unowed x.number) × (r.owed x.number ≡ 0)) (one_there (kept_of u ∷ u.kept) 0 (kept_of u) q refl e) (b.free, sym b.owes ∙ no_raise)
      of_other b (suc k) q e = b.kept_free k q e

  -- the epoch has room
  pub raised_space : P ≤ MOST_PASSES → ((s : Sid) → (shape s).depth ≤ MOST_DEPTH) → E + 2 < UNSTAMPED
  raised_space most deep =
      let all = r.structures_are in
      let objects = r.objects_are in
      let sum = r.sum in
      let a = sum_most r.structures 2 (structure_reasons sets) (λ k. let x = most_one (nat_eq (sets (record { 0 = k }) Transition) VALID) in let y = most_one (nat_eq (sets (record { 0 = k }) Write) VALID) in omega arith) in
      let row : (p : ℕ) → sum_below r.objects (object_reasons shape cells p) ≤ 528384 = λ p. let m = sum_most r.objects 129 (object_reasons shape cells p) (λ k. most_reasons shape (cells (record { pass = p; serial = k })) deep) in omega arith in
      let b = sum_most P 528384 (λ p. sum_below r.objects (object_reasons shape cells p)) row in
      let c = sum_most P 1000 r.unowed r.few in
      omega arith

-- a new heap
pub raised_first : (P : ℕ) (cells : ObjId → Option Cell) (shape : Sid → Shape) (sets : Sid → SetKind → ℕ) (v : View) → v.time.owed ≡ 0 → v.time.unowed ≡ 0 → v.kept ≡ [] → v.time.out ≡ true → v.sets.firing ≡ None → ((s : Sid) (which : SetKind) → sets s which ≡ VALID) → ((s : Sid) → (shape s).born ≡ true → s.0 < MOST_STRUCTURES * P) → Raised P 1 0 cells shape sets (v ∷ [])
raised_first P cells shape sets v owed unowed kept out none_ valid inside = record {
  owed = λ t. 0;
  unowed = λ t. 0;
  structures = MOST_STRUCTURES * P;
  objects = MOST_OBJECTS;
  structures_are = refl;
  objects_are = refl;
  inside = inside;
  few = λ t. omega arith;
  unmade = λ t le. (refl, refl);
  each = live_one (ViewIsRaising (λ t. 0) (λ t. 0)) v record { owes = owed; free = unowed; kept_free = subst (λ (x : List Kept). Each x (λ k q. (q.unowed ≡ 0) × (◌≡◌ {A = ℕ} 0 0))) (sym kept) (no_each (λ k q. (q.unowed ≡ 0) × (◌≡◌ {A = ℕ} 0 0))) };
  sum = let a = sum_most P 0 (λ t. 0) (λ t. omega arith) in omega arith;
  firing = λ s which e. absurd (let x = valid s which in omega arith);
  quiet = live_one IsQuiet v (λ f. (out, owed, none_));
}
