-- The steps that fire a set: the exchange with its mark, the raise of the epoch for it, and the store once no licence relies on it.
use Rattle.std.proofs.Common.{◌≡◌, ◌≢◌, ◌+◌, ◌⊎◌, ◌<◌, ◌≤◌, ℕ, Bool, true, false, eqb, List, [], ◌∷◌, ◌++◌, length, set, refl, sym, ap, ◌∙◌, subst, inl, inr, ⊎_elim, arith, Option, Some, None}
use mathlib.Core.Option.{some}
use lib.ListN.{get_elem?}
use Rattle.std.specs.Prelude.{not, ◌==◌, ◌&&◌, if◌then◌else◌}
use Rattle.std.proofs.lemmas.Bool.{both_ways, eq-eqb, ne_eqb}
use Rattle.jo_value.specs.declared.capacities.TheConstants.{VALID, FIRING, FIRED}
use Rattle.jo_value.specs.declared.value.ObjId.{ObjId}
use Rattle.jo_value.specs.declared.value.Sid.{Sid}
use Rattle.jo_value.specs.declared.words.cell.Cell.{Cell}
use Rattle.jo_model.specs.Heaps.{Heap}
use Rattle.jo_model.specs.Logs.{LogEntry, mark, Log, after}
use Rattle.jo_model.proofs.Beginnings.{after-push, get-push}
use Rattle.jo_rule.specs.declared.counts.Counts.{Counts}
use Rattle.jo_rule.specs.declared.watched.SetKind.{SetKind}
use Rattle.jo_rule.specs.declared.watched.SetKind.TheVariants.{Transition, Write}
use Rattle.jo_rule.specs.Names.{epoch, transition_set, write_set}
use Rattle.jo_rule.specs.Areas.{Words, put, is_same_structure, acknowledgements, nodes, stored}
use Rattle.jo_rule.specs.Marks.{Mark, fired, opened, HasForeignMark, IsCauseToFire, IsLawfulMark}
use Rattle.jo_rule.specs.Shapes.{Shape}
use Rattle.jo_rule.specs.Spots.{values}
use Rattle.jo_rule.specs.Contents.{is_keyed, Contents}
use Rattle.jo_rule.specs.Puts.{AllClear}
use Rattle.jo_rule.specs.Views.{View, Pin, Licence, Sight, Firing, Sets}
use Rattle.jo_rule.specs.Lists.{Each}
use Rattle.jo_rule.specs.Histories.{Begins}
use Rattle.jo_rule.specs.Owned.{Owned, Unmade, Unborn}
use Rattle.jo_rule.specs.Locks.{Locks}
use Rattle.jo_rule.specs.Rule.{Rule}
use Rattle.jo_rule.specs.Steps.{no_sight}
use Rattle.jo_rule.specs.Sights.{watched, name_of_set, is_same_kind, set_watched, Sees, IsFollowed, HasStayed, Owning, IsRelied, Licensed, IsFiring, IsKnown, told, IsSighted, ViewIsSighted, Sights}
use Rattle.jo_rule.specs.Marked.{WasFired, BornSo, Marked}
use Rattle.jo_rule.specs.Timing.{ViewIsTimed}
use Rattle.jo_rule.specs.Concluded.{NotOpened, Concluded}
use Rattle.jo_rule.proofs.Concluded.{alike_same, at_least_same, concluded_same, concluded_fired}
use Rattle.jo_rule.specs.Raised.{set_reasons, Raised}
use Rattle.jo_rule.proofs.Timing.{timed_owing}
use Rattle.jo_rule.proofs.Raised.{raised_sets, raised_set_reason}
use Rattle.jo_rule.proofs.Lists.{live_set, no_each}
use Rattle.jo_rule.proofs.Shaped.{cases_structure}
use Rattle.jo_rule.proofs.Histories.{SameItems, mark_placements, mark_histories, same_placements, same_histories, numbers}
use Rattle.jo_rule.proofs.Owned.{same_owned, same_structures}
use Rattle.jo_rule.proofs.Locks.{same_locks}
use Rattle.jo_rule.proofs.Sights.{continues, sees_on}
use Rattle.jo_rule.proofs.Marked.{foreign_last, born_so_more, fired_more, get_last}
use Rattle.jo_rule.proofs.Timing.{timing_set, timed_dropped}
use Rattle.jo_rule.proofs.Allowed.{allowed_same}
use Rattle.jo_rule.specs.Counted.{Counted}
use Rattle.jo_rule.proofs.Counted.{counted_log, mark_counts}
use Rattle.jo_rule.proofs.Lasting.{lasting_same}
use Rattle.jo_rule.proofs.Stores.{numbers_of}
use Rattle.jo_rule.proofs.Looks.{apart, cons_each}

-- ---- the words of sets

cases_kind : (a b : SetKind) → (a ≡ b) ⊎ (a ≢ b)
cases_kind Transition Transition = inl refl
cases_kind Write Write = inl refl
cases_kind Transition Write = inr (λ e. cc)
cases_kind Write Transition = inr (λ e. cc)

kind_here : (a b : SetKind) → a ≡ b → is_same_kind a b ≡ true
kind_here Transition Transition e = refl
kind_here Write Write e = refl
kind_here Transition Write e = (let no : Transition ≡ Write = e in absurd cc)
kind_here Write Transition e = (let no : Write ≡ Transition = e in absurd cc)

kind_else : (a b : SetKind) → a ≢ b → is_same_kind a b ≡ false
kind_else Transition Transition n = absurd (n refl)
kind_else Write Write n = absurd (n refl)
kind_else Transition Write n = refl
kind_else Write Transition n = refl

same_set : Sid → SetKind → Sid → SetKind → Bool
same_set t kind s which = is_same_structure t s && is_same_kind kind which

pub set_here : (f : Sid → SetKind → ℕ) (s : Sid) (which : SetKind) (x : ℕ) → set_watched f s which x s which ≡ x
set_here f s which x = let a : eqb s.0 s.0 ≡ true = eq-eqb s.0 s.0 refl in let b : is_same_kind which which ≡ true = kind_here which which refl in rw (a, b) refl

pub set_else : (f : Sid → SetKind → ℕ) (s : Sid) (which : SetKind) (x : ℕ) (t : Sid) (kind : SetKind) → ((t ≡ s) → (kind ≡ which) → ⊥) → set_watched f s which x t kind ≡ f t kind
set_else f s which x t kind n = ⊎_elim
    (λ (e : t ≡ s). let b : is_same_kind kind which ≡ false = kind_else kind which (n e) in let a : eqb t.0 s.0 ≡ true = eq-eqb t.0 s.0 (ap (λ (z : Sid). z.0) e) in rw (a, b) refl)
    (λ (d : t ≢ s). let a : eqb t.0 s.0 ≡ false = ne_eqb t.0 s.0 (λ e. d (λ i. record { 0 = e i })) in rw a refl) (cases_structure t s)

pub set_cases : (s : Sid) (which : SetKind) (t : Sid) (kind : SetKind) → ((t ≡ s) × (kind ≡ which)) ⊎ ((t ≡ s) → (kind ≡ which) → ⊥)
set_cases s which t kind = ⊎_elim (λ (e : t ≡ s). ⊎_elim (λ (f : kind ≡ which). inl (e, f)) (λ (f : kind ≢ which). inr (λ g. f)) (cases_kind kind which)) (λ (d : t ≢ s). inr (λ e f. d e)) (cases_structure t s)

-- a fact about each set, where one is set
pub each_watched : (f : Sid → SetKind → ℕ) (s : Sid) (which : SetKind) (x : ℕ) (Q : Sid → SetKind → ℕ → Type 0) → Q s which x → ((t : Sid) (kind : SetKind) → ((t ≡ s) → (kind ≡ which) → ⊥) → Q t kind (f t kind)) → (t : Sid) (kind : SetKind) → Q t kind (set_watched f s which x t kind)
each_watched f s which x Q here there t kind = ⊎_elim
    (λ (e : (t ≡ s) × (kind ≡ which)). subst (λ (p : Sid × SetKind × ℕ). Q p.0 p.1 p.2) (λ i. (sym e.0 i, sym e.1 i, sym ((λ i. set_watched f s which x (e.0 i) (e.1 i)) ∙ set_here f s which x) i)) here)
    (λ (n : (t ≡ s) → (kind ≡ which) → ⊥). subst (Q t kind) (sym (set_else f s which x t kind n)) (there t kind n)) (set_cases s which t kind)

and_true : (b : Bool) → (b && true) ≡ b
and_true true = refl
and_true false = refl

and_no : (b : Bool) → (b && false) ≡ false
and_no true = refl
and_no false = refl

-- the words of sets, where one is stored
pub watched_put : (w : Words) (s : Sid) (which : SetKind) (x : ℕ) (t : Sid) (kind : SetKind) → watched (put w (name_of_set s which) x) t kind ≡ set_watched (watched w) s which x t kind
watched_put w s Transition x t Transition = ap (λ (b : Bool). if b then x else w (transition_set t)) (sym (and_true (is_same_structure t s)))
watched_put w s Transition x t Write = ap (λ (b : Bool). if b then x else w (write_set t)) (sym (and_no (is_same_structure t s)))
watched_put w s Write x t Transition = ap (λ (b : Bool). if b then x else w (transition_set t)) (sym (and_no (is_same_structure t s)))
watched_put w s Write x t Write = ap (λ (b : Bool). if b then x else w (write_set t)) (sym (and_true (is_same_structure t s)))

-- a set is stored, whose structure is born: what is said of unborn structures stays
unborn_put : (w : Words) (cells : ObjId → Option Cell) (s : Sid) (which : SetKind) (x : ℕ) → nodes w s ≢ 0 → Unborn cells (nodes w) (Rattle.jo_rule.specs.Areas.first_children w) (Rattle.jo_rule.specs.Areas.transition_sets w) (Rattle.jo_rule.specs.Areas.write_sets w) (Rattle.jo_rule.specs.Areas.inline_words w)
    → Unborn cells (nodes (put w (name_of_set s which) x)) (Rattle.jo_rule.specs.Areas.first_children (put w (name_of_set s which) x)) (Rattle.jo_rule.specs.Areas.transition_sets (put w (name_of_set s which) x)) (Rattle.jo_rule.specs.Areas.write_sets (put w (name_of_set s which) x)) (Rattle.jo_rule.specs.Areas.inline_words (put w (name_of_set s which) x))
unborn_put w cells s Transition x born r = record { children = r.children; transitions = λ t e. (let n : eqb t.0 s.0 ≡ false = ne_eqb t.0 s.0 (λ f. born (ap (nodes w) (let same : s ≡ t = λ i. record { 0 = sym f i } in same) ∙ e)) in rw n (r.transitions t e)); writes = r.writes; offsets = r.offsets }
unborn_put w cells s Write x born r = record { children = r.children; transitions = r.transitions; writes = λ t e. (let n : eqb t.0 s.0 ≡ false = ne_eqb t.0 s.0 (λ f. born (ap (nodes w) (let same : s ≡ t = λ i. record { 0 = sym f i } in same) ∙ e)) in rw n (r.writes t e)); offsets = r.offsets }

-- ---- what each store of a set owes

sets_path : (w : Words) (s : Sid) (which : SetKind) (x : ℕ) → set_watched (watched w) s which x ≡ watched (put w (name_of_set s which) x)
sets_path w s which x = λ i t kind. sym (watched_put w s which x t kind) i

sets_at : {P : ℕ} {w : Words} {views : List View} (id : ℕ) (v u : View) (r : Rule P w views) → get_elem? views id ≡ some v → v.live ≡ true → u.live ≡ true → SameItems v u → v.storage ≡ u.storage → v.births ≡ u.births → v.lock ≡ u.lock → (s : Sid) (which : SetKind) (x : ℕ) (log : Log Mark) → nodes w s ≢ 0 → after P log ≡ after P r.log
    → Rattle.jo_rule.specs.Histories.Placements P (set views id u) → Rattle.jo_rule.specs.Histories.Histories P log r.made r.home (set views id u) → Sights P (w epoch) (values w) r.cell r.shape r.role r.now (set_watched (watched w) s which x) log (set views id u)
    → BornSo log r.cell r.so → Marked log r.cell r.shape (set_watched (watched w) s which x) → Counted P log r.cell r.shape → Concluded P log (set views id u) → Raised P r.made (w epoch) r.cell r.shape (set_watched (watched w) s which x) (set views id u) → ViewIsTimed (w epoch) (acknowledgements w) id u → Rule P (put w (name_of_set s which) x) (set views id u)
sets_at {P} {w} {views} id v u r at l lu same store births lock s Transition x log born heap placements histories sights came marked counted concluded raised times = record {
  log = log;
  made = r.made;
  home = r.home;
  node = r.node;
  shape = r.shape;
  cell = r.cell;
  role = r.role;
  now = r.now;
  so = r.so;
  placements = placements;
  histories = histories;
  coded = r.coded;
  shaped = r.shaped;
  contents = subst (Contents P (values w) r.cell r.shape r.role r.now) (sym heap) r.contents;
  owned = subst (λ (h : Heap). Owned (stored w) r.role h (set views id u)) (sym heap) (same_owned views id u v at l same.number store (ap (λ (b : Rattle.jo_rule.specs.Views.Births). b.objects) births) r.owned);
  structures = same_structures views id v u at l same.number (ap Rattle.jo_rule.specs.Owned.structures_in births) r.structures;
  locks = subst (λ (h : Heap). Locks (stored w) r.cell r.now h (set views id u)) (sym heap) (same_locks views id v u at l lu lock (λ j y e ly g f n k lt. refl) r.locks);
  unborn = unborn_put w r.cell s Transition x born r.unborn;
  unmade = subst (λ (h : Heap). Unmade P r.made (acknowledgements w) (nodes w) (stored w) r.role h) (sym heap) r.unmade;
  sights = subst (λ (f : Sid → SetKind → ℕ). Sights P (w epoch) (values w) r.cell r.shape r.role r.now f log (set views id u)) (sets_path w s Transition x) sights;
  born_so = came;
  marked = subst (Marked log r.cell r.shape) (sets_path w s Transition x) marked;
  allowed = allowed_same views id v u at l same.flat r.allowed;
  timing = timing_set views id u r.timing times;
  lasting = lasting_same views id v u at l same.lasting r.lasting;
  counted = counted;
  concluded = concluded;
  raised = subst (λ (f : Sid → SetKind → ℕ). Raised P r.made (w epoch) r.cell r.shape f (set views id u)) (sets_path w s Transition x) raised;
}
sets_at {P} {w} {views} id v u r at l lu same store births lock s Write x log born heap placements histories sights came marked counted concluded raised times = record {
  log = log;
  made = r.made;
  home = r.home;
  node = r.node;
  shape = r.shape;
  cell = r.cell;
  role = r.role;
  now = r.now;
  so = r.so;
  placements = placements;
  histories = histories;
  coded = r.coded;
  shaped = r.shaped;
  contents = subst (Contents P (values w) r.cell r.shape r.role r.now) (sym heap) r.contents;
  owned = subst (λ (h : Heap). Owned (stored w) r.role h (set views id u)) (sym heap) (same_owned views id u v at l same.number store (ap (λ (b : Rattle.jo_rule.specs.Views.Births). b.objects) births) r.owned);
  structures = same_structures views id v u at l same.number (ap Rattle.jo_rule.specs.Owned.structures_in births) r.structures;
  locks = subst (λ (h : Heap). Locks (stored w) r.cell r.now h (set views id u)) (sym heap) (same_locks views id v u at l lu lock (λ j y e ly g f n k lt. refl) r.locks);
  unborn = unborn_put w r.cell s Write x born r.unborn;
  unmade = subst (λ (h : Heap). Unmade P r.made (acknowledgements w) (nodes w) (stored w) r.role h) (sym heap) r.unmade;
  sights = subst (λ (f : Sid → SetKind → ℕ). Sights P (w epoch) (values w) r.cell r.shape r.role r.now f log (set views id u)) (sets_path w s Write x) sights;
  born_so = came;
  marked = subst (Marked log r.cell r.shape) (sets_path w s Write x) marked;
  allowed = allowed_same views id v u at l same.flat r.allowed;
  timing = timing_set views id u r.timing times;
  lasting = lasting_same views id v u at l same.lasting r.lasting;
  counted = counted;
  concluded = concluded;
  raised = subst (λ (f : Sid → SetKind → ℕ). Raised P r.made (w epoch) r.cell r.shape f (set views id u)) (sets_path w s Write x) raised;
}

abbrev pub firing_of : Sid → SetKind → ℕ → Firing
firing_of s which e = record { structure = s; which = which; since = e }

-- the view after the exchange that finds a set valid: it owes the firing and a raise
abbrev pub firing_set : View → Log Mark → Sid → SetKind → Counts → View
firing_set v log s which counts = record v { past = record v.past { seen = log }; sets = record v.sets { firing = Some (firing_of s which 0) }; time = record v.time { owed = v.time.owed + 1 }; counts = counts }

module _ {P : ℕ} {w : Words} {views : List View} (id : ℕ) (v : View) (r : Rule P w views) (at : get_elem? views id ≡ some v) (l : v.live ≡ true) where
  -- a set whose structure is born
  born_node : (s : Sid) → (r.shape s).born ≡ true → nodes w s ≢ 0
  born_node s born e = both_ways (r.shape s).born (ap (λ (z : Shape). z.born) (r.shaped.unborn s (Rattle.jo_rule.proofs.Shaped.unborn_of_word r.shaped s e))) born

  -- The exchange that finds a set valid places its mark: by a pass that may disturb the object, whose structure comes from the same root.
  pub fires_set : (o : ObjId) (s : Sid) (which : SetKind) (counts : Counts) → watched w s which ≡ VALID → v.sets.firing ≡ None → (r.shape s).born ≡ true → (r.shape s).root ≡ o.pass → IsCauseToFire r.log v.number which o → NotOpened v.lock → v.flat ≡ true
      → Rule P (put w (name_of_set s which) FIRING) (set views id (firing_set v (r.log ++ mark v.number (fired s which o) ∷ []) s which counts))
  fires_set o s which counts valid free born root cause closed may =
      let e : LogEntry Mark = mark v.number (fired s which o) in
      let log' = r.log ++ e ∷ [] in
      let u = firing_set v log' s which counts in
      let same : SameItems v u = numbers_of v u refl refl refl refl refl refl in
      let more = continues r.log log' (e ∷ [], refl) in
      let sets' = set_watched (watched w) s which FIRING in
      let firer' = set_watched r.sights.firer s which id in
      let law : IsLawfulMark P r.log v.number (fired s which o) = (cause, (λ n t q f. r.marked.valid s which valid (record { at = n; by = t; object = q; is = f }))) in
      let heap : after P log' ≡ after P r.log = after-push P r.log e in
      let kept : (t : Sid) (kind : SetKind) → watched w t kind ≡ FIRED → sets' t kind ≡ FIRED = each_watched (watched w) s which FIRING (λ t kind x. watched w t kind ≡ FIRED → x ≡ FIRED) (λ f. absurd (omega (arith, valid, f))) (λ t kind n f. f) in
      let relied : (t : Sid) (kind : SetKind) (n : ℕ) → IsRelied (watched w) r.sights.sealed t kind n → IsRelied sets' r.sights.sealed t kind n = λ t kind n h. record { unfired = each_watched (watched w) s which FIRING (λ t kind x. watched w t kind ≢ FIRED → x ≢ FIRED) (λ f g. omega (arith, g)) (λ t kind n f. f) t kind h.unfired; older = h.older } in
      let go : (j : ℕ) (y : View) → ViewIsSighted P (w epoch) (values w) r.cell r.shape r.role r.now (watched w) r.log r.sights.floor r.sights.sealed r.sights.firer j y → (known : Sets) → known.fired ≡ y.sets.fired → ((f : Firing) → known.firing ≡ Some f → IsFiring sets' r.sights.sealed firer' j f)
      → IsSighted P (w epoch) (values w) r.cell r.shape r.role r.now sets' log' r.sights.floor r.sights.sealed firer' j y.number y.sight known y.quarantine y.time.clear y.lock = λ j y h known fs fi. record {
        sees = λ k p f key. sees_on (h.sees k p f key) more (λ a n. refl);
        follows = h.follows;
        owning = λ k p f. let b = h.owning k p f in record {
          writes = λ pl. ⊎_elim (λ (z : r.cell p.object ≡ Some p.cell). inl z) (λ (z : watched w p.cell.sid Write ≡ FIRED). inr (kept p.cell.sid Write z)) (b.writes pl);
          transitions = λ pl. ⊎_elim (λ (z : HasStayed (r.cell p.object) p). inl z) (λ (z : watched w p.cell.sid Transition ≡ FIRED). inr (kept p.cell.sid Transition z)) (b.transitions pl);
        };
        timed = h.timed;
        licensed = λ k x f. let b = h.licensed k x f in record { index = b.index; is = b.is; plain = b.plain; writes = λ z. relied x.pin.cell.sid Write x.pin.epoch (b.writes z); transitions = λ z. relied x.pin.cell.sid Transition x.pin.epoch (b.transitions z) };
        firing = fi;
        fired = subst (λ (q : List (Sid × SetKind)). Each q (λ k z. sets' z.0 z.1 ≡ FIRED)) (sym fs) (λ k z f. kept z.0 z.1 (h.fired k z f));
        knows = λ name word f. let b = h.knows name word f in record { place = b.place; name_is = b.name_is; is = b.is; object = b.object; spot = b.spot; role_is = b.role_is; right = subst (λ (q : List (Sid × SetKind)). Rattle.jo_rule.specs.Sights.HasRight r.shape y.sight.licences y.lock q b.object b.spot) (sym fs) b.right };
        stamped = h.stamped;
        cleared = h.cleared;
      } in
      let others : (j : ℕ) (y : View) → (f : Firing) → IsFiring (watched w) r.sights.sealed r.sights.firer j f → IsFiring sets' r.sights.sealed firer' j f = λ j y f h.
      let away : (f.structure ≡ s) → (f.which ≡ which) → ⊥ = λ a b. (let state : watched w s which ≡ FIRING = (λ i. watched w (sym a i) (sym b i)) ∙ h.state in omega (arith, valid, state)) in
      record { state = set_else (watched w) s which FIRING f.structure f.which away ∙ h.state; since = h.since; mine = set_else r.sights.firer s which id f.structure f.which away ∙ h.mine } in
      sets_at id v u r at l l same refl refl refl s which FIRING log' (born_node s born) heap
      (mark_placements views id v u at l (numbers same) r.histories (fired s which o) law refl r.placements) (mark_histories views id v u at l (numbers same) r.histories (fired s which o) law refl r.placements)
      record {
        floor = r.sights.floor;
        sealed = r.sights.sealed;
        firer = firer';
        each = live_set (ViewIsSighted P (w epoch) (values w) r.cell r.shape r.role r.now (watched w) r.log r.sights.floor r.sights.sealed r.sights.firer) (ViewIsSighted P (w epoch) (values w) r.cell r.shape r.role r.now sets' log' r.sights.floor r.sights.sealed firer') views id u r.sights.each
            (λ j y n f ly h. go j y h y.sets refl (λ q g. others j y q (h.firing q g)))
            (go id v (r.sights.each id v at l) u.sets refl (λ f g. (let both : Some (firing_of s which 0) ≡ Some f = g in let one : firing_of s which 0 ≡ f = cc in subst (IsFiring sets' r.sights.sealed firer' id) one record { state = set_here (watched w) s which FIRING; since = r.sights.unsealed s which valid; mine = set_here r.sights.firer s which id })));
        floors = r.sights.floors;
        few = r.sights.few;
        states = each_watched (watched w) s which FIRING (λ t kind x. (x ≡ VALID) ⊎ ((x ≡ FIRING) ⊎ (x ≡ FIRED))) (inr (inl refl)) (λ t kind n. r.sights.states t kind);
        unsealed = each_watched (watched w) s which FIRING (λ t kind x. x ≡ VALID → r.sights.sealed t kind ≡ 0) (λ f. absurd (omega (arith, f))) (λ t kind n. r.sights.unsealed t kind);
      }
      (born_so_more r.born_so e (λ by m f q why g. (let both : mark v.number (fired s which o) ≡ mark by (opened q why) = f ∙ ap (λ (z : Mark). mark by z) g in cc)))
      record {
        shared = λ q c f g. foreign_later r.log e q.pass (r.marked.shared q c f g);
        disturbed = each_watched (watched w) s which FIRING (λ t kind x. x ≢ VALID → HasForeignMark (r.shape t).root log') (λ n. subst (λ (p : ℕ). HasForeignMark p log') (sym root) (disturbs r.log v.number which o s cause)) (λ t kind n f. foreign_later r.log e (r.shape t).root (r.marked.disturbed t kind f));
        noted = each_watched (watched w) s which FIRING (λ t kind x. x ≢ VALID → WasFired log' t kind) (λ n. record { at = length r.log; by = v.number; object = o; is = get_last r.log e }) (λ t kind n f. fired_more e (r.marked.noted t kind f));
        valid = each_watched (watched w) s which FIRING (λ t kind x. x ≡ VALID → WasFired log' t kind → ⊥) (λ f g. omega (arith, f))
            (λ t kind n f g. r.marked.valid t kind f (fired_before_of r.log e g (λ by q k. (let both : mark v.number (fired s which o) ≡ mark by (fired t kind q) = k in n (let a : s ≡ t = cc in sym a) (let b : which ≡ kind = cc in sym b)))));
        rooted = λ n by t kind q f. elim (get-push r.log e n (mark by (fired t kind q)) f) [
          | inl was ↦ r.marked.rooted n by t kind q was.1
          | inr new ↦ rooted_last v.number by s t which kind o q new.1 born root
        ];
      }
      (counted_log r.counted (λ q. mark_counts P v.number r.log v.number (fired s which o) q))
      (concluded_fired views id v u at l (numbers same) r.concluded r.histories s which o closed refl refl refl)
      (raised_set_reason views id v u at l (numbers same) r.histories r.raised may refl free refl refl sets' (each_watched (watched w) s which FIRING (λ t kind x. set_reasons (watched w t kind) ≤ set_reasons x) (let none_ = ap set_reasons valid in omega (arith, none_)) (λ t kind n. omega arith)) s which (firing_of s which 0) refl refl refl
      (λ t kind e. ⊎_elim (λ (x : (t ≡ s) × (kind ≡ which)). inr x) (λ (n : (t ≡ s) → (kind ≡ which) → ⊥). inl (sym (set_else (watched w) s which FIRING t kind n) ∙ e)) (set_cases s which t kind)) born
      (let none_ = ap set_reasons valid in let one = ap set_reasons (set_here (watched w) s which FIRING) in omega (arith, none_, one))) (timed_owing (v.time.owed + 1) (r.timing.timed id v at l))
    where
      foreign_later : (log : Log Mark) (e : LogEntry Mark) (p : ℕ) → HasForeignMark p log → HasForeignMark p (log ++ e ∷ [])
      foreign_later log e p h = Rattle.jo_rule.proofs.Marked.foreign_more log e p h

      fired_before_of : (log : Log Mark) (e : LogEntry Mark) {t : Sid} {kind : SetKind} → WasFired (log ++ e ∷ []) t kind → ((by : ℕ) (q : ObjId) → e ≢ mark by (fired t kind q)) → WasFired log t kind
      fired_before_of log e {t} {kind} h n = Rattle.jo_rule.proofs.Marked.fired_before e n h

      rooted_last : (a b : ℕ) (s t : Sid) (which kind : SetKind) (o q : ObjId) → mark a (fired s which o) ≡ mark b (fired t kind q) → (r.shape s).born ≡ true → (r.shape s).root ≡ o.pass → ((r.shape t).born ≡ true) × ((r.shape t).root ≡ q.pass)
      rooted_last a b s t which kind o q e born root = (let one : s ≡ t = cc in let two : o ≡ q = cc in (ap (λ (z : Sid). (r.shape z).born) (sym one) ∙ born, ap (λ (z : Sid). (r.shape z).root) (sym one) ∙ (root ∙ ap (λ (z : ObjId). z.pass) two)))

      foreign_is : (t : ℕ) (o : ObjId) → t ≢ o.pass → ((o.pass == o.pass) && not (t == o.pass)) ≡ true
      foreign_is t o n = let a : eqb o.pass o.pass ≡ true = eq-eqb o.pass o.pass refl in let b : eqb t o.pass ≡ false = ne_eqb t o.pass n in rw (a, b) refl

      disturbs : (log : Log Mark) (t : ℕ) (which : SetKind) (o : ObjId) (s : Sid) → IsCauseToFire log t which o → HasForeignMark o.pass (log ++ mark t (fired s which o) ∷ [])
      disturbs log t Write o s n = foreign_last log (mark t (fired s Write o)) o.pass (foreign_is t o n)
      disturbs log t Transition o s h = ⊎_elim (λ (n : t ≢ o.pass). foreign_last log (mark t (fired s Transition o)) o.pass (foreign_is t o n)) (λ (f : HasForeignMark o.pass log). foreign_later log (mark t (fired s Transition o)) o.pass f) h

-- the view after the store that ends a firing
abbrev pub fired_set : View → Sid → SetKind → Counts → View
fired_set v s which counts = record v { sight = no_sight; sets = record { fired = (s, which) ∷ v.sets.fired; firing = None }; counts = counts }

module _ {P : ℕ} {w : Words} {views : List View} (id : ℕ) (v : View) (r : Rule P w views) (at : get_elem? views id ≡ some v) (l : v.live ≡ true) where
  -- The handshake is over: no licence relies on the set, and it is fired.
  pub stores_fired : (s : Sid) (which : SetKind) (e : ℕ) (counts : Counts) → v.sets.firing ≡ Some (firing_of s which e) → 0 < e → AllClear P v e → Rule P (put w (name_of_set s which) FIRED) (set views id (fired_set v s which counts))
  stores_fired s which e counts owed some_e clear =
      let u = fired_set v s which counts in
      let same : SameItems v u = numbers_of v u refl refl refl refl refl refl in
      let mine = r.sights.each id v at l in
      let fi = mine.firing (firing_of s which e) owed in
      let sets' = set_watched (watched w) s which FIRED in
      let not_valid : watched w s which ≢ VALID = λ f. (let state = fi.state in omega (arith, f)) in
      let note = r.marked.noted s which not_valid in
      let born = (r.marked.rooted note.at note.by s which note.object note.is).0 in
      let kept : (t : Sid) (kind : SetKind) → watched w t kind ≡ FIRED → sets' t kind ≡ FIRED = each_watched (watched w) s which FIRED (λ t kind x. watched w t kind ≡ FIRED → x ≡ FIRED) (λ f. refl) (λ t kind n f. f) in
      let relied : (t : Sid) (kind : SetKind) (n : ℕ) → ((t ≡ s) → (kind ≡ which) → ⊥) → IsRelied (watched w) r.sights.sealed t kind n → IsRelied sets' r.sights.sealed t kind n = λ t kind n away h. record { unfired = λ f. h.unfired (sym (set_else (watched w) s which FIRED t kind away) ∙ f); older = h.older } in
      -- no licence of another pass relies on it
      let old_licence : (j : ℕ) (y : View) → j ≢ id → get_elem? views j ≡ some y → y.live ≡ true → (p : Pin) (k : ℕ) → get_elem? y.sight.pins k ≡ some p → p.epoch < e → ⊥ = λ j y n f ly p k g lt.
      let h = r.sights.each j y f ly in
      let below = (r.histories.seated j y f ly).own.1 in
      let few = r.histories.few in
      let c = clear y.number (omega arith) (λ x. apart r id j v y n at l f ly (sym x)) in
      let low = mine.cleared c.0 c.1 c.2 in
      let floor_is : r.sights.floor c.1.pass ≡ r.sights.floor y.number = ap r.sights.floor c.3 in
      let past = c.4 in
      let above = (h.timed k p g).0 in omega arith in
      let apart_from : (j : ℕ) (y : View) → j ≢ id → get_elem? views j ≡ some y → y.live ≡ true → (t : Sid) (kind : SetKind) (p : Pin) (k : ℕ) → get_elem? y.sight.pins k ≡ some p → IsRelied (watched w) r.sights.sealed t kind p.epoch → (t ≡ s) → (kind ≡ which) → ⊥ = λ j y n f ly t kind p k g h a b.
      let since : r.sights.sealed t kind ≡ e = (λ i. r.sights.sealed (a i) (b i)) ∙ fi.since in
      let lt : p.epoch < r.sights.sealed t kind = h.older (omega arith) in
      old_licence j y n f ly p k g (omega arith) in
      sets_at id v u r at l l same refl refl refl s which FIRED r.log (born_node id v r at l s born) refl (same_placements views id v u at l (numbers same) refl r.placements) (same_histories views id v u at l (numbers same) refl r.histories)
      record {
        floor = r.sights.floor;
        sealed = r.sights.sealed;
        firer = r.sights.firer;
        each = live_set (ViewIsSighted P (w epoch) (values w) r.cell r.shape r.role r.now (watched w) r.log r.sights.floor r.sights.sealed r.sights.firer) (ViewIsSighted P (w epoch) (values w) r.cell r.shape r.role r.now sets' r.log r.sights.floor r.sights.sealed r.sights.firer) views id u r.sights.each
            (λ j y n f ly h. record {
              sees = h.sees;
              follows = h.follows;
              owning = λ k p g. let b = h.owning k p g in record {
                writes = λ pl. ⊎_elim (λ (z : r.cell p.object ≡ Some p.cell). inl z) (λ (z : watched w p.cell.sid Write ≡ FIRED). inr (kept p.cell.sid Write z)) (b.writes pl);
                transitions = λ pl. ⊎_elim (λ (z : HasStayed (r.cell p.object) p). inl z) (λ (z : watched w p.cell.sid Transition ≡ FIRED). inr (kept p.cell.sid Transition z)) (b.transitions pl);
              };
              timed = h.timed;
              licensed = λ k x g. let b = h.licensed k x g in record {
                index = b.index;
                is = b.is;
                plain = b.plain;
                writes = λ z. relied x.pin.cell.sid Write x.pin.epoch (apart_from j y n f ly x.pin.cell.sid Write x.pin b.index b.is (b.writes z)) (b.writes z);
                transitions = λ z. relied x.pin.cell.sid Transition x.pin.epoch (apart_from j y n f ly x.pin.cell.sid Transition x.pin b.index b.is (b.transitions z)) (b.transitions z);
              };
              firing = λ q g. let b = h.firing q g in record {
                state = set_else (watched w) s which FIRED q.structure q.which (λ a c. n (sym b.mine ∙ ((λ i. r.sights.firer (a i) (c i)) ∙ fi.mine))) ∙ b.state;
                since = b.since;
                mine = b.mine;
              };
              fired = λ k z g. kept z.0 z.1 (h.fired k z g);
              knows = h.knows;
              stamped = h.stamped;
              cleared = h.cleared;
            })
            record {
              sees = no_each (λ k p. is_keyed p.cell.kind ≡ true → Sees P (values w) (r.shape p.cell.sid) r.role r.log p);
              follows = no_each (λ k p. is_keyed p.cell.kind ≡ true → IsFollowed r.role r.shape (r.cell p.object) (r.now p.object) v.number p);
              owning = no_each (λ k p. Owning sets' (r.cell p.object) v.number p);
              timed = no_each (λ k p. (r.sights.floor v.number ≤ p.epoch) × (p.epoch ≤ w epoch));
              licensed = no_each (λ k x. Licensed sets' r.sights.sealed [] v.number x);
              firing = λ f g. (let no : None ≡ Some f = g in absurd cc);
              fired = cons_each (λ (z : Sid × SetKind). sets' z.0 z.1 ≡ FIRED) (s, which) v.sets.fired (set_here (watched w) s which FIRED) (λ k z g. kept z.0 z.1 (mine.fired k z g));
              knows = λ name word g. (let no : None ≡ Some word = g in absurd cc);
              stamped = mine.stamped;
              cleared = mine.cleared;
            };
        floors = r.sights.floors;
        few = r.sights.few;
        states = each_watched (watched w) s which FIRED (λ t kind x. (x ≡ VALID) ⊎ ((x ≡ FIRING) ⊎ (x ≡ FIRED))) (inr (inr refl)) (λ t kind n. r.sights.states t kind);
        unsealed = each_watched (watched w) s which FIRED (λ t kind x. x ≡ VALID → r.sights.sealed t kind ≡ 0) (λ f. absurd (omega (arith, f))) (λ t kind n. r.sights.unsealed t kind);
      }
      r.born_so
      record {
        shared = r.marked.shared;
        disturbed = each_watched (watched w) s which FIRED (λ t kind x. x ≢ VALID → HasForeignMark (r.shape t).root r.log) (λ n. r.marked.disturbed s which not_valid) (λ t kind n f. r.marked.disturbed t kind f);
        noted = each_watched (watched w) s which FIRED (λ t kind x. x ≢ VALID → WasFired r.log t kind) (λ n. note) (λ t kind n f. r.marked.noted t kind f);
        valid = each_watched (watched w) s which FIRED (λ t kind x. x ≡ VALID → WasFired r.log t kind → ⊥) (λ f g. omega (arith, f)) (λ t kind n f g. r.marked.valid t kind f g);
        rooted = r.marked.rooted;
      }
      r.counted (concluded_same views id v u at l (numbers same) r.concluded (alike_same refl) refl (at_least_same v.past.calls v.past.calls refl))
      (raised_sets views id v u at l (numbers same) r.histories r.raised refl (firing_of s which e) owed refl refl sets' (each_watched (watched w) s which FIRED (λ t kind x. set_reasons (watched w t kind) ≤ set_reasons x) (let firing = ap set_reasons fi.state in omega (arith, firing)) (λ t kind n. omega arith))
      (λ t kind b. ⊎_elim (λ (x : (t ≡ s) × (kind ≡ which)). absurd (let one : sets' t kind ≡ FIRED = (λ i. sets' (x.0 i) (x.1 i)) ∙ set_here (watched w) s which FIRED in omega (arith, one, b)))
      (λ (n : (t ≡ s) → (kind ≡ which) → ⊥). (sym (set_else (watched w) s which FIRED t kind n) ∙ b, λ a c. n (sym a) (sym c))) (set_cases s which t kind))) (timed_dropped (r.timing.timed id v at l))
