-- The passes of a new heap for two threads, and its end.
use Rattle.std.proofs.Common.{◌≡◌, ◌≢◌, ℕ, ◌+◌, ◌<◌, ◌≤◌, List, [], ◌∷◌, ◌++◌, length, Some, slice_index_or, sym, ap, ◌∙◌, subst, refl, arith, lit<, ⊎_elim}
use Rattle.std.proofs.lemmas.Bool.{cases_lt}
use Rattle.std.proofs.lemmas.Option.{slice_get-get_or}
use lib.ListN.{get_elem?}
use Rattle.jo_model.specs.Heaps.{shared, IsBorn}
use Rattle.jo_model.specs.Logs.{Log, after}
use Rattle.jo_value.specs.declared.capacities.TheConstants.{UNSTAMPED}
use Rattle.jo_rule.specs.Ending.{HasJoinedAll}
use Rattle.jo_rule.specs.Marks.{Mark}
use Rattle.jo_rule.specs.Steps.{joined, kept_of, new_view}
use Rattle.jo_rule.specs.Tidy.{IsTidy}
use Rattle.jo_rule.specs.Views.{View, Kept}
use Rattle.jo_steps.specs.Views.{HeapView, PassView, IsPassOf}
use Rattle.jo_guard.specs.Ready.{IsReady}
use Rattle.jo_heap.specs.Opening.{AreOpened, opened_view}
use Rattle.embedding_example.specs.Working.{MayCall}

pub opened_at : (h : HeapView) (ps : List PassView) → h.passes ≡ 3 → AreOpened h ps → (t : ℕ) (p : PassView) → t < 3 → p ≡ slice_index_or ps t p → IsPassOf h p × (p.view ≡ opened_view 3 t)
opened_at h ps three opened t p lt is =
    let all = opened.all in
    let within : t < length ps = omega (arith, all, three, lt) in
    let both = opened.each t p (slice_get-get_or ps t p within ∙ ap Some (sym is)) in
    (both.0, subst (λ (n : ℕ). p.view ≡ opened_view n t) three both.1)

abbrev pub fresh_view : ℕ → View
fresh_view t = record new_view { number = t }

tidy_at_start : (passes t : ℕ) → IsTidy passes (fresh_view t)
tidy_at_start passes t = record {
  no_raise = refl;
  no_firing = refl;
  stamped = λ o offset e. (let no : 0 ≡ UNSTAMPED = e in omega arith);
  storage = omega arith;
  structures = omega arith;
}

-- the pass of a thread may make calls on the shared object
pub starts : (h : HeapView) (p : PassView) (k : ℕ) → IsPassOf h p × (p.view ≡ fresh_view (k + 1)) → MayCall h shared p × (p.view.number ≡ k + 1) × (p.view.kept ≡ [])
starts h p k both =
    let number : p.view.number ≡ k + 1 = ap (λ (v : View). v.number) both.1 in
    let ready : IsReady h p = record {
      of_heap = both.0;
      script = λ z. omega (arith, number, z);
      tidy = subst (IsTidy h.passes) (sym both.1) (tidy_at_start h.passes (k + 1));
      free = ap (λ (v : View). v.lock) both.1;
    } in
    let born : IsBorn (after h.passes p.view.past.seen) shared = subst (λ (l : Log Mark). IsBorn (after h.passes l) shared) (sym (ap (λ (v : View). v.past.seen) both.1)) (lit< tt) in
    (record { ready = ready; born = born }, number, ap (λ (v : View). v.kept) both.1)

-- the first pass has joined both others
pub joined_two : (v x y u w : View) → v ≡ opened_view 3 0 → x ≡ joined v u → y ≡ joined x w → u.number ≡ 1 → u.kept ≡ [] → w.number ≡ 2 → HasJoinedAll y
joined_two v x y u w first one two n m k =
    let kept_x : x.kept ≡ kept_of u ∷ [] = ap (λ (a : View). a.kept) one ∙ (λ i. (first i).kept ++ kept_of u ∷ m i) in
    let kept_y : y.kept ≡ kept_of u ∷ kept_of w ∷ w.kept = ap (λ (a : View). a.kept) two ∙ ap (λ (l : List Kept). l ++ kept_of w ∷ w.kept) kept_x in
    let made_y : y.made ≡ 3 = ap (λ (a : View). a.made) two ∙ (ap (λ (a : View). a.made) one ∙ ap (λ (a : View). a.made) first) in
    record {
      first = ap (λ (a : View). a.number) two ∙ (ap (λ (a : View). a.number) one ∙ ap (λ (a : View). a.number) first);
      others = λ t lo hi. ⊎_elim
          (λ (less : t < 2). let e : 1 ≡ t = omega arith in (0, kept_of u, ap (λ (l : List Kept). get_elem? l 0) kept_y, n ∙ e))
          (λ more_. let e : 2 ≡ t = omega (arith, hi, made_y) in (1, kept_of w, ap (λ (l : List Kept). get_elem? l 1) kept_y, k ∙ e))
          (cases_lt t 2);
      unlocked = ap (λ (a : View). a.lock) two ∙ (ap (λ (a : View). a.lock) one ∙ ap (λ (a : View). a.lock) first);
    }
