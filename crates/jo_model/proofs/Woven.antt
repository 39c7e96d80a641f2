-- The weave of a log and lawful placed calls is a legal history, and leaves the heap of the log.
use Rattle.std.proofs.Common.{◌≡◌, ◌+◌, ◌<◌, ◌==◌, ◌&&◌, not, ℕ, suc, true, false, List, [], ◌∷◌, ◌++◌, refl, sym, ap, ◌∙◌, subst, inl, inr, arith, length, take, slice_get, Some}
use Rattle.std.specs.Prelude.{filter, flat_map, All}
use Rattle.std.specs.List.{enumerate_from}
use Rattle.std.proofs.lemmas.Bool.{eqb-true, not-true, both_ways, and_parts}
use Rattle.std.proofs.lemmas.List.Elements.{All-nil, All-append, All-filter, All-map, filter_passes}
use Rattle.jo_model.specs.Heaps.{heap_at_start}
use Rattle.jo_model.specs.History.{is_change}
use Rattle.jo_model.specs.Logs.{Log, after}
use Rattle.jo_model.specs.Placed.{PlacedCall, is_placed_change, IsLawfulPlaced, entry_of, unchanging_at, weave, weave_from}
use Rattle.jo_model.specs.Joined.{ArePlaced}
use Rattle.jo_model.proofs.Beginnings.{taken}
use Rattle.jo_model.proofs.LegalSteps.{Stays, Goes, weave-goes}

module _ {M : Type 0} (P : ℕ) (C : Log M) where
  stays : (t : ℕ) (p : PlacedCall) → t < P → IsLawfulPlaced P C t p → is_placed_change P C p ≡ false → Stays P (take p.place C) (entry_of t p)
  stays t p lt (inl c) look = absurd (both_ways (is_placed_change P C p) look c.changing)
  stays t p lt (inr (inl q)) look = record { pass = lt; look = look; lawful = inl q.same }
  stays t p lt (inr (inr q)) look = record { pass = lt; look = look; lawful = inr q.refused }

  module _ (done rest : Log M) (is : done ++ rest ≡ C) where
    stays-here : (t : ℕ) (p : PlacedCall) → t < P → IsLawfulPlaced P C t p
        → (p.place == length done && not (is_change (after P done) p.call p.reply)) ≡ true → Stays P done (entry_of t p)
    stays-here t p lt lawful test =
        let two = and_parts (p.place == length done) (not (is_change (after P done) p.call p.reply)) test in
        let here : take p.place C ≡ done = ap (λ n. take n C) (eqb-true p.place (length done) two.0) ∙ taken C done rest is in
        subst (λ d. Stays P d (entry_of t p)) here
        (stays t p lt lawful (ap (λ d. is_change (after P d) p.call p.reply) here ∙ not-true (is_change (after P done) p.call p.reply) two.1))

    of-pass : (t : ℕ) (ps : List PlacedCall) → t < P → All (IsLawfulPlaced P C t) ps → All (Stays P done) (unchanging_at (length done) (after P done) t ps)
    of-pass t ps lt lawful =
        let test = λ (p : PlacedCall). p.place == length done && not (is_change (after P done) p.call p.reply) in
        All-map (Stays P done) (entry_of t) (filter test ps)
        (λ k d l. stays-here t _ lt (All-filter test (IsLawfulPlaced P C t) ps lawful k d l) (filter_passes test ps k d l))

    of-all : (t : ℕ) (calls : List (List PlacedCall)) → t + length calls ≡ P
        → ((i : ℕ) (ps : List PlacedCall) → slice_get calls i ≡ Some ps → All (IsLawfulPlaced P C (t + i)) ps)
        → All (Stays P done) (flat_map (λ of_pass. unchanging_at (length done) (after P done) of_pass.0 of_pass.1) (enumerate_from t calls))
    of-all t [] e lawful = All-nil (Stays P done)
    of-all t (ps ∷ calls) e lawful =
        let e' : t + suc (length calls) ≡ P = e in
        let first : t + 0 ≡ t = omega arith in
        All-append (Stays P done) (unchanging_at (length done) (after P done) t ps)
        (flat_map (λ of_pass. unchanging_at (length done) (after P done) of_pass.0 of_pass.1) (enumerate_from (t + 1) calls))
        (of-pass t ps (omega arith) (subst (λ n. All (IsLawfulPlaced P C n) ps) first (lawful 0 ps refl)))
        (of-all (t + 1) calls (omega arith)
        (λ i qs q. let next : t + suc i ≡ t + 1 + i = omega arith in subst (λ n. All (IsLawfulPlaced P C n) qs) next (lawful (suc i) qs q)))

  pub woven : (calls : List (List PlacedCall)) → ArePlaced P C calls → Goes P C [] (weave C calls)
  woven calls placed =
      let start : heap_at_start P ≡ heap_at_start (length calls) = ap heap_at_start (sym placed.all) in
      let all : 0 + length calls ≡ P = (let e = placed.all in omega arith) in
      subst (λ h. Goes P C [] (weave_from 0 h C calls)) start
      (weave-goes P C placed.logged calls
      (λ done rest is. of-all done rest is 0 calls all
      (λ i ps q. let same : i ≡ 0 + i = omega arith in subst (λ n. All (IsLawfulPlaced P C n) ps) same (placed.each i ps q).lawful))
      C [] [] refl (record { at = refl; counts = λ t. refl }))
