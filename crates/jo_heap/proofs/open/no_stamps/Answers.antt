use Rattle.std.proofs.Common.{◌≡◌, ℕ, Vec, Global, Result, Ok, Err, replicate, sym, subst, refl}
use Rattle.std.specs.Prelude.{IfOk}
use Rattle.std.proofs.lemmas.List.{length-replicate}
use Rattle.std.proofs.lemmas.List.Elements.{All-replicate}
use Rattle.jo_value.specs.declared.capacities.TheConstants.{STAMP_WORDS}
use Rattle.jo_steps.specs.Views.{AreNoStamps}
use Rattle.jo_heap.proofs.open.no_stamps.Goals as goal

none_given : AreNoStamps (replicate STAMP_WORDS 0)
none_given = record { all = length-replicate {A = ℕ} STAMP_WORDS 0; zero = All-replicate (λ (stamp : ℕ). stamp ≡ 0) STAMP_WORDS 0 refl }

none_if : {E Are : Type 0} (r : Result (Vec ℕ Global) E) → IfOk r (λ v. Are → v.items ≡ replicate STAMP_WORDS 0) → Are → IfOk r (λ v. AreNoStamps v.items)
none_if (Ok v) h are = subst AreNoStamps (sym (h are)) none_given
none_if (Err e) h are = tt

pub returns : goal.returns
returns c = none_if c.vec.result c.vec.ensures.items_if_clones_equal (λ y e. e)
