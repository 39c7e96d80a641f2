use Rattle.std.proofs.Common.{◌≡◌, ℕ, vec_len, All}
use Rattle.jo_steps_tests.proofs.opening.no_stamps.Given as goal

abbrev pub invariant-loop-at : goal.invariant-loop-at
invariant-loop-at l = record {
  len : vec_len l.stamps ≡ l._at;
  zero : All (λ (stamp : ℕ). stamp ≡ 0) l.stamps.items;
}
