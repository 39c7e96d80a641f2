use Rattle.std.proofs.Common.{◌≡◌, drop}
use Rattle.jo_code.specs.inner.Code.{are_plain_accesses}
use Rattle.jo_parse_tree.specs.Views.{accesses_list}
use Rattle.jo_code.proofs.scope.Scope.are_plain_accesses.Given as goal

abbrev pub invariant-loop-access : goal.invariant-loop-access
invariant-loop-access l = are_plain_accesses l.self (accesses_list l.accesses) ≡ are_plain_accesses l.self (accesses_list (drop l.access-index l.accesses))
