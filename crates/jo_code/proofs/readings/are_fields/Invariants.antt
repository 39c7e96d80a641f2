use Rattle.std.proofs.Common.{◌≡◌, drop}
use Rattle.jo_code.specs.inner.Code.{are_fields}
use Rattle.jo_parse_tree.specs.Views.{accesses_list}
use Rattle.jo_code.proofs.readings.are_fields.Given as goal

abbrev pub invariant-loop-access : goal.invariant-loop-access
invariant-loop-access l = are_fields (accesses_list l.accesses) ≡ are_fields (accesses_list (drop l.access-index l.accesses))
