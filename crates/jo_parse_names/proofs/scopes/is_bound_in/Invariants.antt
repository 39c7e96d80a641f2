use Rattle.std.proofs.Common.{◌≡◌, reverse, length}
use Rattle.jo_parse_grammar.specs.Declarations.{is_bound}
use Rattle.jo_parse_names.proofs.scopes.is_bound_in.Given as goal

abbrev pub invariant-loop-block : goal.invariant-loop-block
invariant-loop-block l = is_bound (reverse l.fn.blocks) l.name ≡ is_bound (reverse l.blocks) l.name

abbrev pub decreases-loop-block : goal.decreases-loop-block
decreases-loop-block l = length l.blocks
