use Rattle.std.proofs.Common.{◌≡◌, ℕ, true, length}
use Rattle.std.specs.Str.{chars}
use Rattle.jo_lex.specs.Punctuators.{longest}
use Rattle.jo_lex.specs.inner.Views.{entries_of, is_falling}
use Rattle.jo_lex.proofs.operator.lookup.Given as goal

abbrev pub invariant-loop-table : goal.invariant-loop-table
invariant-loop-table l = ((n : ℕ) × (is_falling n (entries_of l.table) ≡ true)) × (longest (entries_of l.table) (chars l.input) ≡ longest (entries_of l.initial.table) (chars l.input))

abbrev pub decreases-loop-table : goal.decreases-loop-table
decreases-loop-table l = length l.table
