-- Totals and tallies of parts of a heap, and how large they are at most.
use Rattle.std.specs.Prelude.{ℕ, ◌+◌, ◌*◌, ◌^◌, ◌≤◌, ℤ, pos, neg_ℤ, ◌+ℤ◌, ◌≤ℤ◌, List, length}
use Rattle.jo_value.specs.declared.limits.TheConstants.{MOST_NAMES}
use Rattle.jo_value.specs.declared.value.Value.{Value}
use Rattle.jo_totals.specs.declared.tally.Tally.{Tally}
use Rattle.jo_totals.specs.declared.total.Totals.{Totals}
use Rattle.jo_totals.specs.Totals.{sum_of, number_in}

-- how many properties there are, and the sum of their numbers
abbrev pub tally_of : {K : Type 0} → List (K × Value) → Tally
tally_of properties = record { count = length properties; sum = sum_of (λ p. number_in p.1) properties }

-- the totals of the objects of two parts
abbrev pub both : Totals → Totals → Totals
both a b = record {
  objects = a.objects + b.objects;
  names = a.names + b.names;
  elements = a.elements + b.elements;
  sum = a.sum +ℤ b.sum;
}

-- no further from 0 than a sum of `count` numbers of 64 bits can be
pub record IsSumOf (count : ℕ) (sum : ℤ) : Type 0 where
  pub least : neg_ℤ (pos (count * 2 ^ 63)) ≤ℤ sum
  pub most : sum ≤ℤ pos (count * 2 ^ 63)

-- no more names and indexes than the objects can have, and a sum of no more numbers than there are of both
pub record AreBounded (t : Totals) : Type 0 where
  pub names : t.names ≤ t.objects * MOST_NAMES
  pub elements : t.elements ≤ t.objects * 2 ^ 16
  pub sum : IsSumOf (t.names + t.elements) t.sum
