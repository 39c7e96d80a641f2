-- How a step is counted: one count rises by one, and stays at its last value.
use Rattle.std.specs.Prelude.{ℕ, ◌+◌, min}
use Rattle.jo_rule.specs.declared.counts.Counts.{Counts}

abbrev pub one_more : ℕ → ℕ
one_more n = min (n + 1) 18446744073709551615

abbrev pub one_load : Counts → Counts
one_load c = record c { loads = one_more c.loads }

abbrev pub one_store : Counts → Counts
one_store c = record c { stores = one_more c.stores }

abbrev pub one_lock : Counts → Counts
one_lock c = record c { locks = one_more c.locks }
