-- Fragments with a comma and a blank between each two.
use Rattle.std.specs.Prelude.{ℕ, Bool, List, [], codes, if◌then◌else◌}
use Rattle.jo_model.specs.Printed.{joined}
use Rattle.jo_print.specs.inner.Fragments.{each_after}

-- what stands before a fragment
abbrev pub lead : (is_first : Bool) → List ℕ
lead is_first = if is_first then [] else codes ", "

-- fragments after others, or the first ones
abbrev pub series : (is_first : Bool) → List (List ℕ) → List ℕ
series is_first texts = if is_first then joined (codes ", ") texts else each_after (codes ", ") texts
