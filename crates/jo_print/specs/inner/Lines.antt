-- The first of some lines.
use Rattle.std.specs.Prelude.{ℕ, ◌==◌, suc, List, [], ◌∷◌, if◌then◌else◌}

-- how many bytes the first line has, with its line feed, or how many there are where none ends a line
abbrev pub line_len : List ℕ → ℕ
line_len [] = 0
line_len (b ∷ lines) = if b == 10 then 1 else suc (line_len lines)
