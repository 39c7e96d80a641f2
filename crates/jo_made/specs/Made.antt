-- The sets of scripts that are made by number.
use Rattle.std.specs.Prelude.{ℕ, ◌+◌, ◌*◌, ◌%◌, zero, suc, List, [], ◌++◌, codes, decimal}

-- the number that is drawn after this one, and the one after n draws
abbrev pub next_draw : ℕ → ℕ
next_draw x = (37 * x + 11) % 1009

abbrev pub draw : ℕ → ℕ → ℕ
draw zero x = x
draw (suc n) x = draw n (next_draw x)

-- the beginning of script t, which shares a new object
abbrev pub opening : ℕ → List ℕ
opening t = codes "let a = {};\nshared.s" ++ decimal t ++ codes " = a;\n"

-- a line that puts a number under its name k
abbrev pub put_line : ℕ → ℕ → ℕ → List ℕ
put_line t k number = codes "shared.n" ++ decimal t ++ codes "_" ++ decimal k ++ codes " = " ++ decimal number ++ codes ";\n"

-- its loop, which fills 1,000 elements of the object, from this number on
abbrev pub loop_head : ℕ → List ℕ
loop_head number = codes "let i = 0;\nwhile (i < 1000) { a[i] = i + " ++ decimal number ++ codes "; "

abbrev pub loop_tail : ℕ → List ℕ
loop_tail t = codes "a.c = i; shared[" ++ decimal t ++ codes "00 + i % 100] = i; i += 1; }\n"

-- the line that deletes the first of its names from `shared`
abbrev pub delete_line : ℕ → List ℕ
delete_line t = codes "delete shared.n" ++ decimal t ++ codes "_0;\n"

-- script t, whose six draws come after the number x
abbrev pub made_script : ℕ → ℕ → List ℕ
made_script t x =
    opening t
    ++ put_line t 0 (draw 1 x) ++ put_line t 1 (draw 2 x) ++ put_line t 2 (draw 3 x) ++ put_line t 3 (draw 4 x)
    ++ loop_head (draw 5 x) ++ loop_tail t ++ delete_line t ++ put_line t 0 (draw 6 x) ++ codes "print(a.c);\n"

-- `count` more scripts, from script t on, each after a separator
abbrev pub more_scripts : ℕ → ℕ → ℕ → List ℕ
more_scripts zero t x = []
more_scripts (suc count) t x = codes "%%\n" ++ made_script t x ++ more_scripts count (t + 1) (draw 6 x)

-- The set with this number: two to eight scripts, whose draws follow one another.
unfoldable pub made : ℕ → List ℕ
made n = made_script 1 (n % 1009) ++ more_scripts (1 + n % 7) 2 (draw 6 (n % 1009))
