-- A made set is short.
use Rattle.std.proofs.Common.{ℕ, ◌+◌, ◌*◌, ◌≤◌, ◌<◌, zero, suc, List, ◌++◌, length, arith, length-append}
use Rattle.std.specs.Prelude.{◌%◌, codes, decimal}
use Rattle.std.proofs.lemmas.Fmt.{length-decimal-le}
use Rattle.jo_made.specs.Made.{next_draw, draw, opening, put_line, loop_head, loop_tail, delete_line, made_script, more_scripts, made}

-- ---- its numbers

below : (n x : ℕ) → draw (suc n) x < 1009
below zero x = omega arith
below (suc n) x = below n (next_draw x)

script_digit : (t : ℕ) → t < 10 → length (decimal t) ≤ 1
script_digit t few = length-decimal-le 1 t (omega arith) (omega (arith, few)) (omega (arith, few))

draw_digits : (n x : ℕ) → length (decimal (draw (suc n) x)) ≤ 4
draw_digits n x = let small : draw (suc n) x < 1009 = below n x in length-decimal-le 4 (draw (suc n) x) (omega arith) (omega (arith, small)) (omega (arith, small))

-- ---- its lines

opening_short : (t : ℕ) → t < 10 → length (opening t) ≤ 60
opening_short t few = let one : length (decimal t) ≤ 1 = script_digit t few in simp length-append (omega (arith, one))

put_short : (t k n x : ℕ) → t < 10 → k < 10 → length (put_line t k (draw (suc n) x)) ≤ 60
put_short t k n x few little =
    let one : length (decimal t) ≤ 1 = script_digit t few in
    let name : length (decimal k) ≤ 1 = script_digit k little in
    let four : length (decimal (draw (suc n) x)) ≤ 4 = draw_digits n x in
    simp length-append (omega (arith, one, name, four))

head_short : (n x : ℕ) → length (loop_head (draw (suc n) x)) ≤ 60
head_short n x = let four : length (decimal (draw (suc n) x)) ≤ 4 = draw_digits n x in simp length-append (omega (arith, four))

tail_short : (t : ℕ) → t < 10 → length (loop_tail t) ≤ 60
tail_short t few = let one : length (decimal t) ≤ 1 = script_digit t few in simp length-append (omega (arith, one))

delete_short : (t : ℕ) → t < 10 → length (delete_line t) ≤ 60
delete_short t few = let one : length (decimal t) ≤ 1 = script_digit t few in simp length-append (omega (arith, one))

-- ---- its scripts

-- ten texts of at most 60 bytes
ten_short : (a b c d e f g h i j : List ℕ) → length a ≤ 60 → length b ≤ 60 → length c ≤ 60 → length d ≤ 60 → length e ≤ 60
    → length f ≤ 60 → length g ≤ 60 → length h ≤ 60 → length i ≤ 60 → length j ≤ 60
    → length (a ++ b ++ c ++ d ++ e ++ f ++ g ++ h ++ i ++ j) ≤ 600
ten_short a b c d e f g h i j la lb lc ld le lf lg lh li lj = simp length-append (omega arith)

script_short : (t x : ℕ) → t < 10 → length (made_script t x) ≤ 600
script_short t x few =
    ten_short (opening t) (put_line t 0 (draw 1 x)) (put_line t 1 (draw 2 x)) (put_line t 2 (draw 3 x)) (put_line t 3 (draw 4 x))
    (loop_head (draw 5 x)) (loop_tail t) (delete_line t) (put_line t 0 (draw 6 x)) (codes "print(a.c);\n")
    (opening_short t few) (put_short t 0 0 x few (omega arith)) (put_short t 1 1 x few (omega arith)) (put_short t 2 2 x few (omega arith))
    (put_short t 3 3 x few (omega arith)) (head_short 4 x) (tail_short t few) (delete_short t few) (put_short t 0 5 x few (omega arith)) (omega arith)

more_short : (count t x : ℕ) → t + count ≤ 10 → length (more_scripts count t x) ≤ 610 * count
more_short zero t x few = omega arith
more_short (suc count) t x few =
    let script = made_script t x in
    let rest = more_scripts count (t + 1) (draw 6 x) in
    let short : length script ≤ 600 = script_short t x (omega (arith, few)) in
    let others : length rest ≤ 610 * count = more_short count (t + 1) (draw 6 x) (omega (arith, few)) in
    omega (arith, length-append (codes "%%\n" ++ script) rest, length-append (codes "%%\n") script, short, others)

-- It has at most eight scripts of at most 600 bytes, and what separates them, which is far less than an input may have.
pub made_short : (n : ℕ) → length (made n) ≤ 5000
unfolding made
made_short n =
    let first = made_script 1 (n % 1009) in
    let rest = more_scripts (1 + n % 7) 2 (draw 6 (n % 1009)) in
    let short : length first ≤ 600 = script_short 1 (n % 1009) (omega arith) in
    let others : length rest ≤ 610 * (1 + n % 7) = more_short (1 + n % 7) 2 (draw 6 (n % 1009)) (omega arith) in
    omega (arith, length-append first rest, short, others)
