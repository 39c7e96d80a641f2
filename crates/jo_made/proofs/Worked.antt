-- Worked cases: the draws after two numbers, and a whole set, by computation.
use Rattle.std.proofs.Common.{refl}
use Rattle.std.specs.Prelude.{◌≡◌, ℕ, List, [], ◌∷◌, ◌++◌, codes}
use Rattle.std.specs.Fmt.{digits}
use Rattle.jo_made.specs.Made.{draw, made}

-- the draws of a script, after a number
abbrev pub draws : ℕ → List ℕ
draws x = draw 1 x ∷ draw 2 x ∷ draw 3 x ∷ draw 4 x ∷ draw 5 x ∷ draw 6 x ∷ []

pub draws_after_seven : draws 7 ≡ 270 ∷ 920 ∷ 754 ∷ 666 ∷ 437 ∷ 36 ∷ []
draws_after_seven = refl

pub draws_after_thirty_six : draws 36 ≡ 334 ∷ 261 ∷ 587 ∷ 541 ∷ 857 ∷ 441 ∷ []
draws_after_thirty_six = refl

pub draws_after_zero : draws 0 ≡ 11 ∷ 418 ∷ 342 ∷ 557 ∷ 440 ∷ 147 ∷ []
draws_after_zero = refl

pub draws_after_those : draws 147 ≡ 405 ∷ 870 ∷ 922 ∷ 828 ∷ 377 ∷ 843 ∷ []
draws_after_those = refl

pub set_seven : made 7
    ≡ codes "let a = {};\nshared.s1 = a;\nshared.n1_0 = 270;\nshared.n1_1 = 920;\nshared.n1_2 = 754;\nshared.n1_3 = 666;\nlet i = 0;\nwhile (i < 1000) { a[i] = i + 437; a.c = i; shared[100 + i % 100] = i; i += 1; }\ndelete shared.n1_0;\nshared.n1_0 = 36;\nprint(a.c);\n"
    ++ codes "%%\n"
    ++ codes "let a = {};\nshared.s2 = a;\nshared.n2_0 = 334;\nshared.n2_1 = 261;\nshared.n2_2 = 587;\nshared.n2_3 = 541;\nlet i = 0;\nwhile (i < 1000) { a[i] = i + 857; a.c = i; shared[200 + i % 100] = i; i += 1; }\ndelete shared.n2_0;\nshared.n2_0 = 441;\nprint(a.c);\n"
unfolding digits made
set_seven = refl
