-- The first of some lines, after a head.
use Rattle.std.proofs.Common.{◌≡◌, ℕ, ◌<◌, ◌≤◌, ◌+◌, ◌==◌, suc, min, Bool, true, false, List, [], ◌∷◌, ◌++◌, length, take, drop, refl, sym, ap, ◌∙◌, append_assoc, length-drop, arith}
use Rattle.std.proofs.lemmas.List.{drop-drop, length-take-le}
use Rattle.std.specs.Prelude.{if◌then◌else◌}
use Rattle.std.specs.List.{position_or_len}
use Rattle.jo_model.specs.Rendered.{headed}
use Rattle.jo_print.specs.inner.Lines.{line_len}

-- ---- its length

len_by : (b : ℕ) (lines : List ℕ) (v : Bool) → (b == 10) ≡ v → line_len lines ≡ min (length lines) (position_or_len (λ x. x == 10) lines + 1)
    → line_len (b ∷ lines) ≡ min (length (b ∷ lines)) (position_or_len (λ x. x == 10) (b ∷ lines) + 1)
len_by b lines true e so_far = rw e (omega arith)
len_by b lines false e so_far = rw e (omega (arith, so_far))

pub line_len-place : (lines : List ℕ) → line_len lines ≡ min (length lines) (position_or_len (λ x. x == 10) lines + 1)
line_len-place [] = refl
line_len-place (b ∷ lines) = len_by b lines (b == 10) refl (line_len-place lines)

-- ---- it stands after the head, and the others come after it

rest_by : (head : List ℕ) (b : ℕ) (lines : List ℕ) (v : Bool) → headed head false lines ≡ take (line_len lines) lines ++ headed head true (drop (line_len lines) lines)
    → let n = if v then 1 else suc (line_len lines) in b ∷ headed head v lines ≡ take n (b ∷ lines) ++ headed head true (drop n (b ∷ lines))
rest_by head b lines true so_far = refl
rest_by head b lines false so_far = ap (λ l. b ∷ l) so_far

rest_of_line : (head lines : List ℕ) → headed head false lines ≡ take (line_len lines) lines ++ headed head true (drop (line_len lines) lines)
rest_of_line head [] = refl
rest_of_line head (b ∷ lines) = rest_by head b lines (b == 10) (rest_of_line head lines)

pub headed-line : (head lines : List ℕ) → 0 < length lines → headed head true lines ≡ (head ++ take (line_len lines) lines) ++ headed head true (drop (line_len lines) lines)
headed-line head [] some = absurd (omega (arith, some))
headed-line head (b ∷ lines) some =
    ap (λ l. head ++ l) (rest_by head b lines (b == 10) (rest_of_line head lines))
    ∙ sym (append_assoc head (take (line_len (b ∷ lines)) (b ∷ lines)) (headed head true (drop (line_len (b ∷ lines)) (b ∷ lines))))

-- ---- the first line from a place on

line_len-within : (lines : List ℕ) → line_len lines ≤ length lines
line_len-within lines = let e = line_len-place lines in omega (arith, e)

module _ (lines line : List ℕ) (done : ℕ) (within : done < length lines) (is : line ≡ take (line_len (drop done lines)) (drop done lines)) where
  abbrev rest : List ℕ
  rest = drop done lines

  its_length : length line ≡ line_len rest
  its_length = ap length is ∙ length-take-le (line_len rest) rest (line_len-within rest)

  pub line-within : done + length line ≤ length lines
  line-within = omega (arith, within, its_length, line_len-within rest, length-drop done lines)

  pub headed-next : (head : List ℕ) → headed head true rest ≡ (head ++ line) ++ headed head true (drop (done + length line) lines)
  headed-next head =
      let next : drop (line_len rest) rest ≡ drop (done + length line) lines = drop-drop (line_len rest) done lines ∙ ap (λ n. drop (done + n) lines) (sym its_length) in
      headed-line head rest (omega (arith, within, length-drop done lines))
      ∙ ap (λ l. (head ++ l) ++ headed head true (drop (line_len rest) rest)) (sym is)
      ∙ ap (λ l. (head ++ line) ++ headed head true l) next
