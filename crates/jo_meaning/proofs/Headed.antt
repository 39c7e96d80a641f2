-- Lines after a head: it stands before each of them, and nowhere else.
use Rattle.std.proofs.Common.{◌≡◌, ℕ, ◌==◌, not, Bool, true, false, List, [], ◌∷◌, ◌++◌, refl, sym, ap, ◌∙◌, append_assoc, true≢false}
use Rattle.std.proofs.lemmas.Bool.{and_parts}
use Rattle.std.specs.List.{list_all, flat_map}
use Rattle.jo_model.specs.Rendered.{headed}
use Rattle.jo_meaning.proofs.LineFeeds.{IsOneLine, AreOneLine}

is_false : (x : Bool) → not x ≡ true → x ≡ false
is_false true e = absurd (true≢false (sym e))
is_false false e = refl

-- no head after a byte that is no line feed
after : (head : List ℕ) (b : ℕ) (line rest : List ℕ) → IsOneLine (b ∷ line)
    → (IsOneLine line → headed head false (line ++ 10 ∷ rest) ≡ line ++ 10 ∷ headed head true rest)
    → headed head (b == 10) (line ++ 10 ∷ rest) ≡ line ++ 10 ∷ headed head true rest
after head b line rest h others =
    let parts = and_parts (not (b == 10)) (list_all (λ c. not (c == 10)) line) h in
    ap (λ q. headed head q (line ++ 10 ∷ rest)) (is_false (b == 10) parts.0) ∙ others parts.1

-- no head before the end of a line that has begun, and then the other lines
begun : (head line rest : List ℕ) → IsOneLine line → headed head false (line ++ 10 ∷ rest) ≡ line ++ 10 ∷ headed head true rest
begun head [] rest h = refl
begun head (b ∷ line) rest h = ap (λ t. b ∷ t) (after head b line rest h (begun head line rest))

-- one line after its head, and then the others
headed_line : (head line rest : List ℕ) → IsOneLine line → headed head true (line ++ 10 ∷ rest) ≡ head ++ (line ++ 10 ∷ headed head true rest)
headed_line head [] rest h = refl
headed_line head (b ∷ line) rest h = ap (λ t. head ++ b ∷ t) (after head b line rest h (begun head line rest))

-- lines without line feeds, each with its end: after a head they are each line with the head before it
pub headed_lines : (head : List ℕ) (lines : List (List ℕ)) → AreOneLine lines
    → headed head true (flat_map (λ line. line ++ 10 ∷ []) lines) ≡ flat_map (λ line. head ++ line ++ 10 ∷ []) lines
headed_lines head [] h = refl
headed_lines head (line ∷ lines) h =
    let rest = flat_map (λ l. l ++ 10 ∷ []) lines in
    let others = flat_map (λ l. head ++ l ++ 10 ∷ []) lines in
    ap (headed head true) (append_assoc line (10 ∷ []) rest)
    ∙ headed_line head line rest h.0
    ∙ ap (λ t. head ++ (line ++ 10 ∷ t)) (headed_lines head lines h.1)
    ∙ sym (append_assoc head line (10 ∷ others))
    ∙ sym (append_assoc (head ++ line) (10 ∷ []) others)
