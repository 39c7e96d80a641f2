-- The terminals of good tokens are good, and at most as many as the tokens before the end.
use Rattle.std.proofs.Common.{◌≡◌, ℕ, zero, suc, ◌+◌, ◌≤◌, Bool, true, false, not, cond, List, [], ◌∷◌, ◌++◌, length, map, take, refl, arith}
use Rattle.std.proofs.lemmas.List.{length-map}
use Rattle.std.specs.List.{take_while, prefix_len}
use Rattle.jo_value.specs.Texts.{Table}
use Rattle.jo_lex.specs.declared.token.Token.{Token}
use Rattle.jo_lex.specs.declared.token.TokenKind.{TokenKind}
use Rattle.jo_lex.specs.declared.token.TokenKind.TheVariants as kind
use Rattle.jo_lex.specs.Tokens.{end_token}
use Rattle.jo_parse_grammar.specs.Terminals.{kind_terminal, terminal_of, is_end, terminals_of}
use Rattle.jo_parse_grammar.proofs.GoodSymbols.{IsGood, AreGood}
use Rattle.jo_parse_grammar.proofs.TokensInTable.{IsGoodKind, AreGoodTokens}

-- ---- terminals

terminal-good : (texts : Table) (place : ℕ) (k : TokenKind) → IsGoodKind texts k → IsGood texts (kind_terminal texts place k)
terminal-good texts place (kind.Word id) h = h
terminal-good texts place (kind.Keyword w) h = h
terminal-good texts place (kind.Reserved id) h = h
terminal-good texts place (kind.Number i) h = h
terminal-good texts place (kind.Text id) h = h
terminal-good texts place (kind.Punct c) h = tt
terminal-good texts place kind.End h = tt

front-good : (texts : Table) (n : ℕ) (tokens : List Token) → AreGoodTokens texts tokens → AreGood texts (map (terminal_of texts) (take n tokens))
front-good texts zero tokens h = tt
front-good texts (suc n) [] h = tt
front-good texts (suc n) (token ∷ tokens) h = (terminal-good texts token.start token.kind h.0, front-good texts n tokens h.1)

pub terminals-good : (texts : Table) (tokens : List Token) → AreGoodTokens texts tokens → AreGood texts (terminals_of texts tokens)
terminals-good texts tokens h = front-good texts (prefix_len (λ token. not (is_end token)) tokens) tokens h

-- ---- how many

take-few : {X : Type 0} (n : ℕ) (xs : List X) → length (take n xs) ≤ n
take-few zero xs = omega arith
take-few (suc n) [] = omega arith
take-few (suc n) (x ∷ xs) = omega (arith, take-few n xs)

prefix-before : {X : Type 0} (p : X → Bool) (xs : List X) (y : X) → p y ≡ false → prefix_len p (xs ++ y ∷ []) ≤ length xs
prefix-before p [] y e = rw e (omega arith)
prefix-before p (x ∷ xs) y e = step (p x) (prefix-before p xs y e)
  where
    step : (b : Bool) → prefix_len p (xs ++ y ∷ []) ≤ length xs → cond b (1 + prefix_len p (xs ++ y ∷ [])) 0 ≤ suc (length xs)
    step true h = omega (arith, h)
    step false h = omega arith

pub terminals-few : (texts : Table) (before : List Token) (place : ℕ) → length (terminals_of texts (before ++ end_token place ∷ [])) ≤ length before
terminals-few texts before place =
    let tokens = before ++ end_token place ∷ [] in
    let p : Token → Bool = λ token. not (is_end token) in
    omega (arith, length-map (take_while p tokens) (terminal_of texts), take-few (prefix_len p tokens) tokens, prefix-before p before (end_token place) refl)
