-- Number and text literals.
use Rattle.std.proofs.Common.{◌≡◌, ℕ, ◌+◌, ◌-◌, ◌*◌, ◌<◌, ◌≤◌, ◌≢◌, length, min, List, [], ◌∷◌, sym, ap, ◌∙◌, arith}
use Rattle.std.proofs.lemmas.Bool.{le-leb, lt-leb, eq-eqb, ne_eqb}
use Rattle.std.specs.List.{take_while}
use Rattle.std.specs.Str.{encode_utf8_all}
use Rattle.jo_value.specs.declared.limits.TheConstants.{MOST_TEXT_BYTES}
use Rattle.jo_lex.specs.declared.refusal.RefusalKind.TheVariants.{BadToken}
use Rattle.jo_lex.specs.Characters.{Characters, is_word_part, drop_while}
use Rattle.jo_value.specs.Texts.{is_digit}
use Rattle.jo_lex.specs.Pieces.{Lexeme, word, lexeme, fault, decimal, limited, word_piece, number_piece, judged}

digit_capped : (cap m n k : ℕ) → min m cap ≡ min n cap → min (m * 10 + k) cap ≡ min (n * 10 + k) cap
digit_capped cap m n k e = omega arith

-- numbers that are the same up to a limit stay so with more digits
pub decimal_capped : (cap m n : ℕ) (digits : Characters) → min m cap ≡ min n cap → min (decimal m digits) cap ≡ min (decimal n digits) cap
decimal_capped cap m n [] e = e
decimal_capped cap m n (d ∷ ds) e = decimal_capped cap (m * 10 + (d - 48)) (n * 10 + (d - 48)) ds (digit_capped cap m n (d - 48) e)

-- ---- limits

pub limited-fits : (kind : List ℕ → Lexeme) (bytes : List ℕ) (rest : Characters) → length bytes ≤ MOST_TEXT_BYTES → limited kind bytes rest ≡ lexeme (kind bytes) rest
limited-fits kind bytes rest le = rw (le-leb (length bytes) MOST_TEXT_BYTES le)

pub limited-long : (kind : List ℕ → Lexeme) (bytes : List ℕ) (rest : Characters) → MOST_TEXT_BYTES < length bytes → limited kind bytes rest ≡ fault BadToken
limited-long kind bytes rest lt = rw (lt-leb (length bytes) MOST_TEXT_BYTES lt)

pub word_piece-is : (c : ℕ) (cs : Characters) (bytes : List ℕ) (rest : Characters) → bytes ≡ encode_utf8_all (c ∷ take_while is_word_part cs) → rest ≡ drop_while is_word_part cs → word_piece c cs ≡ limited word bytes rest
word_piece-is c cs bytes rest e f = ap (λ t. limited word t (drop_while is_word_part cs)) (sym e) ∙ ap (limited word bytes) (sym f)

pub number_piece-zero : (c : ℕ) (cs : Characters) → c ≡ 48 → number_piece c cs ≡ judged 0 cs
number_piece-zero c cs e = rw (eq-eqb c 48 e)

pub number_piece-digits : (c : ℕ) (cs digits rest : Characters) → c ≢ 48 → digits ≡ take_while is_digit cs → rest ≡ drop_while is_digit cs → number_piece c cs ≡ judged (decimal (c - 48) digits) rest
number_piece-digits c cs digits rest ne e f = rw (ne_eqb c 48 ne) (ap (λ t. judged (decimal (c - 48) t) (drop_while is_digit cs)) (sym e) ∙ ap (judged (decimal (c - 48) digits)) (sym f))
