-- The tokens of all scripts of a set: they are good for the last table, and there are as many lists as sections.
use Rattle.std.proofs.Common.{◌≡◌, ℕ, suc, ◌≤◌, List, [], ◌∷◌, length, refl, sym, ap, ◌∙◌, arith, append-nil}
use Rattle.std.specs.Str.{chars}
use Rattle.jo_value.specs.Texts.{Table}
use Rattle.jo_lex.specs.declared.token.Token.{Token}
use Rattle.jo_lex.specs.Characters.{size}
use Rattle.jo_lex.proofs.Reading.{size-chars}
use Rattle.jo_parse_grammar.specs.Cuts.{Section}
use Rattle.jo_parse_grammar.specs.Sets.{AreRead}
use Rattle.jo_parse_grammar.proofs.SectionsInInput.{AreShort}
use Rattle.jo_parse_grammar.proofs.TokensInTable.{Extends, extends-further, tokens-wider, IsGoodList, read-good}

-- each of the lists is good for the table, and has at most `most` tokens before its end
abbrev pub AreGoodLists : Table → ℕ → List (List Token) → Type 0
AreGoodLists texts most [] = Unit {0}
AreGoodLists texts most (tokens ∷ lists) = IsGoodList texts most tokens × AreGoodLists texts most lists

list-wider : (texts after : Table) (m n : ℕ) (tokens : List Token) → Extends texts after → m ≤ n → IsGoodList texts m tokens → IsGoodList after n tokens
list-wider texts after m n tokens grown le h = record {
  good = tokens-wider texts after tokens grown h.good;
  before = h.before;
  place = h.place;
  tokens_are = h.tokens_are;
  few = omega (arith, h.few, le);
}

pub lists-good : (most : ℕ) (texts : Table) (sections : List Section) (lists : List (List Token)) (end : Table) → AreShort most sections → AreRead texts sections lists end → AreGoodLists end most lists × Extends texts end
lists-good most texts [] [] end s h = (tt, ([], h ∙ sym (append-nil texts)))
lists-good most texts [] (tokens ∷ lists) end s h = absurd h
lists-good most texts (section ∷ sections) [] end s h = absurd h
lists-good most texts (section ∷ sections) (tokens ∷ lists) end s h =
    let after = h.0 in
    let one = read-good section.start texts (chars section.input) tokens after h.1 in
    let others = lists-good most after sections lists end s.2 h.2 in
    let short : size (chars section.input) ≤ most = omega (arith, size-chars section.input s.0, s.1) in
    ((list-wider after end (size (chars section.input)) most tokens others.1 short one.0, others.0), extends-further texts after end one.1 others.1)

-- as many as the sections
pub lists-many : (texts : Table) (sections : List Section) (lists : List (List Token)) (end : Table) → AreRead texts sections lists end → length lists ≡ length sections
lists-many texts [] [] end h = refl
lists-many texts [] (tokens ∷ lists) end h = absurd h
lists-many texts (section ∷ sections) [] end h = absurd h
lists-many texts (section ∷ sections) (tokens ∷ lists) end h = ap suc (lists-many h.0 sections lists end h.2)
