-- Symbols that are good for a table: their numbers and texts are, and there are not too many; so are the parts of such a list.
use Rattle.std.proofs.Common.{◌≤◌, ◌<◌, List, [], ◌∷◌, ◌++◌, length, arith, length-append}
use Rattle.jo_value.specs.declared.limits.TheConstants.{MOST_INPUT}
use Rattle.jo_value.specs.Texts.{Table, id_in}
use Rattle.jo_parse_tree.specs.Words.{keyword_text}
use Rattle.jo_parse_tree.specs.declared.word.Name.{Name}
use Rattle.jo_parse_tree.specs.declared.word.Name.TheVariants as word
use Rattle.jo_parse_tree.specs.declared.word.PropKey.{PropKey}
use Rattle.jo_parse_tree.specs.declared.word.PropKey.TheVariants as prop_key
use Rattle.jo_parse_grammar.specs.declared.terminal.Terminal.{Terminal}
use Rattle.jo_parse_grammar.specs.declared.terminal.Terminal.TheVariants as t
use Rattle.jo_parse_grammar.specs.Operators.{name_token, key_token}
use Rattle.jo_parse_grammar.specs.Expressions.{Symbol}
use Rattle.jo_parse_grammar.specs.Refusals.{terms}
use Rattle.jo_parse_grammar.specs.Sound.{IsInRange, IsInTable, IsNamed, IsKeyed}

module _ (texts : Table) where
  -- the number of the terminal is in range, and its text is in the table
  abbrev pub IsGood : Terminal → Type 0
  IsGood (t.Ident x) = IsInTable texts x.text
  IsGood (t.Keyword w) = id_in texts (keyword_text w) < length texts
  IsGood (t.Reserved id) = IsInTable texts id
  IsGood (t.Number i) = IsInRange i
  IsGood (t.Text s) = IsInTable texts s.text
  IsGood (t.Punct c) = Unit {0}
  IsGood t.End = Unit {0}

  abbrev pub AreGood : List Terminal → Type 0
  AreGood [] = Unit {0}
  AreGood (c ∷ cs) = IsGood c × AreGood cs

  -- the terminals are good, and not too many
  pub record AreFine (ms : List Symbol) : Type 0 where
    pub good : AreGood (terms ms)
    pub few : length ms ≤ MOST_INPUT

  -- ---- names and keys

  pub named : (name : Name) → IsGood (name_token name) → IsNamed texts name
  named (word.Ident x) h = h
  named (word.Keyword w) h = h
  named (word.Reserved id) h = h

  pub keyed : (key : PropKey) → IsGood (key_token key) → IsKeyed texts key
  keyed (prop_key.Name name) h = named name h
  keyed (prop_key.Text s) h = h
  keyed (prop_key.Number i) h = h

  -- ---- parts

  good-front : (xs ys : List Symbol) → AreGood (terms (xs ++ ys)) → AreGood (terms xs)
  good-front [] ys h = tt
  good-front (x ∷ xs) ys h = (h.0, good-front xs ys h.1)

  good-back : (xs ys : List Symbol) → AreGood (terms (xs ++ ys)) → AreGood (terms ys)
  good-back [] ys h = h
  good-back (x ∷ xs) ys h = good-back xs ys h.1

  pub front : (xs ys : List Symbol) → AreFine (xs ++ ys) → AreFine xs
  front xs ys h = record { good = good-front xs ys h.good; few = omega (arith, h.few, length-append xs ys) }

  pub back : (xs ys : List Symbol) → AreFine (xs ++ ys) → AreFine ys
  back xs ys h = record { good = good-back xs ys h.good; few = omega (arith, h.few, length-append xs ys) }

  pub at_head : (m : Symbol) (ms : List Symbol) → AreFine (m ∷ ms) → IsGood m.0
  at_head m ms h = h.good.0

  pub after : (m : Symbol) (ms : List Symbol) → AreFine (m ∷ ms) → AreFine ms
  after m ms h = record { good = h.good.1; few = omega (arith, h.few) }
