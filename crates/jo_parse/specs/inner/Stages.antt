-- What the stages of the reader answer.
use Rattle.std.specs.Prelude.{◌≡◌, ◌⊎◌, List, [], map, Some, Vec, true}
use Rattle.jo_value.specs.Texts.{Table}
use Rattle.jo_lex.specs.declared.token.Token.{Token}
use Rattle.jo_lex.specs.declared.refusal.ParseFault.{ParseFault}
use Rattle.jo_lex.specs.declared.refusal.Refusal.{Refusal}
use Rattle.jo_lex.specs.declared.refusal.RefusalKind.TheVariants.{NoScript}
use Rattle.jo_lex.specs.Faults.{IsMemoryOr}
use Rattle.jo_parse_tree.specs.Trees.{Items}
use Rattle.jo_parse_grammar.specs.Declarations.{Found, first_of_faults}
use Rattle.jo_parse_grammar.specs.NameRefusals.{refusal_for}
use Rattle.jo_parse_grammar.specs.Cuts.{Section}
use Rattle.jo_parse_grammar.specs.Sets.{AreRead, IsFirstUnread, IsFirstMisspelled, faults_of_all, is_nothing}

-- the lists of tokens that the code holds
abbrev pub lists_of : {Z : Type 0} → List (Vec Token Z) → List (List Token)
lists_of lists = map (λ list. list.items) lists

-- Memory, or the refusal of the first script that is not read
abbrev pub IsLexFault : Table → List Section → ParseFault → Type 0
IsLexFault texts sections = IsMemoryOr (IsFirstUnread texts sections)

-- all is read, and it is nothing
abbrev pub IsNothing : List Section → Refusal → Type 0
IsNothing sections refusal =
    (lists : List (List Token)) × (texts : Table) × AreRead [] sections lists texts × (is_nothing lists ≡ true) × (refusal ≡ record { kind = NoScript; place = 0 })

-- Memory, the refusal of the first script that is not read, or that of nothing
abbrev pub IsTokensFault : List Section → ParseFault → Type 0
IsTokensFault sections = IsMemoryOr (λ refusal. IsFirstUnread [] sections refusal ⊎ IsNothing sections refusal)

-- Memory, or the refusal of the first script that is none
abbrev pub IsTreeFault : Table → List (List Token) → ParseFault → Type 0
IsTreeFault texts lists = IsMemoryOr (IsFirstMisspelled texts lists)

-- Memory, or the refusal for the first fault of all scripts
abbrev pub IsFirstNameFault : List Items → ParseFault → Type 0
IsFirstNameFault scripts = IsMemoryOr (λ refusal.
    (found : Found) × (first_of_faults (faults_of_all scripts) ≡ Some found) × (refusal ≡ refusal_for found))
