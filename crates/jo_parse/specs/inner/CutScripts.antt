-- What the code answers where it cuts a set.
use Rattle.std.specs.Prelude.{◌≡◌, ℕ, List, map}
use Rattle.jo_lex.specs.declared.refusal.RefusalKind.TheVariants.{TooManyScripts}
use Rattle.jo_lex.specs.declared.refusal.ParseFault.{ParseFault}
use Rattle.jo_lex.specs.declared.refusal.ParseFault.TheVariants.{Refused}
use Rattle.jo_lex.specs.Faults.{IsMemoryOr}
use Rattle.jo_parse_grammar.specs.Cuts.{Section, end_of, sections_of, IsOneTooMany}
use Rattle.jo_parse.specs.declared.section.Section.{Section as Held}

-- a section that the code holds, and those of a list
abbrev pub section_of : Held → Section
section_of part = record { start = part.start; input = part.input.now }

abbrev pub sections_in : List Held → List Section
sections_in parts = map section_of parts

-- the refusal at the end of the last script that a set may have
abbrev pub one_too_many : Section → ParseFault
one_too_many section = Refused (record { kind = TooManyScripts; place = end_of section })

-- Memory, or a script too many
abbrev pub IsCutFault : List ℕ → ParseFault → Type 0
IsCutFault input = IsMemoryOr (λ refusal. (refusal.kind ≡ TooManyScripts) × IsOneTooMany (sections_of input) refusal.place)
