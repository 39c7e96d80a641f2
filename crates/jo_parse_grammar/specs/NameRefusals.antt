-- What the code answers of a script's names.
use Rattle.std.specs.Prelude.{◌≡◌, Some}
use Rattle.jo_lex.specs.declared.refusal.ParseFault.{ParseFault}
use Rattle.jo_lex.specs.Faults.{IsMemoryOr}
use Rattle.jo_lex.specs.declared.refusal.Refusal.{Refusal}
use Rattle.jo_lex.specs.declared.refusal.RefusalKind.{RefusalKind}
use Rattle.jo_lex.specs.declared.refusal.RefusalKind.TheVariants.{Undeclared, Twice}
use Rattle.jo_parse_tree.specs.Trees.{Items}
use Rattle.jo_parse_grammar.specs.Declarations.{ScopeFault, undeclared, twice, Found, first_fault}

abbrev pub name_refusal_kind : ScopeFault → RefusalKind
name_refusal_kind undeclared = Undeclared
name_refusal_kind twice = Twice

-- the refusal for a fault, at its place
abbrev pub refusal_for : Found → Refusal
refusal_for found = record { kind = name_refusal_kind found.0; place = found.1 }

-- Memory, or the refusal for the first fault of the script
abbrev pub IsNameFault : Items → ParseFault → Type 0
IsNameFault script = IsMemoryOr (λ refusal. (found : Found) × (first_fault script ≡ Some found) × (refusal ≡ refusal_for found))
