-- A call answers exactly, since a set of bytes has one answer.
use Rattle.std.proofs.Common.{ℕ, List, Result, Ok, Err}
use Rattle.std.specs.Prelude.{IfOk, IfErr}
use Rattle.jo_value.specs.Texts.{Table}
use Rattle.jo_lex.specs.declared.refusal.Refusal.{Refusal}
use Rattle.jo_lex.specs.declared.refusal.ParseFault.{ParseFault}
use Rattle.jo_lex.specs.declared.refusal.ParseFault.TheVariants.{Memory, Refused}
use Rattle.jo_lex.specs.Faults.{Refuses}
use Rattle.jo_parse_tree.specs.Trees.{Items}
use Rattle.jo_parse_grammar.specs.Sets.{IsAcceptedSet, IsRefusal}
use Rattle.jo_parse.specs.Parsed.{Parsed, GivesSet, IsSetFault, trees_of}
use Rattle.jo_parse_grammar.proofs.OneAnswer.{one_set, set_or_refused, one_refusal}

module _ (bytes : List ℕ) where
  pub complete : (answer : Result Parsed ParseFault) → IfOk answer (λ set. IsAcceptedSet bytes (trees_of set) set.1) → IfErr answer (IsSetFault bytes)
      → (scripts : List Items) (texts : Table) → IsAcceptedSet bytes scripts texts → GivesSet scripts texts answer
  complete (Ok set) ok refused scripts texts h = one_set bytes (trees_of set) scripts set.1 texts ok h
  complete (Err Memory) ok refused scripts texts h = tt
  complete (Err (Refused refusal)) ok refused scripts texts h = set_or_refused bytes scripts texts refusal h refused

  pub first : (answer : Result Parsed ParseFault) → IfOk answer (λ set. IsAcceptedSet bytes (trees_of set) set.1) → IfErr answer (IsSetFault bytes)
      → (refusal : Refusal) → IsRefusal bytes refusal → Refuses refusal answer
  first (Ok set) ok refused refusal h = set_or_refused bytes (trees_of set) set.1 refusal ok h
  first (Err Memory) ok refused refusal h = tt
  first (Err (Refused other)) ok refused refusal h = one_refusal bytes other refusal refused h
