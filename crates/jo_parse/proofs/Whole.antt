-- What the stages of the reader show together.
use Rattle.std.proofs.Common.{◌≡◌, ◌∙◌, ◌≤◌, ap, subst, ℕ, false, List, [], Vec, length, map, arith}
use Rattle.std.proofs.lemmas.List.{length-map}
use Rattle.std.specs.Prelude.{IsUtf8}
use Rattle.jo_value.specs.declared.limits.TheConstants.{MOST_SCRIPTS}
use Rattle.jo_value.specs.Texts.{Table}
use Rattle.jo_lex.specs.declared.token.Token.{Token}
use Rattle.jo_lex.specs.declared.refusal.ParseFault.{ParseFault}
use Rattle.jo_parse_tree.specs.declared.script.Script.{Script}
use Rattle.jo_parse_tree.specs.ScriptViews.{script_tree}
use Rattle.jo_parse_tree.specs.Trees.{Items}
use Rattle.jo_parse_grammar.specs.Cuts.{sections_of}
use Rattle.jo_parse_grammar.specs.Sets.{AreRead, AreScripts, IsAcceptedSet, IsCut, IsLexed, IsParsed, faults_of_all, is_nothing}
use Rattle.jo_parse.specs.declared.section.Section.{Section as Held}
use Rattle.jo_parse.specs.Parsed.{IsSetFault}
use Rattle.jo_parse.specs.inner.CutScripts.{section_of, sections_in}
use Rattle.jo_parse.specs.inner.Stages.{IsTokensFault, IsTreeFault, lists_of}
use Rattle.jo_parse.proofs.Faults.{tokens_fault, tree_fault}

module _ (bytes input : List ℕ) (sections held : List Held) (utf8 : IsUtf8 bytes) (same : input ≡ bytes)
    (cut : sections_in sections ≡ sections_of input) (few : length sections ≤ MOST_SCRIPTS) (slice : held ≡ sections) where
  these : sections_in held ≡ sections_of bytes
  these = ap sections_in slice ∙ cut ∙ ap sections_of same

  pub is_cut : IsCut bytes
  is_cut = record {
    utf8 = utf8;
    few = subst (λ v. length v ≤ MOST_SCRIPTS) (cut ∙ ap sections_of same) (omega (arith, few, length-map sections section_of));
  }

  pub is_lexed : (lists : List (List Token)) (texts : Table) → AreRead [] (sections_in held) lists texts → is_nothing lists ≡ false → IsLexed bytes lists texts
  is_lexed lists texts read something = record {
    cut = is_cut;
    read = subst (λ v. AreRead [] v lists texts) these read;
    something = something;
  }

  pub tokens_refused : (fault : ParseFault) → IsTokensFault (sections_in held) fault → IsSetFault bytes fault
  tokens_refused fault h = tokens_fault bytes fault is_cut (subst (λ v. IsTokensFault v fault) these h)

  module _ {Z : Type 0} (lists slices : List (Vec Token Z)) (texts : Table) (view : slices ≡ lists)
      (read : AreRead [] (sections_in held) (lists_of lists) texts) (something : is_nothing (lists_of lists) ≡ false) where
    pub is_parsed : (scripts : List Items) → AreScripts texts (lists_of slices) scripts → IsParsed bytes scripts texts
    is_parsed scripts spelled = record {
      lists = lists_of lists;
      lexed = is_lexed (lists_of lists) texts read something;
      spelled = subst (λ v. AreScripts texts (lists_of v) scripts) view spelled;
    }

    pub trees_refused : (fault : ParseFault) → IsTreeFault texts (lists_of slices) fault → IsSetFault bytes fault
    trees_refused fault h =
        tree_fault bytes (lists_of lists) texts fault (is_lexed (lists_of lists) texts read something) (subst (λ v. IsTreeFault texts (lists_of v) fault) view h)

    pub is_accepted : (scripts judged : List Script) → judged ≡ scripts → AreScripts texts (lists_of slices) (map script_tree scripts)
        → faults_of_all (map script_tree judged) ≡ [] → IsAcceptedSet bytes (map script_tree scripts) texts
    is_accepted scripts judged view-judged spelled named = record {
      parsed = is_parsed (map script_tree scripts) spelled;
      named = subst (λ v. faults_of_all (map script_tree v) ≡ []) view-judged named;
    }
