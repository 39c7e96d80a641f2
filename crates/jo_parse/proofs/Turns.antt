-- The loops over the scripts of a set: what is done so far, and what the rest adds to it.
use Rattle.std.proofs.Common.{◌≡◌, ◌∙◌, sym, ap, subst, refl, ℕ, ◌+◌, ◌<◌, ◌≤◌, List, [], ◌∷◌, ◌++◌, length, map, drop, get_or, Vec, append_assoc, append-nil}
use Rattle.std.proofs.lemmas.List.{map-append}
use Rattle.std.proofs.Math.Logic.{inl, inr}
use Rattle.jo_value.specs.declared.limits.TheConstants.{MOST_INPUT, MOST_OPEN}
use Rattle.jo_value.specs.Texts.{Table}
use Rattle.jo_lex.specs.declared.token.Token.{Token}
use Rattle.jo_lex.specs.declared.refusal.Refusal.{Refusal}
use Rattle.jo_lex.specs.declared.refusal.ParseFault.{ParseFault}
use Rattle.jo_lex.specs.declared.refusal.ParseFault.TheVariants.{Memory, Refused}
use Rattle.jo_lex.specs.Tokens.{IsRead}
use Rattle.jo_lex.specs.Tokens as lexed
use Rattle.jo_parse_tree.specs.declared.script.Script.{Script}
use Rattle.jo_parse_tree.specs.ScriptViews.{script_tree}
use Rattle.jo_parse_tree.specs.Trees.{Items}
use Rattle.jo_parse_grammar.specs.Statements.{IsScript}
use Rattle.jo_parse_grammar.specs.Refusals.{IsAccepted}
use Rattle.jo_parse_grammar.specs.TokenRefusals.{IsFault}
use Rattle.jo_parse_grammar.specs.Terminals.{terminals_of}
use Rattle.jo_parse.specs.declared.section.Section.{Section as Held}
use Rattle.jo_parse_grammar.specs.Cuts.{Section, AreWithin}
use Rattle.jo_parse.specs.inner.CutScripts.{section_of, sections_in}
use Rattle.jo_parse_grammar.specs.Sets.{begun, AreRead, IsFirstUnread, AreScripts, IsMisspelled, IsFirstMisspelled}
use Rattle.jo_parse.specs.inner.Stages.{IsTreeFault, lists_of}
use Rattle.jo_parse.proofs.Within.{views_left, none_left}

-- ---- tokens

-- all scripts are read from a table; up to a rest they are, into lists and a table
pub record Reads (start : Table) (scripts : List Section) (here : Table) (rest : List Section) (done : List (List Token)) : Type 0 where
  pub within : AreWithin MOST_INPUT rest
  pub read : (lists : List (List Token)) (end : Table) → AreRead here rest lists end → AreRead start scripts (done ++ lists) end
  pub unread : (refusal : Refusal) → IsFirstUnread here rest refusal → IsFirstUnread start scripts refusal

module _ (start : Table) (scripts : List Section) (here : Table) (section : Section) (rest : List Section) (done : List (List Token)) where
  pub one_read : Reads start scripts here (section ∷ rest) done → (tokens : List Token) (after : Table) → IsRead (begun here section) tokens after
      → Reads start scripts after rest (done ++ tokens ∷ [])
  one_read r tokens after h = record {
    within = r.within.1;
    read = λ lists end g. subst (λ v. AreRead start scripts v end) (sym (append_assoc done (tokens ∷ []) lists)) (r.read (tokens ∷ lists) end (after, h, g));
    unread = λ refusal g. r.unread refusal (inr (tokens, after, h, g));
  }

  pub one_unread : Reads start scripts here (section ∷ rest) done → (refusal : Refusal) (after : Table) → lexed.StopsAt (begun here section) refusal after
      → IsFirstUnread start scripts refusal
  one_unread r refusal after h = r.unread refusal (inl (after, h))

pub all_read : (start : Table) (scripts : List Section) (here : Table) (done : List (List Token)) → Reads start scripts here [] done → AreRead start scripts done here
all_read start scripts here done r = subst (λ v. AreRead start scripts v here) (append-nil done) (r.read [] here refl)

-- the same at a turn of the loop, and after the last
module _ {Z : Type 0} (start : Table) (scripts : List Section) (here : Table) (sections : List Held) (i : ℕ) (lists : List (Vec Token Z)) where
  pub read_turn : Reads start scripts here (sections_in (drop i sections)) (lists_of lists) → i < length sections
      → (d : Held) (list : Vec Token Z) (after : Table) → IsRead (begun here (section_of (get_or sections i d))) list.items after
      → (longer : List (Vec Token Z)) → longer ≡ lists ++ list ∷ [] → Reads start scripts after (sections_in (drop (i + 1) sections)) (lists_of longer)
  read_turn r h d list after is longer e =
      let section = section_of (get_or sections i d) in
      let rest = sections_in (drop (i + 1) sections) in
      let turn = subst (λ v. Reads start scripts here v (lists_of lists)) (views_left section_of sections i d h) r in
      let done : lists_of longer ≡ lists_of lists ++ list.items ∷ [] = ap lists_of e ∙ map-append (λ v. v.items) lists (list ∷ []) in
      subst (λ v. Reads start scripts after rest v) (sym done) (one_read start scripts here section rest (lists_of lists) turn list.items after is)

  pub read_end : Reads start scripts here (sections_in (drop i sections)) (lists_of lists) → length sections ≤ i → AreRead start scripts (lists_of lists) here
  read_end r h =
      all_read start scripts here (lists_of lists)
      (subst (λ v. Reads start scripts here v (lists_of lists)) (ap sections_in (none_left sections i h)) r)

-- ---- trees

-- all lists of tokens parse as trees; up to a rest they do
pub record Spells (texts : Table) (lists : List (List Token)) (rest : List (List Token)) (done : List Items) : Type 0 where
  pub spelled : (scripts : List Items) → AreScripts texts rest scripts → AreScripts texts lists (done ++ scripts)
  pub misspelled : (refusal : Refusal) → IsFirstMisspelled texts rest refusal → IsFirstMisspelled texts lists refusal

module _ (texts : Table) (lists : List (List Token)) (tokens : List Token) (rest : List (List Token)) (done : List Items) where
  pub one_spelled : Spells texts lists (tokens ∷ rest) done → (script : Items) → IsAccepted IsScript MOST_OPEN (terminals_of texts tokens) script
      → Spells texts lists rest (done ++ script ∷ [])
  one_spelled r script h = record {
    spelled = λ scripts g. subst (λ v. AreScripts texts lists v) (sym (append_assoc done (script ∷ []) scripts)) (r.spelled (script ∷ scripts) (h, g));
    misspelled = λ refusal g. r.misspelled refusal (inr (script, h, g));
  }

  pub one_misspelled : Spells texts lists (tokens ∷ rest) done → (refusal : Refusal) → IsMisspelled texts tokens refusal → IsFirstMisspelled texts lists refusal
  one_misspelled r refusal h = r.misspelled refusal (inl h)

pub all_spelled : (texts : Table) (lists : List (List Token)) (done : List Items) → Spells texts lists [] done → AreScripts texts lists done
all_spelled texts lists done r = subst (λ v. AreScripts texts lists v) (append-nil done) (r.spelled [] tt)

-- the same at a turn of the loop, and after the last
module _ {Z : Type 0} (texts : Table) (all lists : List (Vec Token Z)) (i : ℕ) (scripts : List Script) where
  pub spell_turn : Spells texts (lists_of all) (lists_of (drop i lists)) (map script_tree scripts) → i < length lists
      → (d : Vec Token Z) (script : Script) → IsAccepted IsScript MOST_OPEN (terminals_of texts (get_or lists i d).items) (script_tree script)
      → (longer : List Script) → longer ≡ scripts ++ script ∷ [] → Spells texts (lists_of all) (lists_of (drop (i + 1) lists)) (map script_tree longer)
  spell_turn r h d script is longer e =
      let rest = lists_of (drop (i + 1) lists) in
      let turn = subst (λ v. Spells texts (lists_of all) v (map script_tree scripts)) (views_left (λ v. v.items) lists i d h) r in
      let done : map script_tree longer ≡ map script_tree scripts ++ script_tree script ∷ [] = ap (map script_tree) e ∙ map-append script_tree scripts (script ∷ []) in
      subst (λ v. Spells texts (lists_of all) rest v) (sym done) (one_spelled texts (lists_of all) (get_or lists i d).items rest (map script_tree scripts) turn (script_tree script) is)

  pub spell_fault : Spells texts (lists_of all) (lists_of (drop i lists)) (map script_tree scripts) → i < length lists
      → (d : Vec Token Z) (fault : ParseFault) → IsFault IsScript (get_or lists i d).items (terminals_of texts (get_or lists i d).items) fault → IsTreeFault texts (lists_of all) fault
  spell_fault r h d Memory is = tt
  spell_fault r h d (Refused refusal) is =
      let rest = lists_of (drop (i + 1) lists) in
      let turn = subst (λ v. Spells texts (lists_of all) v (map script_tree scripts)) (views_left (λ v. v.items) lists i d h) r in
      one_misspelled texts (lists_of all) (get_or lists i d).items rest (map script_tree scripts) turn refusal is

  pub spell_end : Spells texts (lists_of all) (lists_of (drop i lists)) (map script_tree scripts) → length lists ≤ i → AreScripts texts (lists_of all) (map script_tree scripts)
  spell_end r h =
      all_spelled texts (lists_of all) (map script_tree scripts)
      (subst (λ v. Spells texts (lists_of all) v (map script_tree scripts)) (ap lists_of (none_left lists i h)) r)
