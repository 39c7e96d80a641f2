-- What the stages are refused for, as refusals of the bytes.
use Rattle.std.proofs.Common.{◌≡◌, sym, ap, subst, refl, ℕ, List, [], ◌∷◌, Some}
use Rattle.std.specs.Prelude.{IsUtf8}
use Rattle.std.proofs.Math.Logic.{inl, inr}
use Rattle.jo_value.specs.Texts.{Table}
use Rattle.jo_lex.specs.declared.token.Token.{Token}
use Rattle.jo_lex.specs.declared.refusal.Refusal.{Refusal}
use Rattle.jo_lex.specs.declared.refusal.RefusalKind.{RefusalKind}
use Rattle.jo_lex.specs.declared.refusal.RefusalKind.TheVariants as kind
use Rattle.jo_lex.specs.declared.refusal.ParseFault.{ParseFault}
use Rattle.jo_lex.specs.declared.refusal.ParseFault.TheVariants.{Memory, Refused}
use Rattle.jo_parse_tree.specs.Trees.{Items}
use Rattle.jo_parse_grammar.specs.Refusals.{Fault, unexpected, too_deep}
use Rattle.jo_parse_grammar.specs.TokenRefusals.{refusal_kind}
use Rattle.jo_parse_grammar.specs.Declarations.{ScopeFault, undeclared, twice, Found, first_of_faults}
use Rattle.jo_parse_grammar.specs.NameRefusals as judged
use Rattle.jo_parse_grammar.specs.NameRefusals.{refusal_for}
use Rattle.jo_parse_grammar.specs.Cuts.{sections_of}
use Rattle.jo_parse_grammar.specs.Sets.{IsFirstUnread, IsFirstMisspelled, IsCut, IsLexed, IsParsed, IsRefusal, IsRefusalOf, faults_of_all}
use Rattle.jo_parse.specs.Parsed.{IsSetFault}
use Rattle.jo_parse.specs.inner.CutScripts.{IsCutFault}
use Rattle.jo_parse.specs.inner.Stages.{IsNothing, IsTokensFault, IsTreeFault, IsFirstNameFault}
use Rattle.jo_parse.proofs.LexFaults.{IsLexKind, is_lex_kind}

-- ---- sections

pub cut_fault : (bytes : List ℕ) (fault : ParseFault) → IsUtf8 bytes → IsCutFault bytes fault → IsSetFault bytes fault
cut_fault bytes Memory utf8 h = tt
cut_fault bytes (Refused refusal) utf8 (kind, many) = subst (λ k. IsRefusalOf bytes k refusal) (sym kind) (utf8, many)

-- ---- tokens

unread : (bytes : List ℕ) (refusal : Refusal) (k : RefusalKind) → IsLexKind k → IsCut bytes × IsFirstUnread [] (sections_of bytes) refusal → IsRefusalOf bytes k refusal
unread bytes refusal kind.BadToken is h = h
unread bytes refusal kind.NumberTooLarge is h = h
unread bytes refusal kind.TooManyTexts is h = h
unread bytes refusal _ is h = absurd is

read_fault : (bytes : List ℕ) (refusal : Refusal) → IsCut bytes → IsFirstUnread [] (sections_of bytes) refusal → IsRefusal bytes refusal
read_fault bytes refusal cut h = unread bytes refusal refusal.kind (is_lex_kind [] (sections_of bytes) refusal h) (cut, h)

nothing : (bytes : List ℕ) (refusal : Refusal) → IsCut bytes → IsNothing (sections_of bytes) refusal → IsRefusal bytes refusal
nothing bytes refusal cut (lists, texts, read, is, e) =
    subst (IsRefusal bytes) (sym e) (cut, lists, texts, read, is, refl)

pub tokens_fault : (bytes : List ℕ) (fault : ParseFault) → IsCut bytes → IsTokensFault (sections_of bytes) fault → IsSetFault bytes fault
tokens_fault bytes Memory cut h = tt
tokens_fault bytes (Refused refusal) cut (inl h) = read_fault bytes refusal cut h
tokens_fault bytes (Refused refusal) cut (inr h) = nothing bytes refusal cut h

-- ---- trees

fault_of : (texts : Table) (lists : List (List Token)) (refusal : Refusal) → IsFirstMisspelled texts lists refusal → (fault : Fault) × (refusal.kind ≡ refusal_kind fault)
fault_of texts [] refusal h = absurd h
fault_of texts (tokens ∷ lists) refusal (inl (fault, rest, is, e)) = (fault, ap (λ v. v.kind) e)
fault_of texts (tokens ∷ lists) refusal (inr (script, is, h)) = fault_of texts lists refusal h

misspelled : (bytes : List ℕ) (lists : List (List Token)) (texts : Table) (refusal : Refusal) (fault : Fault)
    → IsLexed bytes lists texts → IsFirstMisspelled texts lists refusal → IsRefusalOf bytes (refusal_kind fault) refusal
misspelled bytes lists texts refusal unexpected l h = (lists, texts, l, h)
misspelled bytes lists texts refusal too_deep l h = (lists, texts, l, h)

pub tree_fault : (bytes : List ℕ) (lists : List (List Token)) (texts : Table) (fault : ParseFault) → IsLexed bytes lists texts → IsTreeFault texts lists fault → IsSetFault bytes fault
tree_fault bytes lists texts Memory l h = tt
tree_fault bytes lists texts (Refused refusal) l h =
    let f = fault_of texts lists refusal h in
    subst (λ k. IsRefusalOf bytes k refusal) (sym f.1) (misspelled bytes lists texts refusal f.0 l h)

-- ---- names

named : (bytes : List ℕ) (scripts : List Items) (texts : Table) (refusal : Refusal) (found : Found) (fault : ScopeFault)
    → IsParsed bytes scripts texts → first_of_faults (faults_of_all scripts) ≡ Some found → refusal ≡ refusal_for found
    → IsRefusalOf bytes (judged.name_refusal_kind fault) refusal
named bytes scripts texts refusal found undeclared p first e = (scripts, texts, p, found, first, e)
named bytes scripts texts refusal found twice p first e = (scripts, texts, p, found, first, e)

pub name_fault : (bytes : List ℕ) (scripts : List Items) (texts : Table) (fault : ParseFault) → IsParsed bytes scripts texts → IsFirstNameFault scripts fault → IsSetFault bytes fault
name_fault bytes scripts texts Memory p h = tt
name_fault bytes scripts texts (Refused refusal) p (found, first, e) =
    subst (λ k. IsRefusalOf bytes k refusal) (sym (ap (λ v. v.kind) e)) (named bytes scripts texts refusal found found.0 p first e)
