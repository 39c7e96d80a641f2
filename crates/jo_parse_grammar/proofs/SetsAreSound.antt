-- The scripts of an accepted set are sound for its table, and there are one to eight of them.
use Rattle.std.proofs.Common.{◌≡◌, ℕ, suc, ◌≤◌, List, [], ◌∷◌, ◌++◌, length, refl, sym, ap, subst, ◌∙◌, arith}
use Rattle.jo_value.specs.declared.limits.TheConstants.{MOST_INPUT, MOST_OPEN, MOST_SCRIPTS}
use Rattle.jo_value.specs.Texts.{Table}
use Rattle.jo_lex.specs.declared.token.Token.{Token}
use Rattle.jo_parse_tree.specs.Trees.{Items}
use Rattle.jo_parse_grammar.specs.Expressions.{Symbol}
use Rattle.jo_parse_grammar.specs.Statements.{items, IsScript}
use Rattle.jo_parse_grammar.specs.Refusals.{terms, Within, IsAccepted}
use Rattle.jo_parse_grammar.specs.Terminals.{terminals_of}
use Rattle.jo_parse_grammar.specs.Declarations.{Found, faults}
use Rattle.jo_parse_grammar.specs.Sound.{IsSound}
use Rattle.jo_parse_grammar.specs.Cuts.{sections_of}
use Rattle.jo_parse_grammar.specs.Sets.{AreScripts, faults_of_all, IsAcceptedSet}
use Rattle.jo_parse_grammar.specs.Soundness.{AreSound}
use Rattle.jo_parse_grammar.proofs.GoodSymbols.{AreGood, AreFine}
use Rattle.jo_parse_grammar.proofs.SpelledLengths.{items_few}
use Rattle.jo_parse_grammar.proofs.SpelledTrees.{suit_items}
use Rattle.jo_parse_grammar.proofs.SectionsInInput.{sections-short, sections-some}
use Rattle.jo_parse_grammar.proofs.TokensInTable.{IsGoodList}
use Rattle.jo_parse_grammar.proofs.ListsInTable.{AreGoodLists, lists-good, lists-many}
use Rattle.jo_parse_grammar.proofs.TerminalsInTable.{terminals-good, terminals-few}

-- ---- one script

terms-many : (ms : List Symbol) → length (terms ms) ≡ length ms
terms-many [] = refl
terms-many (m ∷ ms) = ap suc (terms-many ms)

-- the symbols of good tokens are good
spelled-fine : (texts : Table) (most : ℕ) (tokens : List Token) (ms : List Symbol) → most ≤ MOST_INPUT → IsGoodList texts most tokens → terms ms ≡ terminals_of texts tokens → AreFine texts ms
spelled-fine texts most tokens ms le h e = record {
  good = subst (AreGood texts) (sym e) (terminals-good texts tokens h.good);
  few = omega (arith, le, h.few, terms-many ms, ap length e, ap (λ ts. length (terminals_of texts ts)) h.tokens_are, terminals-few texts h.before h.place);
}

script-sound : (texts : Table) (most : ℕ) (tokens : List Token) (script : Items) → most ≤ MOST_INPUT → IsGoodList texts most tokens → IsAccepted IsScript MOST_OPEN (terminals_of texts tokens) script → faults script ≡ [] → IsSound texts script
script-sound texts most tokens script le h k none =
    let spelling : k.0 ≡ items 0 script = k.1.1 in
    let fine : AreFine texts (items 0 script) = spelled-fine texts most tokens (items 0 script) le h (ap terms (sym spelling) ∙ k.2) in
    record {
      grammar = k.1.0;
      depth = subst (Within MOST_OPEN) spelling k.3;
      entries = omega (arith, fine.few, items_few 0 script);
      parts = suit_items texts 0 script fine;
      names = none;
    }

-- ---- all scripts

none-first : (xs ys : List Found) → xs ++ ys ≡ [] → xs ≡ []
none-first [] ys e = refl
none-first (x ∷ xs) ys e = cc

none-after : (xs ys : List Found) → xs ++ ys ≡ [] → ys ≡ []
none-after [] ys e = e
none-after (x ∷ xs) ys e = cc

scripts-sound : (texts : Table) (most : ℕ) (lists : List (List Token)) (scripts : List Items) → most ≤ MOST_INPUT → AreGoodLists texts most lists → AreScripts texts lists scripts → faults_of_all scripts ≡ [] → AreSound texts scripts
scripts-sound texts most [] [] le h k none = tt
scripts-sound texts most [] (script ∷ scripts) le h k none = absurd k
scripts-sound texts most (tokens ∷ lists) [] le h k none = absurd k
scripts-sound texts most (tokens ∷ lists) (script ∷ scripts) le h k none =
    (script-sound texts most tokens script le h.0 k.0 (none-first (faults script) (faults_of_all scripts) none), scripts-sound texts most lists scripts le h.1 k.1 (none-after (faults script) (faults_of_all scripts) none))

scripts-many : (texts : Table) (lists : List (List Token)) (scripts : List Items) → AreScripts texts lists scripts → length scripts ≡ length lists
scripts-many texts [] [] k = refl
scripts-many texts [] (script ∷ scripts) k = absurd k
scripts-many texts (tokens ∷ lists) [] k = absurd k
scripts-many texts (tokens ∷ lists) (script ∷ scripts) k = ap suc (scripts-many texts lists scripts k.1)

-- ---- sets

-- each script of an accepted set is sound for the table of the set
pub sets_are_sound : (bytes : List ℕ) (scripts : List Items) (texts : Table) → length bytes ≤ MOST_INPUT → IsAcceptedSet bytes scripts texts → AreSound texts scripts
sets_are_sound bytes scripts texts le h =
    let l = h.parsed.lexed in
    let good = lists-good (length bytes) [] (sections_of bytes) h.parsed.lists texts (sections-short bytes l.cut.utf8) l.read in
    scripts-sound texts (length bytes) h.parsed.lists scripts le good.0 h.parsed.spelled h.named

-- an accepted set has a script, and at most eight
pub sets_are_few : (bytes : List ℕ) (scripts : List Items) (texts : Table) → IsAcceptedSet bytes scripts texts → (1 ≤ length scripts) × (length scripts ≤ MOST_SCRIPTS)
sets_are_few bytes scripts texts h =
    let l = h.parsed.lexed in
    let many : length scripts ≡ length (sections_of bytes) = scripts-many texts h.parsed.lists scripts h.parsed.spelled ∙ lists-many [] (sections_of bytes) h.parsed.lists texts l.read in
    (omega (arith, many, sections-some bytes), omega (arith, many, l.cut.few))
