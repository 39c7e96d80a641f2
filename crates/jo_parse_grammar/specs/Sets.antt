-- Which bytes are an accepted set of scripts, and what other bytes are refused for.
use Rattle.std.specs.Prelude.{◌≡◌, ◌⊎◌, ℕ, ◌≤◌, Bool, true, false, List, [], ◌∷◌, ◌++◌, length, IsUtf8, Some}
use Rattle.std.specs.Str.{chars}
use Rattle.std.specs.Str.Lossy.{utf8_valid_len}
use Rattle.jo_value.specs.declared.limits.TheConstants.{MOST_OPEN, MOST_SCRIPTS}
use Rattle.jo_value.specs.Texts.{Table}
use Rattle.jo_lex.specs.declared.token.Token.{Token}
use Rattle.jo_lex.specs.declared.refusal.Refusal.{Refusal}
use Rattle.jo_lex.specs.declared.refusal.ParseFault.TheVariants.{Refused}
use Rattle.jo_lex.specs.declared.refusal.RefusalKind.{RefusalKind}
use Rattle.jo_lex.specs.declared.refusal.RefusalKind.TheVariants as kind
use Rattle.jo_lex.specs.Tokens.{Progress, start, IsRead}
use Rattle.jo_lex.specs.Tokens as lexed
use Rattle.jo_parse_tree.specs.Trees.{Items}
use Rattle.jo_parse_grammar.specs.Statements.{IsScript}
use Rattle.jo_parse_grammar.specs.Refusals.{IsAccepted}
use Rattle.jo_parse_grammar.specs.Terminals.{terminals_of}
use Rattle.jo_parse_grammar.specs.TokenRefusals.{IsFault}
use Rattle.jo_parse_grammar.specs.Declarations.{Found, faults, first_of_faults}
use Rattle.jo_parse_grammar.specs.NameRefusals.{refusal_for}
use Rattle.jo_parse_grammar.specs.Cuts.{Section, sections_of, IsOneTooMany}

-- ---- tokens

-- the lexer at the front of a section, with the table that the sections before left
abbrev pub begun : Table → Section → Progress
begun texts section = start section.start texts (chars section.input)

-- the sections are read into tokens, one after another into one table
abbrev pub AreRead : Table → List Section → List (List Token) → Table → Type 0
AreRead texts [] [] end = end ≡ texts
AreRead texts (section ∷ sections) (tokens ∷ lists) end =
    (after : Table) × IsRead (begun texts section) tokens after × AreRead after sections lists end
AreRead texts _ _ end = ⊥

-- the first section that is not read, and its first fault: those before it are read
abbrev pub IsFirstUnread : Table → List Section → Refusal → Type 0
IsFirstUnread texts [] refusal = ⊥
IsFirstUnread texts (section ∷ sections) refusal =
    ((after : Table) × lexed.StopsAt (begun texts section) refusal after)
    ⊎ ((tokens : List Token) × (after : Table) × IsRead (begun texts section) tokens after × IsFirstUnread after sections refusal)

-- there is one script, and it has no token but its end
abbrev pub is_nothing : List (List Token) → Bool
is_nothing ((end ∷ []) ∷ []) = true
is_nothing _ = false

-- ---- trees

-- each of the scripts is one by the grammar and the limit of open constructs
abbrev pub AreScripts : Table → List (List Token) → List Items → Type 0
AreScripts texts [] [] = Unit {0}
AreScripts texts (tokens ∷ lists) (script ∷ scripts) =
    IsAccepted IsScript MOST_OPEN (terminals_of texts tokens) script × AreScripts texts lists scripts
AreScripts texts _ _ = ⊥

-- the refusal of one script by the grammar or the limit of open constructs
abbrev pub IsMisspelled : Table → List Token → Refusal → Type 0
IsMisspelled texts tokens refusal = IsFault IsScript tokens (terminals_of texts tokens) (Refused refusal)

-- the refusal of the first of them that is no script: those before it are scripts
abbrev pub IsFirstMisspelled : Table → List (List Token) → Refusal → Type 0
IsFirstMisspelled texts [] refusal = ⊥
IsFirstMisspelled texts (tokens ∷ lists) refusal =
    IsMisspelled texts tokens refusal
    ⊎ ((script : Items) × IsAccepted IsScript MOST_OPEN (terminals_of texts tokens) script × IsFirstMisspelled texts lists refusal)

-- ---- names

-- the faults of all scripts, in order of place
abbrev pub faults_of_all : List Items → List Found
faults_of_all [] = []
faults_of_all (script ∷ scripts) = faults script ++ faults_of_all scripts

-- ---- sets, stage by stage

-- the bytes are UTF-8, and cut into sections that are not too many
pub record IsCut (bytes : List ℕ) : Type 0 where
  pub utf8 : IsUtf8 bytes
  pub few : length (sections_of bytes) ≤ MOST_SCRIPTS

-- besides, the sections are read into these tokens, with this table, and there is something
pub record IsLexed (bytes : List ℕ) (lists : List (List Token)) (texts : Table) : Type 0 where
  pub cut : IsCut bytes
  pub read : AreRead [] (sections_of bytes) lists texts
  pub something : is_nothing lists ≡ false

-- besides, the tokens parse as these trees
pub record IsParsed (bytes : List ℕ) (scripts : List Items) (texts : Table) : Type 0 where
  pub lists : List (List Token)
  pub lexed : IsLexed bytes lists texts
  pub spelled : AreScripts texts lists scripts

-- Besides, each use of a name means a binding that has ended, and no block declares a name twice: the bytes are an accepted set.
-- How many bytes they are is no part of this.
pub record IsAcceptedSet (bytes : List ℕ) (scripts : List Items) (texts : Table) : Type 0 where
  pub parsed : IsParsed bytes scripts texts
  pub named : faults_of_all scripts ≡ []

-- ---- refusals

-- at the first place, over all scripts, that begins no token, has a number that is too large, or a text too many for the table
abbrev pub IsUnlexed : List ℕ → Refusal → Type 0
IsUnlexed bytes refusal = IsCut bytes × IsFirstUnread [] (sections_of bytes) refusal

-- At the first token, over all scripts, that no script goes on with, or that opens a construct too many; or at the end of a script that is
-- none as it stands.
abbrev pub IsUnparsed : List ℕ → Refusal → Type 0
IsUnparsed bytes refusal =
    (lists : List (List Token)) × (texts : Table) × IsLexed bytes lists texts × IsFirstMisspelled texts lists refusal

-- at the first name, over all scripts, whose use means no binding that has ended, or which its block has declared before
abbrev pub IsMisnamed : List ℕ → Refusal → Type 0
IsMisnamed bytes refusal =
    (scripts : List Items) × (texts : Table) × IsParsed bytes scripts texts
    × (found : Found) × (first_of_faults (faults_of_all scripts) ≡ Some found) × (refusal ≡ refusal_for found)

-- the bytes go through the stages before the one that this kind of refusal belongs to, and are refused there
abbrev pub IsRefusalOf : List ℕ → RefusalKind → Refusal → Type 0
-- at the first byte that belongs to no whole character
IsRefusalOf bytes kind.NotUtf8 refusal = (IsUtf8 bytes → ⊥) × (refusal.place ≡ utf8_valid_len bytes)
-- at the eighth separator
IsRefusalOf bytes kind.TooManyScripts refusal = IsUtf8 bytes × IsOneTooMany (sections_of bytes) refusal.place
IsRefusalOf bytes kind.BadToken refusal = IsUnlexed bytes refusal
IsRefusalOf bytes kind.NumberTooLarge refusal = IsUnlexed bytes refusal
IsRefusalOf bytes kind.TooManyTexts refusal = IsUnlexed bytes refusal
-- at 0, where there is no separator and no token
IsRefusalOf bytes kind.NoScript refusal =
    IsCut bytes × (lists : List (List Token)) × (texts : Table) × AreRead [] (sections_of bytes) lists texts
    × (is_nothing lists ≡ true) × (refusal.place ≡ 0)
IsRefusalOf bytes kind.Unexpected refusal = IsUnparsed bytes refusal
IsRefusalOf bytes kind.NestedTooDeep refusal = IsUnparsed bytes refusal
IsRefusalOf bytes kind.Undeclared refusal = IsMisnamed bytes refusal
IsRefusalOf bytes kind.Twice refusal = IsMisnamed bytes refusal

-- what the bytes are refused for, and where
abbrev pub IsRefusal : List ℕ → Refusal → Type 0
IsRefusal bytes refusal = IsRefusalOf bytes refusal.kind refusal
