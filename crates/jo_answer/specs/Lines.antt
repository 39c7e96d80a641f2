-- The lines that say why an input is not run.
use Rattle.std.specs.Prelude.{ℕ, List, ◌++◌, codes, decimal}
use Rattle.jo_lex.specs.declared.refusal.Refusal.{Refusal}
use Rattle.jo_lex.specs.declared.refusal.RefusalKind.{RefusalKind}
use Rattle.jo_lex.specs.declared.refusal.RefusalKind.TheVariants as kind

-- the code of a refusal
abbrev pub kind_code : RefusalKind → ℕ
kind_code kind.NotUtf8 = 1
kind_code kind.BadToken = 2
kind_code kind.Unexpected = 3
kind_code kind.Undeclared = 4
kind_code kind.Twice = 5
kind_code kind.TooManyScripts = 6
kind_code kind.NestedTooDeep = 7
kind_code kind.NumberTooLarge = 8
kind_code kind.TooManyTexts = 9
kind_code kind.NoScript = 10

abbrev pub kind_name : RefusalKind → List ℕ
kind_name kind.NotUtf8 = codes "NotUtf8"
kind_name kind.BadToken = codes "BadToken"
kind_name kind.Unexpected = codes "Unexpected"
kind_name kind.Undeclared = codes "Undeclared"
kind_name kind.Twice = codes "Twice"
kind_name kind.TooManyScripts = codes "TooManyScripts"
kind_name kind.NestedTooDeep = codes "NestedTooDeep"
kind_name kind.NumberTooLarge = codes "NumberTooLarge"
kind_name kind.TooManyTexts = codes "TooManyTexts"
kind_name kind.NoScript = codes "NoScript"

-- the line of a refusal: its code, its name and its place
abbrev pub refusal_line : Refusal → List ℕ
refusal_line refusal =
    codes "refused " ++ decimal (kind_code refusal.kind) ++ codes " " ++ kind_name refusal.kind ++ codes " at " ++ decimal refusal.place ++ codes "\n"

-- the line for an input of too many bytes
abbrev pub size_line : List ℕ
size_line = codes "refused: input over 1048576 bytes\n"
