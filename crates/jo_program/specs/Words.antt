-- Which words are a command line of the program, and what they ask for.
use Rattle.std.specs.Prelude.{ℕ, ◌&&◌, nat_le, Bool, if◌then◌else◌, List, [], ◌∷◌, codes, Option, Some, None, string_bytes, String}
use Rattle.std.specs.Option.{option_map}
use Rattle.std.specs.Str.{bytes_eq}
use Rattle.std.specs.Str.Parse.{digits_value}
use Rattle.std.specs.declared.alloc.Global.{Global}
use Rattle.jo_value.specs.declared.limits.TheConstants.{DEFAULT_TURNS, MOST_MADE, MOST_TURNS}
use Rattle.jo_value.specs.Keys.{is_numeral}
use Rattle.jo_answer.specs.declared.options.Form.{Form}
use Rattle.jo_answer.specs.declared.options.Form.TheVariants as form
use Rattle.jo_program.specs.declared.command.Command.{Command}
use Rattle.jo_program.specs.declared.command.Command.TheVariants.{Run, Make, RunMade}

-- the number between these bounds that a text is: decimal digits without a zero in front
abbrev pub number_in : ℕ → ℕ → List ℕ → Option ℕ
number_in least most text =
    if is_numeral text && (nat_le least (digits_value 10 text) && nat_le (digits_value 10 text) most)
    then Some (digits_value 10 text) else None

abbrev pub is_word : String Global → List ℕ → Bool
is_word word text = bytes_eq (string_bytes word) text

-- how many turns a word gives a script, and the number of a made set that it is
abbrev pub turns_in : String Global → Option ℕ
turns_in word = number_in 1 MOST_TURNS (string_bytes word)

abbrev pub made_in : String Global → Option ℕ
made_in word = number_in 0 MOST_MADE (string_bytes word)

-- a set is read and run with `turns` turns, and this is written of it
abbrev pub run_with : Form → ℕ → Command
run_with form turns = Run (record { turns = turns; form = form })

-- What the words ask for. They are `run`, `run --turns T`, `run --stats`, `run --stats --turns T`, `make N` or `run-made N`; all
-- others are no command line.
abbrev pub command_of : List (String Global) → Option Command
command_of (a ∷ []) = if is_word a (codes "run") then Some (run_with form.Output DEFAULT_TURNS) else None
command_of (a ∷ b ∷ []) =
    if is_word a (codes "make") then option_map Make (made_in b)
    else if is_word a (codes "run-made") then option_map RunMade (made_in b)
    else if is_word a (codes "run") && is_word b (codes "--stats") then Some (run_with form.Counted DEFAULT_TURNS) else None
command_of (a ∷ b ∷ c ∷ []) =
    if is_word a (codes "run") && is_word b (codes "--turns") then option_map (run_with form.Output) (turns_in c) else None
command_of (a ∷ b ∷ c ∷ d ∷ []) =
    if is_word a (codes "run") && (is_word b (codes "--stats") && is_word c (codes "--turns")) then option_map (run_with form.Counted) (turns_in d) else None
command_of _ = None
