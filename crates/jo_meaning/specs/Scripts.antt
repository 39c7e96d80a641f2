-- What a script means.
use Rattle.std.specs.Prelude.{ℕ, List, []}
use Rattle.jo_value.specs.declared.value.Value.TheVariants.{Undefined}
use Rattle.jo_value.specs.Texts.{Table}
use Rattle.jo_parse_tree.specs.Blocks.{declared_in}
use Rattle.jo_parse_tree.specs.Trees.{Items}
use Rattle.jo_model.specs.declared.call.Outcome.TheVariants.{Done}
use Rattle.jo_model.specs.declared.call.Reply.{Reply}
use Rattle.jo_meaning.specs.Runs.{Interaction, Run, follow}
use Rattle.jo_meaning.specs.State.{State, ends}
use Rattle.jo_meaning.specs.Statements.{executes_all}

-- before a script begins: `turns` turns are left, no variable has a value, and nothing is printed
abbrev pub state_at_start : ℕ → State
state_at_start turns = record { turns = turns; variables = λ n. Undefined; lines = [] }

-- all runs of a script, which is a block, with `turns` turns
abbrev pub interaction_of : Items → Table → ℕ → Interaction
interaction_of script texts turns =
    executes_all texts (declared_in script) script (ends Done) (ends Done) (ends Done) (state_at_start turns)

-- how far a script comes with these replies: what was answered, the turns it took, what it printed, and where it stands
abbrev pub does : Items → Table → ℕ → List Reply → Run
does script texts turns replies = follow (interaction_of script texts turns) replies
