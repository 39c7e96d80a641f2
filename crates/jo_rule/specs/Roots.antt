-- The first structure of each pass.
use Rattle.std.specs.Prelude.{ℕ, ◌*◌}
use Rattle.jo_value.specs.declared.capacities.TheConstants.{MOST_STRUCTURES}
use Rattle.jo_value.specs.declared.value.Sid.{Sid}
use Rattle.jo_value.specs.declared.words.node.Change.TheVariants.{Add}
use Rattle.jo_value.specs.declared.words.node.Node.{Node}

-- the root of a pass, which is its first structure
abbrev pub root_of : ℕ → Sid
root_of pass = record { 0 = MOST_STRUCTURES * pass }

-- the node of each root has no name, and stands at the top
abbrev pub root_node : Node
root_node = record { parent = record { 0 = 0 }; name = record { 0 = 0 }; offset = 0; top = 0; depth = 0; change = Add }
