use Rattle.std.proofs.Common.{drop}
use Rattle.jo_parse_names.specs.inner.Blocks.{IsAlike, with_names}
use Rattle.jo_parse_tree.specs.Blocks.{names_of}
use Rattle.jo_parse_tree.specs.ScriptViews.{bindings_list}
use Rattle.jo_parse_names.proofs.block.Block.declare_all.Given as goal

abbrev pub invariant-loop-binding : goal.invariant-loop-binding
invariant-loop-binding l =
    IsAlike (with_names l.self (names_of (bindings_list (drop l.binding-index l.bindings)))) (with_names l.fn.self (names_of (bindings_list l.bindings)))
