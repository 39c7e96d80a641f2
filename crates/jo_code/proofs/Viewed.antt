-- The trees of chains and of object literals, and those of all kinds.
use Rattle.std.proofs.Common.{◌≡◌, refl, ap, sym, ◌∙◌}
use Rattle.jo_parse_tree.specs.declared.expr.Binary.{Binary, out-Binary, roll-out-Binary}
use Rattle.jo_parse_tree.specs.declared.expr.Object.{Object, out-Object, roll-out-Object}
use Rattle.jo_parse_tree.specs.declared.expr.Chain.TheVariants as h
use Rattle.jo_parse_tree.specs.Trees.{chain, object}
use Rattle.jo_parse_tree.specs.Views.{chain_tree, object_tree, binary_tree, expr_tree, links_list, props_list}
use Rattle.jo_parse_tree.proofs.Shapes.{shapes, chain_tree-binary, object_tree-of}

-- the tree of a chain
pub chain_tree-out : (b : Binary) → chain_tree (h.Binary b) ≡ chain (out-Binary b).level (chain_tree (out-Binary b).first) (links_list (out-Binary b).links)
chain_tree-out b = ap (λ v. chain_tree (h.Binary v)) (sym (roll-out-Binary b)) ∙ chain_tree-binary (out-Binary b).level (out-Binary b).first (out-Binary b).links

-- a chain is the tree of its operands
pub chain_tree-of : (b : Binary) → chain_tree (h.Binary b) ≡ binary_tree b
unfolding expr_tree Rattle.jo_parse_tree.specs.declared.expr.Access.TheBlock.hidden-the_row-Binary-1 denote.Hole.Carrier.hidden
chain_tree-of b = refl

-- the tree of the operands of a chain
pub binary_tree-out : (b : Binary) → binary_tree b ≡ chain (out-Binary b).level (chain_tree (out-Binary b).first) (links_list (out-Binary b).links)
binary_tree-out b = sym (chain_tree-of b) ∙ chain_tree-out b

-- the tree of an object literal
pub object_tree-out : (o : Object) → object_tree o ≡ object (props_list (out-Object o).props) (out-Object o).has_comma
object_tree-out o = ap (λ v. object_tree v) (sym (roll-out-Object o)) ∙ object_tree-of (out-Object o).props (out-Object o).has_comma

-- the trees of all kinds of expression
pub ruleset viewed = (shapes, chain_tree-out, chain_tree-of, binary_tree-out, object_tree-out)
