use Rattle.std.proofs.Common.{◌∙◌, ap, sym}
use Rattle.jo_parse_tree.specs.Views.{chain_tree, cond_tree, postfix_tree, unary_tree}
use Rattle.jo_parse_tree.proofs.Shapes.{target_tree-member, cond_tree-chain, chain_tree-unary, unary_tree-postfix, postfix_tree-primary, postfix_tree-member}
use Rattle.jo_parse_grammar.specs.inner.Read.{is_target}
use Rattle.jo_parse_script.proofs.Targets.{chain-no-target, unary-no-target, primary-no-target}
use Rattle.jo_parse_script.proofs.shape.target_of.Goals as goal

pub returns-in_default-chain-clause-err : goal.returns-in_default-chain-clause-err
returns-in_default-chain-clause-err c =
    let chain = ap cond_tree c.in-Chain.is ∙ cond_tree-chain _ in
    (sym c.in-Chain.is, ap is_target chain ∙ chain-no-target _ c.in_default-chain.not-Unary)

pub returns-in_default-unary : goal.returns-in_default-unary
returns-in_default-unary c =
    let unary = ap cond_tree c.in-Chain.is ∙ cond_tree-chain _ ∙ ap chain_tree c.in-Unary.is ∙ chain_tree-unary _ in
    record { ok = tt; err = (cc, ap is_target unary ∙ unary-no-target _ c.in_default-unary.not-Postfix) }

pub returns-in_default-primary : goal.returns-in_default-primary
returns-in_default-primary c =
    let unary = ap cond_tree c.in-Chain.is ∙ cond_tree-chain _ ∙ ap chain_tree c.in-Unary.is ∙ chain_tree-unary _ in
    let primary = unary ∙ ap unary_tree c.in-Postfix.is ∙ unary_tree-postfix _ ∙ ap postfix_tree c.in-Primary.is ∙ postfix_tree-primary _ in
    record { ok = tt; err = (cc, ap is_target primary ∙ primary-no-target _ c.in_default-primary.not-Ident) }

pub returns-in-Member-clause-ok : goal.returns-in-Member-clause-ok
returns-in-Member-clause-ok c =
    let unary = ap cond_tree c.in-Chain.is ∙ cond_tree-chain _ ∙ ap chain_tree c.in-Unary.is ∙ chain_tree-unary _ in
    let same = unary ∙ ap unary_tree c.in-Postfix.is ∙ unary_tree-postfix _ ∙ ap postfix_tree c.in-Member.is ∙ postfix_tree-member _ in
    (target_tree-member _ ∙ sym same, ap is_target same)
