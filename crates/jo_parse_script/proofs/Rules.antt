-- What the methods of the parser are proved with.
use Rattle.jo_parse_tree.proofs.Shapes.{shapes}
use Rattle.jo_parse_script.proofs.Lists.{member_of-some, chain_of-some}
use Rattle.jo_parse_script.proofs.Parts.{choice-in-parts}
use Rattle.jo_parse_script.proofs.Targets.{chain-no-target, unary-no-target, primary-no-target, primary-no-member}
use Rattle.jo_parse_script.proofs.Rooms.{open-under, open-less, enter-under, enter-less, read-expression, read-member, read-unary, read-chain}

pub ruleset trees = (shapes, member_of-some, chain_of-some)

pub ruleset targets = (shapes, chain-no-target, unary-no-target, primary-no-target)

pub ruleset reading = (shapes, choice-in-parts, primary-no-member, open-under, open-less, read-expression, read-member, read-unary)

pub ruleset entering = (shapes, enter-under, enter-less)

pub ruleset operands = (read-chain)
