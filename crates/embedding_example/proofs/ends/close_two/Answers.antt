use Rattle.embedding_example.proofs.Passes.{joined_two}
use Rattle.embedding_example.proofs.ends.close_two.Goals as goal

pub close-requires-clause-joined : goal.close-requires-clause-joined
close-requires-clause-joined c =
    joined_two c.args.first.view c.join.new.into.view c.join-2.new.into.view c.args.one.view c.args.two.view
    c.requires.first.1 c.join.ensures.view c.join-2.ensures.view c.requires.one.1 c.requires.one.2 c.requires.two.1
