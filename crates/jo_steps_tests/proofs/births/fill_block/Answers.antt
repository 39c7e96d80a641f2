use Rattle.std.proofs.Common.{inl}
use Rattle.jo_steps_tests.proofs.Born.{header_is, last_fresh, filled_is}
use Rattle.jo_steps_tests.proofs.births.fill_block.Goals as goal

pub store_own-requires-2-clause-own : goal.store_own-requires-2-clause-own
store_own-requires-2-clause-own c =
    let header = header_is c.requires.second.1 c.at_storage.ensures c.store_own.ensures.view in
    inl (129, last_fresh c.store_own.new.pass.view header c.at_storage-2.ensures)

pub returns-clause-view : goal.returns-clause-view
returns-clause-view c =
    let header = header_is c.requires.second.1 c.at_storage.ensures c.store_own.ensures.view in
    filled_is c.store_own.new.pass.view c.store_own-2.new.pass.view header c.at_storage-2.ensures c.store_own-2.ensures.view
