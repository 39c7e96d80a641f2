use Rattle.std.proofs.Common.{◌∙◌, sym}
use Rattle.jo_steps.specs.Holding.{lock_of}
use Rattle.jo_dict.proofs.Reading.{is_header}
use Rattle.jo_dict.proofs.finding.room.Goals as goal

pub returns-in-None-clause-room : goal.returns-in-None-clause-room
returns-in-None-clause-room c =
    let room = (lock_of c.args.pass.now.view).room in
    let word = c.requires.held.lock.header in
    let found = c.in-None.ensures.whole (record { names = 64; elements = room }) (is_header room c.requires.held.lock.capacity) (sym (c.load_held.ensures.word ∙ word)) in
    absurd cc
