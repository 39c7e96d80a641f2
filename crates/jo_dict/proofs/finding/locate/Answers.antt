use Rattle.jo_value.specs.declared.value.Key.{Key}
use Rattle.jo_value.specs.declared.value.Key.TheVariants.{Index, Name}
use Rattle.std.proofs.Common.{sym, subst}
use Rattle.jo_steps.specs.Holding.{lock_of}
use Rattle.jo_dict.specs.Blocks.{IsRoomFor}
use Rattle.jo_dict.specs.Locating.{IsLocated}
use Rattle.jo_dict.proofs.Locating.{located_still, room_of}
use Rattle.jo_dict.proofs.finding.locate.Goals as goal

pub returns-in-Name-clause-place : goal.returns-in-Name-clause-place
returns-in-Name-clause-place c =
    let u = c.locate_name.new.pass.view in
    subst (λ (key : Key). IsLocated u key c.locate_name.result) (sym c.in-Name.is) (located_still c.args.pass.now.view u (Name c.in-Name.name) c.locate_name.result c.locate_name.ensures.only c.locate_name.ensures.place)

pub returns-in-Name-clause-room : goal.returns-in-Name-clause-room
returns-in-Name-clause-room c z b =
    subst (λ (key : Key). IsRoomFor (lock_of c.args.pass.now.view).room z key c.locate_name.result) (sym c.in-Name.is) (room_of b.properties (Name c.in-Name.name) c.locate_name.result c.locate_name.ensures.place)

pub returns-in-Index-clause-place : goal.returns-in-Index-clause-place
returns-in-Index-clause-place c =
    let u = c.locate_index.new.pass.view in
    subst (λ (key : Key). IsLocated u key c.locate_index.result) (sym c.in-Index.is) (located_still c.args.pass.now.view u (Index c.in-Index.index) c.locate_index.result c.locate_index.ensures.only c.locate_index.ensures.place)

pub returns-in-Index-clause-room : goal.returns-in-Index-clause-room
returns-in-Index-clause-room c z b =
    subst (λ (key : Key). IsRoomFor (lock_of c.args.pass.now.view).room z key c.locate_index.result) (sym c.in-Index.is) (room_of b.properties (Index c.in-Index.index) c.locate_index.result c.locate_index.ensures.place)
