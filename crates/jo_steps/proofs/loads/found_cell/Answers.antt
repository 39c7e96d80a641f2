use Rattle.std.proofs.Common.{◌≡◌, sym, ◌∙◌, Some}
use Rattle.jo_steps.proofs.loads.found_cell.Goals as goal

pub unreachable-requires : goal.unreachable-requires
unreachable-requires c = let is = c.requires in c.in_default.not-Some is.0 (c.cell_of.ensures.whole is.0 is.1 (sym is.2))

pub returns : goal.returns
returns c d is_cell is_word =
    let both : Some c.in-Some.cell ≡ Some d = sym c.in-Some.is ∙ c.cell_of.ensures.whole d is_cell (sym is_word) in
    cc
