use Rattle.std.proofs.Common.{◌≡◌, None, Some}
use Rattle.jo_rule.specs.Areas.{words_of}
use Rattle.jo_heap.proofs.Written.{cell_found, header_found, block_found}
use Rattle.jo_heap.proofs.block.Block.of.Goals as goal

pub returns-in_err-header-clause-whole : goal.returns-in_err-header-clause-whole
returns-in_err-header-clause-whole c = λ object written.
    let w = words_of c.args.words.now.passes c.args.words.now.words in
    let cell = cell_found w c.args.o object written (Some c.in_ok-cell.cell) c.cell.result c.cell.ensures c.in_ok-cell.ensures.whole in
    let there = header_found w c.args.o object written c.in_ok-cell.cell c.header_of.result c.stored.result cell c.stored.ensures c.header_of.ensures.whole in
    let gone : c.header_of.result ≡ None = c.in_err-header.was in absurd cc

pub returns-clause-whole : goal.returns-clause-whole
returns-clause-whole c = λ object written.
    let w = words_of c.args.words.now.passes c.args.words.now.words in
    let cell = cell_found w c.args.o object written (Some c.in_ok-cell.cell) c.cell.result c.cell.ensures c.in_ok-cell.ensures.whole in
    let header = header_found w c.args.o object written c.in_ok-cell.cell (Some c.in_ok-header.header) c.stored.result cell c.stored.ensures c.in_ok-header.ensures.whole in
    block_found w c.args.o object written c.in_ok-cell.cell c.in_ok-header.header cell header
