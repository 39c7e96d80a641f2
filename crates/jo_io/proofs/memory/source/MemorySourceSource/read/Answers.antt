use Rattle.std.proofs.Common.{◌≡◌, ◌≤◌, ◌+◌, ◌++◌, length, take, drop, arith}
use Rattle.std.proofs.lemmas.Grind.{common_steps}
use Rattle.std.proofs.lemmas.List.{drop_all}
use Rattle.jo_io.proofs.Front.{copy-append-rest}
use Rattle.jo_io.proofs.memory.source.MemorySourceSource.read.Goals as goal

pub returns-clause-bytes : goal.returns-clause-bytes
returns-clause-bytes c =
    let bytes = c.self.inside.bytes.items in
    let start = c.self.inside.given in
    let count = c.min-count.result in
    let copy = c.fill_front.new.buffer in
    let after = drop count c.args.buffer.now in
    let fits : count ≤ length (drop start bytes) = grind (arith, common_steps) in
    let copied : copy ≡ take count (drop start bytes) ++ after = grind (arith, common_steps) in (
      rw (← c.self.view_is) (copy-append-rest bytes copy after start count fits copied),
      λ none room. drop_all (start + count) bytes (omega arith),
    )
