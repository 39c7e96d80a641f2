use Rattle.std.proofs.Common.{◌≡◌, length, subst, arith, to_z, of_z}
use Rattle.std.proofs.lemmas.List.{length-map}
use Rattle.std.proofs.lemmas.Int.{ints}
use Rattle.std.specs.Fmt.{signed_decimal}
use Rattle.std.specs.Int.{w128}
use Rattle.jo_run.specs.Sets.{outcomes_of}
use Rattle.jo_io.specs.Printers.{Prints}
use Rattle.jo_io.proofs.Printed.{prints-both}
use Rattle.jo_answer.proofs.summary.print_summary.Goals as goal

pub returns : goal.returns
returns g c =
    let scripts = c.args.ended.now.scripts.items in
    let many : c.len.result ≡ length (outcomes_of scripts) = cc (c.len.ensures, c.deref.ensures.value, c.deref.ensures.len, length-map scripts (λ e. e.outcome)) in
    let few = rw c.deref.ensures.value at c.done_among.ensures in
    let all = c.totals-all.ensures in
    let head = prints-both (prints-both c.put.ensures c.put_integer.ensures) c.put-2.ensures in
    let run = prints-both (prints-both head (rw many at c.put_integer-2.ensures)) c.put-3.ensures in
    let done = prints-both (prints-both run (rw few at c.put_integer-3.ensures)) c.put-4.ensures in
    let objects = prints-both (prints-both done (rw all at c.put_integer-4.ensures)) c.put-5.ensures in
    let names = prints-both (prints-both objects (rw all at c.put_integer-5.ensures)) c.put-6.ensures in
    let elements = prints-both (prints-both names (rw all at c.put_integer-6.ensures)) c.put-7.ensures in
    let all_sum = c.totals-all.result.sum in
    let same : to_z w128 (of_z w128 all_sum) ≡ all_sum = omega (arith, ints) in
    let number = subst (λ z. Prints g.K.Sink.held g.K.Sink.faults c.put-7.new.self c.put_integer-7.new.self (signed_decimal z)) same c.put_integer-7.ensures in
    prints-both (prints-both elements (rw all at number)) c.put-8.ensures
