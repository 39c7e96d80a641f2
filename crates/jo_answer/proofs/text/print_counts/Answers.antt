use Rattle.jo_io.proofs.Printed.{prints-both}
use Rattle.jo_answer.proofs.text.print_counts.Goals as goal

pub returns : goal.returns
returns g c =
    let loads = prints-both (prints-both c.put_integer.ensures c.put.ensures) c.put_integer-2.ensures in
    let stores = prints-both (prints-both loads c.put-2.ensures) c.put_integer-3.ensures in
    let exchanges = prints-both (prints-both stores c.put-3.ensures) c.put_integer-4.ensures in
    let locks = prints-both (prints-both exchanges c.put-4.ensures) c.put_integer-5.ensures in
    prints-both locks c.put-5.ensures
