-- What follows from what is known where an answer is one of success.
use Rattle.std.proofs.Common.{Result, Ok, Err}
use Rattle.std.specs.Prelude.{OnOk}

-- a fact on success gives another
pub on_ok : {X E : Type 0} {A B : Type 0} → (r : Result X E) → (A → B) → OnOk r A → OnOk r B
on_ok (Ok x) f h = f h
on_ok (Err e) f h = h
