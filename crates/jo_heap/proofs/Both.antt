-- Two tests, of which the second one is known.
use Rattle.std.proofs.Common.{◌≡◌, ◌&&◌, Bool, true, false, refl}

pub both_off : (b : Bool) → (b && false) ≡ false
both_off true = refl
both_off false = refl

pub both_on : (b : Bool) → (b && true) ≡ b
both_on true = refl
both_on false = refl
