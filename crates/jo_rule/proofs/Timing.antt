-- Epochs: what is said of the times of a view stays where these and its pins do, or its pins are dropped.
use Rattle.std.proofs.Common.{◌≡◌, ◌≤◌, ℕ, true, false, List, set, refl, sym, ◌∙◌, arith, Some, None}
use Rattle.jo_value.specs.declared.capacities.TheConstants.{OUT}
use Rattle.jo_rule.specs.Views.{View, Time, Sight}
use Rattle.jo_rule.specs.Steps.{no_sight}
use Rattle.jo_rule.specs.Timing.{IsTimed, ViewIsTimed, Timing}
use Rattle.jo_rule.proofs.Lists.{live_same, no_each}

pub timed_dropped : {E : ℕ} {acks : ℕ → ℕ} {number : ℕ} {t : Time} {sight : Sight} → IsTimed E acks number t sight → IsTimed E acks number t no_sight
timed_dropped {E} {acks} {number} {t} {sight} h = record {
  out = λ e. ((h.out e).0, refl, refl);
  inside = h.inside;
  polled = h.polled;
  pins = no_each (λ k p. t.polled ≤ p.epoch);
  largest = h.largest;
  loaded = h.loaded;
}

-- a pass that was not made, and is out
pub timed_new : (E : ℕ) (acks : ℕ → ℕ) (number : ℕ) (t : Time) → t.out ≡ true → t.polled ≡ 0 → t.largest ≡ 0 → t.loaded ≡ None → acks number ≡ OUT → IsTimed E acks number t no_sight
timed_new E acks number t out polled largest loaded is = record {
  out = λ e. (is, refl, refl);
  inside = λ e. (let no : true ≡ false = sym out ∙ e in absurd cc);
  polled = omega (arith, polled);
  pins = no_each (λ k p. t.polled ≤ p.epoch);
  largest = omega (arith, largest);
  loaded = λ n e. (let no : None ≡ Some n = sym loaded ∙ e in absurd cc);
}

pub timing_set : {E : ℕ} {acks : ℕ → ℕ} (views : List View) (id : ℕ) (u : View) → Timing E acks views → ViewIsTimed E acks id u → Timing E acks (set views id u)
timing_set {E} {acks} views id u r own = record { timed = live_same (ViewIsTimed E acks) views id u r.timed own }

-- the pass owes another number of raises
pub timed_owing : {E : ℕ} {acks : ℕ → ℕ} {number : ℕ} {t : Time} {sight : Sight} (owed : ℕ) → IsTimed E acks number t sight → IsTimed E acks number (record t { owed = owed }) sight
timed_owing {E} {acks} {number} {t} {sight} owed h = record { out = h.out; inside = h.inside; polled = h.polled; pins = h.pins; largest = h.largest; loaded = h.loaded }
