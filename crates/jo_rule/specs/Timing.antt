-- Epochs: what a pass has acknowledged, and that its pins are no older.
use Rattle.std.specs.Prelude.{◌≡◌, ℕ, ◌≤◌, true, false, List, [], Some}
use Rattle.jo_value.specs.declared.capacities.TheConstants.{OUT}
use Rattle.jo_rule.specs.Views.{View, Time, Sight}
use Rattle.jo_rule.specs.Lists.{Each, Live}

-- A pass that is out has no pin and no licence. Another one's acknowledgement is at most what it polled last, and that is at most the
-- epoch of each of its pins.
pub record IsTimed (E : ℕ) (acknowledgements : ℕ → ℕ) (number : ℕ) (t : Time) (sight : Sight) : Type 0 where
  pub out : t.out ≡ true → (acknowledgements number ≡ OUT) × (sight.pins ≡ []) × (sight.licences ≡ [])
  pub inside : t.out ≡ false → acknowledgements number ≤ t.polled
  pub polled : t.polled ≤ E
  pub pins : Each sight.pins (λ k p. t.polled ≤ p.epoch)
  pub largest : t.largest ≤ E
  pub loaded : (n : ℕ) → t.loaded ≡ Some n → n ≤ E

-- all this of a view, by its items
abbrev pub ViewIsTimed : ℕ → (ℕ → ℕ) → ℕ → View → Type 0
ViewIsTimed E acknowledgements seat v = IsTimed E acknowledgements v.number v.time v.sight

-- all this of each live view
pub record Timing (E : ℕ) (acknowledgements : ℕ → ℕ) (views : List View) : Type 0 where
  pub timed : Live views (ViewIsTimed E acknowledgements)
