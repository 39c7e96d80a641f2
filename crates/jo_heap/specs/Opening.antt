-- What the passes of a new heap know.
use Rattle.std.specs.Prelude.{◌≡◌, ℕ, ◌==◌, if◌then◌else◌, List, length, slice_get, Some}
use Rattle.jo_rule.specs.Views.{View}
use Rattle.jo_rule.specs.Steps.{new_view, opening_view}
use Rattle.jo_steps.specs.Views.{HeapView, PassView, IsPassOf}

-- pass t of a new heap: the first one has made all, and the others have made nothing and seen nothing
abbrev pub opened_view : (passes : ℕ) → ℕ → View
opened_view passes t = if t == 0 then record opening_view { made = passes } else record new_view { number = t }

-- all passes of a new heap, in order of number
pub record AreOpened (h : HeapView) (ps : List PassView) : Type 0 where
  pub all : length ps ≡ h.passes
  pub each : (t : ℕ) (p : PassView) → slice_get ps t ≡ Some p → IsPassOf h p × (p.view ≡ opened_view h.passes t)
