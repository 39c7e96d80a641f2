-- What a pass is like before and after each call on the heap.
use Rattle.std.specs.Prelude.{◌≡◌, ◌≢◌, None}
use Rattle.jo_rule.specs.Tidy.{IsTidy}
use Rattle.jo_steps.specs.Views.{HeapView, PassView, IsPassOf}

-- a pass of a script, which owes nothing and holds no lock
pub record IsReady (h : HeapView) (p : PassView) : Type 0 where
  pub of_heap : IsPassOf h p
  pub script : p.view.number ≢ 0
  pub tidy : IsTidy h.passes p.view
  pub free : p.view.lock ≡ None
