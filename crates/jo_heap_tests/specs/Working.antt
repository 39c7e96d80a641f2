-- What the tests know of a pass that makes calls.
use Rattle.std.specs.Prelude.{◌≡◌}
use Rattle.jo_value.specs.declared.value.ObjId.{ObjId}
use Rattle.jo_value.specs.declared.value.Value.{Value}
use Rattle.jo_model.specs.declared.call.Call.{Call}
use Rattle.jo_model.specs.Heaps.{Heap, IsBorn}
use Rattle.jo_model.specs.Logs.{after}
use Rattle.jo_model.specs.Valid.{IsValidCall, IsValidValue}
use Rattle.jo_rule.specs.Views.{View}
use Rattle.jo_steps.specs.Views.{HeapView, PassView}
use Rattle.jo_guard.specs.Ready.{IsReady}

-- it may make calls on this object
pub record MayCall (h : HeapView) (o : ObjId) (p : PassView) : Type 0 where
  pub ready : IsReady h p
  pub born : IsBorn (after h.passes p.view.past.seen) o

-- what no call changes
pub record Stays (v u : View) : Type 0 where
  pub number : u.number ≡ v.number
  pub kept : u.kept ≡ v.kept

-- a value that is valid for any heap
abbrev pub IsPlain : Value → Type 0
IsPlain v = (heap : Heap) → IsValidValue heap v

-- a call that is valid wherever this object is
abbrev pub IsCallFor : ObjId → Call → Type 0
IsCallFor o c = (heap : Heap) → IsBorn heap o → IsValidCall heap c
