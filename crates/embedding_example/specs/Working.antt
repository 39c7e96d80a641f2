-- What is known of a thread that makes calls.
use Rattle.std.specs.Prelude.{◌≡◌}
use Rattle.jo_value.specs.declared.value.ObjId.{ObjId}
use Rattle.jo_model.specs.Heaps.{IsBorn, shared}
use Rattle.jo_model.specs.Logs.{after}
use Rattle.jo_rule.specs.Views.{View}
use Rattle.jo_steps.specs.Views.{HeapView, PassView}
use Rattle.jo_guard.specs.Ready.{IsReady}
use Rattle.embedding_example.specs.declared.worker.Worker.{Worker}

-- it may make calls on this object
pub record MayCall (h : HeapView) (o : ObjId) (p : PassView) : Type 0 where
  pub ready : IsReady h p
  pub born : IsBorn (after h.passes p.view.past.seen) o

-- it may make calls on its own object and on the shared one
pub record MayWork (h : HeapView) (w : Worker) : Type 0 where
  pub own : MayCall h w.own w.pass
  pub all : MayCall h shared w.pass

-- what no call changes
pub record Stays (v u : View) : Type 0 where
  pub number : u.number ≡ v.number
  pub kept : u.kept ≡ v.kept
