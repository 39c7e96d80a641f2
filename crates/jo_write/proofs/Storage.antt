-- Storage that is not used up: by calls that were made before, and by what a put may take.
use Rattle.std.proofs.Common.{◌*◌, ◌<◌, ◌≤◌, ℕ, length, arith}
use Rattle.std.proofs.lemmas.List.Sums.{count_by-le-length}
use Rattle.jo_value.specs.declared.capacities.TheConstants.{CALLS_WITHIN_STORAGE}
use Rattle.jo_value.specs.declared.limits.TheConstants.{MOST_INDEX, MOST_NEED}
use Rattle.jo_value.specs.declared.value.Key.TheVariants.{Index}
use Rattle.jo_model.specs.declared.call.Spent.{Spent}
use Rattle.jo_model.specs.Placed.{is_placed_change}
use Rattle.jo_rule.specs.Tidy.{IsTidy}
use Rattle.jo_rule.specs.Views.{View}
use Rattle.jo_write.specs.Answers.{IsSpentBy, need_for}
use Rattle.jo_write.proofs.Capacities.{capacity_bounds}

-- what a put may take is not more than a call takes at most
pub need_is_few : (index : ℕ) → index ≤ MOST_INDEX → need_for (Index index) ≤ MOST_NEED
need_is_few index le = omega (arith, (capacity_bounds index le).1)

-- a pass that has made few calls has used little
pub little_used : (P : ℕ) (v : View) → IsTidy P v → length v.past.calls < CALLS_WITHIN_STORAGE → v.storage.used ≤ MOST_NEED * 454
little_used P v tidy few = omega (arith, tidy.storage, count_by-le-length (is_placed_change P v.past.seen) v.past.calls)

-- so its storage does for what a call needs
pub enough_left : (P need : ℕ) (v : View) (spent : Spent) → IsTidy P v → need ≤ MOST_NEED → length v.past.calls < CALLS_WITHIN_STORAGE → IsSpentBy need v spent → ⊥
enough_left P need v spent tidy few calls is = omega (arith, is.over, little_used P v tidy calls)
