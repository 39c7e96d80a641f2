-- What the log and the placed calls of all passes make, once they are joined.
use Rattle.std.specs.Prelude.{◌≡◌, ℕ, ◌<◌, List, length, map, slice_get, Some, count_by, All}
use Rattle.jo_model.specs.History.{History, IsLegal, heap_after, calls_of, replies_of}
use Rattle.jo_model.specs.Logs.{Log, changes_of, after, IsLawfulLog}
use Rattle.jo_model.specs.Placed.{PlacedCall, is_placed_change, IsLawfulPlaced, IsInOwnOrder}

-- a pass has as many changes in the log as among its placed calls
abbrev pub HasItsChanges : {M : Type 0} → ℕ → Log M → ℕ → List PlacedCall → Type 0
HasItsChanges passes log pass calls = changes_of pass log ≡ count_by (is_placed_change passes log) calls

-- the placed calls of a pass, in the log of all
pub record IsPlacedBy {M : Type 0} (passes : ℕ) (log : Log M) (pass : ℕ) (calls : List PlacedCall) : Type 0 where
  pub lawful : All (IsLawfulPlaced passes log pass) calls
  pub ordered : IsInOwnOrder passes log 0 calls
  pub changes : HasItsChanges passes log pass calls

-- the placed calls of each pass, in the log of all
pub record ArePlaced {M : Type 0} (passes : ℕ) (log : Log M) (calls : List (List PlacedCall)) : Type 0 where
  pub all : length calls ≡ passes
  pub logged : IsLawfulLog passes log
  pub each : (pass : ℕ) (of_pass : List PlacedCall) → slice_get calls pass ≡ Some of_pass → IsPlacedBy passes log pass of_pass

-- A legal history that leaves the heap which the log leaves. The calls of each pass stand in it once each, in its order,
-- with the replies that it was given, and no others. In which order the calls of two passes stand is said by `weave` alone.
pub record IsHistoryOfCalls {M : Type 0} (passes : ℕ) (log : Log M) (calls : List (List PlacedCall)) (w : History) : Type 0 where
  pub legal : IsLegal passes w
  pub leaves : heap_after passes w ≡ after passes log
  pub asked : (pass : ℕ) (of_pass : List PlacedCall) → slice_get calls pass ≡ Some of_pass → calls_of pass w ≡ map (λ p. p.call) of_pass
  pub answered : (pass : ℕ) (of_pass : List PlacedCall) → slice_get calls pass ≡ Some of_pass → replies_of pass w ≡ map (λ p. p.reply) of_pass
  pub no_others : All (λ e. e.pass < length calls) w
