-- The fields of a pass, beside its view.
use Rattle.std.specs.Prelude.{◌≡◌, ℕ, true, false, List}
use Rattle.jo_rule.specs.declared.counts.Counts.{Counts}
use Rattle.jo_rule.specs.Views.{View}
use Rattle.jo_steps.specs.Views.{AreNoStamps}

-- the fields say what the view says, and no object is born flat in its heap
pub record IsPass (v : View) (number used nodes objects : ℕ) (counts : Counts) (stamps : List ℕ) : Type 0 where
  pub live : v.live ≡ true
  pub dictionaries : v.flat ≡ false
  pub same_number : number ≡ v.number
  pub same_used : used ≡ v.storage.used
  pub same_nodes : nodes ≡ v.births.nodes
  pub same_objects : objects ≡ v.births.objects
  pub same_counts : counts ≡ v.counts
  pub no_stamps : AreNoStamps stamps
