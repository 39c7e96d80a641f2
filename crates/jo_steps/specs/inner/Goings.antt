-- How a pass goes on, beside what it is told.
use Rattle.std.specs.Prelude.{◌≡◌, ℕ, ◌≤◌}
use Rattle.jo_value.specs.declared.limits.TheConstants.{MOST_OBJECTS, MOST_STORAGE}
use Rattle.jo_rule.specs.declared.counts.Counts.{Counts}
use Rattle.jo_rule.specs.Views.{View, word_in}

-- what it has used, its objects and its counts are these after a step, and it stays a pass of its heap
pub record GoesOn (v u : View) (used objects : ℕ) (counts : Counts) : Type 0 where
  pub same_flat : v.flat ≡ u.flat
  pub same_used : used ≡ u.storage.used
  pub same_nodes : v.births.nodes ≡ u.births.nodes
  pub same_objects : objects ≡ u.births.objects
  pub same_counts : counts ≡ u.counts
  pub few : u.births.objects ≤ MOST_OBJECTS
  pub named : u.storage.named ≤ u.storage.used
  pub most : u.storage.used ≤ MOST_STORAGE
  pub zeros : (k : ℕ) → u.storage.used ≤ k → word_in u.storage.fresh k ≡ 0
