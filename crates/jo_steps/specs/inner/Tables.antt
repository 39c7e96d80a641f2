-- The rule as a fact about the kit's table, and what a step tells its caller.
use Rattle.std.specs.Prelude.{◌≡◌, ℕ, true, List, length, map, slice_set}
use mathlib.Core.Option.{some}
use lib.ListN.{get_elem?}
use Rattle.atomic_table.specs.Table.{State, Step, Me}
use Rattle.atomic_table.specs.Seated.{TableId}
use Rattle.jo_rule.specs.Names.{WordName, words_in_all}
use Rattle.jo_rule.specs.Areas.{Words, words_of, put}
use Rattle.jo_rule.specs.Histories.{ArePlacedIn}
use Rattle.jo_rule.specs.Views.{View}
use Rattle.jo_rule.specs.Rule.{Rule}
use Rattle.jo_steps.specs.declared.known.Known.{Known}

-- what a pass knows, as the table keeps it
abbrev pub known_by : View → Known
known_by v = record { view = v }

abbrev pub views_of : List Known → List View
views_of ks = map (λ k. k.view) ks

-- the table of `passes` passes has all words, and keeps the rule
pub record Holds (passes : ℕ) (s : State (Unit {0}) Known) : Type 0 where
  pub all : length s.words ≡ words_in_all passes
  pub rule : Rule passes (words_of passes s.words) (views_of s.views)

-- what a step tells: of the view before it, the word that it found, and the view after it
abbrev pub StepFact : Type 1
StepFact = View → ℕ → View → Type 0

abbrev pub no_fact : StepFact
no_fact v found u = Unit {0}

-- Beside that, no step changes the slots of a seat, its number, or that it is live. After it the calls of a live pass are lawful in
-- what it has seen.
pub record HasTold (passes : ℕ) (of : StepFact) (v u : View) (found : ℕ) : Type 0 where
  pub number : u.number ≡ v.number
  pub live : u.live ≡ v.live
  pub placed : v.live ≡ true → ArePlacedIn passes u.past.seen u.number u.past.calls
  pub told : of v found u

abbrev pub tells : ℕ → StepFact → Step (Unit {0}) → Me (Unit {0}) Known → ℕ → Me (Unit {0}) Known → Type 0
tells passes told s m found after = (after.1 ≡ m.1) × HasTold passes told m.0.view after.0.view found

-- Whatever the words and views are, a step on the word of this name keeps the rule and tells that, where the view at a seat
-- becomes another one.
abbrev pub Keeps : ℕ → WordName → (ℕ → ℕ) → ℕ → View → (ℕ → View → Type 0) → Type 0
Keeps passes m f seat v told =
    (w : Words) (views : List View) → Rule passes w views → get_elem? views seat ≡ some v
    → (u : View) × Rule passes (put w m (f (w m))) (slice_set views seat u) × (u.number ≡ v.number) × (u.live ≡ v.live) × told (w m) u

-- a seat is the same one, and holds the same slots
pub record IsSameSeat (table : TableId) (id : ℕ) (slots : List (ℕ × Unit {0})) (table' : TableId) (id' : ℕ) (slots' : List (ℕ × Unit {0})) : Type 0 where
  pub same_table : table' ≡ table
  pub same_id : id' ≡ id
  pub same_slots : slots' ≡ slots
