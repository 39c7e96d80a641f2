-- What a call on the heap adds to what its pass knows.
use Rattle.std.specs.Prelude.{◌≡◌, ℕ, ◌+◌, ◌≤◌, List, [], ◌∷◌, ◌++◌, length, All}
use Rattle.jo_value.specs.declared.words.cell.Kind.TheVariants.{Dictionary}
use Rattle.jo_model.specs.declared.call.Call.{Call}
use Rattle.jo_model.specs.declared.call.Reply.{Reply}
use Rattle.jo_model.specs.declared.call.Reply.TheVariants as reply
use Rattle.jo_model.specs.Fits.{Fits}
use Rattle.jo_model.specs.Logs.{after}
use Rattle.jo_model.specs.Valid.{IsValidReply}
use Rattle.jo_rule.specs.Histories.{Begins}
use Rattle.jo_rule.specs.Views.{View, Try}
use Rattle.jo_rule.specs.Events.{placed}

-- a try of a lock during the call that comes after `calls` others, which expected the cell of a dictionary
pub record IsTryOfDictionary (calls : ℕ) (t : Try) : Type 0 where
  pub call : t.call ≡ calls
  pub kind : t.expected.kind ≡ Dictionary

-- the tries of a pass went on, with such ones alone
pub record TriesDictionaries (v u : View) : Type 0 where
  pub added : List Try
  pub tries : u.tries ≡ v.tries ++ added
  pub each : All (IsTryOfDictionary (length v.past.calls)) added

-- how many objects a reply says were made
abbrev pub made_by : Reply → ℕ
made_by (reply.Made o) = 1
made_by _ = 0

-- One call was placed, with its reply, not before what the pass had seen, and what it then has seen goes on from that. The
-- reply is valid there. No lock was tried but those of dictionaries.
pub record HasPlaced (passes : ℕ) (call : Call) (answer : Reply) (v u : View) : Type 0 where
  pub place : ℕ
  pub calls : u.past.calls ≡ v.past.calls ++ placed place call answer ∷ []
  pub later : length v.past.seen ≤ place
  pub seen : Begins u.past.seen v.past.seen
  pub valid : IsValidReply (after passes u.past.seen) answer
  pub fits : Fits call answer
  pub objects : u.births.objects ≡ v.births.objects + made_by answer
  pub nodes : u.births.nodes ≡ v.births.nodes
  pub tries : TriesDictionaries v u
  pub same_number : u.number ≡ v.number
  pub same_made : u.made ≡ v.made
  pub same_kept : u.kept ≡ v.kept
