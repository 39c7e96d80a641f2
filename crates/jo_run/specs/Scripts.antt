-- What the run of a script adds to what its pass knows.
use Rattle.std.specs.Prelude.{◌≡◌, ℕ, List, ◌++◌, map, All}
use Rattle.jo_value.specs.Texts.{Table}
use Rattle.jo_value.specs.declared.words.cell.Kind.TheVariants.{Dictionary}
use Rattle.jo_parse_tree.specs.Trees.{Items}
use Rattle.jo_parse_grammar.specs.Sound.{IsSound}
use Rattle.jo_model.specs.declared.call.Call.{Call}
use Rattle.jo_model.specs.declared.call.Outcome.{Outcome}
use Rattle.jo_model.specs.declared.call.Reply.{Reply}
use Rattle.jo_model.specs.Placed.{PlacedCall}
use Rattle.jo_rule.specs.Histories.{Begins}
use Rattle.jo_rule.specs.Views.{View, Try}
use Rattle.jo_meaning.specs.Runs.{Interaction, follow, Ended}
use Rattle.jo_meaning.specs.Scripts.{interaction_of}
use Rattle.jo_vm.specs.Machines.{Machine, Free, stands}

-- a machine at the start of a sound script, with `turns` turns
pub record IsAtStart (script : Items) (texts : Table) (turns : ℕ) (m : Machine) : Type 0 where
  pub sound : IsSound texts script
  pub begins : stands m ≡ Free (interaction_of script texts turns)

-- a machine at the start of some sound script
abbrev pub MayRun : Machine → Type 0
MayRun m = (script : Items) × (texts : Table) × (turns : ℕ) × IsAtStart script texts turns m

-- the calls among placed ones, and the replies to them, in their order
abbrev pub calls_in : List PlacedCall → List Call
calls_in placed = map (λ p. p.call) placed

abbrev pub replies_in : List PlacedCall → List Reply
replies_in placed = map (λ p. p.reply) placed

-- a try of a lock that expected the cell of a dictionary
abbrev pub ExpectsDictionary : Try → Type 0
ExpectsDictionary t = t.expected.kind ≡ Dictionary

-- A script was run to its end by this outcome, and these are its lines. To the calls of its pass exactly those are added that the
-- script asks, in its order, each with the reply that it went on with. No lock was tried but those of dictionaries.
pub record HasRun (asking : Interaction) (outcome : Outcome) (lines : List ℕ) (v u : View) : Type 0 where
  pub placed : List PlacedCall
  pub calls : u.past.calls ≡ v.past.calls ++ placed
  pub asked : calls_in placed ≡ (follow asking (replies_in placed)).calls
  pub printed : lines ≡ (follow asking (replies_in placed)).lines
  pub ended : (follow asking (replies_in placed)).stand ≡ Ended outcome
  pub seen : Begins u.past.seen v.past.seen
  pub tried : List Try
  pub tries : u.tries ≡ v.tries ++ tried
  pub dictionaries : All ExpectsDictionary tried
  pub same_number : u.number ≡ v.number
  pub same_made : u.made ≡ v.made
  pub same_kept : u.kept ≡ v.kept
