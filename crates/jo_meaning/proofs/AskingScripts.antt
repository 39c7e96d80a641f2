-- What a sound script asks is sound for the objects known by then.
use Rattle.std.proofs.Common.{◌≡◌, ◌<◌, ℕ, length, List, [], ◌∷◌, refl, subst, inl, inr}
use Rattle.jo_value.specs.declared.value.ObjId.{ObjId}
use Rattle.jo_value.specs.Texts.{Table}
use Rattle.jo_parse_tree.specs.Trees.{Items}
use Rattle.jo_parse_grammar.specs.Sound.{IsSound}
use Rattle.jo_model.specs.declared.call.Call.{Call}
use Rattle.jo_model.specs.declared.call.Reply.{Reply}
use Rattle.jo_model.specs.Heaps.{shared}
use Rattle.jo_meaning.specs.Runs.{Interaction, Ends, Asks, Takes, Waits, follow}
use Rattle.jo_meaning.specs.Scripts.{interaction_of, does}
use Rattle.jo_meaning.specs.inner.Asking.{Known, known_at_start, known_after, known_by, IsSoundCall, AsksSoundly, AsksValidly, AreSoundReplies, Numbers, numbers_of, all_numbers}
use Rattle.jo_meaning.proofs.Asking.{AsksAmong}
use Rattle.jo_meaning.proofs.AskingStatements.{script_among}

-- what is asked is sound for the objects known before it, where it is so among any that have these
pub soundly : (texts : Table) (IsText : Numbers) (covers : (n : ℕ) → n < length texts → IsText n) (known : Known) (t : Interaction)
    → ((more : Known) → ((o : ObjId) → known o → more o) → AsksAmong texts IsText covers more t) → AsksSoundly IsText known t
soundly texts IsText covers known (Ends outcome lines) among = tt
soundly texts IsText covers known (Takes rest) among = soundly texts IsText covers known rest among
soundly texts IsText covers known (Asks c lines answered) among = (
  (among known (λ o o_known. o_known)).0,
  λ answer a. soundly texts IsText covers (known_after known answer) (answered answer)
      (λ more has. (among more (λ o o_known. has o (inl o_known))).1 answer a (λ o given. has o (inr given))),
)

-- whatever replies come that are sound, each call that a sound script asks is sound for the objects that it knows by then
asks_among : (script : Items) (texts : Table) (turns : ℕ) (IsText : Numbers) (covers : (n : ℕ) → n < length texts → IsText n) → IsSound texts script
    → AsksSoundly IsText known_at_start (interaction_of script texts turns)
asks_among script texts turns IsText covers s =
    soundly texts IsText covers known_at_start (interaction_of script texts turns) (λ more has. script_among texts IsText covers more (has shared refl) script turns s)

pub asks_soundly : (script : Items) (texts : Table) (turns : ℕ) → IsSound texts script
    → AsksSoundly (numbers_of texts) known_at_start (interaction_of script texts turns)
asks_soundly script texts turns s = asks_among script texts turns (numbers_of texts) (λ n lt. lt) s

-- and each is valid where those are born, whatever texts the replies hold
pub asks_validly : (script : Items) (texts : Table) (turns : ℕ) → IsSound texts script
    → AsksValidly known_at_start (interaction_of script texts turns)
asks_validly script texts turns s = asks_among script texts turns all_numbers (λ n lt. tt) s

-- so it is of the call that waits at such replies
waits_soundly : (texts : Table) (t : Interaction) (known : Known) (answers : List Reply) (c : Call) → AsksSoundly (numbers_of texts) known t
    → AreSoundReplies (numbers_of texts) (follow t answers).calls answers → (follow t answers).stand ≡ Waits c → IsSoundCall (numbers_of texts) (known_by known answers) c
waits_soundly texts (Ends outcome lines) known answers c asks replies e = let none : ⊥ = cc in absurd none
waits_soundly texts (Takes rest) known answers c asks replies e = waits_soundly texts rest known answers c asks replies e
waits_soundly texts (Asks d lines answered) known [] c asks replies e =
    let same : d ≡ c = cc in subst (IsSoundCall (numbers_of texts) known) same asks.0
waits_soundly texts (Asks d lines answered) known (answer ∷ answers) c asks replies e =
    waits_soundly texts (answered answer) (known_after known answer) answers c (asks.1 answer replies.0) replies.1 e

pub does_soundly : (script : Items) (texts : Table) (turns : ℕ) (answers : List Reply) (c : Call) → IsSound texts script
    → AreSoundReplies (numbers_of texts) (does script texts turns answers).calls answers → (does script texts turns answers).stand ≡ Waits c
    → IsSoundCall (numbers_of texts) (known_by known_at_start answers) c
does_soundly script texts turns answers c s replies e =
    waits_soundly texts (interaction_of script texts turns) known_at_start answers c (asks_soundly script texts turns s) replies e
