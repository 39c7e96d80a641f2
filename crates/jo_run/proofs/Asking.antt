-- What a script asks stays valid while more objects become known.
use Rattle.std.proofs.Common.{ℕ, List, [], refl, sym, subst, inl, inr, lit<}
use Rattle.jo_value.specs.declared.value.ObjId.{ObjId}
use Rattle.jo_value.specs.declared.value.Value.{Value}
use Rattle.jo_value.specs.declared.value.Value.TheVariants as value
use Rattle.jo_value.specs.Texts.{Table}
use Rattle.jo_parse_tree.specs.Trees.{Items}
use Rattle.jo_parse_grammar.specs.Sound.{IsSound}
use Rattle.jo_model.specs.declared.call.Call.{Call}
use Rattle.jo_model.specs.declared.call.Call.TheVariants as call
use Rattle.jo_model.specs.declared.call.Reply.{Reply}
use Rattle.jo_model.specs.declared.call.Reply.TheVariants as reply
use Rattle.jo_model.specs.Fits.{Fits}
use Rattle.jo_model.specs.Heaps.{IsBorn, shared}
use Rattle.jo_model.specs.Logs.{Log, after}
use Rattle.jo_model.specs.Valid.{IsValidReply}
use Rattle.jo_rule.specs.Histories.{Begins}
use Rattle.jo_rule.specs.Marks.{Mark}
use Rattle.jo_guard.proofs.Waiting.{kept_longer}
use Rattle.jo_meaning.specs.Runs.{Interaction, Ends, Asks, Takes}
use Rattle.jo_meaning.specs.Scripts.{interaction_of}
use Rattle.jo_meaning.specs.inner.Asking.{Known, known_at_start, known_after, IsGiven, IsKnown, Numbers, all_numbers, GivesText, IsSoundValue, IsSoundCall, AsksSoundly, AsksValidly}
use Rattle.jo_meaning.proofs.AskingScripts.{asks_validly}

-- ---- more objects are known

known_more : (known more : Known) → ((o : ObjId) → known o → more o) → (v : Value) → IsKnown known v → IsKnown more v
known_more known more has (value.Object o) k = has o k
known_more known more has value.Undefined k = tt
known_more known more has value.Null k = tt
known_more known more has (value.Bool b) k = tt
known_more known more has (value.Int i) k = tt
known_more known more has (value.Text t) k = tt

module _ (IsText : Numbers) where
  value_more : (known more : Known) → ((o : ObjId) → known o → more o) → (v : Value) → IsSoundValue IsText known v → IsSoundValue IsText more v
  value_more known more has v s = record { range = s.range; text = s.text; object = known_more known more has v s.object }

  call_more : (known more : Known) → ((o : ObjId) → known o → more o) → (c : Call) → IsSoundCall IsText known c → IsSoundCall IsText more c
  call_more known more has call.New s = tt
  call_more known more has (call.Get o key) s = (has o s.0, s.1)
  call_more known more has (call.Has o key) s = (has o s.0, s.1)
  call_more known more has (call.Names o) s = has o s
  call_more known more has (call.Put o key v) s = (has o s.0, s.1, value_more known more has v s.2)
  call_more known more has (call.Delete o key) s = (has o s.0, s.1)
  call_more known more has (call.Cas o key expected desired) s =
      (has o s.0, s.1, value_more known more has expected s.2, value_more known more has desired s.3)

  after_more : (known more : Known) → ((o : ObjId) → known o → more o) → (answer : Reply) → (o : ObjId) → known_after known answer o → known_after more answer o
  after_more known more has answer o (inl k) = inl (has o k)
  after_more known more has answer o (inr given) = inr given

  -- what is asked soundly is so where more is known
  pub asks_more : (known more : Known) → ((o : ObjId) → known o → more o) → (t : Interaction) → AsksSoundly IsText known t → AsksSoundly IsText more t
  asks_more known more has (Ends outcome lines) asks = tt
  asks_more known more has (Takes rest) asks = asks_more known more has rest asks
  asks_more known more has (Asks c lines answered) asks = (
    call_more known more has c asks.0,
    λ answer s. asks_more (known_after known answer) (known_after more answer) (after_more known more has answer) (answered answer) (asks.1 answer s),
  )

-- ---- the objects that are born in what was seen of a log

abbrev pub born_in : ℕ → Log Mark → Known
born_in P seen o = IsBorn (after P seen) o

-- the shared object is, however little was seen
shared_born : (P : ℕ) (seen : Log Mark) → born_in P seen shared
shared_born P seen = kept_longer P seen [] (seen, refl) shared (lit< tt)

-- a sound script asks validly from its start on
pub asks_at_start : (P : ℕ) (seen : Log Mark) (script : Items) (texts : Table) (turns : ℕ) → IsSound texts script
    → AsksValidly (born_in P seen) (interaction_of script texts turns)
asks_at_start P seen script texts turns s =
    asks_more all_numbers known_at_start (born_in P seen) (λ o e. subst (born_in P seen) (sym e) (shared_born P seen)) (interaction_of script texts turns)
    (asks_validly script texts turns s)

-- what a valid reply gives is born
given_born : (P : ℕ) (seen : Log Mark) (answer : Reply) → IsValidReply (after P seen) answer → (o : ObjId) → IsGiven answer o → born_in P seen o
given_born P seen (reply.Made given) valid o e = subst (born_in P seen) (sym e) valid
given_born P seen (reply.Found (value.Object given)) valid o e = subst (born_in P seen) (sym e) valid
given_born P seen _ valid o none = absurd none

text_given : (answer : Reply) → GivesText all_numbers answer
text_given (reply.Found (value.Text t)) = tt
text_given _ = tt

-- after a reply that fits, and is valid in what was seen by then, a script goes on to ask validly
pub asks_after : (P : ℕ) (seen log : Log Mark) (c : Call) (lines : List ℕ) (answered : Reply → Interaction) (answer : Reply) → Begins log seen
    → Fits c answer → IsValidReply (after P log) answer → AsksValidly (born_in P seen) (Asks c lines answered) → AsksValidly (born_in P log) (answered answer)
asks_after P seen log c lines answered answer more fits valid asks =
    let has : (o : ObjId) → known_after (born_in P seen) answer o → born_in P log o = λ o k. elim k [
      | inl born ↦ kept_longer P log seen more o born
      | inr given ↦ given_born P log answer valid o given
    ] in
    asks_more all_numbers (known_after (born_in P seen) answer) (born_in P log) has (answered answer)
    (asks.1 answer (record { fits = fits; text = text_given answer }))
