-- What a script asks may be called, from the heap at the start on; and what is left then is that of its run.
use Rattle.std.proofs.Common.{◌≡◌, ◌∙◌, ℕ, ◌<◌, List, [], ◌∷◌, length, sym, subst, arith, lit<}
use Rattle.jo_value.specs.Texts.{Table}
use Rattle.jo_parse_tree.specs.Trees.{Items}
use Rattle.jo_parse_grammar.specs.Sound.{IsSound}
use Rattle.jo_model.specs.declared.call.Outcome.{Outcome}
use Rattle.jo_model.specs.Heaps.{Heap, heap_at_start}
use Rattle.jo_model.specs.One.{one}
use Rattle.jo_model.proofs.LegalSteps.{kept}
use Rattle.jo_meaning.specs.Runs.{Interaction, Ends, Asks, Takes}
use Rattle.jo_meaning.specs.Play.{play}
use Rattle.jo_meaning.specs.Scripts.{interaction_of}
use Rattle.jo_meaning.specs.Histories.{IsHistoryOf, played_alone}
use Rattle.jo_meaning.specs.inner.Asking.{AreValidFrom}
use Rattle.jo_meaning.proofs.Alone.{history_of_script, entries_of-play, heap_alone, lines_alone}
use Rattle.jo_meaning.proofs.AskingAlone.{valid-alone}
use Rattle.jo_meaning.proofs.HeldProperties.{as_many_passes}
use Rattle.jo_vm.specs.Machines.{Standing, Free}
use Rattle.jo_testing.specs.Alone.{IsRunAlone}
use Rattle.jo_testing.specs.inner.Rests.{rest_of, MayGoOn, Leaves}

-- where each call of a run is valid, it may go on
goes_on : (t : Interaction) (heap : Heap) → 1 < length heap → AreValidFrom heap (play 1 t heap).history → MayGoOn t heap
goes_on (Ends outcome lines) heap within valid = tt
goes_on (Takes rest) heap within valid = goes_on rest heap within valid
goes_on (Asks c lines answered) heap within valid =
    let new : Heap = (one heap 1 c).0 in (
      within,
      valid.1.object,
      goes_on (answered (one heap 1 c).1) new (omega (arith, within, as_many_passes heap 1 c))
          (subst (λ h. AreValidFrom h (play 1 (answered (one heap 1 c).1) new).history) (kept heap 1 c) valid.2),
    )

-- so may a sound script
script_goes_on : (script : Items) (texts : Table) (turns : ℕ) → IsSound texts script → MayGoOn (interaction_of script texts turns) (heap_at_start 2)
script_goes_on script texts turns s = goes_on (interaction_of script texts turns) (heap_at_start 2) (lit< tt) (valid-alone texts script turns s)

-- so it may for a machine that begins there
pub begun_goes_on : (script : Items) (texts : Table) (turns : ℕ) (s : Standing) (heap : Heap) → IsSound texts script
    → s ≡ Free (interaction_of script texts turns) → heap ≡ heap_at_start 2 → MayGoOn (rest_of s) heap
begun_goes_on script texts turns s heap sound begins start =
    subst (λ x. MayGoOn (rest_of x) heap) (sym begins)
    (subst (MayGoOn (interaction_of script texts turns)) (sym start) (script_goes_on script texts turns sound))

-- what its run leaves is what it leaves alone
left_alone : (script : Items) (texts : Table) (turns : ℕ) (heap : Heap) (lines : List ℕ) (outcome : Outcome)
    → Leaves (played_alone script texts turns) heap lines outcome → IsRunAlone script texts turns heap lines outcome
left_alone script texts turns heap lines outcome left =
    let P : Outcome → Type 0 = λ o. IsHistoryOf (script ∷ []) texts turns (o ∷ []) (played_alone script texts turns).history in
    record {
      of_script = subst P (sym left.outcome_is) (history_of_script script texts turns);
      alone = entries_of-play (interaction_of script texts turns) (heap_at_start 2);
      heap_is = left.heap_is ∙ heap_alone script texts turns;
      lines_are = left.lines_are ∙ lines_alone script texts turns;
    }

-- and so for the machine
begun_leaves : (script : Items) (texts : Table) (turns : ℕ) (s : Standing) (heap left : Heap) (lines : List ℕ) (outcome : Outcome)
    → s ≡ Free (interaction_of script texts turns) → heap ≡ heap_at_start 2
    → Leaves (play 1 (rest_of s) heap) left lines outcome → Leaves (played_alone script texts turns) left lines outcome
begun_leaves script texts turns s heap left lines outcome begins start leaves =
    subst (λ h. Leaves (play 1 (interaction_of script texts turns) h) left lines outcome) start
    (subst (λ x. Leaves (play 1 (rest_of x) heap) left lines outcome) begins leaves)

pub begun_is_alone : (script : Items) (texts : Table) (turns : ℕ) (s : Standing) (heap left : Heap) (lines : List ℕ) (outcome : Outcome)
    → s ≡ Free (interaction_of script texts turns) → heap ≡ heap_at_start 2
    → Leaves (play 1 (rest_of s) heap) left lines outcome → IsRunAlone script texts turns left lines outcome
begun_is_alone script texts turns s heap left lines outcome begins start leaves =
    left_alone script texts turns left lines outcome (begun_leaves script texts turns s heap left lines outcome begins start leaves)

pub begun_outcome : (script : Items) (texts : Table) (turns : ℕ) (s : Standing) (heap left : Heap) (lines : List ℕ) (outcome : Outcome)
    → s ≡ Free (interaction_of script texts turns) → heap ≡ heap_at_start 2
    → Leaves (play 1 (rest_of s) heap) left lines outcome → outcome ≡ (played_alone script texts turns).outcome
begun_outcome script texts turns s heap left lines outcome begins start leaves =
    (begun_leaves script texts turns s heap left lines outcome begins start leaves).outcome_is
