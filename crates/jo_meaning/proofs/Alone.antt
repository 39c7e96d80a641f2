-- The run of a pass alone, with the replies of one thread, is a legal history of its script.
use Rattle.std.proofs.Common.{◌≡◌, ℕ, zero, suc, ◌+◌, ◌<◌, subst, [], ◌∷◌, ◌++◌, refl, sym, ap, ◌∙◌, inl, append_assoc, append-nil, lit<}
use Rattle.std.specs.Prelude.{map, slice_get, Some}
use Rattle.std.proofs.lemmas.List.Sums.{fold-append}
use Rattle.jo_value.specs.Texts.{Table}
use Rattle.jo_parse_tree.specs.Trees.{Items}
use Rattle.jo_model.specs.declared.call.Call.{Call}
use Rattle.jo_model.specs.declared.call.Outcome.{Outcome}
use Rattle.jo_model.specs.Heaps.{Heap, heap_at_start}
use Rattle.jo_model.specs.One.{one}
use Rattle.jo_model.specs.History.{Entry, History, after_entry, heap_after, IsLegalAfter, entries_of}
use Rattle.jo_model.proofs.LegalSteps.{kept}
use Rattle.jo_meaning.specs.Runs.{Interaction, Ends, Asks, Takes, Run, Ended, after_call, after_turn, follow}
use Rattle.jo_meaning.specs.Play.{Played, play}
use Rattle.jo_meaning.specs.Scripts.{interaction_of}
use Rattle.jo_meaning.specs.Histories.{run_in, IsRunIn, IsHistoryOf, played_alone}

-- a call with the reply of one thread
abbrev entry_of : Heap → ℕ → Call → Entry
entry_of heap pass c = record { pass = pass; call = c; reply = (one heap pass c).1 }

-- the heap after one more call
after_one : (passes : ℕ) (before : History) (heap : Heap) (pass : ℕ) (c : Call) → heap_after passes before ≡ heap
    → heap_after passes (before ++ entry_of heap pass c ∷ []) ≡ (one heap pass c).0
after_one passes before heap pass c e =
    fold-append after_entry (heap_at_start passes) before (entry_of heap pass c ∷ [])
    ∙ ap (λ h. after_entry h (entry_of heap pass c)) e
    ∙ kept heap pass c

-- the history is legal
pub legal : (passes pass : ℕ) → pass < passes → (t : Interaction) (heap : Heap) (before : History) → heap_after passes before ≡ heap
    → IsLegalAfter passes before (play pass t heap).history
legal passes pass lt (Ends outcome lines) heap before e = tt
legal passes pass lt (Takes rest) heap before e = legal passes pass lt rest heap before e
legal passes pass lt (Asks c lines answered) heap before e = (
  record { pass = lt; reply = inl (ap (λ h. (one h pass c).1) (sym e)) },
  legal passes pass lt (answered (one heap pass c).1) (one heap pass c).0 (before ++ entry_of heap pass c ∷ []) (after_one passes before heap pass c e),
)

-- the heap that the run leaves is the one after its history
pub heap_after-play : (passes pass : ℕ) (t : Interaction) (heap : Heap) (before : History) → heap_after passes before ≡ heap
    → heap_after passes (before ++ (play pass t heap).history) ≡ (play pass t heap).heap
heap_after-play passes pass (Ends outcome lines) heap before e = ap (heap_after passes) (append-nil before) ∙ e
heap_after-play passes pass (Takes rest) heap before e = heap_after-play passes pass rest heap before e
heap_after-play passes pass (Asks c lines answered) heap before e =
    ap (heap_after passes) (sym (append_assoc before (entry_of heap pass c ∷ []) _))
    ∙ heap_after-play passes pass (answered (one heap pass c).1) (one heap pass c).0 (before ++ entry_of heap pass c ∷ []) (after_one passes before heap pass c e)

-- the run that was played, as one that ended
abbrev pub run_of : Played → Run
run_of p = record { calls = map (λ e. e.call) p.history; turns = p.turns; lines = p.lines; stand = Ended p.outcome }

-- the calls, the turns, the lines and the end are those of the meaning at the replies of the history
pub follow-play : (pass : ℕ) (t : Interaction) (heap : Heap)
    → follow t (map (λ e. e.reply) (play pass t heap).history) ≡ run_of (play pass t heap)
follow-play pass (Ends outcome lines) heap = refl
follow-play pass (Takes rest) heap = ap after_turn (follow-play pass rest heap)
follow-play pass (Asks c lines answered) heap = ap (after_call c) (follow-play pass (answered (one heap pass c).1) (one heap pass c).0)

-- all its calls are those of pass 1, and none is of pass 0
pub entries_of-play : (t : Interaction) (heap : Heap) → entries_of 1 (play 1 t heap).history ≡ (play 1 t heap).history
entries_of-play (Ends outcome lines) heap = refl
entries_of-play (Takes rest) heap = entries_of-play rest heap
entries_of-play (Asks c lines answered) heap = ap (λ w. entry_of heap 1 c ∷ w) (entries_of-play (answered (one heap 1 c).1) (one heap 1 c).0)

setup : (t : Interaction) (heap : Heap) → entries_of 0 (play 1 t heap).history ≡ []
setup (Ends outcome lines) heap = refl
setup (Takes rest) heap = setup rest heap
setup (Asks c lines answered) heap = setup (answered (one heap 1 c).1) (one heap 1 c).0

-- a list of one script
each_of_one : (script : Items) (texts : Table) (turns : ℕ) (outcome : Outcome) (w : History) → IsRunIn w 1 script texts turns outcome
    → (k : ℕ) (s : Items) → slice_get (script ∷ []) k ≡ Some s
    → (o : Outcome) × (slice_get (outcome ∷ []) k ≡ Some o) × IsRunIn w (k + 1) s texts turns o
each_of_one script texts turns outcome w run zero s e =
    let same : script ≡ s = cc in
    (outcome, refl, let P : Items → Type 0 = λ x. IsRunIn w 1 x texts turns outcome in subst P same run)
each_of_one script texts turns outcome w run (suc k) s e = let none : ⊥ = cc in absurd none

module _ (script : Items) (texts : Table) (turns : ℕ) where
  abbrev pub alone : Played
  alone = played_alone script texts turns

  -- what the script does in the history that one thread gives for it
  pub run_alone : run_in alone.history 1 script texts turns ≡ run_of alone
  run_alone =
      ap (λ w. follow (interaction_of script texts turns) (map (λ e. e.reply) w)) (entries_of-play (interaction_of script texts turns) (heap_at_start 2))
      ∙ follow-play 1 (interaction_of script texts turns) (heap_at_start 2)

  -- it is a history of its script, beside pass 0
  pub history_of_script : IsHistoryOf (script ∷ []) texts turns (alone.outcome ∷ []) alone.history
  history_of_script = record {
    legal = legal 2 1 (lit< tt) (interaction_of script texts turns) (heap_at_start 2) [] refl;
    setup = ap (map (λ e. e.call)) (setup (interaction_of script texts turns) (heap_at_start 2));
    as_many = refl;
    each = each_of_one script texts turns alone.outcome alone.history (record {
      calls = ap (map (λ e. e.call)) (entries_of-play (interaction_of script texts turns) (heap_at_start 2)) ∙ ap (λ r. r.calls) (sym run_alone);
      ended = ap (λ r. r.stand) run_alone;
    });
  }

  pub lines_alone : alone.lines ≡ (run_in alone.history 1 script texts turns).lines
  lines_alone = ap (λ r. r.lines) (sym run_alone)

  pub turns_alone : alone.turns ≡ (run_in alone.history 1 script texts turns).turns
  turns_alone = ap (λ r. r.turns) (sym run_alone)

  pub heap_alone : alone.heap ≡ heap_after 2 alone.history
  heap_alone = sym (heap_after-play 2 1 (interaction_of script texts turns) (heap_at_start 2) [] refl)
