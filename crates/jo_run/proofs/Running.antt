-- How the run of a script goes on over the shared heap, from each stop of its machine to the next.
use Rattle.std.proofs.Common.{◌≡◌, ◌∙◌, ℕ, List, [], ◌∷◌, ◌++◌, refl, sym, ap, subst, append-nil}
use Rattle.std.proofs.lemmas.List.{append_assoc}
use Rattle.std.proofs.lemmas.List.Elements.{All-nil, All-append, All-weaker}
use Rattle.jo_value.specs.Texts.{Table}
use Rattle.jo_parse_tree.specs.Trees.{Items}
use Rattle.jo_parse_grammar.specs.Sound.{IsSound}
use Rattle.jo_model.specs.declared.call.Call.{Call}
use Rattle.jo_model.specs.declared.call.Outcome.{Outcome}
use Rattle.jo_model.specs.declared.call.Reply.{Reply}
use Rattle.jo_model.specs.declared.call.Reply.TheVariants.{Done}
use Rattle.jo_model.specs.Logs.{after}
use Rattle.jo_model.specs.Placed.{PlacedCall}
use Rattle.jo_model.specs.Valid.{IsValidCall}
use Rattle.jo_rule.specs.Events.{placed}
use Rattle.jo_rule.specs.Views.{View, Try}
use Rattle.jo_rule.proofs.Histories.{begins_itself, begins_through}
use Rattle.jo_guard.specs.Placing.{HasPlaced, IsTryOfDictionary}
use Rattle.jo_meaning.specs.Runs.{Interaction, Ends, Asks, Takes}
use Rattle.jo_meaning.specs.Scripts.{interaction_of}
use Rattle.jo_meaning.specs.inner.Asking.{AsksValidly, all_numbers}
use Rattle.jo_meaning.proofs.SoundCalls.{valid_call}
use Rattle.jo_vm.specs.Machines.{Machine, Standing, Free, Waiting, IsFree, stands, Turned, Called, Ended, Answered}
use Rattle.jo_run.specs.Scripts.{ExpectsDictionary, HasRun, IsAtStart, MayRun}
use Rattle.jo_run.proofs.Asking.{asks_after, asks_at_start, born_in}

-- ---- one more call, and none

-- a run that took a turn was run as the rest of it
run_turn : (rest : Interaction) (outcome : Outcome) (lines : List ℕ) (v w : View) → HasRun rest outcome lines v w → HasRun (Takes rest) outcome lines v w
run_turn rest outcome lines v w r = record {
  placed = r.placed;
  calls = r.calls;
  asked = r.asked;
  printed = r.printed;
  ended = r.ended;
  seen = r.seen;
  tried = r.tried;
  tries = r.tries;
  dictionaries = r.dictionaries;
  same_number = r.same_number;
  same_made = r.same_made;
  same_kept = r.same_kept;
}

-- one that asked a call was run as the rest of it at the reply
run_call : (P : ℕ) (c : Call) (so_far : List ℕ) (answered : Reply → Interaction) (answer : Reply) (v u : View) → HasPlaced P c answer v u
    → (outcome : Outcome) (lines : List ℕ) (w : View) → HasRun (answered answer) outcome lines u w → HasRun (Asks c so_far answered) outcome lines v w
run_call P c so_far answered answer v u p outcome lines w r =
    let first : PlacedCall = placed p.place c answer in
    let added : List Try = p.tries.added in
    record {
      placed = first ∷ r.placed;
      calls = r.calls ∙ (ap (λ (l : List PlacedCall). l ++ r.placed) p.calls ∙ append_assoc v.past.calls (first ∷ []) r.placed);
      asked = ap (λ (l : List Call). c ∷ l) r.asked;
      printed = r.printed;
      ended = r.ended;
      seen = begins_through v.past.seen u.past.seen w.past.seen r.seen p.seen;
      tried = added ++ r.tried;
      tries = r.tries ∙ (ap (λ (l : List Try). l ++ r.tried) p.tries.tries ∙ append_assoc v.tries added r.tried);
      dictionaries = All-append ExpectsDictionary added r.tried
          (All-weaker (IsTryOfDictionary _) ExpectsDictionary (λ t d. d.kind) added p.tries.each) r.dictionaries;
      same_number = r.same_number ∙ p.same_number;
      same_made = r.same_made ∙ p.same_made;
      same_kept = r.same_kept ∙ p.same_kept;
    }

-- one that is at its end places no call
run_end : (outcome : Outcome) (lines : List ℕ) (v : View) → HasRun (Ends outcome lines) outcome lines v v
run_end outcome lines v = record {
  placed = [];
  calls = sym (append-nil v.past.calls);
  asked = refl;
  printed = refl;
  ended = refl;
  seen = begins_itself v.past.seen;
  tried = [];
  tries = sym (append-nil v.tries);
  dictionaries = All-nil ExpectsDictionary;
  same_number = refl;
  same_made = refl;
  same_kept = refl;
}

-- ---- from each stop to the next

-- what is left for a machine that goes on; one that waits goes on with a reply
abbrev pub rest_at : Standing → Reply → Interaction
rest_at (Free rest) answer = rest
rest_at (Waiting answered) answer = answered answer

abbrev pub rest_of : Standing → Interaction
rest_of s = rest_at s Done

-- A machine that began so goes on: what is left asks validly, and to run that to its end is to run the whole to the same end.
pub record GoesOn (P : ℕ) (begun s : Standing) (v u : View) : Type 0 where
  pub free : IsFree s
  pub asks : AsksValidly (born_in P u.past.seen) (rest_of s)
  pub ends : (outcome : Outcome) (lines : List ℕ) (w : View) → HasRun (rest_of s) outcome lines u w → HasRun (rest_of begun) outcome lines v w

begins_on : (P : ℕ) (s : Standing) (script : Items) (texts : Table) (turns : ℕ) (v : View) → IsSound texts script → s ≡ Free (interaction_of script texts turns) → GoesOn P s s v v
begins_on P s script texts turns v sound is =
    subst (λ x. GoesOn P x x v v) (sym is) (record {
      free = tt;
      asks = asks_at_start P v.past.seen script texts turns sound;
      ends = λ outcome lines w r. r;
    })

-- at the start of a script
pub goes_on_at_start : (P : ℕ) (m : Machine) (v : View) → MayRun m → GoesOn P (stands m) (stands m) v v
goes_on_at_start P m v may = begins_on P (stands m) may.0 may.1 may.2 v may.3.sound may.3.begins

turn : (P : ℕ) (b s s' : Standing) (v u : View) (rest : Interaction) → s ≡ Free (Takes rest) → s' ≡ Free rest → GoesOn P b s v u → GoesOn P b s' v u
turn P b s s' v u rest was becomes g =
    let g' : GoesOn P b (Free (Takes rest)) v u = subst (λ x. GoesOn P b x v u) was g in
    subst (λ x. GoesOn P b x v u) (sym becomes) (record {
      free = tt;
      asks = g'.asks;
      ends = λ outcome lines w r. g'.ends outcome lines w (run_turn rest outcome lines u w r);
    })

-- after a turn
pub goes_on_after_turn : (P : ℕ) (b : Standing) (m m' : Machine) (v u : View) → GoesOn P b (stands m) v u → Turned m m' → GoesOn P b (stands m') v u
goes_on_after_turn P b m m' v u g t = turn P b (stands m) (stands m') v u t.rest t.was t.becomes g

call : (P : ℕ) (b s s' s'' : Standing) (v u w : View) (c : Call) (lines : List ℕ) (answered goes_on : Reply → Interaction) (answer : Reply)
    → s ≡ Free (Asks c lines answered) → s' ≡ Waiting answered → s' ≡ Waiting goes_on → s'' ≡ Free (goes_on answer)
    → HasPlaced P c answer u w → GoesOn P b s v u → GoesOn P b s'' v w
call P b s s' s'' v u w c lines answered goes_on answer was waits same becomes p g =
    let g' : GoesOn P b (Free (Asks c lines answered)) v u = subst (λ x. GoesOn P b x v u) was g in
    let e : Waiting answered ≡ Waiting goes_on = sym waits ∙ same in
    let rests : s'' ≡ Free (answered answer) = becomes ∙ sym (ap (λ x. Free (rest_at x answer)) e) in
    subst (λ x. GoesOn P b x v w) (sym rests) (record {
      free = tt;
      asks = asks_after P u.past.seen w.past.seen c lines answered answer p.seen p.fits p.valid g'.asks;
      ends = λ outcome printed x r. g'.ends outcome printed x (run_call P c lines answered answer u w p outcome printed x r);
    })

-- after a call and its reply
pub goes_on_after_call : (P : ℕ) (b : Standing) (m m' m'' : Machine) (v u w : View) (c : Call) (answer : Reply) → GoesOn P b (stands m) v u
    → Called c m m' → HasPlaced P c answer u w → Answered m' answer m'' → GoesOn P b (stands m'') v w
goes_on_after_call P b m m' m'' v u w c answer g asked p a =
    call P b (stands m) (stands m') (stands m'') v u w c m'.lines asked.answered a.answered answer asked.was asked.becomes a.was a.becomes p g

-- ---- what the stops ask and leave

-- a call that is asked is valid where it is made
pub valid_asked : (P : ℕ) (b : Standing) (m m' : Machine) (v u : View) (c : Call) → GoesOn P b (stands m) v u → Called c m m' → IsValidCall (after P u.past.seen) c
valid_asked P b m m' v u c g asked =
    let g' : GoesOn P b (Free (Asks c m'.lines asked.answered)) v u = subst (λ x. GoesOn P b x v u) asked.was g in
    valid_call all_numbers (born_in P u.past.seen) (after P u.past.seen) (λ o born. born) c g'.asks.0

-- at its end the script was run
pub run_at_end : (P : ℕ) (m0 m m' : Machine) (v u : View) (outcome : Outcome) (script : Items) (texts : Table) (turns : ℕ) → GoesOn P (stands m0) (stands m) v u
    → Ended outcome m m' → IsAtStart script texts turns m0 → HasRun (interaction_of script texts turns) outcome m'.lines v u
run_at_end P m0 m m' v u outcome script texts turns g e at =
    let g' : GoesOn P (stands m0) (Free (Ends outcome m'.lines)) v u = subst (λ x. GoesOn P (stands m0) x v u) e.was g in
    subst (λ x. HasRun (rest_of x) outcome m'.lines v u) at.begins (g'.ends outcome m'.lines u (run_end outcome m'.lines u))
