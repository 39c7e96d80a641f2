-- A call and its reply leave a run that ends as the one before.
use Rattle.std.proofs.Common.{◌≡◌, ◌∙◌, ℕ, List, sym, ap, subst}
use Rattle.jo_model.specs.declared.call.Call.{Call}
use Rattle.jo_model.specs.declared.call.Outcome.{Outcome}
use Rattle.jo_model.specs.declared.call.Reply.{Reply}
use Rattle.jo_model.specs.Heaps.{Heap}
use Rattle.jo_model.specs.One.{one}
use Rattle.jo_meaning.specs.Runs.{Interaction, Asks}
use Rattle.jo_meaning.specs.Play.{play}
use Rattle.jo_vm.specs.Machines.{Standing, Free, Waiting, IsFree}
use Rattle.jo_testing.specs.inner.Rests.{rest_of, MayGoOn, Leaves}

-- what is left ends as before
pub record GoesOn (s s' : Standing) (heap heap' : Heap) : Type 0 where
  pub free : IsFree s'
  pub calls : MayGoOn (rest_of s') heap'
  pub ends : (left : Heap) (lines : List ℕ) (outcome : Outcome) → Leaves (play 1 (rest_of s') heap') left lines outcome
      → Leaves (play 1 (rest_of s) heap) left lines outcome

-- after a call and its reply
call : (c : Call) (lines : List ℕ) (answered : Reply → Interaction) (heap new : Heap) (reply : Reply) → one heap 1 c ≡ (new, reply)
    → MayGoOn (Asks c lines answered) heap → GoesOn (Free (Asks c lines answered)) (Free (answered reply)) heap new
call c lines answered heap new reply answers calls =
    let P : Heap × Reply → Type 0 = λ r. GoesOn (Free (Asks c lines answered)) (Free (answered r.1)) heap r.0 in
    subst P answers (record {
      free = tt;
      calls = calls.2;
      ends = λ left printed outcome l. record { heap_is = l.heap_is; lines_are = l.lines_are; outcome_is = l.outcome_is };
    })

-- what is left at a reply
abbrev rest_at : Standing → Reply → Interaction
rest_at (Free rest) reply = rest
rest_at (Waiting answered) reply = answered reply

pub call_goes_on : (s s' s'' : Standing) (heap new : Heap) (c : Call) (lines : List ℕ) (answered after : Reply → Interaction) (reply : Reply)
    → MayGoOn (rest_of s) heap → s ≡ Free (Asks c lines answered) → s' ≡ Waiting answered → s' ≡ Waiting after → s'' ≡ Free (after reply)
    → one heap 1 c ≡ (new, reply) → GoesOn s s'' heap new
call_goes_on s s' s'' heap new c lines answered after reply calls was waits same becomes answers =
    let e : Waiting answered ≡ Waiting after = sym waits ∙ same in
    let rests : s'' ≡ Free (answered reply) = becomes ∙ sym (ap (λ x. Free (rest_at x reply)) e) in
    let may : MayGoOn (Asks c lines answered) heap = subst (λ x. MayGoOn (rest_of x) heap) was calls in
    subst (λ x. GoesOn x s'' heap new) (sym was)
    (subst (λ x. GoesOn (Free (Asks c lines answered)) x heap new) (sym rests) (call c lines answered heap new reply answers may))
