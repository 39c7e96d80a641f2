-- What is known of a pass after an object was born in a block that was made for it.
use Rattle.std.proofs.Common.{◌≡◌, ◌+◌, ◌<◌, ℕ, [], ◌∷◌, ◌++◌, length, sym, ap, ◌∙◌, subst, arith, length-append}
use Rattle.jo_value.specs.declared.limits.TheConstants.{MOST_OBJECTS}
use Rattle.jo_model.specs.declared.call.Call.TheVariants as call
use Rattle.jo_model.specs.declared.call.Reply.TheVariants as reply
use Rattle.jo_model.specs.Heaps.{IsBorn}
use Rattle.jo_model.specs.Logs.{Log, after}
use Rattle.jo_model.specs.Objects.{empty_object}
use Rattle.jo_model.specs.One.{one}
use Rattle.jo_rule.specs.declared.event.Event.TheVariants.{Place}
use Rattle.jo_rule.specs.Dictionaries.{block_size}
use Rattle.jo_rule.specs.Events.{placed, recorded}
use Rattle.jo_rule.specs.Histories.{Begins}
use Rattle.jo_rule.specs.Marks.{Mark}
use Rattle.jo_rule.specs.Tidy.{own_changes}
use Rattle.jo_rule.specs.Views.{View}
use Rattle.jo_rule.proofs.Histories.{begins_recorded, begins_through}
use Rattle.jo_steps.specs.Holding.{next_object}
use Rattle.jo_steps.specs.Effects.{Born}
use Rattle.jo_steps.specs.Views.{HeapView, PassView, IsPassOf}
use Rattle.jo_dict.specs.Blocks.{IsMade}
use Rattle.jo_guard.specs.Placing.{HasPlaced}
use Rattle.jo_guard.specs.Ready.{IsReady}
use Rattle.jo_write.proofs.Looks.{longer_log, no_tries}

-- a New is placed whose reply is the next object
pub birth_placed : (P k address : ℕ) (v w u : View) → IsMade v w 0 empty_object address → Born P k 0 w u → v.births.objects < MOST_OBJECTS → HasPlaced P call.New (reply.Made (next_object v)) v u
birth_placed P k address v w u made born few =
    let log = born.log in
    let only = made.only in
    let is = born.view in
    let t = v.number in
    let object : next_object w ≡ next_object v = ap next_object only in
    let more : Begins log v.past.seen = subst (λ (x : View). Begins log x.past.seen) only born.more in
    let calls : w.past.calls ≡ v.past.calls = ap (λ (x : View). x.past.calls) only in
    let answer : (one (after P log) w.number call.New).1 ≡ reply.Made (next_object v) = born.reply ∙ ap reply.Made object in
    let seen : u.past.seen ≡ recorded P t (Place call.New) log = ap (λ (x : View). x.past.seen) is ∙ ap (λ (x : View). recorded P x.number (Place call.New) log) only in
    record {
      place = length log;
      calls = ap (λ (x : View). x.past.calls) is ∙ (λ i. calls i ++ placed (length log) call.New (answer i) ∷ []);
      later = longer_log v.past.seen log more;
      seen = subst (λ (l : Log Mark). Begins l v.past.seen) (sym seen) (begins_through v.past.seen log (recorded P t (Place call.New) log) (begins_recorded P t (Place call.New) log) more);
      valid = subst (IsBorn (after P u.past.seen)) object born.born;
      fits = few;
      objects = ap (λ (x : View). x.births.objects) is ∙ ap (λ (x : View). x.births.objects + 1) only;
      nodes = ap (λ (x : View). x.births.nodes) is ∙ ap (λ (x : View). x.births.nodes) only;
      tries = no_tries v u (ap (λ (x : View). x.tries) is ∙ ap (λ (x : View). x.tries) only);
      same_number = ap (λ (x : View). x.number) is ∙ ap (λ (x : View). x.number) only;
      same_made = ap (λ (x : View). x.made) is ∙ ap (λ (x : View). x.made) only;
      same_kept = ap (λ (x : View). x.kept) is ∙ ap (λ (x : View). x.kept) only;
    }

pub birth_used : (P k address : ℕ) (v w u : View) → IsMade v w 0 empty_object address → Born P k 0 w u → u.storage.used ≡ v.storage.used + block_size 0
birth_used P k address v w u made born = ap (λ (x : View). x.storage.used) born.view ∙ made.used

pub birth_ready : (h : HeapView) (p q r : PassView) (k address : ℕ) → IsReady h p → IsMade p.view q.view 0 empty_object address → IsPassOf h r → Born h.passes k 0 q.view r.view → IsReady h r
birth_ready h p q r k address ready made of_heap born =
    let P = h.passes in
    let v = p.view in
    let w = q.view in
    let u = r.view in
    let only = made.only in
    let is = born.view in
    let tidy = ready.tidy in
    let before : own_changes P w ≡ own_changes P v = ap (own_changes P) only in
    let used : u.storage.used ≡ v.storage.used + block_size 0 = birth_used P k address v w u made born in
    let structures : u.births.nodes ≡ v.births.nodes = ap (λ (x : View). x.births.nodes) is ∙ ap (λ (x : View). x.births.nodes) only in
    let longer : length u.past.calls ≡ length (w.past.calls ++ placed (length born.log) call.New (one (after P born.log) w.number call.New).1 ∷ []) = ap (λ (x : View). length x.past.calls) is in
    let one_more = length-append w.past.calls (placed (length born.log) call.New (one (after P born.log) w.number call.New).1 ∷ []) in
    let calls : length w.past.calls ≡ length v.past.calls = ap (λ (x : View). length x.past.calls) only in
    record {
      of_heap = of_heap;
      script = λ e. ready.script (sym (ap (λ (x : View). x.number) is ∙ ap (λ (x : View). x.number) only) ∙ e);
      tidy = record {
        no_raise = ap (λ (x : View). x.time.owed) is ∙ (ap (λ (x : View). x.time.owed) only ∙ tidy.no_raise);
        no_firing = ap (λ (x : View). x.sets.firing) is ∙ (ap (λ (x : View). x.sets.firing) only ∙ tidy.no_firing);
        stamped = rw (ap (λ (x : View). x.quarantine) is ∙ ap (λ (x : View). x.quarantine) only) tidy.stamped;
        storage = omega (arith, before, used, born.changes, tidy.storage);
        structures = omega (arith, structures, longer, one_more, calls, tidy.structures);
      };
      free = ap (λ (x : View). x.lock) is ∙ (ap (λ (x : View). x.lock) only ∙ ready.free);
    }
