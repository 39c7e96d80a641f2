-- A New that is refused is placed by a load.
use Rattle.std.proofs.Common.{◌≡◌, ◌≤◌, ℕ, Bool, true, false, [], ◌∷◌, ◌++◌, length, refl, sym, ap, ◌∙◌, subst, arith, length-append}
use Rattle.std.specs.Prelude.{nat_lt}
use Rattle.std.proofs.lemmas.Bool.{le-ltb}
use Rattle.std.proofs.lemmas.List.{append-nil}
use Rattle.std.proofs.lemmas.List.Elements.{All-nil}
use Rattle.jo_value.specs.declared.limits.TheConstants.{MOST_OBJECTS}
use Rattle.jo_model.specs.declared.call.Call.TheVariants as call
use Rattle.jo_model.specs.declared.call.Reply.{Reply}
use Rattle.jo_model.specs.declared.call.Reply.TheVariants as reply
use Rattle.jo_model.specs.Heaps.{Heap, objects_of, shared, IsBorn}
use Rattle.jo_model.specs.Logs.{Log, after}
use Rattle.jo_model.specs.One.{one}
use Rattle.jo_rule.specs.declared.event.Event.TheVariants.{Place}
use Rattle.jo_rule.specs.Events.{placed, recorded}
use Rattle.jo_rule.specs.Histories.{Begins}
use Rattle.jo_rule.specs.Marks.{Mark}
use Rattle.jo_rule.specs.Views.{View}
use Rattle.jo_rule.proofs.Heaps.{born-longer}
use Rattle.jo_rule.proofs.Histories.{begins_recorded, begins_through}
use Rattle.jo_steps.specs.Effects.{Looked}
use Rattle.jo_guard.specs.Placing.{HasPlaced, TriesDictionaries, IsTryOfDictionary}

-- the shared object is there from the start
pub shared_born : (P : ℕ) (log : Log Mark) → IsBorn (after P log) shared
shared_born P log = born-longer P [] log shared (omega arith)

-- no lock was tried
pub no_tries : (v u : View) → u.tries ≡ v.tries → TriesDictionaries v u
no_tries v u same = record { added = []; tries = same ∙ sym (append-nil v.tries); each = All-nil (IsTryOfDictionary (length v.past.calls)) }

pub longer_log : (seen log : Log Mark) → Begins log seen → length seen ≤ length log
longer_log seen log more = omega (arith, ap length more.1, length-append seen more.0)

full_by : (heap : Heap) (t : ℕ) (room : Bool) → nat_lt (length (objects_of heap t)) MOST_OBJECTS ≡ room → room ≡ false → (one heap t call.New).1 ≡ reply.ObjectsSpent
full_by heap t false e is = rw e refl
full_by heap t true e is = (let no : true ≡ false = is in absurd cc)

-- a pass that has made as many objects as it may
pub objects_spent : (P : ℕ) (v u : View) → v.births.objects ≡ MOST_OBJECTS → Looked P (Place call.New) v u → HasPlaced P call.New reply.ObjectsSpent v u
objects_spent P v u full looked =
    let t = v.number in
    let log = looked.log in
    let heap = after P log in
    let answer : (one heap t call.New).1 ≡ reply.ObjectsSpent = full_by heap t false (le-ltb (length (objects_of heap t)) MOST_OBJECTS (omega (arith, looked.objects, full))) refl in
    let is = looked.view in
    record {
      place = length log;
      calls = ap (λ (x : View). x.past.calls) is ∙ ap (λ (a : Reply). v.past.calls ++ placed (length log) call.New a ∷ []) answer;
      later = longer_log v.past.seen log looked.more;
      seen = subst (λ (x : View). Begins x.past.seen v.past.seen) (sym is) (begins_through v.past.seen log (recorded P t (Place call.New) log) (begins_recorded P t (Place call.New) log) looked.more);
      valid = tt;
      fits = tt;
      objects = omega (arith, ap (λ (x : View). x.births.objects) is);
      nodes = ap (λ (x : View). x.births.nodes) is;
      tries = no_tries v u (ap (λ (x : View). x.tries) is);
      same_number = ap (λ (x : View). x.number) is;
      same_made = ap (λ (x : View). x.made) is;
      same_kept = ap (λ (x : View). x.kept) is;
    }
