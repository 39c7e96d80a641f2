-- Calls that change nothing are placed by a load: by the load of a value, at a place of the log that is not before the pin's, or by a load
-- of the own acknowledgement, at the place of the pin.
use Rattle.std.proofs.Common.{◌≡◌, ◌≤◌, ℕ, true, false, List, [], ◌∷◌, ◌++◌, length, map, set, refl, ◌∙◌, subst, Some, None}
use mathlib.Core.Option.{some}
use lib.ListN.{get_elem?}
use Rattle.jo_value.specs.declared.value.Key.{Key}
use Rattle.jo_value.specs.declared.value.Key.TheVariants.{Index}
use Rattle.jo_value.specs.declared.value.ObjId.{ObjId}
use Rattle.jo_value.specs.Words.{IsSlot, slot_bits}
use Rattle.jo_model.specs.declared.call.Call.{Call}
use Rattle.jo_model.specs.declared.call.Reply.{Reply}
use Rattle.jo_model.specs.Objects.{Object, property}
use Rattle.jo_model.specs.Heaps.{Heap, object_of}
use Rattle.jo_model.specs.One.{one}
use Rattle.jo_model.specs.History.{is_change}
use Rattle.jo_model.specs.Logs.{Log, heap_at}
use Rattle.jo_model.specs.Placed.{PlacedCall}
use Rattle.jo_model.specs.inner.Growing.{IsOwnOrderTo}
use Rattle.jo_rule.proofs.Raised.{raised_same}
use Rattle.jo_rule.proofs.Concluded.{alike_same, at_least_more, concluded_same}
use Rattle.jo_rule.specs.declared.counts.Counts.{Counts}
use Rattle.jo_rule.specs.Areas.{Words}
use Rattle.jo_rule.specs.Marks.{Mark}
use Rattle.jo_rule.specs.Shapes.{names_of}
use Rattle.jo_rule.specs.Spots.{Spot, element, Location, values, spot_of}
use Rattle.jo_rule.specs.Roles.{frame}
use Rattle.jo_rule.specs.Dictionaries.{slot_in}
use Rattle.jo_rule.specs.Contents.{is_keyed, is_segmented}
use Rattle.jo_rule.specs.Events.{changes, placed, object_called, object_reply}
use Rattle.jo_rule.specs.Views.{View, Pin}
use Rattle.jo_rule.specs.Rule.{Rule}
use Rattle.jo_rule.proofs.Heaps.{unchanged}
use Rattle.jo_rule.proofs.Events.{replies}
use Rattle.jo_rule.proofs.Placing.{placed_look}
use Rattle.jo_rule.proofs.Histories.{SameItems, numbers, look_placements, look_histories}
use Rattle.jo_rule.proofs.Owned.{same_owned, same_structures}
use Rattle.jo_rule.proofs.Locks.{same_locks}
use Rattle.jo_rule.proofs.Timing.{timing_set}
use Rattle.jo_rule.proofs.Allowed.{allowed_same}
use Rattle.jo_rule.proofs.Sights.{sights_set}
use Rattle.jo_rule.proofs.Lasting.{lasting_same}
use Rattle.jo_rule.proofs.Stores.{numbers_of}

-- the view after it: it has seen the whole log, and has one placed call more
abbrev pub looking_call : View → Log Mark → ℕ → Call → Reply → Counts → View
looking_call v log m c answer counts = record v { past = record { seen = log; calls = v.past.calls ++ placed m c answer ∷ [] }; counts = counts }

-- a call on an object that has these properties is answered so, and changes nothing
pub record Reads (t : ℕ) (o : ObjId) (c : Call) (answer : Reply) (z : Object) : Type 0 where
  pub reply : object_reply c z ≡ answer
  pub look : (heap : Heap) → object_of heap o ≡ z → changes heap t c ≡ false

module _ {P : ℕ} {w : Words} {views : List View} (id : ℕ) (v : View) (r : Rule P w views) (at : get_elem? views id ≡ some v) (l : v.live ≡ true) where
  -- a call is placed where the heap answers it so
  places_look : (m : ℕ) (o : ObjId) (c : Call) (answer : Reply) (counts : Counts) → m ≤ length r.log → IsOwnOrderTo P v.past.seen 0 v.past.calls m → object_called c ≡ Some o → Reads v.number o c answer (object_of (heap_at P m r.log) o) → Rule P w (set views id (looking_call v r.log m c answer counts))
  places_look m o c answer counts le order on reads =
      let u = looking_call v r.log m c answer counts in
      let same : SameItems v u = numbers_of v u refl refl refl refl refl refl in
      let heap = heap_at P m r.log in
      let look = reads.look heap refl in
      let replied : (one heap v.number c).1 ≡ answer = replies heap v.number c o on ∙ reads.reply in
      let left : (one heap v.number c).0 ≡ heap = unchanged heap v.number c look in
      let still : is_change heap c answer ≡ false = subst (λ (x : Reply). is_change heap c x ≡ false) replied look in
      let own = placed_look P v.past.seen r.log v.number v.past.calls m c answer (r.histories.seen id v at l) (r.placements.own id v at l) order le (λ i. (left i, replied i)) still in record {
        log = r.log;
        made = r.made;
        home = r.home;
        node = r.node;
        shape = r.shape;
        cell = r.cell;
        role = r.role;
        now = r.now;
        so = r.so;
        placements = look_placements views id v u at l (numbers same) r.histories (placed m c answer) refl own still r.placements;
        histories = look_histories views id v u at l (numbers same) r.histories (placed m c answer) refl own still r.placements;
        coded = r.coded;
        shaped = r.shaped;
        contents = r.contents;
        owned = same_owned views id u v at l refl refl refl r.owned;
        structures = same_structures views id v u at l refl refl r.structures;
        locks = same_locks views id v u at l l refl (λ j y e ly g f n k lt. refl) r.locks;
        unborn = r.unborn;
        unmade = r.unmade;
        sights = sights_set views id u r.sights (λ j y n e ly h. h) (r.sights.each id v at l);
        born_so = r.born_so;
        marked = r.marked;
        allowed = allowed_same views id v u at l refl r.allowed;
        timing = timing_set views id u r.timing (r.timing.timed id v at l);
        lasting = lasting_same views id v u at l refl r.lasting;
        counted = r.counted;
        concluded = concluded_same views id v u at l (numbers same) r.concluded (alike_same refl) refl (at_least_more v.past.calls (placed m c answer ∷ []));
        raised = raised_same views id v u at l (numbers same) r.histories r.raised refl refl;
      }

  -- A value is loaded under a pin, and the call is placed where the object has that value: at a place that is not before the pin's.
  pub places_by_value : (i : ℕ) (p : Pin) (key : Key) (y : Spot) (a : Location) (c : Call) (answer : Reply) (counts : Counts) → get_elem? v.sight.pins i ≡ some p → is_keyed p.cell.kind ≡ true → spot_of (r.shape p.cell.sid) key ≡ Some y → frame r.role (is_segmented p.cell.kind) p.object p.cell.address y ≡ Some a
      → IsOwnOrderTo P v.past.seen 0 v.past.calls p.place → object_called c ≡ Some p.object → ((z : Object) → IsSlot (slot_in (property z key)) → values w a ≡ slot_bits (slot_in (property z key)) → Reads v.number p.object c answer z)
      → (m : ℕ) × (p.place ≤ m) × (m ≤ length r.log) × Rule P w (set views id (looking_call v r.log m c answer counts))
  places_by_value i p key y a c answer counts has keyed spot place order on reads =
      let t = ((r.sights.each id v at l).sees i p has keyed).values key y a spot place in
      (t.at, t.later, t.within, places_look t.at p.object c answer counts t.within (later_order v.past.seen 0 v.past.calls p.place t.at order t.later) on (reads (object_of (heap_at P t.at r.log) p.object) t.slot t.is))
    where
      later_order : (seen : Log Mark) (least : ℕ) (calls : List PlacedCall) (m n : ℕ) → IsOwnOrderTo P seen least calls m → m ≤ n → IsOwnOrderTo P seen least calls n
      later_order seen least calls m n o le = Rattle.jo_model.proofs.Growing.order-later P seen least calls m n o le

  -- What is known where the pin was made places the call there: the names of the object, and that no element lies beyond its places.
  pub places_by_pin : (i : ℕ) (p : Pin) (c : Call) (answer : Reply) (counts : Counts) → get_elem? v.sight.pins i ≡ some p → is_keyed p.cell.kind ≡ true → IsOwnOrderTo P v.past.seen 0 v.past.calls p.place → object_called c ≡ Some p.object
      → ((z : Object) → names_of (r.shape p.cell.sid) ≡ map (λ x. x.0) z.names → ((k : ℕ) → frame r.role (is_segmented p.cell.kind) p.object p.cell.address (element k) ≡ None → property z (Index k) ≡ None) → Reads v.number p.object c answer z)
      → Rule P w (set views id (looking_call v r.log p.place c answer counts))
  places_by_pin i p c answer counts has keyed order on reads =
      let t = (r.sights.each id v at l).sees i p has keyed in
      places_look p.place p.object c answer counts t.past order on (reads (object_of (heap_at P p.place r.log) p.object) t.names t.beyond)
