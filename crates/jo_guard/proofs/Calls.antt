-- Calls on one object: their replies, and whether they are changes, are told by the object alone.
use Rattle.std.proofs.Common.{◌≡◌, ℕ, Bool, true, false, not, ◌&&◌, refl, ap, ◌∙◌, arith, if◌then◌else◌, Some}
use Rattle.std.proofs.lemmas.List.{length-map}
use Rattle.jo_value.specs.declared.value.Key.{Key}
use Rattle.jo_value.specs.declared.value.Key.TheVariants.{Name, Index}
use Rattle.jo_value.specs.declared.value.ObjId.{ObjId}
use Rattle.jo_value.specs.declared.value.Value.{Value}
use Rattle.jo_model.specs.declared.call.Call.{Call}
use Rattle.jo_model.specs.declared.call.Call.TheVariants as call
use Rattle.jo_model.specs.declared.call.Reply.{Reply}
use Rattle.jo_model.specs.declared.call.Reply.TheVariants as reply
use Rattle.jo_model.specs.Fits.{Fits}
use Rattle.jo_model.specs.Objects.{Object, has_property, is_full_for, value_of, with_value, with_property}
use Rattle.jo_model.specs.Heaps.{Heap, object_of}
use Rattle.jo_model.specs.History.{is_refusal, would_change}
use Rattle.jo_model.specs.One.{put_in}
use Rattle.jo_model.specs.Valid.{IsValidObject, IsValidReply}
use Rattle.jo_model.specs.WellFormed.{IsWellFormed, IsWellFormedHeap}
use Rattle.jo_model.proofs.ValidEdits.{in_range, value_valid}
use Rattle.jo_rule.specs.Events.{changes, object_called, object_reply}
use Rattle.jo_rule.proofs.Events.{replies}
use Rattle.jo_guard.specs.Placing.{made_by}
use Rattle.jo_guard.specs.Releasing.{changes_it, would_change_it}

-- a choice has what both of its parts have
either : {X : Type 0} (P : X → Type 0) (b : Bool) (x y : X) → P x → P y → P (if b then x else y)
either P true x y p q = p
either P false x y p q = q

-- both replies to a Put
put_either : (P : Reply → Type 0) (z : Object) (key : Key) (v : Value) → P reply.Done → P reply.TooManyNames → P (put_in z key v).1
put_either P z key v done many =
    let Q : Object × Reply → Type 0 = λ left. P left.1 in
    either Q (has_property z key) (with_value z key v, reply.Done) (if is_full_for z key then (z, reply.TooManyNames) else (with_property z key v, reply.Done)) done
    (either Q (is_full_for z key) (z, reply.TooManyNames) (with_property z key v, reply.Done) many done)

-- the reply is valid where the object is
pub reply_valid : (heap : Heap) (c : Call) (z : Object) → IsValidObject heap z → IsValidReply heap (object_reply c z)
reply_valid heap call.New z valid = tt
reply_valid heap (call.Get o key) z valid = value_valid heap z key valid
reply_valid heap (call.Has o key) z valid = tt
reply_valid heap (call.Names o) z valid = tt
reply_valid heap (call.Put o key v) z valid = put_either (IsValidReply heap) z key v tt tt
reply_valid heap (call.Delete o key) z valid = tt
reply_valid heap (call.Cas o key expected desired) z valid = value_valid heap z key valid

put_fits : (z : Object) (o : ObjId) (key : Key) (v : Value) → Fits (call.Put o key v) (put_in z key v).1
put_fits z o (Name name) v = put_either (Fits (call.Put o (Name name) v)) z (Name name) v tt tt
put_fits z o (Index index) v =
    let Q : Object × Reply → Type 0 = λ left. Fits (call.Put o (Index index) v) left.1 in
    either Q (has_property z (Index index)) (with_value z (Index index) v, reply.Done) (with_property z (Index index) v, reply.Done) tt tt

-- the reply fits the call
pub reply_fits : (heap : Heap) (c : Call) (z : Object) → IsWellFormedHeap heap → IsWellFormed z → IsValidObject heap z → Fits c (object_reply c z)
reply_fits heap call.New z well formed valid = tt
reply_fits heap (call.Get o key) z well formed valid = in_range heap (value_of z key) well (value_valid heap z key valid)
reply_fits heap (call.Has o key) z well formed valid = tt
reply_fits heap (call.Names o) z well formed valid = (formed.once, omega (arith, formed.few, length-map z.names (λ p. p.0)))
reply_fits heap (call.Put o key v) z well formed valid = put_fits z o key v
reply_fits heap (call.Delete o key) z well formed valid = tt
reply_fits heap (call.Cas o key expected desired) z well formed valid = in_range heap (value_of z key) well (value_valid heap z key valid)

-- no object is made
pub reply_makes : (c : Call) (z : Object) → made_by (object_reply c z) ≡ 0
reply_makes call.New z = refl
reply_makes (call.Get o key) z = refl
reply_makes (call.Has o key) z = refl
reply_makes (call.Names o) z = refl
reply_makes (call.Put o key v) z = put_either (λ (answer : Reply). made_by answer ≡ 0) z key v refl refl
reply_makes (call.Delete o key) z = refl
reply_makes (call.Cas o key expected desired) z = refl

same_object : (o q : ObjId) → Some o ≡ Some q → o ≡ q
same_object o q e = cc

would_told : (heap : Heap) (c : Call) (o : ObjId) → object_called c ≡ Some o → would_change heap c ≡ would_change_it c (object_of heap o)
would_told heap call.New o e = refl
would_told heap (call.Get q key) o e = refl
would_told heap (call.Has q key) o e = refl
would_told heap (call.Names q) o e = refl
would_told heap (call.Put q key v) o e = refl
would_told heap (call.Delete q key) o e = ap (λ (x : ObjId). would_change_it (call.Delete q key) (object_of heap x)) (same_object q o e)
would_told heap (call.Cas q key x y) o e = ap (λ (p : ObjId). would_change_it (call.Cas q key x y) (object_of heap p)) (same_object q o e)

-- whether it is a change of the heap
pub change_told : (heap : Heap) (t : ℕ) (c : Call) (o : ObjId) → object_called c ≡ Some o
    → changes heap t c ≡ changes_it c (object_of heap o)
change_told heap t c o e =
    ap (λ (answer : Reply). not (is_refusal answer) && would_change heap c) (replies heap t c o e)
    ∙ ap (λ (b : Bool). not (is_refusal (object_reply c (object_of heap o))) && b) (would_told heap c o e)
