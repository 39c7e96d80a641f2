-- What a put leaves: its reply, what it adds to the log, and the storage that it takes.
use Rattle.std.proofs.Common.{◌≡◌, ◌⊎◌, ◌+◌, ◌*◌, ◌<◌, ◌≤◌, ℕ, Bool, true, false, cond, not, ◌&&◌, [], ◌∷◌, ◌++◌, length, refl, sym, ap, ◌∙◌, subst, inl, inr, arith, append-nil, if◌then◌else◌}
use Rattle.std.proofs.lemmas.Bool.{lt-leb}
use Rattle.jo_value.specs.declared.capacities.TheConstants.{ELEMENT_CAPACITIES}
use Rattle.jo_value.specs.declared.limits.TheConstants.{MOST_INDEX, MOST_NAMES, MOST_NEED, MOST_STORAGE}
use Rattle.jo_value.specs.declared.value.Key.{Key}
use Rattle.jo_value.specs.declared.value.Key.TheVariants.{Name, Index}
use Rattle.jo_value.specs.declared.value.ObjId.{ObjId}
use Rattle.jo_value.specs.declared.value.Value.{Value}
use Rattle.jo_model.specs.declared.call.Call.TheVariants as call
use Rattle.jo_model.specs.declared.call.Reply.{Reply}
use Rattle.jo_model.specs.declared.call.Reply.TheVariants as reply
use Rattle.jo_model.specs.declared.call.Spent.{Spent}
use Rattle.jo_model.specs.Heaps.{object_of}
use Rattle.jo_model.specs.History.{IsLawfulSpent, is_refusal}
use Rattle.jo_model.specs.Logs.{Log, after, change}
use Rattle.jo_model.specs.Objects.{Object, has_property, is_full_for, property, with_property, with_value}
use Rattle.jo_model.specs.One.{put_in}
use Rattle.jo_rule.specs.declared.event.Event.TheVariants.{Place, Refuse}
use Rattle.jo_rule.specs.Marks.{Mark}
use Rattle.jo_rule.specs.Owned.{address_of}
use Rattle.jo_rule.specs.Steps.{IsFilled}
use Rattle.jo_rule.specs.Tidy.{IsTidy, own_changes}
use Rattle.jo_rule.specs.Views.{View, Storage}
use Rattle.jo_steps.specs.Holding.{lock_of}
use Rattle.jo_steps.specs.Views.{HeldView}
use Rattle.jo_dict.specs.Blocks.{HasRoomFor, IsMade, IsTooMuch, OnlyCounts}
use Rattle.jo_guard.specs.Locking.{HasLocked}
use Rattle.jo_guard.specs.Releasing.{HasReleased, recorded_by}
use Rattle.jo_guard.proofs.Holding.{object_is, same_changes}
use Rattle.jo_write.specs.Answers.{HasGrown, IsBeyond, IsPutFault, IsSpentBy, TakesStorage, least_above, need_for}
use Rattle.jo_write.specs.declared.faults.PutFault.TheVariants as put_fault
use Rattle.jo_write.proofs.Held.{held_made, held_read, read_used}
use Rattle.jo_write.proofs.Storage.{need_is_few}

-- ---- the reply, and the log

done_by : (there full : Bool) (a b c : Object) → (there ≡ true) ⊎ (full ≡ false)
    → (cond {A = Object × Reply} there (a, reply.Done) (cond {A = Object × Reply} full (b, reply.TooManyNames) (c, reply.Done))).1 ≡ reply.Done
done_by true full a b c e = refl
done_by false true a b c (inl e) = absurd (let no_ : false ≡ true = e in cc)
done_by false true a b c (inr e) = absurd (let no_ : true ≡ false = e in cc)
done_by false false a b c e = refl

-- a put of an index is done
pub index_done : (z : Object) (index : ℕ) (value : Value) → (put_in z (Index index) value).1 ≡ reply.Done
index_done z index value = done_by (has_property z (Index index)) false (with_value z (Index index) value) z (with_property z (Index index) value) (inr refl)

-- so is one of a key for which there is room
pub put_done : (room : ℕ) (z : Object) (key : Key) (value : Value) → HasRoomFor room z key → (put_in z key value).1 ≡ reply.Done
put_done room z (Name name) value (inl there) = done_by (has_property z (Name name)) (is_full_for z (Name name)) (with_value z (Name name) value) z (with_property z (Name name) value) (inl there)
put_done room z (Name name) value (inr few) = done_by (has_property z (Name name)) (is_full_for z (Name name)) (with_value z (Name name) value) z (with_property z (Name name) value) (inr (lt-leb MOST_NAMES (length z.names) few))
put_done room z (Index index) value h = index_done z index value

-- it stands at the end of the log
recorded_put : (t : ℕ) (o : ObjId) (key : Key) (value : Value) (z : Object) → (put_in z key value).1 ≡ reply.Done
    → recorded_by t (Place (call.Put o key value)) z ≡ change t (call.Put o key value) ∷ []
recorded_put t o key value z e = ap (λ (a : Reply). if not (is_refusal a) && true then change t (call.Put o key value) ∷ [] else []) e

-- ---- an index beyond the room

module _ {P : ℕ} {o : ObjId} {held : HeldView} {v w x : View} {key : Key} {index : ℕ}
    (value : Value) (taken : HasLocked P o held v w) (only : OnlyCounts w x) (here : (key ≡ Index index) × ((lock_of w).room ≤ index)) where
  -- neither it nor an index above it is there, where the object is as it was when the lock was taken
  is_beyond : (z : Object) → z ≡ (lock_of w).content → IsBeyond z index
  is_beyond z e i le = ap (λ (q : Object). property q (Index i)) e ∙ taken.taken.properties.beyond i (let room = here.1 in omega arith)

  -- ---- the block that it gets

  module _ {y : View} {address : ℕ} (made : IsMade x y (least_above ELEMENT_CAPACITIES index) (put_in (lock_of x).content (Index index) value).0 address) where
    content_then : (lock_of y).content ≡ (lock_of w).content
    content_then = ap (λ (q : View). (lock_of q).content) made.only ∙ ap (λ (q : View). (lock_of q).content) only

    pub address_then : address ≡ address_of y.number x.storage.used
    address_then = made.here ∙ sym (ap (λ (q : View). address_of q.number x.storage.used) made.only)

    pub filled_then : IsFilled y.storage x.storage.used (least_above ELEMENT_CAPACITIES index) (put_in (lock_of y).content key value).0
    filled_then =
        let content : (lock_of x).content ≡ (lock_of y).content = sym (ap (λ (q : View). (lock_of q).content) made.only) in
        let key_is : Index index ≡ key = sym here.0 in
        subst (λ (q : Object × Key). IsFilled y.storage x.storage.used (least_above ELEMENT_CAPACITIES index) (put_in q.0 q.1 value).0) (λ i. (content i, key_is i)) made.filled

    pub reply_then : (put_in (lock_of y).content key value).1 ≡ reply.Done
    reply_then = ap (λ (k : Key). (put_in (lock_of y).content k value).1) here.0 ∙ index_done (lock_of y).content index value

    used_then : y.storage.used ≡ v.storage.used + need_for (Index index)
    used_then = made.used ∙ ap (λ n. n + need_for (Index index)) (read_used taken only)

    module _ {u : View} {own : Storage} (left : HasReleased P (Place (call.Put o key value)) own y u) (named : own.used ≡ y.storage.used) where
      seen_then : u.past.seen ≡ left.log ++ change v.number (call.Put o (Index index) value) ∷ []
      seen_then =
          let t : y.number ≡ v.number = ap (λ (q : View). q.number) made.only ∙ (ap (λ (q : View). q.number) only ∙ ap (λ (q : View). q.number) taken.only) in
          left.seen ∙ (ap (λ (l : Log Mark). left.log ++ l) (recorded_put y.number o key value (lock_of y).content reply_then)
          ∙ (λ i. left.log ++ change (t i) (call.Put o (here.0 i) value) ∷ []))

      pub has_grown : HasGrown P o index value v u
      has_grown = record {
        log = left.log;
        seen = seen_then;
        beyond = is_beyond (object_of (after P left.log) o) (ap (object_of (after P left.log)) (sym (object_is (held_made taken only y made.only))) ∙ (left.content ∙ content_then));
        used = ap (λ (q : View). q.storage.used) left.only ∙ (named ∙ used_then);
      }

      -- one change more covers what it took
      pub covered : IsTidy P v → index ≤ MOST_INDEX → own.used ≤ MOST_NEED * own_changes P u
      covered tidy le =
          let one_more : length (recorded_by y.number (Place (call.Put o key value)) (lock_of y).content) ≡ 1 = ap length (recorded_put y.number o key value (lock_of y).content reply_then) in
          let same = same_changes (held_made taken only y made.only) in
          let few = need_is_few index le in
          omega (arith, named, used_then, left.changes, one_more, same, tidy.storage, few)

      pub takes : TakesStorage P o key value v u
      takes = subst (λ (k : Key). TakesStorage P o k value v u) (sym here.0) (inr has_grown)

  -- ---- storage that does not suffice for it

  module _ {spent : Spent} (much : IsTooMuch x (least_above ELEMENT_CAPACITIES index) spent) where
    pub spent_by : IsSpentBy (need_for (Index index)) v spent
    spent_by = record {
      used = much.used ∙ read_used taken only;
      need_is = much.need;
      over = subst (λ n. MOST_STORAGE < n + need_for (Index index)) (read_used taken only) much.over;
    }

    pub lawful : IsTidy P v → index ≤ MOST_INDEX → IsLawfulSpent (own_changes P v) (call.Put o key value) (reply.Spent spent)
    lawful tidy le =
        let is = spent_by in
        let few = need_is_few index le in
        record {
          spent = spent;
          answered = refl;
          takes = tt;
          over = omega (arith, is.used, is.need_is, is.over);
          need = omega (arith, is.need_is, few);
          used = omega (arith, is.used, tidy.storage);
        }

    pub fault : {u : View} {own : Storage} {c : call.the_data} → HasReleased P (Refuse c spent) own x u → IsPutFault P o key v u (put_fault.Spent spent)
    fault {u} {own} {c} left =
        let seen : left.log ≡ u.past.seen = sym (left.seen ∙ append-nil left.log) in
        let object : object_of (after P u.past.seen) o ≡ (lock_of w).content =
        ap (λ (l : Log Mark). object_of (after P l) o) (sym seen) ∙ (ap (object_of (after P left.log)) (sym (object_is (held_read taken only))) ∙ (left.content ∙ ap (λ (q : View). (lock_of q).content) only)) in
        subst (λ (k : Key). IsPutFault P o k v u (put_fault.Spent spent)) (sym here.0) (spent_by, is_beyond (object_of (after P u.past.seen) o) object)
