-- A history that goes on by calls that leave the heap as it is, and by changes, is legal, and leaves the heap of the log.
use Rattle.std.proofs.Common.{◌≡◌, ◌⊎◌, ◌+◌, ◌<◌, ◌==◌, ◌&&◌, ℕ, Bool, true, false, List, [], ◌∷◌, ◌++◌, refl, sym, ap, ◌∙◌, subst, inl, inr, arith, append_assoc, append-nil, if◌then◌else◌, add_assoc}
use Rattle.std.specs.Prelude.{fold, nat_lt, length, Some, All}
use Rattle.std.proofs.lemmas.List.{length_push}
use Rattle.std.proofs.lemmas.List.Elements.{All-head, All-tail}
use Rattle.std.proofs.lemmas.Bool.{and_right}
use Rattle.std.proofs.lemmas.List.Sums.{fold_push}
use Rattle.jo_value.specs.declared.limits.TheConstants.{MOST_OBJECTS}
use Rattle.jo_value.specs.declared.value.ObjId.{ObjId}
use Rattle.jo_model.specs.declared.call.Call.{Call}
use Rattle.jo_model.specs.declared.call.Call.TheVariants as call
use Rattle.jo_model.specs.declared.call.Reply.{Reply}
use Rattle.jo_model.specs.declared.call.Reply.TheVariants as reply
use Rattle.jo_model.specs.Heaps.{Heap, heap_at_start, objects_of, object_of, with_new_object}
use Rattle.jo_model.specs.Objects.{Object, has_property, is_full_for, with_value, with_property}
use Rattle.jo_model.specs.One.{one, in_heap}
use Rattle.jo_model.specs.History.{Entry, History, IsLegalAfter, IsLawful, IsLawfulSpent, changes_by, is_change, after_entry, heap_after, is_refusal}
use Rattle.jo_model.specs.Logs.{LogEntry, change, mark, Log, made_by, changes_of, after_log_entry, after, heap_at, IsLawfulLog}
use Rattle.jo_model.specs.Placed.{PlacedCall, history_of, all_unchanging_at, weave_from}
use Rattle.jo_model.proofs.Putting.{same_object}
use Rattle.jo_model.proofs.Beginnings.{entry-there, taken, after-push, changes-push}

either-way : (b : Bool) (h : Heap) → (if b then h else h) ≡ h
either-way true h = refl
either-way false h = refl

abbrev pub Kept : Heap → Heap × Reply → Type 0
Kept h a = (if is_refusal a.1 then h else a.0) ≡ a.0

kept-if : (h : Heap) (b : Bool) (x y : Heap × Reply) → Kept h x → Kept h y → Kept h (if b then x else y)
kept-if h true x y p q = p
kept-if h false x y p q = q

-- what a Put that is refused puts back is the object as it was
kept-put : (h : Heap) (o : ObjId) (there full : Bool) (set more : Object)
    → Kept h (in_heap h o (if there then (set, reply.Done) else (if full then (object_of h o, reply.TooManyNames) else (more, reply.Done))))
kept-put h o true full set more = refl
kept-put h o false true set more = sym (same_object h o)
kept-put h o false false set more = refl

-- a call that is refused leaves the heap as it is, where there is one thread
pub kept : (h : Heap) (p : ℕ) (c : Call) → Kept h (one h p c)
kept h p call.New = kept-if h (nat_lt (length (objects_of h p)) MOST_OBJECTS)
    (with_new_object h p, reply.Made (record { pass = p; serial = length (objects_of h p) })) (h, reply.ObjectsSpent) refl refl
kept h p (call.Get o k) = refl
kept h p (call.Has o k) = refl
kept h p (call.Names o) = refl
kept h p (call.Put o k v) =
    kept-put h o (has_property (object_of h o) k) (is_full_for (object_of h o) k) (with_value (object_of h o) k v) (with_property (object_of h o) k v)
kept h p (call.Delete o k) = refl
kept h p (call.Cas o k e d) = refl

abbrev plus : Bool → ℕ
plus b = if b then 1 else 0

changes-snoc : (t : ℕ) (h : Heap) (w : History) (e : Entry)
    → changes_by t h (w ++ e ∷ []) ≡ changes_by t h w + plus (e.pass == t && is_change (fold after_entry h w) e.call e.reply)
changes-snoc t h [] e = omega arith
changes-snoc t h (d ∷ w) e =
    ap (λ n. plus (d.pass == t && is_change h d.call d.reply) + n) (changes-snoc t (after_entry h d) w e)
    ∙ sym (add_assoc _ _ _)

and-true : (b : Bool) → (b && true) ≡ b
and-true true = refl
and-true false = refl

legal-append : (P : ℕ) (before u v : History) → IsLegalAfter P before u → IsLegalAfter P (before ++ u) v → IsLegalAfter P before (u ++ v)
legal-append P before [] v a b = rw append-nil at b
legal-append P before (e ∷ u) v a b = (a.0, legal-append P (before ++ e ∷ []) u v a.1 (rw (← append_assoc before (e ∷ []) u) at b))

module _ {M : Type 0} (P : ℕ) where
  -- a history that leaves the heap which this beginning of a log leaves, with as many changes of each pass
  pub record Leads (done : Log M) (before : History) : Type 0 where
    pub at : heap_after P before ≡ after P done
    pub counts : (t : ℕ) → changes_by t (heap_at_start P) before ≡ changes_of t done

  -- an entry that may stand there and is no change
  pub record Stays (done : Log M) (e : Entry) : Type 0 where
    pub pass : e.pass < P
    pub look : is_change (after P done) e.call e.reply ≡ false
    pub lawful : (one (after P done) e.pass e.call ≡ (after P done, e.reply)) ⊎ IsLawfulSpent (changes_of e.pass done) e.call e.reply

  -- a history that goes on lawfully by w to the end of this beginning of a log
  pub record Goes (done : Log M) (before w : History) : Type 0 where
    pub legal : IsLegalAfter P before w
    pub leads : Leads done (before ++ w)

  goes-on : (done later : Log M) (before u v : History) → Goes done before u → Goes later (before ++ u) v → Goes later before (u ++ v)
  goes-on done later before u v a b = record {
    legal = legal-append P before u v a.legal b.legal;
    leads = (let l = b.leads in rw append_assoc at l);
  }

  -- one entry more
  steps : (done later : Log M) (before : History) (e : Entry) (b : Bool) → Leads done before → IsLawful P before e
      → is_change (after P done) e.call e.reply ≡ b → after_entry (after P done) e ≡ after P later
      → ((t : ℕ) → changes_of t later ≡ changes_of t done + plus (e.pass == t && b)) → Goes later before (e ∷ [])
  steps done later before e b l lawful is heap counts = record {
    legal = (lawful, tt);
    leads = record {
      at = fold_push after_entry (heap_at_start P) before e ∙ (ap (λ h. after_entry h e) l.at ∙ heap);
      counts = λ t.
          changes-snoc t (heap_at_start P) before e
          ∙ ((λ i. l.counts t i + plus (e.pass == t && is_change (l.at i) e.call e.reply))
          ∙ (ap (λ x. changes_of t done + plus (e.pass == t && x)) is ∙ sym (counts t)));
    };
  }

  one-look : (done : Log M) (before : History) (e : Entry) → Leads done before → Stays done e → Goes done before (e ∷ [])
  one-look done before e l s =
      steps done done before e false l (record {
        pass = s.pass;
        reply = elim s.lawful [
          | inl q ↦ inl (ap (λ a. a.1) (sym q) ∙ ap (λ h. (one h e.pass e.call).1) (sym l.at))
          | inr q ↦ inr (subst (λ n. IsLawfulSpent n e.call e.reply) (sym (l.counts e.pass)) q)
        ];
      }) s.look
      (elim s.lawful [
        | inl q ↦ ap (λ a. if is_refusal e.reply then after P done else a.0) q ∙ either-way (is_refusal e.reply) (after P done)
        | inr q ↦ ap (λ r. if is_refusal r then after P done else (one (after P done) e.pass e.call).0) q.answered
      ])
      (λ t. rw (and_right (e.pass == t) false refl) (omega arith))

  looks : (done : Log M) (es before : History) → Leads done before → All (Stays done) es → Goes done before es
  looks done [] before l s = record { legal = tt; leads = rw append-nil l }
  looks done (e ∷ es) before l s =
      let a = one-look done before e l (All-head (Stays done) e es s) in
      goes-on done done before (e ∷ []) es a (looks done es (before ++ e ∷ []) a.leads (All-tail (Stays done) e es s))

  -- one entry of the log more
  one-entry : (done : Log M) (before : History) (e : LogEntry M) → Leads done before → made_by e < P
      → ((pass : ℕ) (call : Call) → e ≡ change pass call → is_change (after P done) call (one (after P done) pass call).1 ≡ true)
      → Goes (done ++ e ∷ []) before (history_of (after P done) e)
  one-entry done before (change pass call) l lt is =
      steps done (done ++ change pass call ∷ []) before (record { pass = pass; call = call; reply = (one (after P done) pass call).1 }) true l
      (record { pass = lt; reply = inl (ap (λ h. (one h pass call).1) (sym l.at)) })
      (is pass call refl)
      (kept (after P done) pass call ∙ sym (after-push P done (change pass call)))
      (λ t. changes-push t done (change pass call) ∙ ap (λ b. changes_of t done + plus b) (sym (and-true (pass == t))))
  one-entry done before (mark pass noted) l lt is = record {
    legal = tt;
    leads = record {
      at = ap (heap_after P) (append-nil before) ∙ (l.at ∙ sym (after-push P done (mark pass noted)));
      counts = λ t. let n = l.counts t in let m = changes-push t done (mark pass noted) in rw append-nil (omega arith);
    };
  }

  module _ (C : Log M) (log : IsLawfulLog P C) (calls : List (List PlacedCall))
      (stay : (done rest : Log M) → done ++ rest ≡ C → All (Stays done) (all_unchanging_at (length done) (after P done) calls)) where
    -- a weave goes to the end of the log
    pub weave-goes : (rest done : Log M) (before : History) → done ++ rest ≡ C → Leads done before
        → Goes C before (weave_from (length done) (after P done) rest calls)
    weave-goes [] done before is l =
        let here : done ≡ C = sym (append-nil done) ∙ is in
        subst (λ d. Goes d before (all_unchanging_at (length done) (after P done) calls)) here
        (looks done (all_unchanging_at (length done) (after P done) calls) before l (stay done [] is))
    weave-goes (e ∷ rest) done before is l =
        let there = entry-there C done e rest is in
        let here : heap_at P (length done) C ≡ after P done = ap (after P) (taken C done (e ∷ rest) is) in
        let calls_here = all_unchanging_at (length done) (after P done) calls in
        let shown = history_of (after P done) e in
        let later = weave_from (length done + 1) (after_log_entry (after P done) e) rest calls in
        let a = looks done calls_here before l (stay done (e ∷ rest) is) in
        let b = one-entry done (before ++ calls_here) e a.leads (log.made (length done) e there)
        (λ pass call as_one. ap (λ h. is_change h call (one h pass call).1) (sym here) ∙ log.changes (length done) pass call (there ∙ ap Some as_one)) in
        let c = weave-goes rest (done ++ e ∷ []) ((before ++ calls_here) ++ shown) (append_assoc done (e ∷ []) rest ∙ is) b.leads in
        goes-on done C before calls_here (shown ++ later) a (goes-on (done ++ e ∷ []) C (before ++ calls_here) shown later b (rw (length_push, after-push) at c))
