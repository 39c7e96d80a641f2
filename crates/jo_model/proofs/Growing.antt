-- What a pass keeps of its placed calls where the log grows, and where it places one more call.
use Rattle.std.proofs.Common.{◌≡◌, ◌≢◌, ◌+◌, ◌<◌, ◌≤◌, ℕ, Bool, true, false, List, [], ◌∷◌, ◌++◌, refl, sym, ap, ◌∙◌, subst, inl, inr, arith, length, if◌then◌else◌, length-append}
use Rattle.std.specs.Prelude.{count_by}
use Rattle.std.proofs.lemmas.Bool.{eq-eqb, ne_eqb}
use Rattle.std.proofs.lemmas.List.{take-append-le, take_at}
use Rattle.std.proofs.lemmas.List.Elements.{All-head, All-tail, All-push, All-weaker}
use Rattle.std.proofs.lemmas.List.Sums.{sum_by_push, sum_by-cons}
use Rattle.std.proofs.lemmas.Option.{slice_get_within}
use Rattle.jo_model.specs.declared.call.Call.{Call}
use Rattle.jo_model.specs.One.{one}
use Rattle.jo_model.specs.History.{is_change, IsLawfulSpent}
use Rattle.jo_model.specs.Logs.{LogEntry, change, mark, Log, made_by, is_change_of, changes_of, after, heap_at, IsLawfulLog}
use Rattle.jo_model.specs.Placed.{PlacedCall, is_placed_change, IsLawfulPlaced, end_of, IsInOwnOrder}
use Rattle.jo_model.specs.Joined.{HasItsChanges}
use Rattle.jo_model.specs.inner.Growing.{AreWithin, IsOwnOrderTo}
use Rattle.jo_model.proofs.Beginnings.{changes-push, get-longer, get-push}

made-push : {M : Type 0} (P : ℕ) (C : Log M) (ps : List PlacedCall) (p : PlacedCall) (b : Bool) → is_placed_change P C p ≡ b
    → count_by (is_placed_change P C) (ps ++ p ∷ []) ≡ count_by (is_placed_change P C) ps + (if b then 1 else 0)
made-push P C ps p b is = sum_by_push (λ q. if is_placed_change P C q then 1 else 0) ps p ∙ ap (λ b. count_by (is_placed_change P C) ps + (if b then 1 else 0)) is

module _ {M : Type 0} (P : ℕ) (C : Log M) where
  module _ (more : Log M) where
    -- a call within the log, in a longer one
    same-change : (p : PlacedCall) → p.place ≤ length C → is_placed_change P (C ++ more) p ≡ is_placed_change P C p
    same-change p l = ap (λ d. is_change (after P d) p.call p.reply) (take-append-le p.place C more l)

    same-made : (ps : List PlacedCall) → AreWithin C ps → count_by (is_placed_change P (C ++ more)) ps ≡ count_by (is_placed_change P C) ps
    same-made [] h = refl
    same-made (p ∷ ps) h =
        sum_by-cons (λ q. if is_placed_change P (C ++ more) q then 1 else 0) p ps
        ∙ ((λ i. (if same-change p (All-head (λ q. q.place ≤ length C) p ps h) i then 1 else 0) + same-made ps (All-tail (λ q. q.place ≤ length C) p ps h) i)
        ∙ sym (sum_by-cons (λ q. if is_placed_change P C q then 1 else 0) p ps))

    pub within-longer : (ps : List PlacedCall) → AreWithin C ps → AreWithin (C ++ more) ps
    within-longer ps h = All-weaker (λ p. p.place ≤ length C) (λ p. p.place ≤ length (C ++ more)) (λ p l. omega (arith, length-append C more)) ps h

    -- the order of a pass stays where the log grows, whatever comes
    pub order-longer : (least : ℕ) (ps : List PlacedCall) (most : ℕ) → AreWithin C ps → IsOwnOrderTo P C least ps most → IsOwnOrderTo P (C ++ more) least ps most
    order-longer least [] most h o = o
    order-longer least (p ∷ ps) most h o = (
      o.0,
      order-longer (end_of P (C ++ more) p) ps most (All-tail (λ q. q.place ≤ length C) p ps h)
          (subst (λ b. IsOwnOrderTo P C (if b then p.place + 1 else p.place) ps most) (sym (same-change p (All-head (λ q. q.place ≤ length C) p ps h))) o.1),
    )

  pub within-push : (ps : List PlacedCall) (p : PlacedCall) → AreWithin C ps → p.place ≤ length C → AreWithin C (ps ++ p ∷ [])
  within-push ps p h l = All-push (λ q. q.place ≤ length C) ps p h l

  -- one more call, at a place that is not before the end of the others: a change where b is true
  pub order-push : (least : ℕ) (ps : List PlacedCall) (most : ℕ) (p : PlacedCall) (b : Bool) → IsOwnOrderTo P C least ps most → most ≤ p.place → is_placed_change P C p ≡ b
      → IsOwnOrderTo P C least (ps ++ p ∷ []) (if b then p.place + 1 else p.place)
  order-push least [] most p b o a is =
      let k = o in
      let end : end_of P C p ≡ (if b then p.place + 1 else p.place) = ap (λ x. if x then p.place + 1 else p.place) is in
      (omega arith, omega arith)
  order-push least (q ∷ ps) most p b o a is = (o.0, order-push (end_of P C q) ps most p b o.1 a is)

  pub order-later : (least : ℕ) (ps : List PlacedCall) (most later : ℕ) → IsOwnOrderTo P C least ps most → most ≤ later → IsOwnOrderTo P C least ps later
  order-later least [] most later o a = (let k = o in omega arith)
  order-later least (q ∷ ps) most later o a = (o.0, order-later (end_of P C q) ps most later o.1 a)

  -- the form that the weave asks for
  pub order-is : (least : ℕ) (ps : List PlacedCall) (most : ℕ) → IsOwnOrderTo P C least ps most → IsInOwnOrder P C least ps
  order-is least [] most o = tt
  order-is least (p ∷ ps) most o = (o.0, order-is (end_of P C p) ps most o.1)

  module _ (t : ℕ) (ps : List PlacedCall) (within : AreWithin C ps) (has : HasItsChanges P C t ps) where
    others : (e : LogEntry M) → is_change_of t e ≡ false → HasItsChanges P (C ++ e ∷ []) t ps
    others e other =
        let n = changes-push t C e ∙ ap (λ b. changes_of t C + (if b then 1 else 0)) other in
        let k = same-made (e ∷ []) ps within in
        omega (arith, has)

    -- a mark of any pass
    pub has-mark : (s : ℕ) (noted : M) → HasItsChanges P (C ++ mark s noted ∷ []) t ps
    has-mark s noted = others (mark s noted) refl

    -- a change of another pass
    pub has-change_of_other : (s : ℕ) (call : Call) → s ≢ t → HasItsChanges P (C ++ change s call ∷ []) t ps
    has-change_of_other s call ne = others (change s call) (ne_eqb s t ne)

    -- an own call that is no change
    pub has-look : (p : PlacedCall) → is_placed_change P C p ≡ false → HasItsChanges P C t (ps ++ p ∷ [])
    has-look p look = let k = made-push P C ps p false look in omega (arith, has)

    -- an own change, which is the new end of the log
    pub has-change : (call : Call) (p : PlacedCall) → is_placed_change P (C ++ change t call ∷ []) p ≡ true → HasItsChanges P (C ++ change t call ∷ []) t (ps ++ p ∷ [])
    has-change call p as_one =
        let n = changes-push t C (change t call) ∙ ap (λ b. changes_of t C + (if b then 1 else 0)) (eq-eqb t t refl) in
        let k = same-made (change t call ∷ []) ps within in
        let m = made-push P (C ++ change t call ∷ []) ps p true as_one in
        omega (arith, has)

module _ {M : Type 0} (P : ℕ) (C : Log M) where
  -- a lawful placed call stays so where the log grows
  pub lawful-longer : (more : Log M) (t : ℕ) (p : PlacedCall) → IsLawfulPlaced P C t p → IsLawfulPlaced P (C ++ more) t p
  lawful-longer more t p (inl c) =
      let within = slice_get_within C p.place (change t p.call) c.entry in
      let same : heap_at P p.place (C ++ more) ≡ heap_at P p.place C = ap (after P) (take-append-le p.place C more (omega arith)) in
      inl (record {
        entry = get-longer C more p.place (change t p.call) c.entry;
        reply = c.reply ∙ ap (λ h. (one h t p.call).1) (sym same);
        changing = ap (λ h. is_change h p.call p.reply) same ∙ c.changing;
      })
  lawful-longer more t p (inr (inl u)) =
      let same : heap_at P p.place (C ++ more) ≡ heap_at P p.place C = ap (after P) (take-append-le p.place C more u.place) in
      inr (inl (record {
        place = (let k = u.place in omega (arith, length-append C more));
        same = subst (λ h. one h t p.call ≡ (h, p.reply)) (sym same) u.same;
        unchanging = ap (λ h. is_change h p.call p.reply) same ∙ u.unchanging;
      }))
  lawful-longer more t p (inr (inr r)) = inr (inr (record {
    place = (let k = r.place in omega (arith, length-append C more));
    refused = subst (λ d. IsLawfulSpent (changes_of t d) p.call p.reply) (sym (take-append-le p.place C more r.place)) r.refused;
  }))

  module _ (log : IsLawfulLog P C) where
    log-push : (e : LogEntry M) → made_by e < P → ((pass : ℕ) (call : Call) → e ≡ change pass call → is_change (after P C) call (one (after P C) pass call).1 ≡ true)
        → IsLawfulLog P (C ++ e ∷ [])
    log-push e lt as_one = record {
      made = λ n x is. elim (get-push C e n x is) [
        | inl old ↦ log.made n x old.1
        | inr last ↦ subst (λ y. made_by y < P) last.1 lt
      ];
      changes = λ n pass call is. elim (get-push C e n (change pass call) is) [
        | inl old ↦ subst (λ d. is_change (after P d) call (one (after P d) pass call).1 ≡ true)
            (sym (take-append-le n C (e ∷ []) (let k = old.0 in omega arith))) (log.changes n pass call old.1)
        | inr last ↦ subst (λ d. is_change (after P d) call (one (after P d) pass call).1 ≡ true)
            (sym (take_at C (e ∷ []) n (sym last.0))) (as_one pass call last.1)
      ];
    }

    -- a log goes on by a change of the heap that it leaves
    pub log-change : (pass : ℕ) (call : Call) → pass < P → is_change (after P C) call (one (after P C) pass call).1 ≡ true → IsLawfulLog P (C ++ change pass call ∷ [])
    log-change pass call lt as_one =
        log-push (change pass call) lt (λ s c is. let by : s ≡ pass = cc in let made : c ≡ call = cc in (λ i. is_change (after P C) (made i) (one (after P C) (by i) (made i)).1) ∙ as_one)

    -- and by any mark of a pass of the heap
    pub log-mark : (pass : ℕ) (noted : M) → pass < P → IsLawfulLog P (C ++ mark pass noted ∷ [])
    log-mark pass noted lt = log-push (mark pass noted) lt (λ s c is. absurd (cc))

pub log-nil : {M : Type 0} (P : ℕ) → IsLawfulLog {M = M} P []
log-nil P = record { made = λ n e is. absurd (cc); changes = λ n pass call is. absurd (cc) }
