-- In a weave each pass has its own calls once each, in its order.
use Rattle.std.proofs.Common.{◌≡◌, ◌≢◌, ◌+◌, ◌<◌, ◌≤◌, ◌==◌, ◌&&◌, not, cond, ℕ, zero, suc, Bool, true, false, List, [], ◌∷◌, ◌++◌, refl, sym, ap, ◌∙◌, subst, inl, inr, arith, length, take, map, slice_get, Some, ⊎_elim, if◌then◌else◌, append-nil, append_assoc}
use Rattle.std.specs.Prelude.{count_by, filter, flat_map, All}
use Rattle.std.specs.List.{enumerate_from}
use Rattle.std.proofs.lemmas.Bool.{eq-eqb, ne_eqb, cases_order, both_ways, cond_both, false_from_ne_true}
use Rattle.std.proofs.lemmas.List.{length_push}
use Rattle.std.proofs.lemmas.List.Elements.{All-head, All-tail, filter-append}
use Rattle.std.proofs.lemmas.List.Sums.{sum_by-cons}
use Rattle.std.proofs.lemmas.Option.{slice_get_within}
use Rattle.jo_model.specs.Heaps.{Heap, heap_at_start}
use Rattle.jo_model.specs.One.{one}
use Rattle.jo_model.specs.History.{Entry, History, is_change, entries_of}
use Rattle.jo_model.specs.Logs.{LogEntry, change, mark, Log, is_change_of, changes_of, after_log_entry, after, heap_at}
use Rattle.jo_model.specs.Placed.{PlacedCall, is_placed_change, IsLawfulPlaced, IsPlacedChange, end_of, IsInOwnOrder, entry_of, unchanging_at, all_unchanging_at, history_of, weave, weave_from}
use Rattle.jo_model.specs.Joined.{IsPlacedBy}
use Rattle.jo_model.proofs.Beginnings.{entry-there, taken, after-push}

module _ (t : ℕ) where
  keeps-all : (ps : List PlacedCall) → entries_of t (map (entry_of t) ps) ≡ map (entry_of t) ps
  keeps-all [] = refl
  keeps-all (p ∷ ps) = (λ i. cond (eq-eqb t t refl i) (entry_of t p ∷ keeps-all ps i) (keeps-all ps i))

  drops-all : (s : ℕ) → s ≢ t → (ps : List PlacedCall) → entries_of t (map (entry_of s) ps) ≡ []
  drops-all s ne [] = refl
  drops-all s ne (p ∷ ps) = (λ i. cond (ne_eqb s t ne i) (entry_of s p ∷ drops-all s ne ps i) (drops-all s ne ps i))

  module _ (place : ℕ) (heap : Heap) where
    abbrev test : PlacedCall → Bool
    test p = p.place == place && not (is_change heap p.call p.reply)

    abbrev from : ℕ → List (List PlacedCall) → History
    from s calls = flat_map (λ of_pass. unchanging_at place heap of_pass.0 of_pass.1) (enumerate_from s calls)

    none-later : (s : ℕ) (calls : List (List PlacedCall)) → t < s → entries_of t (from s calls) ≡ []
    none-later s [] lt = refl
    none-later s (qs ∷ calls) lt =
        filter-append (λ (e : Entry). e.pass == t) (unchanging_at place heap s qs) (from (s + 1) calls)
        ∙ (λ i. drops-all s (λ e. omega arith) (filter test qs) i ++ none-later (s + 1) calls (omega arith) i)

    own-among : (s : ℕ) (calls : List (List PlacedCall)) (k : ℕ) (ps : List PlacedCall) → s + k ≡ t → slice_get calls k ≡ Some ps
        → entries_of t (from s calls) ≡ unchanging_at place heap t ps
    own-among s [] k ps e is = absurd (let h = slice_get_within [] k ps is in omega arith)
    own-among s (qs ∷ calls) zero ps e is =
        let same : t ≡ s = omega arith in
        let here : ps ≡ qs = cc in
        filter-append (λ (e : Entry). e.pass == t) (unchanging_at place heap s qs) (from (s + 1) calls)
        ∙ (ap (λ w. entries_of t (unchanging_at place heap s qs) ++ w) (none-later (s + 1) calls (omega arith))
        ∙ (append-nil (entries_of t (unchanging_at place heap s qs))
        ∙ sym ((λ i. entries_of t (unchanging_at place heap (same i) (here i))))
        ∙ keeps-all (filter test ps)))
    own-among s (qs ∷ calls) (suc k) ps e is =
        filter-append (λ (e : Entry). e.pass == t) (unchanging_at place heap s qs) (from (s + 1) calls)
        ∙ (λ i. drops-all s (λ f. omega arith) (filter test qs) i ++ own-among (s + 1) calls k ps (omega arith) is i)

    -- the calls at a place, one more in front
    stay-cons : (p : PlacedCall) (ps : List PlacedCall) (b : Bool) → test p ≡ b
        → unchanging_at place heap t (p ∷ ps) ≡ cond b (entry_of t p ∷ unchanging_at place heap t ps) (unchanging_at place heap t ps)
    stay-cons p ps true e = ap (λ b. map (entry_of t) (cond b (p ∷ filter test ps) (filter test ps))) e
    stay-cons p ps false e = ap (λ b. map (entry_of t) (cond b (p ∷ filter test ps) (filter test ps))) e

    stay-at : (p : PlacedCall) (ps : List PlacedCall) (b : Bool) → p.place ≡ place → is_change heap p.call p.reply ≡ b
        → unchanging_at place heap t (p ∷ ps) ≡ cond b (unchanging_at place heap t ps) (entry_of t p ∷ unchanging_at place heap t ps)
    stay-at p ps true e is = stay-cons p ps false (λ i. eq-eqb p.place place e i && not (is i))
    stay-at p ps false e is = stay-cons p ps true (λ i. eq-eqb p.place place e i && not (is i))

    stay-off : (p : PlacedCall) (ps : List PlacedCall) → p.place ≢ place → unchanging_at place heap t (p ∷ ps) ≡ unchanging_at place heap t ps
    stay-off p ps ne = stay-cons p ps false (λ i. ne_eqb p.place place ne i && not (is_change heap p.call p.reply))

  module _ {M : Type 0} where
    -- what a weave has of the pass
    abbrev own : ℕ → Heap → Log M → List PlacedCall → History
    own place heap [] ps = unchanging_at place heap t ps
    own place heap (e ∷ log) ps = unchanging_at place heap t ps ++ (entries_of t (history_of heap e) ++ own (place + 1) (after_log_entry heap e) log ps)

    own-is : (calls : List (List PlacedCall)) (ps : List PlacedCall) → slice_get calls t ≡ Some ps → (log : Log M) (place : ℕ) (heap : Heap)
        → entries_of t (weave_from place heap log calls) ≡ own place heap log ps
    own-is calls ps is [] place heap = own-among place heap 0 calls t ps (omega arith) is
    own-is calls ps is (e ∷ log) place heap =
        filter-append (λ (e : Entry). e.pass == t) (all_unchanging_at place heap calls) (history_of heap e ++ weave_from (place + 1) (after_log_entry heap e) log calls)
        ∙ (λ i. own-among place heap 0 calls t ps (omega arith) is i
        ++ (filter-append (λ (e : Entry). e.pass == t) (history_of heap e) (weave_from (place + 1) (after_log_entry heap e) log calls)
        ∙ ap (λ w. entries_of t (history_of heap e) ++ w) (own-is calls ps is log (place + 1) (after_log_entry heap e))) i)

    -- a call with an earlier place is passed over
    own-past : (log : Log M) (place : ℕ) (heap : Heap) (p : PlacedCall) (ps : List PlacedCall) → p.place < place → own place heap log (p ∷ ps) ≡ own place heap log ps
    own-past [] place heap p ps lt = stay-off place heap p ps (λ e. omega arith)
    own-past (e ∷ log) place heap p ps lt =
        λ i. stay-off place heap p ps (λ e. omega arith) i
        ++ (entries_of t (history_of heap e) ++ own-past log (place + 1) (after_log_entry heap e) p ps (omega arith) i)

    -- an entry that is no change of the pass is not in it
    not-own : (heap : Heap) (e : LogEntry M) → is_change_of t e ≡ false → entries_of t (history_of heap e) ≡ []
    not-own heap (change s call) is = ap (λ b. cond b (record { pass = s; call = call; reply = (one heap s call).1 } ∷ []) []) is
    not-own heap (mark s noted) is = refl

module _ {M : Type 0} (P : ℕ) (C : Log M) (t : ℕ) where
  abbrev made : List PlacedCall → ℕ
  made ps = count_by (is_placed_change P C) ps

  -- a change is at its place, and any placed call within the log
  is-there : (p : PlacedCall) → IsLawfulPlaced P C t p → is_placed_change P C p ≡ true → IsPlacedChange P C t p
  is-there p (inl c) b = c
  is-there p (inr (inl q)) b = absurd (both_ways (is_placed_change P C p) q.unchanging b)
  is-there p (inr (inr q)) b =
      absurd (both_ways (is_placed_change P C p) (ap (is_change (heap_at P p.place C) p.call) q.refused.answered) b)

  is-within : (p : PlacedCall) → IsLawfulPlaced P C t p → p.place ≤ length C
  is-within p (inl c) = let h = slice_get_within C p.place _ c.entry in omega arith
  is-within p (inr (inl q)) = q.place
  is-within p (inr (inr q)) = q.place

  heap-here : (done rest : Log M) → done ++ rest ≡ C → (place : ℕ) → place ≡ length done → heap_at P place C ≡ after P done
  heap-here done rest is place here = ap (after P) (ap (λ n. take n C) here ∙ taken C done rest is)

  is-here : (done rest : Log M) → done ++ rest ≡ C → (p : PlacedCall) (b : Bool) → p.place ≡ length done → is_placed_change P C p ≡ b
      → is_change (after P done) p.call p.reply ≡ b
  is-here done rest is p b here as_one = ap (λ h. is_change h p.call p.reply) (sym (heap-here done rest is p.place here)) ∙ as_one

  none-at : (place least : ℕ) (heap : Heap) (ps : List PlacedCall) → place < least → IsInOwnOrder P C least ps → unchanging_at place heap t ps ≡ []
  none-at place least heap [] lt o = refl
  none-at place least heap (p ∷ ps) lt o =
      let k = o.0 in
      let later : p.place ≤ end_of P C p = cond_both (is_placed_change P C p) (p.place + 1) p.place (λ n. p.place ≤ n) (λ e. omega arith) (λ e. omega arith) in
      stay-off t place heap p ps (λ e. omega arith) ∙ none-at place (end_of P C p) heap ps (omega arith) o.1

  counts : (p : PlacedCall) (ps : List PlacedCall) (b : Bool) → is_placed_change P C p ≡ b → made (p ∷ ps) ≡ (if b then 1 else 0) + made ps
  counts p ps b e = sum_by-cons (λ q. if is_placed_change P C q then 1 else 0) p ps ∙ ap (λ b. (if b then 1 else 0) + made ps) e

  order-next : (p : PlacedCall) (ps : List PlacedCall) (place : ℕ) (b : Bool) → p.place ≡ place → is_placed_change P C p ≡ b → IsInOwnOrder P C (end_of P C p) ps
      → IsInOwnOrder P C (if b then place + 1 else place) ps
  order-next p ps place b here e o =
      subst (λ n. IsInOwnOrder P C (if b then n + 1 else n) ps) here (subst (λ x. IsInOwnOrder P C (if x then p.place + 1 else p.place) ps) e o)

  -- What is left of the log has the changes that are left to the pass. Where it has no others, the calls that are left stand in it.
  record Fits (place : ℕ) (heap : Heap) (log : Log M) (ps : List PlacedCall) : Type 0 where
    enough : made ps ≤ changes_of t log
    whole : changes_of t log ≡ made ps → own t place heap log ps ≡ map (entry_of t) ps

  abbrev AllFit : ℕ → Heap → Log M → Type 0
  AllFit place heap log = (ps : List PlacedCall) → All (IsLawfulPlaced P C t) ps → IsInOwnOrder P C place ps → Fits place heap log ps

  at-end : (done : Log M) → done ++ [] ≡ C → AllFit (length done) (after P done) []
  at-end done is [] lawful o = record { enough = omega arith; whole = λ e. refl }
  at-end done is (p ∷ ps) lawful o =
      let first = All-head (IsLawfulPlaced P C t) p ps lawful in
      let long : length done ≡ length C = ap length (sym (append-nil done) ∙ is) in
      let here : p.place ≡ length done = (let k = o.0 in let m = is-within p first in omega arith) in
      let look = false_from_ne_true (is_placed_change P C p) (λ b. let k = slice_get_within C p.place _ (is-there p first b).entry in omega arith) in
      let rest = at-end done is ps (All-tail (IsLawfulPlaced P C t) p ps lawful) (order-next p ps (length done) false here look o.1) in
      let k = counts p ps false look in
      record {
        enough = (let m = rest.enough in omega arith);
        whole = λ n. stay-at t (length done) (after P done) p ps false here (is-here done [] is p false here look) ∙ ap (λ w. entry_of t p ∷ w) (rest.whole (omega arith));
      }

  module _ (done rest : Log M) (e : LogEntry M) (is : done ++ e ∷ rest ≡ C)
      (next : AllFit (length done + 1) (after_log_entry (after P done) e) rest) where
    counts-entry : (b : Bool) → is_change_of t e ≡ b → changes_of t (e ∷ rest) ≡ (if b then 1 else 0) + changes_of t rest
    counts-entry b is = sum_by-cons (λ x. if is_change_of t x then 1 else 0) e rest ∙ ap (λ b. (if b then 1 else 0) + changes_of t rest) is

    -- where the pass has no call at this place
    passed : (ps : List PlacedCall) → All (IsLawfulPlaced P C t) ps → IsInOwnOrder P C (length done + 1) ps
        → (b : Bool) → is_change_of t e ≡ b → Fits (length done) (after P done) (e ∷ rest) ps
    passed ps lawful o true as_own = let later = next ps lawful o in let k = later.enough in let n = counts-entry true as_own in record {
      enough = omega arith;
      whole = λ same. absurd (omega arith);
    }
    passed ps lawful o false other = let later = next ps lawful o in let k = later.enough in let n = counts-entry false other in record {
      enough = omega arith;
      whole = λ same.
          (λ i. none-at (length done) (length done + 1) (after P done) ps (omega arith) o i
          ++ (not-own t (after P done) e other i ++ own t (length done + 1) (after_log_entry (after P done) e) rest ps))
          ∙ later.whole (omega arith);
    }

    -- where it has one
    met : (p : PlacedCall) (ps : List PlacedCall) → All (IsLawfulPlaced P C t) (p ∷ ps) → IsInOwnOrder P C (end_of P C p) ps → p.place ≡ length done
        → (IsInOwnOrder P C (length done) ps → Fits (length done) (after P done) (e ∷ rest) ps)
        → (b : Bool) → is_placed_change P C p ≡ b → Fits (length done) (after P done) (e ∷ rest) (p ∷ ps)
    met p ps lawful o here again true as_one =
        let c = is-there p (All-head (IsLawfulPlaced P C t) p ps lawful) as_one in
        let there = entry-there C done e rest is in
        let as_own : e ≡ change t p.call = (let at : slice_get C (length done) ≡ Some (change t p.call) = subst (λ n. slice_get C n ≡ Some (change t p.call)) here c.entry in cc) in
        let reply : (one (after P done) t p.call).1 ≡ p.reply = ap (λ h. (one h t p.call).1) (sym (heap-here done (e ∷ rest) is p.place here)) ∙ sym c.reply in
        let order = order-next p ps (length done) true here as_one o in
        let later = next ps (All-tail (IsLawfulPlaced P C t) p ps lawful) order in
        let k = later.enough in
        let n = counts-entry true (ap (is_change_of t) as_own ∙ eq-eqb t t refl) in
        let m = counts p ps true as_one in
        let heap = after_log_entry (after P done) e in
        let none = stay-at t (length done) (after P done) p ps true here (is-here done (e ∷ rest) is p true here as_one)
        ∙ none-at (length done) (length done + 1) (after P done) ps (omega arith) order in
        let one_entry : entries_of t (history_of (after P done) e) ≡ entry_of t p ∷ [] =
        ap (λ x. entries_of t (history_of (after P done) x)) as_own
        ∙ (λ i. cond (eq-eqb t t refl i) (record { pass = t; call = p.call; reply = reply i } ∷ []) []) in
        record {
          enough = omega arith;
          whole = λ same.
              (λ i. none i ++ (one_entry i ++ own-past t rest (length done + 1) heap p ps (omega arith) i))
              ∙ ap (λ w. entry_of t p ∷ w) (later.whole (omega arith));
        }
    met p ps lawful o here again false look =
        let rest_fits = again (order-next p ps (length done) false here look o) in
        let k = rest_fits.enough in
        let m = counts p ps false look in
        let heap = after_log_entry (after P done) e in
        record {
          enough = omega arith;
          whole = λ same.
              (λ i. stay-at t (length done) (after P done) p ps false here (is-here done (e ∷ rest) is p false here look) i
              ++ (entries_of t (history_of (after P done) e) ++ own-past t rest (length done + 1) heap p ps (omega arith) i))
              ∙ ap (λ w. entry_of t p ∷ w) (rest_fits.whole (omega arith));
        }

    at-entry : AllFit (length done) (after P done) (e ∷ rest)
    at-entry [] lawful o = passed [] lawful tt (is_change_of t e) refl
    at-entry (p ∷ ps) lawful o =
        let k = o.0 in
        ⊎_elim (λ here. met p ps lawful o.1 here (at-entry ps (All-tail (IsLawfulPlaced P C t) p ps lawful)) (is_placed_change P C p) refl)
        (λ apart. ⊎_elim (λ before. absurd (omega (arith, before, k)))
        (λ after. passed (p ∷ ps) lawful (omega (arith, after), o.1) (is_change_of t e) refl) apart)
        (cases_order p.place (length done))

  all-fit : (rest done : Log M) → done ++ rest ≡ C → AllFit (length done) (after P done) rest
  all-fit [] done is = at-end done is
  all-fit (e ∷ rest) done is =
      at-entry done rest e is (rw (length_push, after-push) at (all-fit rest (done ++ e ∷ []) (append_assoc done (e ∷ []) rest ∙ is)))

  pub weave-has-each-once : (calls : List (List PlacedCall)) (ps : List PlacedCall) → length calls ≡ P → slice_get calls t ≡ Some ps → IsPlacedBy P C t ps
      → entries_of t (weave C calls) ≡ map (entry_of t) ps
  weave-has-each-once calls ps passes is placed =
      ap (λ n. entries_of t (weave_from 0 (heap_at_start n) C calls)) passes
      ∙ (own-is t calls ps is C 0 (heap_at_start P) ∙ (all-fit C [] refl ps placed.lawful placed.ordered).whole placed.changes)
