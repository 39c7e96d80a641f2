-- The steps on the epoch and on acknowledgements: polls, leaving and entering, what an acknowledgement shows of another pass, and raises.
use Rattle.std.proofs.Common.{◌≡◌, ◌≢◌, ◌⊎◌, ◌+◌, ◌<◌, ◌≤◌, ℕ, true, false, List, [], ◌∷◌, set, refl, sym, ap, ◌∙◌, subst, inl, inr, ⊎_elim, arith, Some, None}
use mathlib.Core.Option.{some}
use lib.ListN.{get_elem?}
use Rattle.std.specs.Prelude.{nat_lt, if◌then◌else◌}
use Rattle.std.proofs.lemmas.Bool.{both_ways, cases_eq, cases_Bool, cond_both, ltb-true, ltb-false}
use Rattle.jo_value.specs.declared.capacities.TheConstants.{UNSTAMPED, OUT}
use Rattle.jo_rule.specs.declared.counts.Counts.{Counts}
use Rattle.jo_rule.specs.Names.{epoch, acknowledgement}
use Rattle.jo_rule.specs.Areas.{Words, put, acknowledgements, set_number}
use Rattle.jo_rule.specs.Spots.{values}
use Rattle.jo_rule.specs.Views.{View, Pin, Licence, Sight, Time, Since, Firing, Sets, Quarantined, Lock}
use Rattle.jo_rule.specs.Lists.{Each}
use Rattle.jo_rule.specs.Rule.{Rule}
use Rattle.jo_rule.specs.Steps.{no_sight}
use Rattle.jo_rule.specs.Sights.{watched, IsSighted, ViewIsSighted}
use Rattle.jo_rule.specs.Timing.{IsTimed, ViewIsTimed}
use Rattle.jo_rule.specs.Views.{Past, Births}
use Rattle.jo_rule.proofs.Concluded.{alike_same, at_least_same, concluded_same}
use Rattle.jo_rule.proofs.Raised.{raised_same, raised_in, raised_out}
use Rattle.jo_rule.specs.Raised.{Raised}
use Rattle.jo_rule.proofs.Lists.{live_set, no_each, none_there}
use Rattle.jo_rule.proofs.Sets.{number_here, number_else}
use Rattle.jo_rule.proofs.Histories.{SameItems, begins_itself, same_placements, same_histories, numbers}
use Rattle.jo_rule.proofs.Owned.{same_owned, same_structures}
use Rattle.jo_rule.proofs.Locks.{same_locks}
use Rattle.jo_rule.proofs.Sights.{sighted_dropped, sights_set}
use Rattle.jo_rule.proofs.Timing.{timing_set}
use Rattle.jo_rule.proofs.Allowed.{allowed_same}
use Rattle.jo_rule.proofs.Lasting.{lasting_same}
use Rattle.jo_rule.proofs.Moves.{looks}
use Rattle.jo_rule.proofs.Stores.{numbers_of}
use Rattle.jo_rule.proofs.Looks.{apart, cons_each}

-- ---- the views after these steps

-- the epoch was loaded: pins and licences are dropped; more polls may be counted
abbrev pub polling : View → (epoch more : ℕ) → Counts → View
polling v e more counts = record v { time = record v.time { loaded = Some e; largest = e; polls = v.time.polls + more }; sight = no_sight; counts = counts }

-- it was acknowledged
abbrev pub acknowledging : View → (epoch more : ℕ) → Counts → View
acknowledging v e more counts = record v { time = record v.time { polled = e; loaded = None; polls = v.time.polls + more }; sight = no_sight; counts = counts }

abbrev pub going_out : View → Counts → View
going_out v counts = record v { time = record v.time { out = true; loaded = None }; sight = no_sight; counts = counts }

abbrev pub coming_in : View → (epoch : ℕ) → Counts → View
coming_in v e counts = record v { time = record v.time { out = false; polled = e; loaded = None; polls = v.time.polls + 1 }; sight = no_sight; counts = counts }

-- an acknowledgement shows that a pass has no pin that is older than this epoch
abbrev pub clearing : View → (pass epoch : ℕ) → Counts → View
clearing v q e counts = record v { time = record v.time { clear = record { pass = q; epoch = e } ∷ v.time.clear }; counts = counts }

-- each pin of a pass whose acknowledgement is at least an epoch, or which is out, was made in that epoch or later
no_pin : (k : ℕ) (p : Pin) (pins : List Pin) → pins ≡ [] → get_elem? pins k ≡ some p → ⊥
no_pin k p pins e f = none_there k p (ap (λ (l : List Pin). get_elem? l k) (sym e) ∙ f)

pin_after : {E : ℕ} {acks : ℕ → ℕ} {number : ℕ} {t : Time} {sight : Sight} (e : ℕ) → E + 1 < UNSTAMPED → IsTimed E acks number t sight → (acks number ≡ OUT) ⊎ (e ≤ acks number) → (k : ℕ) (p : Pin) → get_elem? sight.pins k ≡ some p → e ≤ p.epoch
pin_after {E} {acks} {number} {t} {sight} e few h found k p f = ⊎_elim
    (λ (o : t.out ≡ true). absurd (no_pin k p sight.pins (h.out o).1 f))
    (λ (o : t.out ≡ false).
    let a = h.inside o in
    let b = h.polled in
    let c = h.pins k p f in
    ⊎_elim (λ (x : acks number ≡ OUT). absurd (omega (arith, x))) (λ (x : e ≤ acks number). omega arith) found) (cases_Bool t.out)

-- ---- the own acknowledgement

-- what each store of the own acknowledgement owes
acks_at : {P : ℕ} {w : Words} {views : List View} (id : ℕ) (v u : View) (r : Rule P w views) → get_elem? views id ≡ some v → v.live ≡ true → u.live ≡ true → SameItems v u → v.past ≡ u.past → v.storage ≡ u.storage → v.births ≡ u.births → v.lock ≡ u.lock → Raised P r.made (w epoch) r.cell r.shape (watched w) (set views id u) → (x : ℕ)
    → ViewIsSighted P (w epoch) (values w) r.cell r.shape r.role r.now (watched w) r.log r.sights.floor r.sights.sealed r.sights.firer id u → IsTimed (w epoch) (acknowledgements (put w (acknowledgement v.number) x)) u.number u.time u.sight → Rule P (put w (acknowledgement v.number) x) (set views id u)
acks_at {P} {w} {views} id v u r at l lu same past store births lock raised x sight times =
    let acks' = acknowledgements (put w (acknowledgement v.number) x) in
    let below = (r.histories.seated id v at l).own.1 in
    let away : (q : ℕ) → q ≢ v.number → acks' q ≡ acknowledgements w q = λ q n. number_else (acknowledgements w) v.number q x n in record {
      log = r.log;
      made = r.made;
      home = r.home;
      node = r.node;
      shape = r.shape;
      cell = r.cell;
      role = r.role;
      now = r.now;
      so = r.so;
      placements = same_placements views id v u at l (numbers same) past r.placements;
      histories = same_histories views id v u at l (numbers same) past r.histories;
      coded = r.coded;
      shaped = r.shaped;
      contents = r.contents;
      owned = same_owned views id u v at l same.number store (ap (λ (b : Rattle.jo_rule.specs.Views.Births). b.objects) births) r.owned;
      structures = same_structures views id v u at l same.number (ap Rattle.jo_rule.specs.Owned.structures_in births) r.structures;
      locks = same_locks views id v u at l lu lock (λ j y e ly g f n k lt. refl) r.locks;
      unborn = r.unborn;
      unmade = record {
        out = λ t le lt. away t (λ e. omega arith) ∙ r.unmade.out t le lt;
        structures = r.unmade.structures;
        nameless = r.unmade.nameless;
        storage = r.unmade.storage;
        objects = r.unmade.objects;
      };
      sights = sights_set views id u r.sights (λ j y n e ly h. h) sight;
      born_so = r.born_so;
      marked = r.marked;
      allowed = allowed_same views id v u at l same.flat r.allowed;
      timing = record {
        timed = live_set (ViewIsTimed (w epoch) (acknowledgements w)) (ViewIsTimed (w epoch) acks') views id u r.timing.timed
            (λ j y n e ly h.
            let other : y.number ≢ v.number = λ f. apart r id j v y n at l e ly (sym f) in record {
              out = λ o. (away y.number other ∙ (h.out o).0, (h.out o).1, (h.out o).2);
              inside = λ o. subst (λ (z : ℕ). z ≤ y.time.polled) (sym (away y.number other)) (h.inside o);
              polled = h.polled;
              pins = h.pins;
              largest = h.largest;
              loaded = h.loaded;
            }) times;
      };
      lasting = lasting_same views id v u at l same.lasting r.lasting;
      counted = r.counted;
      concluded = concluded_same views id v u at l (numbers same) r.concluded (alike_same lock) (ap (λ (b : Births). b.nodes) births) (at_least_same v.past.calls u.past.calls (ap (λ (x : Past). x.calls) past));
      raised = raised;
    }

module _ {P : ℕ} {w : Words} {views : List View} (id : ℕ) (v : View) (r : Rule P w views) (at : get_elem? views id ≡ some v) (l : v.live ≡ true) where
  no_pins_timed : (n : ℕ) → Each [] (λ k (p : Pin). n ≤ p.epoch)
  no_pins_timed n = no_each (λ k p. n ≤ p.epoch)

  -- The epoch is loaded: a poll, or a wait.
  pub loads_epoch : (more : ℕ) (counts : Counts) → Rule P w (set views id (polling v (w epoch) more counts))
  loads_epoch more counts =
      let u = polling v (w epoch) more counts in
      let h = r.sights.each id v at l in
      let t = r.timing.timed id v at l in
      looks id v u r at l (numbers_of v u refl refl refl refl refl refl) (record { calls = refl; more = begins_itself v.past.seen; seen = r.histories.seen id v at l }) refl refl refl refl refl refl (sighted_dropped h v.quarantine h.stamped)
      record {
        out = λ o. ((t.out o).0, refl, refl);
        inside = t.inside;
        polled = t.polled;
        pins = no_pins_timed v.time.polled;
        largest = omega arith;
        loaded = λ n e. (let both : Some (w epoch) ≡ Some n = e in let one : w epoch ≡ n = cc in omega arith);
      }

  -- The epoch that was loaded is acknowledged.
  pub stores_ack : (n more : ℕ) (counts : Counts) → v.time.out ≡ false → v.time.loaded ≡ Some n → Rule P (put w (acknowledgement v.number) n) (set views id (acknowledging v n more counts))
  stores_ack n more counts inside loaded =
      let u = acknowledging v n more counts in
      let h = r.sights.each id v at l in
      let t = r.timing.timed id v at l in
      acks_at id v u r at l l (numbers_of v u refl refl refl refl refl refl) refl refl refl refl (raised_same views id v u at l (numbers (numbers_of v u refl refl refl refl refl refl)) r.histories r.raised refl refl) n (sighted_dropped h v.quarantine h.stamped)
      record {
        out = λ o. absurd (both_ways v.time.out inside o);
        inside = λ o. (let here = number_here (acknowledgements w) v.number n in subst (λ (z : ℕ). z ≤ n) (sym here) (omega arith));
        polled = t.loaded n loaded;
        pins = no_pins_timed n;
        largest = t.largest;
        loaded = λ m e. (let no : None ≡ Some m = e in absurd cc);
      }

  -- The pass goes out.
  pub stores_out : (counts : Counts) → Rule P (put w (acknowledgement v.number) OUT) (set views id (going_out v counts))
  stores_out counts =
      let u = going_out v counts in
      let h = r.sights.each id v at l in
      let t = r.timing.timed id v at l in
      acks_at id v u r at l l (numbers_of v u refl refl refl refl refl refl) refl refl refl refl (raised_out views id v u at l (numbers (numbers_of v u refl refl refl refl refl refl)) r.histories r.raised refl refl refl refl refl) OUT (sighted_dropped h v.quarantine h.stamped)
      record {
        out = λ o. (number_here (acknowledgements w) v.number OUT, refl, refl);
        inside = λ o. (let no : true ≡ false = o in absurd cc);
        polled = t.polled;
        pins = no_pins_timed v.time.polled;
        largest = t.largest;
        loaded = λ m e. (let no : None ≡ Some m = e in absurd cc);
      }

  -- It comes in with the epoch that it loaded.
  pub stores_in : (n : ℕ) (counts : Counts) → v.flat ≡ true → v.time.loaded ≡ Some n → Rule P (put w (acknowledgement v.number) n) (set views id (coming_in v n counts))
  stores_in n counts flat loaded =
      let u = coming_in v n counts in
      let h = r.sights.each id v at l in
      let t = r.timing.timed id v at l in
      acks_at id v u r at l l (numbers_of v u refl refl refl refl refl refl) refl refl refl refl (raised_in views id v u at l (numbers (numbers_of v u refl refl refl refl refl refl)) r.histories r.raised flat refl refl refl) n (sighted_dropped h v.quarantine h.stamped)
      record {
        out = λ o. (let no : false ≡ true = o in absurd cc);
        inside = λ o. subst (λ (z : ℕ). z ≤ n) (sym (number_here (acknowledgements w) v.number n)) (omega arith);
        polled = t.loaded n loaded;
        pins = no_pins_timed n;
        largest = t.largest;
        loaded = λ m e. (let no : None ≡ Some m = e in absurd cc);
      }

  -- The acknowledgement of another pass is loaded, and is at least an epoch that this pass knows, or OUT: so each pin of that pass was
  -- made in that epoch or later.
  pub clears_pass : (q e : ℕ) (counts : Counts) → q ≢ v.number → e ≤ v.time.largest → (acknowledgements w q ≡ OUT) ⊎ (e ≤ acknowledgements w q) → Rule P w (set views id (clearing v q e counts))
  clears_pass q e counts other known found =
      let u = clearing v q e counts in
      let same : SameItems v u = numbers_of v u refl refl refl refl refl refl in
      let t = r.timing.timed id v at l in
      let high : ℕ = if nat_lt (r.sights.floor q) e then e else r.sights.floor q in
      let floor' = set_number r.sights.floor q high in
      let high_floor : r.sights.floor q ≤ high = cond_both (nat_lt (r.sights.floor q) e) e (r.sights.floor q) (λ x. r.sights.floor q ≤ x) (λ f. (let lt = ltb-true (r.sights.floor q) e f in omega arith)) (λ f. omega arith) in
      let high_e : e ≤ high = cond_both (nat_lt (r.sights.floor q) e) e (r.sights.floor q) (λ x. e ≤ x) (λ f. omega arith) (λ f. ltb-false (r.sights.floor q) e f) in
      let raised : (x : ℕ) → r.sights.floor x ≤ floor' x = λ x. ⊎_elim (λ (f : x ≡ q). subst (λ (z : ℕ). r.sights.floor z ≤ floor' z) (sym f) (subst (λ (z : ℕ). r.sights.floor q ≤ z) (sym (number_here r.sights.floor q high)) high_floor)) (λ (n : x ≢ q). subst (λ (z : ℕ). r.sights.floor x ≤ z) (sym (number_else r.sights.floor q x high n)) (omega arith)) (cases_eq x q) in
      let go : (j : ℕ) (y : View) → (clear : List Since) → Each clear (λ k c. c.epoch ≤ floor' c.pass) → ((k : ℕ) (p : Pin) → get_elem? y.sight.pins k ≡ some p → floor' y.number ≤ p.epoch) → ViewIsSighted P (w epoch) (values w) r.cell r.shape r.role r.now (watched w) r.log r.sights.floor r.sights.sealed r.sights.firer j y
      → IsSighted P (w epoch) (values w) r.cell r.shape r.role r.now (watched w) r.log floor' r.sights.sealed r.sights.firer j y.number y.sight y.sets y.quarantine clear y.lock = λ j y clear cl pins h. record {
        sees = h.sees;
        follows = h.follows;
        owning = h.owning;
        timed = λ k p f. (pins k p f, (h.timed k p f).1);
        licensed = h.licensed;
        firing = h.firing;
        fired = h.fired;
        knows = h.knows;
        stamped = h.stamped;
        cleared = cl;
      } in
      let old_clear : (j : ℕ) (y : View) → get_elem? views j ≡ some y → y.live ≡ true → Each y.time.clear (λ k c. c.epoch ≤ floor' c.pass) = λ j y f ly k c g. (let a = (r.sights.each j y f ly).cleared k c g in let b = raised c.pass in omega arith) in
      let pins_of : (j : ℕ) (y : View) → get_elem? views j ≡ some y → y.live ≡ true → (k : ℕ) (p : Pin) → get_elem? y.sight.pins k ≡ some p → floor' y.number ≤ p.epoch = λ j y f ly k p g.
      let a = ((r.sights.each j y f ly).timed k p g).0 in
      let m = r.timing.timed j y f ly in
      ⊎_elim
      (λ (z : y.number ≡ q).
      let after_e : e ≤ p.epoch = pin_after e r.sights.few m (⊎_elim (λ (x : acknowledgements w q ≡ OUT). inl (ap (acknowledgements w) z ∙ x)) (λ (x : e ≤ acknowledgements w q). inr (subst (λ (n : ℕ). e ≤ acknowledgements w n) (sym z) x)) found) k p g in
      let high_p : high ≤ p.epoch = cond_both (nat_lt (r.sights.floor q) e) e (r.sights.floor q) (λ x. x ≤ p.epoch) (λ i. after_e) (λ i. subst (λ (n : ℕ). r.sights.floor n ≤ p.epoch) z a) in
      subst (λ (n : ℕ). n ≤ p.epoch) (sym (ap floor' z ∙ number_here r.sights.floor q high)) high_p)
      (λ (n : y.number ≢ q). subst (λ (x : ℕ). x ≤ p.epoch) (sym (number_else r.sights.floor q y.number high n)) a) (cases_eq y.number q) in record {
        log = r.log;
        made = r.made;
        home = r.home;
        node = r.node;
        shape = r.shape;
        cell = r.cell;
        role = r.role;
        now = r.now;
        so = r.so;
        placements = same_placements views id v u at l (numbers same) refl r.placements;
        histories = same_histories views id v u at l (numbers same) refl r.histories;
        coded = r.coded;
        shaped = r.shaped;
        contents = r.contents;
        owned = same_owned views id u v at l refl refl refl r.owned;
        structures = same_structures views id v u at l refl refl r.structures;
        locks = same_locks views id v u at l l refl (λ j y e ly g f n k lt. refl) r.locks;
        unborn = r.unborn;
        unmade = r.unmade;
        sights = record {
          floor = floor';
          sealed = r.sights.sealed;
          firer = r.sights.firer;
          each = live_set (ViewIsSighted P (w epoch) (values w) r.cell r.shape r.role r.now (watched w) r.log r.sights.floor r.sights.sealed r.sights.firer) (ViewIsSighted P (w epoch) (values w) r.cell r.shape r.role r.now (watched w) r.log floor' r.sights.sealed r.sights.firer) views id u r.sights.each
              (λ j y n f ly h. go j y y.time.clear (old_clear j y f ly) (pins_of j y f ly) h)
              (go id v (record { pass = q; epoch = e } ∷ v.time.clear) (cons_each (λ (c : Since). c.epoch ≤ floor' c.pass) (record { pass = q; epoch = e }) v.time.clear (subst (λ (x : ℕ). e ≤ x) (sym (number_here r.sights.floor q high)) high_e) (old_clear id v at l)) (pins_of id v at l) (r.sights.each id v at l));
          floors = λ x. ⊎_elim (λ (f : x ≡ q). subst (λ (n : ℕ). n ≤ w epoch) (sym (ap floor' f ∙ number_here r.sights.floor q high)) (cond_both (nat_lt (r.sights.floor q) e) e (r.sights.floor q) (λ n. n ≤ w epoch) (λ g. (let a = t.largest in omega arith)) (λ g. r.sights.floors q)))
              (λ (n : x ≢ q). subst (λ (m : ℕ). m ≤ w epoch) (sym (number_else r.sights.floor q x high n)) (r.sights.floors x)) (cases_eq x q);
          few = r.sights.few;
          states = r.sights.states;
          unsealed = r.sights.unsealed;
        };
        born_so = r.born_so;
        marked = r.marked;
        allowed = allowed_same views id v u at l refl r.allowed;
        timing = timing_set views id u r.timing record { out = t.out; inside = t.inside; polled = t.polled; pins = t.pins; largest = t.largest; loaded = t.loaded };
        lasting = lasting_same views id v u at l refl r.lasting;
        counted = r.counted;
        concluded = concluded_same views id v u at l (numbers same) r.concluded (alike_same refl) refl (at_least_same v.past.calls v.past.calls refl);
        raised = raised_same views id v u at l (numbers same) r.histories r.raised refl refl;
      }
