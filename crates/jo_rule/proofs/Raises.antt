-- The epoch is raised: for no reason, for a firing, for the stamp of an offset that was given back, and for an object that is opening.
use Rattle.std.proofs.Common.{◌≡◌, ◌≢◌, ◌+◌, ◌<◌, ◌≤◌, ℕ, Bool, true, List, ◌∷◌, set, refl, sym, ap, ◌∙◌, subst, inl, inr, ⊎_elim, arith, Option, Some, None}
use mathlib.Core.Option.{some}
use lib.ListN.{get_elem?}
use Rattle.std.proofs.lemmas.Bool.{cases_eq}
use Rattle.jo_value.specs.declared.capacities.TheConstants.{UNSTAMPED, VALID, FIRED}
use Rattle.jo_value.specs.declared.value.ObjId.{ObjId}
use Rattle.jo_value.specs.declared.value.Sid.{Sid}
use Rattle.jo_value.specs.declared.words.cell.Cell.{Cell}
use Rattle.jo_value.specs.declared.words.cell.Kind.TheVariants.{Opening}
use Rattle.jo_model.specs.Logs.{Log, after}
use Rattle.jo_rule.specs.declared.counts.Counts.{Counts}
use Rattle.jo_rule.specs.declared.watched.SetKind.{SetKind}
use Rattle.jo_rule.specs.declared.watched.SetKind.TheVariants.{Transition, Write}
use Rattle.jo_rule.specs.Names.{epoch}
use Rattle.jo_rule.specs.Areas.{Words, put, acknowledgements, stored, set_number, set_object}
use Rattle.jo_rule.specs.Marks.{Mark}
use Rattle.jo_rule.specs.Shapes.{Shape, offset_of}
use Rattle.jo_rule.specs.Spots.{Location, values}
use Rattle.jo_rule.specs.Contents.{Role, Now, Contents}
use Rattle.jo_rule.specs.Views.{View, Pin, Licence, Sight, Time, Since, Firing, Sets, Quarantined, Lock}
use Rattle.jo_rule.specs.Lists.{Each}
use Rattle.jo_rule.specs.Locks.{KeepsKind, Locks, IsHeld}
use Rattle.jo_rule.specs.Rule.{Rule}
use Rattle.jo_rule.specs.Sights.{watched, set_watched, IsFollowed, IsRelied, IsFiring, HasRight, stamp_in, IsSighted, ViewIsSighted, Sights}
use Rattle.jo_rule.specs.Timing.{IsTimed, ViewIsTimed}
use Rattle.jo_rule.specs.Views.{Past, Births}
use Rattle.jo_rule.proofs.Concluded.{OpensAlike, alike_same, at_least_same, concluded_same}
use Rattle.jo_value.specs.declared.capacities.TheConstants.{MOST_PASSES}
use Rattle.jo_rule.specs.Raised.{MOST_UNOWED, Raised}
use Rattle.jo_rule.proofs.Shaped.{deepest}
use Rattle.jo_rule.proofs.Raised.{stays_firing, raised_free, raised_owed, raised_space}
use Rattle.jo_rule.proofs.Lists.{live_set, same_item}
use Rattle.jo_rule.proofs.Sets.{number_here, number_else, object_here, object_else, each_object}
use Rattle.jo_rule.proofs.Histories.{SameItems, same_placements, same_histories, numbers}
use Rattle.jo_rule.proofs.Contents.{standing, standing_now, standing_opening, now_contents, unborn_state}
use Rattle.jo_rule.proofs.Owned.{same_owned, same_structures}
use Rattle.jo_rule.proofs.Locks.{same_locks, now_locks, one_holder}
use Rattle.jo_rule.proofs.Sights.{right_lock}
use Rattle.jo_rule.proofs.Lasting.{lasting_same}
use Rattle.jo_rule.proofs.Shapes.{option_cases}
use Rattle.jo_rule.proofs.Allowed.{allowed_same}
use Rattle.jo_rule.proofs.Stores.{numbers_of}
use Rattle.jo_rule.proofs.Looks.{apart}
use Rattle.jo_rule.proofs.Cells.{stamped_more}
use Rattle.jo_rule.proofs.Fires.{firing_of, set_here, set_else, each_watched}

-- what is said of a view goes on where the epoch is raised, and with it the states of objects, or epochs of sets
sighted_raise : {P E : ℕ} {v : Location → ℕ} {cells : ObjId → Option Cell} {shape : Sid → Shape} {role : ℕ → Role} {now now' : ObjId → Now} {sets : Sid → SetKind → ℕ} {log : Log Mark} {floor : ℕ → ℕ} {sealed sealed' firer : Sid → SetKind → ℕ} {seat number : ℕ} {sight : Sight} {known known' : Sets} {quarantine quarantine' : List Quarantined} {clear : List Since} {lock lock' : Option Lock}
    → ((k : ℕ) (p : Pin) → get_elem? sight.pins k ≡ some p → p.epoch ≤ E → IsFollowed role shape (cells p.object) (now p.object) number p → IsFollowed role shape (cells p.object) (now' p.object) number p)
    → ((s : Sid) (which : SetKind) (n : ℕ) → n ≤ E → IsRelied sets sealed s which n → IsRelied sets sealed' s which n) → known'.fired ≡ known.fired → ((f : Firing) → known'.firing ≡ Some f → IsFiring sets sealed' firer seat f)
    → ((o : ObjId) (j : ℕ) → o.pass ≡ number → (now' o).stamps j ≡ stamp_in quarantine' o j) → ((g : Lock) → lock ≡ Some g → (k : Lock) × (lock' ≡ Some k) × (k.object ≡ g.object) × (k.cell ≡ g.cell))
    → IsSighted P E v cells shape role now sets log floor sealed firer seat number sight known quarantine clear lock → IsSighted P (E + 1) v cells shape role now' sets log floor sealed' firer seat number sight known' quarantine' clear lock'
sighted_raise {P} {E} {v} {cells} {shape} {role} {now} {now'} {sets} {log} {floor} {sealed} {sealed'} {firer} {seat} {number} {sight} {known} {known'} {quarantine} {quarantine'} {clear} {lock} {lock'} go relied same firing stamps held h = record {
  sees = h.sees;
  follows = λ k p e key. go k p e (h.timed k p e).1 (h.follows k p e key);
  owning = h.owning;
  timed = λ k p e. (let b = (h.timed k p e).1 in ((h.timed k p e).0, omega arith));
  licensed = λ k x e. let b = h.licensed k x e in let old = (h.timed b.index x.pin b.is).1 in record { index = b.index; is = b.is; plain = b.plain; writes = λ z. relied x.pin.cell.sid Write x.pin.epoch old (b.writes z); transitions = λ z. relied x.pin.cell.sid Transition x.pin.epoch old (b.transitions z) };
  firing = firing;
  fired = subst (λ (q : List (Sid × SetKind)). Each q (λ k z. sets z.0 z.1 ≡ FIRED)) (sym same) h.fired;
  knows = λ name word e. let b = h.knows name word e in record { place = b.place; name_is = b.name_is; is = b.is; object = b.object; spot = b.spot; role_is = b.role_is; right = subst (λ (q : List (Sid × SetKind)). HasRight shape sight.licences lock' q b.object b.spot) (sym same) (right_lock held b.right) };
  stamped = stamps;
  cleared = h.cleared;
}

timed_later : {E : ℕ} {acks : ℕ → ℕ} {number : ℕ} {t : Time} {sight : Sight} → IsTimed E acks number t sight → IsTimed (E + 1) acks number t sight
timed_later {E} {acks} {number} {t} {sight} h = record { out = h.out; inside = h.inside; polled = (let a = h.polled in omega arith); pins = h.pins; largest = (let a = h.largest in omega arith); loaded = λ n e. (let a = h.loaded n e in omega arith) }

-- the time of the pass that raised the epoch, with the raises that it owes then and those that it made without owing one
abbrev pub raised_time : Time → (epoch owed unowed : ℕ) → Time
raised_time t e owed unowed = record t { largest = e; owed = owed; unowed = unowed }

timed_raised : {E : ℕ} {acks : ℕ → ℕ} {number : ℕ} {t : Time} {sight : Sight} (owed unowed : ℕ) → IsTimed E acks number t sight → IsTimed (E + 1) acks number (raised_time t (E + 1) owed unowed) sight
timed_raised {E} {acks} {number} {t} {sight} owed unowed h = record { out = h.out; inside = h.inside; polled = (let a = h.polled in omega arith); pins = h.pins; largest = omega arith; loaded = λ n e. (let a = h.loaded n e in omega arith) }

-- what each raise owes
raises_at : {P : ℕ} {w : Words} {views : List View} (id : ℕ) (v u : View) (r : Rule P w views) → get_elem? views id ≡ some v → v.live ≡ true → u.live ≡ true → SameItems v u → v.past ≡ u.past → v.storage ≡ u.storage → v.births ≡ u.births → OpensAlike v.lock u.lock → Raised P r.made (w epoch + 1) r.cell r.shape (watched w) (set views id u) → (now : ObjId → Now) → Contents P (values w) r.cell r.shape r.role now (after P r.log)
    → Locks (stored w) r.cell now (after P r.log) (set views id u) → Sights P (w epoch + 1) (values w) r.cell r.shape r.role now (watched w) r.log (set views id u) → IsTimed (w epoch + 1) (acknowledgements w) u.number u.time u.sight → Rule P (put w epoch (w epoch + 1)) (set views id u)
raises_at {P} {w} {views} id v u r at l lu same past store births alike raised now contents locks sights times = record {
  log = r.log;
  made = r.made;
  home = r.home;
  node = r.node;
  shape = r.shape;
  cell = r.cell;
  role = r.role;
  now = now;
  so = r.so;
  placements = same_placements views id v u at l (numbers same) past r.placements;
  histories = same_histories views id v u at l (numbers same) past r.histories;
  coded = r.coded;
  shaped = r.shaped;
  contents = contents;
  owned = same_owned views id u v at l same.number store (ap (λ (b : Rattle.jo_rule.specs.Views.Births). b.objects) births) r.owned;
  structures = same_structures views id v u at l same.number (ap Rattle.jo_rule.specs.Owned.structures_in births) r.structures;
  locks = locks;
  unborn = r.unborn;
  unmade = r.unmade;
  sights = sights;
  born_so = r.born_so;
  marked = r.marked;
  allowed = allowed_same views id v u at l same.flat r.allowed;
  timing = record { timed = live_set (ViewIsTimed (w epoch) (acknowledgements w)) (ViewIsTimed (w epoch + 1) (acknowledgements w)) views id u r.timing.timed (λ j y n e ly h. timed_later h) times };
  lasting = lasting_same views id v u at l same.lasting r.lasting;
  counted = r.counted;
  concluded = concluded_same views id v u at l (numbers same) r.concluded alike (ap (λ (b : Births). b.nodes) births) (at_least_same v.past.calls u.past.calls (ap (λ (x : Past). x.calls) past));
  raised = raised;
}

module _ {P : ℕ} {w : Words} {views : List View} (id : ℕ) (v : View) (r : Rule P w views) (at : get_elem? views id ≡ some v) (l : v.live ≡ true) (most : P ≤ MOST_PASSES) where
  -- the epoch has room for two more raises
  pub has_space : w epoch + 2 < UNSTAMPED
  has_space = raised_space r.raised most (deepest r.shaped)

  -- the sights after a raise, where one view is set and the others go on
  sights_raised : (u : View) (now : ObjId → Now) (sealed : Sid → SetKind → ℕ) → ((j : ℕ) (y : View) → j ≢ id → get_elem? views j ≡ some y → y.live ≡ true → (k : ℕ) (p : Pin) → get_elem? y.sight.pins k ≡ some p → p.epoch ≤ w epoch → IsFollowed r.role r.shape (r.cell p.object) (r.now p.object) y.number p → IsFollowed r.role r.shape (r.cell p.object) (now p.object) y.number p)
      → ((s : Sid) (which : SetKind) (n : ℕ) → n ≤ w epoch → IsRelied (watched w) r.sights.sealed s which n → IsRelied (watched w) sealed s which n) → ((j : ℕ) (y : View) → j ≢ id → (f : Firing) → IsFiring (watched w) r.sights.sealed r.sights.firer j f → IsFiring (watched w) sealed r.sights.firer j f)
      → ((j : ℕ) (y : View) → j ≢ id → get_elem? views j ≡ some y → y.live ≡ true → (o : ObjId) (i : ℕ) → o.pass ≡ y.number → (now o).stamps i ≡ (r.now o).stamps i) → ((s : Sid) (which : SetKind) → watched w s which ≡ VALID → sealed s which ≡ 0)
      → IsSighted P (w epoch + 1) (values w) r.cell r.shape r.role now (watched w) r.log r.sights.floor sealed r.sights.firer id u.number u.sight u.sets u.quarantine u.time.clear u.lock → Sights P (w epoch + 1) (values w) r.cell r.shape r.role now (watched w) r.log (set views id u)
  sights_raised u now sealed go relied firing stamps unsealed own = record {
    floor = r.sights.floor;
    sealed = sealed;
    firer = r.sights.firer;
    each = live_set (ViewIsSighted P (w epoch) (values w) r.cell r.shape r.role r.now (watched w) r.log r.sights.floor r.sights.sealed r.sights.firer) (ViewIsSighted P (w epoch + 1) (values w) r.cell r.shape r.role now (watched w) r.log r.sights.floor sealed r.sights.firer) views id u r.sights.each
        (λ j y n e ly h. sighted_raise (go j y n e ly) relied refl (λ f g. firing j y n f (h.firing f g)) (λ o i mine. stamps j y n e ly o i mine ∙ h.stamped o i mine) (λ g f. (g, f, refl, refl)) h) own;
    floors = λ q. (let a = r.sights.floors q in omega arith);
    few = (let space = has_space in omega arith);
    states = r.sights.states;
    unsealed = unsealed;
  }

  -- A raise that is not owed: a pass may make few of them.
  pub raises_free : (counts : Counts) → v.time.unowed < MOST_UNOWED → Rule P (put w epoch (w epoch + 1)) (set views id (record v { time = raised_time v.time (w epoch + 1) v.time.owed (v.time.unowed + 1); counts = counts }))
  raises_free counts room =
      let u : View = record v { time = raised_time v.time (w epoch + 1) v.time.owed (v.time.unowed + 1); counts = counts } in
      let h = r.sights.each id v at l in
      raises_at id v u r at l l (numbers_of v u refl refl refl refl refl refl) refl refl refl (alike_same refl) (raised_free views id v u at l (numbers (numbers_of v u refl refl refl refl refl refl)) r.histories r.raised refl refl room) r.now r.contents (same_locks views id v u at l l refl (λ j y e ly g f n k lt. refl) r.locks)
      (sights_raised u r.now r.sights.sealed (λ j y n e ly k p f lt t. t) (λ s which n lt t. t) (λ j y n f t. t) (λ j y n e ly o i mine. refl) r.sights.unsealed
      (sighted_raise (λ k p f lt t. t) (λ s which n lt t. t) refl h.firing h.stamped (λ g f. (g, f, refl, refl)) h))
      (timed_raised v.time.owed (v.time.unowed + 1) (r.timing.timed id v at l))

  -- The raise for a firing: each licence that relies on the set is below the new epoch.
  pub raises_firing : (s : Sid) (which : SetKind) (owed : ℕ) (counts : Counts) → v.sets.firing ≡ Some (firing_of s which 0) → v.time.owed ≡ owed + 1 → Rule P (put w epoch (w epoch + 1)) (set views id (record v { time = raised_time v.time (w epoch + 1) owed v.time.unowed; sets = record v.sets { firing = Some (firing_of s which (w epoch + 1)) }; counts = counts }))
  raises_firing s which owed counts due owes =
      let u : View = record v { time = raised_time v.time (w epoch + 1) owed v.time.unowed; sets = record v.sets { firing = Some (firing_of s which (w epoch + 1)) }; counts = counts } in
      let h = r.sights.each id v at l in
      let fi = h.firing (firing_of s which 0) due in
      let sealed = set_watched r.sights.sealed s which (w epoch + 1) in
      let relied : (t : Sid) (kind : SetKind) (n : ℕ) → n ≤ w epoch → IsRelied (watched w) r.sights.sealed t kind n → IsRelied (watched w) sealed t kind n = λ t kind n lt b. record { unfired = b.unfired; older = each_watched r.sights.sealed s which (w epoch + 1) (λ t kind x. (0 < r.sights.sealed t kind → n < r.sights.sealed t kind) → 0 < x → n < x) (λ a c. omega arith) (λ t kind away a. a) t kind b.older } in
      raises_at id v u r at l l (numbers_of v u refl refl refl refl refl refl) refl refl refl (alike_same refl) (raised_owed views id v u at l (numbers (numbers_of v u refl refl refl refl refl refl)) r.histories r.raised refl (λ f e. let one = same_item (firing_of s which 0) f v.sets.firing due e in (firing_of s which (w epoch + 1), refl, ap (λ (x : Firing). x.structure) one, ap (λ (x : Firing). x.which) one)) owes refl) r.now r.contents (same_locks views id v u at l l refl (λ j y e ly g f n k lt. refl) r.locks)
      (sights_raised u r.now sealed (λ j y n e ly k p f lt t. t) relied
      (λ j y n f t. record { state = t.state; since = set_else r.sights.sealed s which (w epoch + 1) f.structure f.which (λ a b. n (sym t.mine ∙ ((λ i. r.sights.firer (a i) (b i)) ∙ fi.mine))) ∙ t.since; mine = t.mine })
      (λ j y n e ly o i mine. refl)
      (each_watched r.sights.sealed s which (w epoch + 1) (λ t kind x. watched w t kind ≡ VALID → x ≡ 0) (λ z. absurd (let one = fi.state in omega (arith, z))) (λ t kind away. r.sights.unsealed t kind))
      (sighted_raise (λ k p f lt t. t) relied refl
      (λ f g. (let both : Some (firing_of s which (w epoch + 1)) ≡ Some f = g in let one : firing_of s which (w epoch + 1) ≡ f = cc in subst (IsFiring (watched w) sealed r.sights.firer id) one record { state = fi.state; since = set_here r.sights.sealed s which (w epoch + 1); mine = fi.mine }))
      h.stamped (λ g f. (g, f, refl, refl)) h))
      (timed_raised owed v.time.unowed (r.timing.timed id v at l))

  -- The raise that stamps an own offset which was given back and has no stamp yet.
  pub raises_stamp : (o : ObjId) (j owed : ℕ) (counts : Counts) → o.pass ≡ v.number → stamp_in v.quarantine o j ≡ UNSTAMPED → v.time.owed ≡ owed + 1
      → Rule P (put w epoch (w epoch + 1)) (set views id (record v { time = raised_time v.time (w epoch + 1) owed v.time.unowed; quarantine = record { object = o; offset = j; stamp = w epoch + 1 } ∷ v.quarantine; counts = counts }))
  raises_stamp o j owed counts own given owes =
      let e = w epoch + 1 in
      let u : View = record v { time = raised_time v.time e owed v.time.unowed; quarantine = record { object = o; offset = j; stamp = e } ∷ v.quarantine; counts = counts } in
      let h = r.sights.each id v at l in
      let was : (r.now o).stamps j ≡ stamp_in v.quarantine o j = h.stamped o j own in
      let now_o : Now = record (r.now o) { stamps = set_number (r.now o).stamps j e } in
      let now = set_object r.now o now_o in
      let back : (i : ℕ) → 0 < now_o.stamps i → 0 < (r.now o).stamps i = λ i lt. ⊎_elim
      (λ (f : i ≡ j). subst (λ (x : ℕ). 0 < (r.now o).stamps x) (sym f) (omega arith)) (λ (n : i ≢ j). subst (λ (x : ℕ). 0 < x) (number_else (r.now o).stamps j i e n) lt) (cases_eq i j) in
      let same : (q : ObjId) → ((now q).settled ≡ (r.now q).settled) × ((now q).sealed ≡ (r.now q).sealed) × ((now q).segmented ≡ (r.now q).segmented) × ((now q).room ≡ (r.now q).room) = each_object r.now o now_o (λ q x. (x.settled ≡ (r.now q).settled) × (x.sealed ≡ (r.now q).sealed) × (x.segmented ≡ (r.now q).segmented) × (x.room ≡ (r.now q).room)) (refl, refl, refl, refl) (λ q n. (refl, refl, refl, refl)) in
      let later : (q : ObjId) (i n : ℕ) → n ≤ w epoch → n < (r.now q).stamps i → n < (now q).stamps i = λ q i n lt. each_object r.now o now_o (λ q x. n < (r.now q).stamps i → n < x.stamps i)
      (λ a. ⊎_elim (λ (f : i ≡ j). subst (λ (x : ℕ). n < x) (sym (ap now_o.stamps f ∙ number_here (r.now o).stamps j e)) (omega arith)) (λ (d : i ≢ j). subst (λ (x : ℕ). n < x) (sym (number_else (r.now o).stamps j i e d)) a) (cases_eq i j)) (λ q d a. a) q in
      let go : (number : ℕ) (p : Pin) → p.epoch ≤ w epoch → IsFollowed r.role r.shape (r.cell p.object) (r.now p.object) number p → IsFollowed r.role r.shape (r.cell p.object) (now p.object) number p = λ number p lt t.
      let s = same p.object in
      let f = t.follows in record {
        current = t.current;
        is = t.is;
        follows = record {
          loose = s.0 ∙ f.loose;
          below = λ z. subst (λ (x : ℕ). p.epoch < x) (sym s.1) (f.below (subst (λ (x : ℕ). 0 < x) s.1 z));
          bit = f.bit;
          segments = f.segments;
          names = λ name i a. ⊎_elim (λ (b : offset_of (r.shape t.current.sid) name ≡ Some i). inl b) (λ (b : p.epoch < (r.now p.object).stamps i). inr (later p.object i p.epoch lt b)) (f.names name i a);
          tight = f.tight;
          current = λ z y a b. subst (λ (x : Bool). Rattle.jo_rule.specs.Roles.frame r.role x p.object t.current.address y ≡ Some a) (sym s.2) (f.current z y a b);
        };
      } in
      let contents = ⊎_elim
      (λ (f : r.cell o ≡ None). absurd (let un = unborn_state r.contents o f in let z : (r.now o).stamps j ≡ 0 = ap (λ (x : Now). x.stamps j) un in omega (arith, z, was)))
      (λ (f : (c : Cell) × (r.cell o ≡ Some c)). now_contents r.contents o f.0 now_o f.1 (standing_now refl refl refl refl back (standing r.contents o f.0 f.1))) (option_cases (r.cell o)) in
      raises_at id v u r at l l (numbers_of v u refl refl refl refl refl refl) refl refl refl (alike_same refl) (raised_owed views id v u at l (numbers (numbers_of v u refl refl refl refl refl refl)) r.histories r.raised refl (stays_firing refl) owes refl) now contents
      (now_locks views id v u at l l r.locks (λ j y n e ly g f. let s = same g.object in (s.0, s.1, s.3, s.2))
      (λ g f. let t = r.locks.held id v at l g f in let s = same g.object in record { cell = t.cell; bit = t.bit; found = subst (KeepsKind g.cell.kind g.found g.opened) (sym s.2) t.found; holder_is = t.holder_is; settled = s.0 ∙ t.settled; sealed = s.1 ∙ t.sealed; room = s.3 ∙ t.room; content = t.content; size = t.size; block = t.block }) (λ g f. (g, f, refl)))
      (sights_raised u now r.sights.sealed (λ j y n e ly k p f lt t. go y.number p lt t) (λ s which n lt t. t) (λ j y n f t. t)
      (λ i y n f ly q k mine. each_object r.now o now_o (λ q x. q.pass ≡ y.number → x.stamps k ≡ (r.now q).stamps k) (λ a. absurd (apart r id i v y n at l f ly (sym own ∙ a))) (λ q d a. refl) q mine) r.sights.unsealed
      (sighted_raise (λ k p f lt t. go v.number p lt t) (λ s which n lt t. t) refl h.firing (stamped_more id v r at l o j e now_o refl) (λ g f. (g, f, refl, refl)) h))
      (timed_raised owed v.time.unowed (r.timing.timed id v at l))

  -- The raise for an object that is opening: each pin on it is below the new epoch.
  pub raises_opening : (g : Lock) (owed : ℕ) (counts : Counts) → v.lock ≡ Some g → g.cell.kind ≡ Opening → g.since ≡ 0 → v.time.owed ≡ owed + 1
      → Rule P (put w epoch (w epoch + 1)) (set views id (record v { time = raised_time v.time (w epoch + 1) owed v.time.unowed; lock = Some (record g { since = w epoch + 1 }); counts = counts }))
  raises_opening g owed counts held kind fresh owes =
      let e = w epoch + 1 in
      let g' : Lock = record g { since = e } in
      let o = g.object in
      let u : View = record v { time = raised_time v.time e owed v.time.unowed; lock = Some g'; counts = counts } in
      let h = r.sights.each id v at l in
      let lk = r.locks.held id v at l g held in
      let now_o : Now = record (r.now o) { sealed = e } in
      let now = set_object r.now o now_o in
      let others : (q : ObjId) → q ≢ o → now q ≡ r.now q = λ q n. object_else r.now o q now_o n in
      let stamps : (q : ObjId) (i : ℕ) → (now q).stamps i ≡ (r.now q).stamps i = λ q i. each_object r.now o now_o (λ q x. x.stamps i ≡ (r.now q).stamps i) refl (λ q n. refl) q in
      let same : (q : ObjId) → ((now q).settled ≡ (r.now q).settled) × ((now q).segmented ≡ (r.now q).segmented) = each_object r.now o now_o (λ q x. (x.settled ≡ (r.now q).settled) × (x.segmented ≡ (r.now q).segmented)) (refl, refl) (λ q n. (refl, refl)) in
      let go : (number : ℕ) (p : Pin) → p.epoch ≤ w epoch → IsFollowed r.role r.shape (r.cell p.object) (r.now p.object) number p → IsFollowed r.role r.shape (r.cell p.object) (now p.object) number p = λ number p lt t.
      let s = same p.object in
      let f = t.follows in record {
        current = t.current;
        is = t.is;
        follows = record {
          loose = s.0 ∙ f.loose;
          below = each_object r.now o now_o (λ q x. (0 < (r.now q).sealed → p.epoch < (r.now q).sealed) → 0 < x.sealed → p.epoch < x.sealed) (λ a b. omega arith) (λ q n a. a) p.object f.below;
          bit = f.bit;
          segments = f.segments;
          names = λ name i a. ⊎_elim (λ (b : offset_of (r.shape t.current.sid) name ≡ Some i). inl b) (λ (b : p.epoch < (r.now p.object).stamps i). inr (subst (λ (x : ℕ). p.epoch < x) (sym (stamps p.object i)) b)) (f.names name i a);
          tight = f.tight;
          current = λ z y a b. subst (λ (x : Bool). Rattle.jo_rule.specs.Roles.frame r.role x p.object t.current.address y ≡ Some a) (sym s.1) (f.current z y a b);
        };
      } in
      raises_at id v u r at l l (numbers_of v u refl refl refl refl refl refl) refl refl refl (
        (λ q cause f e. let one = same_item g q v.lock held f in (g', refl, ap (λ (x : Lock). x.object) one, ap (λ (x : Lock). x.opened) one ∙ e, ap (λ (x : Lock). x.cell.kind) one)),
        (λ q cause f e. (let both : Some g' ≡ Some q = f in let one : g' ≡ q = cc in (g, held, ap (λ (x : Lock). x.object) one, ap (λ (x : Lock). x.opened) one ∙ e, ap (λ (x : Lock). x.cell.kind) one))),
      ) (raised_owed views id v u at l (numbers (numbers_of v u refl refl refl refl refl refl)) r.histories r.raised refl (stays_firing refl) owes refl) now (now_contents r.contents o g.cell now_o lk.cell (standing_opening kind refl (λ j. refl) (standing r.contents o g.cell lk.cell)))
      (now_locks views id v u at l l r.locks (λ j y n f ly q k. let far = one_holder views id v u at l l r.locks j y n f ly g q held k in let s = others q.object far in (ap (λ (x : Now). x.settled) s, ap (λ (x : Now). x.sealed) s, ap (λ (x : Now). x.room) s, ap (λ (x : Now). x.segmented) s))
      (λ q f. subst (IsHeld (stored w) r.cell now (after P r.log) r.locks.holder id) (let both : Some g' ≡ Some q = f in let one : g' ≡ q = cc in one)
      (let here : now o ≡ now_o = object_here r.now o now_o in record { cell = lk.cell; bit = lk.bit; found = subst (KeepsKind g.cell.kind g.found g.opened) (sym (ap (λ (x : Now). x.segmented) here)) lk.found; holder_is = lk.holder_is; settled = ap (λ (x : Now). x.settled) here ∙ lk.settled; sealed = ap (λ (x : Now). x.sealed) here; room = ap (λ (x : Now). x.room) here ∙ lk.room; content = lk.content; size = lk.size; block = lk.block }))
      (λ q f. (g', refl, ap (λ (x : Lock). x.object) (same_item g q v.lock held f))))
      (sights_raised u now r.sights.sealed (λ j y n f ly k p m lt t. go y.number p lt t) (λ s which n lt t. t) (λ j y n f t. t) (λ j y n f ly q i mine. stamps q i) r.sights.unsealed
      (sighted_raise (λ k p f lt t. go v.number p lt t) (λ s which n lt t. t) refl h.firing (λ q i mine. stamps q i ∙ h.stamped q i mine) (λ q f. let one = same_item g q v.lock held f in (g', refl, ap (λ (x : Lock). x.object) one, ap (λ (x : Lock). x.cell) one)) h))
      (timed_raised owed v.time.unowed (r.timing.timed id v at l))
