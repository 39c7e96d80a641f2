-- A pass is made, and a pass is joined: the rule is kept.
use Rattle.std.proofs.Common.{◌≡◌, ◌≢◌, ◌+◌, ◌<◌, ℕ, true, false, List, [], ◌∷◌, ◌++◌, refl, sym, ap, ◌∙◌, arith, length, set, length-set, Some, None}
use mathlib.Core.Option.{some}
use lib.ListN.{get_elem?}
use Rattle.jo_model.specs.Logs.{after}
use Rattle.jo_model.specs.Heaps.{objects_of}
use Rattle.jo_rule.specs.Names.{epoch}
use Rattle.jo_rule.specs.Areas.{Words, acknowledgements, nodes, siblings, stored, set_number}
use Rattle.jo_rule.specs.Spots.{values}
use Rattle.jo_rule.specs.Contents.{Now}
use Rattle.jo_rule.specs.Sights.{watched, ViewIsSighted}
use Rattle.jo_rule.proofs.Contents.{unborn_state, unborn_cell}
use Rattle.jo_rule.proofs.Sights.{sighted_nothing}
use Rattle.jo_rule.specs.Timing.{ViewIsTimed}
use Rattle.jo_rule.specs.Allowed.{SaysSo}
use Rattle.jo_rule.specs.Lasting.{KnowsLasting}
use Rattle.jo_rule.proofs.Timing.{timed_new}
use Rattle.std.proofs.lemmas.Bool.{le-ltb}
use Rattle.jo_rule.specs.Views.{View}
use Rattle.jo_rule.specs.Histories.{home_at}
use Rattle.jo_rule.specs.Owned.{StorageIsOwn, ObjectsAreOwn, StructuresAreOwn}
use Rattle.jo_rule.specs.Locks.{HoldsItsLock}
use Rattle.jo_rule.specs.Rule.{Rule}
use Rattle.jo_rule.specs.Steps.{MayBeJoined, split_left, split_right, joined, spent_view}
use Rattle.jo_rule.proofs.Concluded.{concluded_split, concluded_joined}
use Rattle.jo_rule.proofs.Raised.{raised_split, raised_joined}
use Rattle.jo_rule.proofs.Lists.{at_longer, set_else, one_there, live_same, live_more, live_joined, no_item}
use Rattle.jo_rule.proofs.Locks.{holds_set}
use Rattle.jo_rule.proofs.Passes.{split_placements, split_histories, join_placements, join_histories, home_joined}

module _ {P : ℕ} {w : Words} {views : List View} (id : ℕ) (v : View) (r : Rule P w views) (at : get_elem? views id ≡ some v) (l : v.live ≡ true) where
  -- the first pass makes the next one
  pub splits : v.number ≡ 0 → v.made < P → Rule P w (set views id (split_left v) ++ split_right v ∷ [])
  splits first room =
      let a = split_left v in
      let b = split_right v in
      let n = length views in
      let long : length (set views id a) ≡ n = length-set views id a in
      let is : v.made ≡ r.made = r.histories.counted id v at l first in
      let heap = after P r.log in
      let S = StorageIsOwn (stored w) r.role in
      let O = ObjectsAreOwn heap in
      let T = StructuresAreOwn (nodes w) (siblings w) in
      let G = HoldsItsLock (stored w) r.cell r.now heap r.locks.holder in
      let V = ViewIsSighted P (w epoch) (values w) r.cell r.shape r.role r.now (watched w) r.log r.sights.floor r.sights.sealed r.sights.firer in
      let K = KnowsLasting r.node (siblings w) r.role in
      let W = ViewIsTimed (w epoch) (acknowledgements w) in
      let A = SaysSo r.allowed.flat in
      let m = r.unmade in record {
        log = r.log;
        made = r.made + 1;
        home = set_number r.home r.made (home_at n 0);
        node = r.node;
        shape = r.shape;
        cell = r.cell;
        role = r.role;
        now = r.now;
        so = r.so;
        placements = split_placements views id v at l r.placements;
        histories = split_histories views id v at l first room r.histories;
        coded = r.coded;
        shaped = r.shaped;
        contents = r.contents;
        owned = record {
          storage = live_more S (set views id a) b n long (live_same S views id a r.owned.storage (r.owned.storage id v at l))
              (λ _. record { named = omega arith; used = omega arith; nameless = λ k le lt. m.nameless v.made k (omega arith) room lt; known = λ k le lt. m.storage v.made k (omega arith) room lt; zeros = λ k le. refl });
          objects = live_more O (set views id a) b n long (live_same O views id a r.owned.objects (r.owned.objects id v at l)) (λ _. sym (m.objects v.made (omega arith)));
        };
        structures = record {
          roots = r.structures.roots;
          own = live_more T (set views id a) b n long (live_same T views id a r.structures.own (r.structures.own id v at l))
              (λ _. record { root = omega arith; few = omega arith; unborn = λ k le lt. m.structures v.made k (omega arith) room (omega arith) lt; links = λ k le lt. r.structures.unlinked v.made k (omega arith) room (omega arith) lt; later = λ k le lt. refl });
          unlinked = λ t k le lt lo hi. r.structures.unlinked t k (omega arith) lt lo hi;
        };
        locks = record {
          holder = r.locks.holder;
          held = live_more G (set views id a) b n long (live_same G views id a r.locks.held (r.locks.held id v at l)) (λ _ g e. absurd (no_item g b.lock refl e));
          locked = λ o c e bit.
              let h = holds_set views id v a o (r.locks.holder o) at l (λ g f k. (g, f, k)) (r.locks.locked o c e bit) in
              record { view = h.view; lock = h.lock; there = at_longer (set views id a) (b ∷ []) (r.locks.holder o) h.view h.there; live = h.live; held = h.held; object = h.object };
        };
        unborn = r.unborn;
        unmade = record {
          out = λ t le lt. m.out t (omega arith) lt;
          structures = λ t k le lt lo hi. m.structures t k (omega arith) lt lo hi;
          nameless = λ t k le lt lk. m.nameless t k (omega arith) lt lk;
          storage = λ t k le lt lk. m.storage t k (omega arith) lt lk;
          objects = λ t le. m.objects t (omega arith);
        };
        sights = record {
          floor = r.sights.floor;
          sealed = r.sights.sealed;
          firer = r.sights.firer;
          each = live_more V (set views id a) b n long (live_same V views id a r.sights.each (r.sights.each id v at l))
              (λ _. sighted_nothing P (w epoch) (values w) r.cell r.shape r.role r.now (watched w) r.log r.sights.floor r.sights.sealed r.sights.firer n v.made
              (λ o j e. ap (λ (z : Now). z.stamps j) (unborn_state r.contents o (unborn_cell (r.cell o) (r.contents.born o ∙ le-ltb o.serial (length (objects_of heap o.pass)) (let none_ = m.objects o.pass (omega arith) in omega arith))))));
          floors = r.sights.floors;
          few = r.sights.few;
          states = r.sights.states;
          unsealed = r.sights.unsealed;
        };
        born_so = r.born_so;
        marked = r.marked;
        allowed = record { flat = r.allowed.flat; agreed = live_more A (set views id a) b n long (live_same A views id a r.allowed.agreed (r.allowed.agreed id v at l)) (λ _. r.allowed.agreed id v at l); dictionaries = r.allowed.dictionaries };
        timing = record { timed = live_more W (set views id a) b n long (live_same W views id a r.timing.timed (r.timing.timed id v at l)) (λ _. timed_new (w epoch) (acknowledgements w) v.made b.time refl refl refl refl (m.out v.made (omega arith) room)) };
        lasting = record { known = live_more K (set views id a) b n long (live_same K views id a r.lasting.known (r.lasting.known id v at l)) (λ _ name word e. (let no : None ≡ Some word = e in absurd cc)) };
        counted = r.counted;
        concluded = concluded_split views id v at l r.histories is r.concluded;
        raised = raised_split r.raised id v at l is;
      }

  -- a pass joins into itself another that is out, holds no lock, and owes nothing
  pub joins : (other : ℕ) (u : View) → get_elem? views other ≡ some u → id ≢ other → u.live ≡ true → MayBeJoined u → Rule P w (set (set views id (joined v u)) other spent_view)
  joins other u at' ne lu may =
      let none_held = may.no_lock in
      let both = joined v u in
      let heap = after P r.log in
      let S = StorageIsOwn (stored w) r.role in
      let O = ObjectsAreOwn heap in
      let T = StructuresAreOwn (nodes w) (siblings w) in
      let V = ViewIsSighted P (w epoch) (values w) r.cell r.shape r.role r.now (watched w) r.log r.sights.floor r.sights.sealed r.sights.firer in
      let K = KnowsLasting r.node (siblings w) r.role in
      let W = ViewIsTimed (w epoch) (acknowledgements w) in
      let A = SaysSo r.allowed.flat in
      let G = HoldsItsLock (stored w) r.cell r.now heap r.locks.holder in record {
        log = r.log;
        made = r.made;
        home = home_joined r.home id other (length v.kept);
        node = r.node;
        shape = r.shape;
        cell = r.cell;
        role = r.role;
        now = r.now;
        so = r.so;
        placements = join_placements views id other v u at at' ne l lu r.histories r.placements;
        histories = join_histories views id other v u at at' ne l lu r.histories r.placements;
        coded = r.coded;
        shaped = r.shaped;
        contents = r.contents;
        owned = record {
          storage = live_joined S S views id other both spent_view refl r.owned.storage (λ j y n m e ly h. h) (r.owned.storage id v at l);
          objects = live_joined O O views id other both spent_view refl r.owned.objects (λ j y n m e ly h. h) (r.owned.objects id v at l);
        };
        structures = record { roots = r.structures.roots; unlinked = r.structures.unlinked; own = live_joined T T views id other both spent_view refl r.structures.own (λ j y n m e ly h. h) (r.structures.own id v at l) };
        locks = record {
          holder = r.locks.holder;
          held = live_joined G G views id other both spent_view refl r.locks.held (λ j y n m e ly h. h) (r.locks.held id v at l);
          locked = λ o c e bit.
              let x = r.locks.locked o c e bit in
              let far : r.locks.holder o ≢ other = λ f. (let was : x.view ≡ u = one_there views other x.view u (ap (get_elem? views) (sym f) ∙ x.there) at' in no_item x.lock u.lock none_held (ap (λ (y : View). y.lock) (sym was) ∙ x.held)) in
              let h = holds_set views id v both o (r.locks.holder o) at l (λ g f k. (g, f, k)) x in
              record { view = h.view; lock = h.lock; there = set_else (set views id both) other (r.locks.holder o) spent_view far ∙ h.there; live = h.live; held = h.held; object = h.object };
        };
        unborn = r.unborn;
        unmade = r.unmade;
        sights = record {
          floor = r.sights.floor;
          sealed = r.sights.sealed;
          firer = r.sights.firer;
          each = live_joined V V views id other both spent_view refl r.sights.each (λ j y n m e ly h. h) (r.sights.each id v at l);
          floors = r.sights.floors;
          few = r.sights.few;
          states = r.sights.states;
          unsealed = r.sights.unsealed;
        };
        born_so = r.born_so;
        marked = r.marked;
        allowed = record { flat = r.allowed.flat; agreed = live_joined A A views id other both spent_view refl r.allowed.agreed (λ j y n m e ly h. h) (r.allowed.agreed id v at l); dictionaries = r.allowed.dictionaries };
        timing = record { timed = live_joined W W views id other both spent_view refl r.timing.timed (λ j y n m e ly h. h) (r.timing.timed id v at l) };
        lasting = record { known = live_joined K K views id other both spent_view refl r.lasting.known (λ j y n m e ly h. h) (r.lasting.known id v at l) };
        counted = r.counted;
        concluded = concluded_joined views id other v u at at' l lu r.concluded;
        raised = raised_joined r.raised id other v u at at' l lu ne may.no_raise may.no_firing;
      }

  -- where objects may not be born flat, each pass that holds no lock may be joined
  pub may_be_joined : v.flat ≡ false → v.lock ≡ None → MayBeJoined v
  may_be_joined flat none_held = let q = r.raised.quiet id v at l flat in record { out = q.0; no_lock = none_held; no_raise = q.1; no_firing = q.2 }
