-- Births: of a flat object, which has no block, and of a structure, with its links.
use Rattle.std.proofs.Common.{◌≡◌, ◌≢◌, ◌⊎◌, ◌+◌, ◌*◌, ◌<◌, ◌≤◌, ℕ, true, false, List, [], ◌∷◌, length, set, refl, sym, ap, ◌∙◌, subst, inl, inr, ⊎_elim, arith, Some, None}
use mathlib.Core.Option.{some}
use lib.ListN.{get_elem?}
use Rattle.std.specs.Prelude.{nat_lt}
use Rattle.std.proofs.lemmas.Bool.{both_ways, cases_eq, le-ltb, lt-ltb, eq-eqb, ne_eqb}
use Rattle.jo_value.specs.declared.capacities.TheConstants.{MOST_PASSES, MOST_STRUCTURES}
use Rattle.jo_value.specs.declared.limits.TheConstants.{MOST_OBJECTS}
use Rattle.jo_value.specs.declared.value.Key.{Key}
use Rattle.jo_value.specs.declared.value.Key.TheVariants.{Name, Index}
use Rattle.jo_value.specs.declared.value.ObjId.{ObjId}
use Rattle.jo_value.specs.declared.value.Sid.{Sid}
use Rattle.jo_value.specs.declared.words.cell.Cell.{Cell}
use Rattle.jo_value.specs.declared.words.cell.Kind.TheVariants.{Flat}
use Rattle.jo_value.specs.declared.words.node.Node.{Node}
use Rattle.jo_value.specs.Words.{cell_bits, node_bits, slot_bits}
use Rattle.jo_value.proofs.Distinct.{no_node_is_zero}
use Rattle.jo_model.specs.declared.call.Call.TheVariants as call
use Rattle.jo_model.specs.declared.call.Reply.TheVariants as reply
use Rattle.jo_model.specs.Objects.{empty_object, property}
use Rattle.jo_model.specs.Heaps.{Heap, objects_of, object_of, with_new_object, IsBorn}
use Rattle.jo_model.specs.One.{one}
use Rattle.jo_model.specs.Logs.{after}
use Rattle.jo_rule.specs.declared.counts.Counts.{Counts}
use Rattle.jo_rule.specs.declared.event.Event.TheVariants.{Place}
use Rattle.jo_rule.specs.Names.{cell, node, sibling, first_child}
use Rattle.jo_rule.specs.Areas.{Words, put, nodes, first_children, siblings, set_object, set_structure}
use Rattle.jo_rule.specs.Roots.{root_of, root_node}
use Rattle.jo_rule.specs.Shapes.{Shape, root_shape, shape_after, IsChildOf, LinksTo, IsLink}
use Rattle.jo_rule.specs.Spots.{Spot, element, Location, values, spot_of}
use Rattle.jo_rule.specs.Roles.{Role, frame, IsBlockOf}
use Rattle.jo_rule.specs.Dictionaries.{slot_in}
use Rattle.jo_rule.specs.Contents.{Now, unborn_now, word_of_cell, is_born, HasKeys, HasWords}
use Rattle.jo_rule.specs.Events.{recorded, MayPlace}
use Rattle.jo_rule.specs.Owned.{structure_of, link_in, StructuresAreOwn}
use Rattle.jo_rule.specs.Rule.{Rule}
use Rattle.jo_rule.specs.Steps.{with_birth}
use Rattle.jo_rule.specs.Views.{View, KnownWord, Lock}
use Rattle.jo_rule.proofs.Concluded.{alike_same, at_least_same, unopened_none, follows_unopened, concluded_same, concluded_event, concluded_node}
use Rattle.jo_rule.proofs.Raised.{raised_same, raised_cell, raised_shapes}
use Rattle.jo_rule.proofs.Lists.{no_item, live_set}
use Rattle.jo_rule.proofs.Heaps.{passes-after, new-lengths, new-objects}
use Rattle.jo_rule.proofs.Events.{after_new, event_valid, event_refuses, no_words, new_reply}
use Rattle.jo_rule.proofs.Histories.{SameItems, SameNumbers, same_placements, same_histories, numbers}
use Rattle.jo_rule.proofs.Locks.{moves_locks, same_locks}
use Rattle.jo_rule.proofs.Layouts.{no_block, no_block_element}
use Rattle.jo_rule.proofs.Shaped.{cases_structure, structure_here, structure_else, unborn_of_word, shape_kept, bears_structure, stores_sibling, links_child}
use Rattle.jo_rule.proofs.Contents.{unborn_cell, unborn_state, standing, shapes_contents}
use Rattle.jo_rule.proofs.Owned.{same_owned, same_structures}
use Rattle.jo_rule.proofs.Marked.{born_so_birth, born_so_event, marked_shapes}
use Rattle.jo_rule.proofs.Timing.{timing_set, timed_dropped}
use Rattle.jo_rule.proofs.Allowed.{allowed_same}
use Rattle.jo_rule.proofs.Lasting.{lasting_same, lasting_moved, lasting_more, lasting_on}
use Rattle.jo_rule.proofs.Counted.{new_counts, counted_shapes}
use Rattle.jo_rule.proofs.Sights.{sighted_dropped, sighted_shapes, sights_set, stamps_kept}
use Rattle.jo_rule.proofs.Sets.{object_here, object_else, cases_object}
use Rattle.jo_rule.proofs.Moves.{moves, pins_absent, no_pins_unborn}
use Rattle.jo_rule.proofs.Stores.{numbers_of}
use Rattle.jo_rule.proofs.Bears.{next_object, below_more, unborn_object}
use Rattle.jo_rule.specs.Sights.{told}
use Rattle.jo_rule.proofs.Looks.{apart, told_cases}

-- the cell of a new object: it has the root of its pass, and no block
abbrev pub flat_cell : ℕ → Cell
flat_cell pass = record { sid = root_of pass; address = 0; owner = pass; shared_write = false; locked = false; kind = Flat }

-- an object without properties, and without a block, has its keys at places
empty_keys : (v : Location → ℕ) (role : ℕ → Role) (z : Shape) (t : ℕ) (o : ObjId) → role 0 ≡ Rattle.jo_rule.specs.Roles.fixed 0 → z ≡ root_shape t → HasKeys v role false z o 0 empty_object
empty_keys v role z t o origin is = subst (λ (x : Shape). HasKeys v role false x o 0 empty_object) (sym is) record {
  names = refl;
  inside = λ name j e. (let no : None ≡ Some j = e in absurd cc);
  values = λ key y p e f. no_key key y p e f;
  beyond = λ i f. refl;
}
  where
    no_key : (key : Key) (y : Spot) (p : Location) → spot_of (root_shape t) key ≡ Some y → frame role false o 0 y ≡ Some p → v p ≡ slot_bits (slot_in (property empty_object key))
    no_key (Name name) y p e f = (let no : None ≡ Some y = e in absurd cc)
    no_key (Index i) y p e f = (let is : Some (element i) ≡ Some y = e in let same : element i ≡ y = cc in let bad : None ≡ Some p = sym (no_block_element role false o origin i) ∙ (ap (frame role false o 0) same ∙ f) in absurd cc)

-- the view after the birth of its next structure
abbrev pub born_node : View → Node → Counts → View
born_node v n counts = record v {
  births = record v.births { nodes = v.births.nodes + 1; unlinked = [] };
  lasting = record { at = node (structure_of v.number v.births.nodes); word = node_bits n } ∷ record { at = sibling (structure_of v.number v.births.nodes); word = link_in v.births.unlinked (structure_of v.number v.births.nodes) } ∷ v.lasting;
  counts = counts;
}

-- what a list says of a link, where the link of one structure was added to it
pub link_here : (known : List KnownWord) (s : Sid) (x : ℕ) → link_in (record { at = sibling s; word = x } ∷ known) s ≡ x
link_here known s x = rw (eq-eqb s.0 s.0 refl) refl

pub link_else : (known : List KnownWord) (s t : Sid) (x : ℕ) → t ≢ s → link_in (record { at = sibling s; word = x } ∷ known) t ≡ link_in known t
link_else known s t x d = rw (ne_eqb t.0 s.0 (λ e. d (λ i. record { 0 = e i }))) refl

module _ {P : ℕ} {w : Words} {views : List View} (id : ℕ) (v : View) (r : Rule P w views) (at : get_elem? views id ≡ some v) (l : v.live ≡ true) where
  -- The next object of a pass is born flat, by a store to its cell word, which was 0, where objects may be born so.
  pub bears_flat : (counts : Counts) → P ≤ MOST_PASSES → v.flat ≡ true → v.lock ≡ None → v.births.objects < MOST_OBJECTS
      → (w (cell (next_object v)) ≡ 0) × Rule P (put w (cell (next_object v)) (cell_bits (flat_cell v.number))) (set views id (with_birth P v r.log v.storage counts))
      × IsBorn (after P (recorded P v.number (Place call.New) r.log)) (next_object v) × ((one (after P r.log) v.number call.New).1 ≡ reply.Made (next_object v))
  bears_flat counts most may_flat none_held few =
      let t = v.number in
      let o = next_object v in
      let c' = flat_cell t in
      let u = with_birth P v r.log v.storage counts in
      let same : SameItems v u = numbers_of v u refl refl refl refl refl refl in
      let own = r.owned.storage id v at l in
      let objects : v.births.objects ≡ length (objects_of (after P r.log) t) = r.owned.objects id v at l in
      let lt = (r.histories.seated id v at l).own.1 in
      let made = r.histories.few in
      let passes = passes-after P r.log (omega arith) in
      let heap' = after P (recorded P t (Place call.New) r.log) in
      let is : heap' ≡ with_new_object (after P r.log) t = after_new P t r.log (omega arith) in
      let lengths = new-lengths (after P r.log) t (omega arith) in
      let here_long : length (objects_of heap' t) ≡ length (objects_of (after P r.log) t) + 1 = ap (λ (h : Heap). length (objects_of h t)) is ∙ lengths.0 in
      let else_long : (p : ℕ) → p ≢ t → length (objects_of heap' p) ≡ length (objects_of (after P r.log) p) = λ p n. ap (λ (h : Heap). length (objects_of h p)) is ∙ lengths.1 p n in
      let still : (q : ObjId) → object_of heap' q ≡ object_of (after P r.log) q = λ q. ap (λ (h : Heap). object_of h q) is ∙ new-objects (after P r.log) t q in
      let unborn : r.cell o ≡ None = unborn_cell (r.cell o) (r.contents.born o ∙ le-ltb v.births.objects (length (objects_of (after P r.log) t)) (omega arith)) in
      let empty : object_of (after P r.log) o ≡ empty_object = unborn_object (values w) r.role r.shape o (r.cell o) (r.now o) (object_of (after P r.log) o) unborn (r.contents.stands o) in
      let root = r.shaped.roots t (omega arith) in
      let stamps : (i : ℕ) → 0 ≡ (r.now o).stamps i = λ i. sym (ap (λ (z : Now). z.stamps i) (unborn_state r.contents o unborn)) in
      let may : MayPlace P v (Place call.New) = (record { object = tt; key = tt; values = tt }, tt) in (
        r.coded o ∙ ap word_of_cell unborn,
        moves id v u r at l same (Place call.New) o c' unborn_now r.role (λ f. absurd (both_ways v.flat (r.allowed.agreed id v at l ∙ f) may_flat)) (event_refuses P v (Place call.New) r.log (r.histories.own id v at l) may) refl
            record { grows = λ a n. refl; still = λ a z f. inl f; inside = r.contents.inside; elsewhere = λ t k n lt. refl }
            record {
              others = λ q n. still q;
              lengths = else_long;
              words = subst HasWords (sym (still o ∙ empty)) no_words;
              valid = event_valid P v (Place call.New) r.log (r.histories.seen id v at l) (omega arith) may r.contents.valid;
            }
            record {
              cell = record { sid = omega arith; address = omega arith; owner = omega arith };
              structure = ap (λ (z : Shape). z.born) root.1;
              root = ap (λ (z : Shape). z.root) root.1;
              owner = refl;
              kind = (
                record { settled = refl; segmented_is = refl; sealed = refl },
                record {
                  block = no_block r.role false o r.contents.origin;
                  keys = subst (HasKeys (values w) r.role false (r.shape (root_of t)) o 0) (sym (still o ∙ empty)) (empty_keys (values w) r.role (r.shape (root_of t)) t o r.contents.origin root.1);
                  unused = λ j name lt. absurd (omega arith);
                  under = λ j lt. absurd (omega arith);
                },
              );
            }
            (λ q. ⊎_elim
            (λ (e : q ≡ o). ap is_born (ap (set_object r.cell o (Some c')) e ∙ object_here r.cell o (Some c')) ∙ sym (ap (λ (x : ObjId). nat_lt x.serial (length (objects_of heap' x.pass))) e ∙ lt-ltb v.births.objects (length (objects_of heap' t)) (omega arith)))
            (λ (n : q ≢ o). ap is_born (object_else r.cell o q (Some c') n) ∙ (r.contents.born q ∙ ⊎_elim
            (λ (e : q.pass ≡ t).
            let apart : q.serial ≢ v.births.objects = λ f. n (λ i. record { pass = e i; serial = f i }) in
            let long : length (objects_of heap' q.pass) ≡ length (objects_of (after P r.log) q.pass) + 1 = ap (λ (p : ℕ). length (objects_of heap' p)) e ∙ (here_long ∙ ap (λ (p : ℕ). length (objects_of (after P r.log) p) + 1) (sym e)) in
            let end : v.births.objects ≡ length (objects_of (after P r.log) q.pass) = objects ∙ ap (λ (p : ℕ). length (objects_of (after P r.log) p)) (sym e) in
            below_more q.serial (length (objects_of (after P r.log) q.pass)) (λ f. apart (f ∙ sym end)) ∙ ap (nat_lt q.serial) (sym long))
            (λ (m : q.pass ≢ t). ap (nat_lt q.serial) (sym (else_long q.pass m))) (cases_eq q.pass t))) (cases_object q o))
            own (ap (λ (n : ℕ). n + 1) objects ∙ sym here_long) refl
            (moves_locks views id v u at l l o c' unborn_now r.locks.holder r.locks (λ q n. refl) (λ q n. still q)
            (λ j y n f ly g h e. (let t' = r.locks.held j y f ly g h in let no : None ≡ Some g.cell = sym unborn ∙ (ap r.cell (sym e) ∙ t'.cell) in absurd cc))
            (λ g f. absurd (no_item g v.lock none_held f)) (λ q n g f e. absurd (no_item g v.lock none_held f)) (λ b. (let no : false ≡ true = b in absurd cc)))
            (pins_absent r id o c' unborn_now r.role (no_pins_unborn r o unborn) stamps) (sighted_dropped (r.sights.each id v at l) v.quarantine (stamps_kept (r.sights.each id v at l) o unborn_now stamps))
            (set_object r.so o false) (born_so_event P t (Place call.New) r.log (born_so_birth r.born_so o c' false unborn (λ k. (let no : true ≡ false = k in absurd cc)) (λ k. refl)))
            (λ h. absurd (⊎_elim (λ (f : false ≡ true). (let no : false ≡ true = f in cc)) (λ (f : false ≡ true). (let no : false ≡ true = f in cc)) h))
            record {
              others = λ q n. new_counts P t r.log q;
              depth = λ e. (let n = new_counts P t r.log o in let z = r.counted.unborn o unborn in let a = n.0 in let b = n.1 in let c = z.0 in let d = z.1 in let k : (r.shape (root_of t)).depth ≡ 0 = ap (λ (x : Shape). x.depth) root.1 in omega (arith, a, b, c, d, k));
              top = λ e. (let k : (r.shape (root_of t)).top ≡ 0 = ap (λ (x : Shape). x.top) root.1 in omega (arith, k));
            }
            (concluded_event views id v u at l (numbers same) r.concluded r.histories (Place call.New) (follows_unopened P r.log v.number (Place call.New) (unopened_none none_held)) (unopened_none none_held) refl refl)
            (raised_cell views id v u at l (numbers same) r.histories r.raised refl refl o None c' unborn (omega arith)) (timed_dropped (r.timing.timed id v at l)),
        omega arith,
        new_reply (after P r.log) t (omega arith) ∙ ap (λ (n : ℕ). reply.Made (record { pass = t; serial = n })) (sym objects),
      )

  -- the structure that the pass makes next
  abbrev pub next_structure : Sid
  next_structure = structure_of v.number v.births.nodes

  -- the pass knows the sibling links of the structures that it has not made
  pub knows_link : (k : ℕ) → v.births.nodes ≤ k → k < MOST_STRUCTURES → w (sibling (structure_of v.number k)) ≡ link_in v.births.unlinked (structure_of v.number k)
  knows_link k le lt = (r.structures.own id v at l).links k le lt

  -- The sibling link of the next structure is stored. It is 0 where the pass has stored none.
  pub stores_link : (x : ℕ) (counts : Counts) → v.births.nodes < MOST_STRUCTURES
      → (w (sibling next_structure) ≡ link_in v.births.unlinked next_structure) × Rule P (put w (sibling next_structure) x) (set views id (record v { births = record v.births { unlinked = record { at = sibling next_structure; word = x } ∷ v.births.unlinked }; counts = counts }))
  stores_link x counts room =
      let s = next_structure in
      let unlinked : List KnownWord = record { at = sibling s; word = x } ∷ v.births.unlinked in
      let u : View = record v { births = record v.births { unlinked = unlinked }; counts = counts } in
      let siblings' = siblings (put w (sibling s) x) in
      let links_else : (p k : ℕ) → k < MOST_STRUCTURES → (p ≢ v.number) ⊎ (k ≢ v.births.nodes) → siblings' (structure_of p k) ≡ siblings w (structure_of p k) = λ p k lt d. structure_else (siblings w) s (structure_of p k) x (λ e. (let number : MOST_STRUCTURES * p + k ≡ MOST_STRUCTURES * v.number + v.births.nodes = ap (λ (z : Sid). z.0) e in ⊎_elim (λ (n : p ≢ v.number). n (omega arith)) (λ (n : k ≢ v.births.nodes). n (omega arith)) d)) in
      let same : SameItems v u = numbers_of v u refl refl refl refl refl refl in
      let mine = r.structures.own id v at l in
      let below = (r.histories.seated id v at l).own.1 in
      let none_ = unborn_of_word r.shaped s (mine.unborn v.births.nodes (omega arith) room) in (
        mine.links v.births.nodes (omega arith) room,
        record {
          log = r.log;
          made = r.made;
          home = r.home;
          node = r.node;
          shape = r.shape;
          cell = r.cell;
          role = r.role;
          now = r.now;
          so = r.so;
          placements = same_placements views id v u at l (numbers same) refl r.placements;
          histories = same_histories views id v u at l (numbers same) refl r.histories;
          coded = r.coded;
          shaped = stores_sibling r.shaped s x none_;
          contents = r.contents;
          owned = same_owned views id u v at l refl refl refl r.owned;
          structures = record {
            roots = r.structures.roots;
            unlinked = λ t k le lt lo hi. links_else t k hi (inl (λ e. omega arith)) ∙ r.structures.unlinked t k le lt lo hi;
            own = live_set (StructuresAreOwn (nodes w) (siblings w)) (StructuresAreOwn (nodes w) siblings') views id u r.structures.own
                (λ j y d e ly h. record { root = h.root; few = h.few; unborn = h.unborn; links = λ k le lt. links_else y.number k lt (inl (λ f. apart r id j v y d at l e ly (sym f))) ∙ h.links k le lt; later = h.later })
                (record {
                  root = mine.root;
                  few = mine.few;
                  unborn = mine.unborn;
                  links = λ k le lt. ⊎_elim
                      (λ (e : k ≡ v.births.nodes). (ap (λ (i : ℕ). siblings' (structure_of v.number i)) e ∙ structure_here (siblings w) s x) ∙ sym (ap (λ (i : ℕ). link_in unlinked (structure_of v.number i)) e ∙ link_here v.births.unlinked s x))
                      (λ (d : k ≢ v.births.nodes). links_else v.number k lt (inr d) ∙ (mine.links k le lt ∙ sym (link_else v.births.unlinked s (structure_of v.number k) x (λ e. (let number : MOST_STRUCTURES * v.number + k ≡ MOST_STRUCTURES * v.number + v.births.nodes = ap (λ (z : Sid). z.0) e in d (omega arith)))))) (cases_eq k v.births.nodes);
                  later = λ k le lt. link_else v.births.unlinked s (structure_of v.number k) x (λ e. (let number : MOST_STRUCTURES * v.number + k ≡ MOST_STRUCTURES * v.number + v.births.nodes = ap (λ (z : Sid). z.0) e in omega arith)) ∙ mine.later k le lt;
                });
          };
          locks = same_locks views id v u at l l refl (λ j y e ly g f n k lt. refl) r.locks;
          unborn = r.unborn;
          unmade = r.unmade;
          sights = sights_set views id u r.sights (λ j y n e ly h. h) (r.sights.each id v at l);
          born_so = r.born_so;
          marked = r.marked;
          allowed = allowed_same views id v u at l refl r.allowed;
          timing = timing_set views id u r.timing (r.timing.timed id v at l);
          lasting = lasting_moved (λ t m e. e) (λ t m e. structure_else (siblings w) s t x (λ f. (let no : None ≡ Some m = sym none_ ∙ (ap r.node (sym f) ∙ e) in cc))) (λ a n. refl) views id v u at l refl r.lasting;
          counted = r.counted;
          concluded = concluded_same views id v u at l (numbers same) r.concluded (alike_same refl) refl (at_least_same v.past.calls v.past.calls refl);
          raised = raised_same views id v u at l (numbers same) r.histories r.raised refl refl;
        },
      )

  -- A structure is linked as the first child of its parent, by an exchange of the link that is its sibling: no child is lost.
  pub links_structure : (parent : Sid) (word : ℕ) (counts : Counts) → (r.shape parent).born ≡ true → (link : LinksTo r.node parent word) → w (first_child parent) ≡ w (sibling link.child) → Rule P (put w (first_child parent) word) (set views id (record v { counts = counts }))
  links_structure parent word counts born link tail =
      let u : View = record v { counts = counts } in
      let same : SameItems v u = numbers_of v u refl refl refl refl refl refl in record {
        log = r.log;
        made = r.made;
        home = r.home;
        node = r.node;
        shape = r.shape;
        cell = r.cell;
        role = r.role;
        now = r.now;
        so = r.so;
        placements = same_placements views id v u at l (numbers same) refl r.placements;
        histories = same_histories views id v u at l (numbers same) refl r.histories;
        coded = r.coded;
        shaped = links_child r.shaped parent word link;
        contents = r.contents;
        owned = same_owned views id u v at l refl refl refl r.owned;
        structures = same_structures views id v u at l refl refl r.structures;
        locks = same_locks views id v u at l l refl (λ j y e ly g f n k lt. refl) r.locks;
        unborn = record {
          children = λ s e. structure_else (first_children w) parent s word (λ f. both_ways (r.shape s).born (ap (λ (z : Shape). z.born) (r.shaped.unborn s (unborn_of_word r.shaped s e))) (ap (λ (z : Sid). (r.shape z).born) f ∙ born)) ∙ r.unborn.children s e;
          transitions = r.unborn.transitions;
          writes = r.unborn.writes;
          offsets = r.unborn.offsets;
        };
        unmade = r.unmade;
        sights = sights_set views id u r.sights (λ j y n e ly h. h) (r.sights.each id v at l);
        born_so = r.born_so;
        marked = r.marked;
        allowed = allowed_same views id v u at l refl r.allowed;
        timing = timing_set views id u r.timing (r.timing.timed id v at l);
        lasting = lasting_same views id v u at l refl r.lasting;
        counted = r.counted;
        concluded = concluded_same views id v u at l (numbers same) r.concluded (alike_same refl) refl (at_least_same v.past.calls v.past.calls refl);
        raised = raised_same views id v u at l (numbers same) r.histories r.raised refl refl;
      }

  -- The next structure of a pass is born below one that is born, by a store to its node word, which was 0. Its sibling link, as the pass
  -- knows it, is 0 or names another child of that. Both words never change from then on, and the pass knows them.
  pub bears_node : (n : Node) (counts : Counts) → v.births.nodes < MOST_STRUCTURES → IsChildOf n (r.shape n.parent) → IsLink r.node n.parent (link_in v.births.unlinked next_structure)
      → (w (node next_structure) ≡ 0) × Rule P (put w (node next_structure) (node_bits n)) (set views id (born_node v n counts))
  bears_node n counts room child known_link =
      let s = next_structure in
      let u : View = born_node v n counts in
      let same : SameNumbers v u = record { live = refl; number = refl; made = refl; kept = refl } in
      let mine = r.structures.own id v at l in
      let was : nodes w s ≡ 0 = mine.unborn v.births.nodes (omega arith) room in
      let link_is : siblings w s ≡ link_in v.births.unlinked s = mine.links v.births.nodes (omega arith) room in
      let link : IsLink r.node n.parent (siblings w s) = subst (IsLink r.node n.parent) (sym link_is) known_link in
      let none_ = unborn_of_word r.shaped s was in
      let z = shape_after n (r.shape n.parent) in
      let shape' = set_structure r.shape s z in
      let kept : (t : Sid) → (r.shape t).born ≡ true → shape' t ≡ r.shape t = λ t b. shape_kept r.shaped s z t none_ b in
      let old_nodes : (t : Sid) (m : Node) → r.node t ≡ Some m → set_structure r.node s (Some n) t ≡ Some m = λ t m e. structure_else r.node s t (Some n) (λ f. (let no : None ≡ Some m = sym none_ ∙ (ap r.node (sym f) ∙ e) in cc)) ∙ e in
      let nodes' = nodes (put w (node s) (node_bits n)) in
      let other : (t : Sid) → t ≢ s → nodes' t ≡ nodes w t = λ t d. structure_else (nodes w) s t (node_bits n) d in
      let elsewhere : (p k : ℕ) → p ≢ v.number → k < MOST_STRUCTURES → nodes' (structure_of p k) ≡ nodes w (structure_of p k) = λ p k d lt. other (structure_of p k) (λ e. (let number : MOST_STRUCTURES * p + k ≡ MOST_STRUCTURES * v.number + v.births.nodes = ap (λ (x : Sid). x.0) e in d (omega arith))) in
      let below = (r.histories.seated id v at l).own.1 in
      let still_zero : (t : Sid) → nodes' t ≡ 0 → (t ≢ s) × (nodes w t ≡ 0) = λ t e. ⊎_elim
      (λ (f : t ≡ s). absurd (let lt = no_node_is_zero n in let here : nodes' t ≡ node_bits n = ap nodes' f ∙ structure_here (nodes w) s (node_bits n) in omega (arith, here, e)))
      (λ (d : t ≢ s). (d, sym (other t d) ∙ e)) (cases_structure t s) in
      let born_lock : (j : ℕ) (y : View) → get_elem? views j ≡ some y → y.live ≡ true → (g : Lock) → y.lock ≡ Some g → (r.shape g.cell.sid).born ≡ true = λ j y e ly g f. (standing r.contents g.object g.cell (r.locks.held j y e ly g f).cell).structure in
      let born_cell : (o : ObjId) (c : Cell) → r.cell o ≡ Some c → (r.shape c.sid).born ≡ true = λ o c e. (standing r.contents o c e).structure in (
        was,
        record {
          log = r.log;
          made = r.made;
          home = r.home;
          node = set_structure r.node s (Some n);
          shape = shape';
          cell = r.cell;
          role = r.role;
          now = r.now;
          so = r.so;
          placements = same_placements views id v u at l same refl r.placements;
          histories = same_histories views id v u at l same refl r.histories;
          coded = r.coded;
          shaped = bears_structure r.shaped s n none_ child link;
          contents = shapes_contents r.contents kept;
          owned = same_owned views id u v at l refl refl refl r.owned;
          structures = record {
            roots = λ t lt. other (root_of t) (λ e. (let root = r.structures.roots t lt in let zero_word : nodes w (root_of t) ≡ 0 = ap (nodes w) e ∙ was in let some_word = no_node_is_zero root_node in omega (arith, root, zero_word))) ∙ r.structures.roots t lt;
            unlinked = r.structures.unlinked;
            own = live_set (StructuresAreOwn (nodes w) (siblings w)) (StructuresAreOwn nodes' (siblings w)) views id u r.structures.own
                (λ j y d e ly h. record { root = h.root; few = h.few; unborn = λ k le lt. elsewhere y.number k (λ f. apart r id j v y d at l e ly (sym f)) lt ∙ h.unborn k le lt; links = h.links; later = h.later })
                (record { root = omega arith; few = omega arith; unborn = λ k le lt. other (structure_of v.number k) (λ e. (let number : MOST_STRUCTURES * v.number + k ≡ MOST_STRUCTURES * v.number + v.births.nodes = ap (λ (x : Sid). x.0) e in omega arith)) ∙ mine.unborn k (omega arith) lt; links = λ k le lt. mine.links k (omega arith) lt ∙ mine.later k (omega arith) lt; later = λ k le lt. refl });
          };
          locks = same_locks views id v u at l l refl (λ j y e ly g f n k lt. refl) r.locks;
          unborn = record {
            children = λ t e. r.unborn.children t (still_zero t e).1;
            transitions = λ t e. r.unborn.transitions t (still_zero t e).1;
            writes = λ t e. r.unborn.writes t (still_zero t e).1;
            offsets = r.unborn.offsets;
          };
          unmade = record {
            out = r.unmade.out;
            structures = λ t k le lt lo hi. elsewhere t k (λ e. omega arith) hi ∙ r.unmade.structures t k le lt lo hi;
            nameless = r.unmade.nameless;
            storage = r.unmade.storage;
            objects = r.unmade.objects;
          };
          sights = sights_set views id u r.sights (λ j y d e ly h. sighted_shapes h kept (born_lock j y e ly) born_cell) (sighted_shapes (r.sights.each id v at l) kept (born_lock id v at l) born_cell);
          born_so = r.born_so;
          marked = marked_shapes r.marked kept;
          allowed = allowed_same views id v u at l refl r.allowed;
          timing = timing_set views id u r.timing (r.timing.timed id v at l);
          lasting = lasting_more old_nodes (λ t m e. refl) (λ a d. refl) views id u r.lasting (λ q x e. ⊎_elim
              (λ (t : (q ≡ node s) × (node_bits n ≡ x)). inl (record { structure = s; found = n; name_is = t.0; is = structure_here r.node s (Some n); word_is = sym t.1 }))
              (λ (f : told (record { at = sibling s; word = link_in v.births.unlinked s } ∷ v.lasting) q ≡ Some x). ⊎_elim
              (λ (t : (q ≡ sibling s) × (link_in v.births.unlinked s ≡ x)). inr (inr (record { structure = s; found = n; name_is = t.0; is = structure_here r.node s (Some n); word_is = link_is ∙ t.1 })))
              (λ (t : told v.lasting q ≡ Some x). lasting_on old_nodes (λ s m e. refl) (λ a d. refl) (r.lasting.known id v at l q x t)) (told_cases v.lasting q (sibling s) (link_in v.births.unlinked s) x f))
              (told_cases (record { at = sibling s; word = link_in v.births.unlinked s } ∷ v.lasting) q (node s) (node_bits n) x e));
          counted = counted_shapes r.counted (λ o c e. kept c.sid (born_cell o c e));
          concluded = concluded_node views id v u at l same r.concluded refl refl room;
          raised = raised_shapes views id v u at l same r.histories r.raised refl refl shape' (λ o c e. kept c.sid (born_cell o c e)) (λ t b. ⊎_elim
              (λ (f : t ≡ s). let number = ap (λ (x : Sid). x.0) f in let few = r.histories.few in omega (arith, number))
              (λ (d : t ≢ s). let lt = r.raised.inside t (sym (ap (λ (x : Shape). x.born) (structure_else r.shape s t z d)) ∙ b) in let all = r.raised.structures_are in omega arith) (cases_structure t s));
        },
      )
