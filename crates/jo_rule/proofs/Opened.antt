-- What the holder of a lock reads in an object that is opening, and the names that known nodes tell.
use Rattle.std.proofs.Common.{◌≡◌, ◌≢◌, ◌+◌, ◌-◌, ◌/◌, ◌<◌, ℕ, Bool, true, false, List, [], ◌∷◌, set, sym, ap, ◌∙◌, subst, ⊎_elim, arith, Some, None}
use Rattle.std.proofs.lemmas.Bool.{both_ways}
use mathlib.Core.Option.{some}
use lib.ListN.{get_elem?}
use Rattle.jo_value.specs.declared.value.Sid.{Sid}
use Rattle.jo_value.specs.declared.words.cell.Kind.TheVariants.{Opening}
use Rattle.jo_value.specs.declared.words.node.Node.{Node}
use Rattle.jo_value.specs.Words.{IsNode, node_bits}
use Rattle.jo_model.specs.Heaps.{object_of}
use Rattle.jo_model.specs.Logs.{after}
use Rattle.jo_model.specs.WellFormed.{IsWellFormed}
use Rattle.jo_model.specs.Valid.{IsValidObject}
use Rattle.jo_model.proofs.WellFormed.{object-at}
use Rattle.jo_model.proofs.ValidEdits.{object_valid}
use Rattle.jo_rule.specs.declared.cause.Cause.{Cause}
use Rattle.jo_rule.specs.declared.counts.Counts.{Counts}
use Rattle.jo_rule.specs.Names.{node, storage}
use Rattle.jo_rule.specs.Areas.{Words, siblings}
use Rattle.jo_rule.specs.Roots.{root_of}
use Rattle.jo_rule.specs.Shapes.{Shape, names_after, root_shape, IsMade, IsRoot}
use Rattle.jo_rule.specs.Spots.{Spot, offset, element, values}
use Rattle.jo_rule.specs.Roles.{fixed, names_room, elements_room, place_by, frame, IsBlockOf}
use Rattle.jo_rule.specs.Contents.{is_keyed, is_dictionary, is_segmented, HasKeys, HasWords}
use Rattle.jo_rule.specs.Views.{View, Lock}
use Rattle.jo_rule.specs.Rule.{Rule}
use Rattle.jo_rule.specs.Sights.{told}
use Rattle.jo_rule.specs.Opened.{IsUnderOpening, IsWalk, names_by}
use Rattle.jo_rule.proofs.Heaps.{formed-after}
use Rattle.jo_rule.proofs.Contents.{standing, places_of}
use Rattle.jo_rule.proofs.Known.{lasting, loads_fixed, known_node, known_fixed, known_child, known_frame}

module _ {P : ℕ} {w : Words} {views : List View} (id : ℕ) (v : View) (r : Rule P w views) (at : get_elem? views id ≡ some v) (l : v.live ≡ true) where
  -- a lock has a cause of opening exactly where its object is opening
  pub opened_exactly : (g : Lock) → v.lock ≡ Some g → (g.cell.kind ≡ Opening → g.opened ≢ None) × ((cause : Cause) → g.opened ≡ Some cause → g.cell.kind ≡ Opening)
  opened_exactly g held =
      let k = (r.locks.held id v at l g held).found in (
        (λ kind none_. both_ways (is_keyed g.found) (ap is_keyed (sym (k.unopened none_) ∙ kind)) (k.keyed (ap is_dictionary kind))),
        k.turned,
      )

  -- the block of an object that is opening is of the kind that was found when its lock was taken, and has its keys
  pub opened_block : (g : Lock) → v.lock ≡ Some g → g.cell.kind ≡ Opening → IsBlockOf r.role (is_segmented g.found) g.object g.cell.address × HasKeys (values w) r.role (is_segmented g.found) (r.shape g.cell.sid) g.object g.cell.address (object_of (after P r.log) g.object)
  opened_block g held kind =
      let lk = r.locks.held id v at l g held in
      let no_dictionary : is_dictionary g.cell.kind ≡ false = ap is_dictionary kind in
      let st = places_of (standing r.contents g.object g.cell lk.cell) no_dictionary in
      let same : (r.now g.object).segmented ≡ is_segmented g.found = lk.found.block no_dictionary in (
        subst (λ (b : Bool). IsBlockOf r.role b g.object g.cell.address) same st.block,
        subst (λ (b : Bool). HasKeys (values w) r.role b (r.shape g.cell.sid) g.object g.cell.address (object_of (after P r.log) g.object)) same st.keys,
      )

  -- its header is loaded, and is known from then on
  pub loads_opened_header : (g : Lock) (counts : Counts) → v.lock ≡ Some g → g.cell.kind ≡ Opening → (head : ℕ) × (w (storage g.cell.address) ≡ head) × Rule P w (set views id (lasting v (storage g.cell.address) head counts))
  loads_opened_header g counts held kind =
      let b = (opened_block g held kind).0 in
      let h = loads_fixed id v r at l g.cell.address b.head counts b.header in
      (b.head, h.0, h.1)

  opened_head : (g : Lock) (head : ℕ) (held : v.lock ≡ Some g) (kind : g.cell.kind ≡ Opening) → told v.lasting (storage g.cell.address) ≡ Some head → head ≡ (opened_block g held kind).0.head
  opened_head g head held kind known =
      let b = (opened_block g held kind).0 in
      let both : fixed head ≡ fixed b.head = sym (known_fixed id v r at l g.cell.address head known) ∙ b.header in
      cc

  -- so is each word of its spine, where it is segmented: those for names
  pub loads_opened_names : (g : Lock) (head j : ℕ) (counts : Counts) → v.lock ≡ Some g → g.cell.kind ≡ Opening → is_segmented g.found ≡ true → told v.lasting (storage g.cell.address) ≡ Some head → j < names_room head
      → (word : ℕ) × (w (storage (g.cell.address - (1 + j / 4))) ≡ word) × Rule P w (set views id (lasting v (storage (g.cell.address - (1 + j / 4))) word counts))
  loads_opened_names g head j counts held kind segments known lt =
      let t = (opened_block g held kind).0.names j segments (subst (λ (x : ℕ). j < names_room x) (opened_head g head held kind known) lt) in
      let h = loads_fixed id v r at l (g.cell.address - (1 + j / 4)) t.0 counts t.1 in
      (t.0, h.0, h.1)

  -- and those for elements
  pub loads_opened_elements : (g : Lock) (head i : ℕ) (counts : Counts) → v.lock ≡ Some g → g.cell.kind ≡ Opening → is_segmented g.found ≡ true → told v.lasting (storage g.cell.address) ≡ Some head → i < elements_room head
      → (word : ℕ) × (w (storage (g.cell.address + 1 + i / 4)) ≡ word) × Rule P w (set views id (lasting v (storage (g.cell.address + 1 + i / 4)) word counts))
  loads_opened_elements g head i counts held kind segments known lt =
      let t = (opened_block g held kind).0.elements i segments (subst (λ (x : ℕ). i < elements_room x) (opened_head g head held kind known) lt) in
      let h = loads_fixed id v r at l (g.cell.address + 1 + i / 4) t.0 counts t.1 in
      (t.0, h.0, h.1)

  -- Once the holder has the content alone, the words of the places are those of the content, by the header and spine that it knows.
  pub reads_settled : (g : Lock) (f : ℕ → ℕ) (head : ℕ) → v.lock ≡ Some g → g.cell.kind ≡ Opening → g.settled ≡ true → told v.lasting (storage g.cell.address) ≡ Some head → f g.cell.address ≡ head
      → ((j : ℕ) → is_segmented g.found ≡ true → j < names_room head → told v.lasting (storage (g.cell.address - (1 + j / 4))) ≡ Some (f (g.cell.address - (1 + j / 4))))
      → ((i : ℕ) → is_segmented g.found ≡ true → i < elements_room head → told v.lasting (storage (g.cell.address + 1 + i / 4)) ≡ Some (f (g.cell.address + 1 + i / 4)))
      → IsUnderOpening (after P r.log) (values w) (r.shape g.cell.sid) f g
  reads_settled g f head held kind sure known is names elements =
      let o = g.object in
      let heap = after P r.log in
      let content : object_of heap o ≡ g.content = (r.locks.held id v at l g held).content sure in
      let k = subst (HasKeys (values w) r.role (is_segmented g.found) (r.shape g.cell.sid) o g.cell.address) content (opened_block g held kind).1 in
      let place : (y : Spot) → place_by (is_segmented g.found) f o g.cell.address y ≡ frame r.role (is_segmented g.found) o g.cell.address y = known_frame id v r at l f (is_segmented g.found) o g.cell.address head known is names elements in record {
        names = k.names;
        inside = λ name j e z. k.inside name j e (sym (place (offset j)) ∙ z);
        values = λ key y a e z. k.values key y a e (sym (place y) ∙ z);
        beyond = λ i z. k.beyond i (sym (place (element i)) ∙ z);
        words = subst HasWords content (r.contents.words o);
        formed = subst IsWellFormed content (object-at heap o (formed-after P r.log));
        valid = subst (IsValidObject heap) content (object_valid heap o r.contents.valid);
      }

  -- a known node of depth 0 is that of a root, which has no names
  pub known_root : (s : Sid) (n : Node) → IsNode n → told v.lasting (node s) ≡ Some (node_bits n) → n.depth ≡ 0 → (t : ℕ) × (s ≡ root_of t) × (r.shape s ≡ root_shape t)
  known_root s n formed e flat = ⊎_elim
      (λ (k : IsRoot P s n (r.shape s)). (k.0, k.2, k.4))
      (λ (k : IsMade (siblings w) r.node r.shape s n). (let d = k.child.depth in absurd (omega (arith, d, flat)))) (r.shaped.made s n (known_node id v r at l s n formed e))

  -- the nodes of a walk to the root tell the names of a structure in order, each with its offset
  pub known_names : (s : Sid) (ns : List Node) → IsWalk v.lasting s ns → (r.shape s).names ≡ names_by ns
  known_names s [] h = let k = known_root s h.0 h.1.0 h.1.1 h.2 in ap (λ (z : Shape). z.names) k.2
  known_names s (n ∷ ns) h =
      let k = known_child id v r at l s n h.0.0 h.0.1 h.1 in
      ap (λ (z : Shape). z.names) k.1 ∙ ap (names_after n.change n.name n.offset) (known_names n.parent ns h.2)
