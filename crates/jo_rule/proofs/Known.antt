-- Words that never change: they are loaded and known from then on, and tell what the code wants of a structure or of a block.
use Rattle.std.proofs.Common.{◌≡◌, ◌≢◌, ◌⊎◌, ◌+◌, ◌-◌, ◌/◌, ◌<◌, ℕ, Bool, true, List, ◌∷◌, set, refl, sym, ap, ◌∙◌, subst, inl, inr, ⊎_elim, arith, Some, None}
use mathlib.Core.Option.{some}
use lib.ListN.{get_elem?}
use Rattle.jo_value.specs.declared.value.NameId.{NameId}
use Rattle.jo_value.specs.declared.value.ObjId.{ObjId}
use Rattle.jo_value.specs.declared.value.Sid.{Sid}
use Rattle.jo_value.specs.declared.words.node.Change.TheVariants.{Add, Remove}
use Rattle.jo_value.specs.declared.words.node.Node.{Node}
use Rattle.jo_value.specs.Words.{IsNode, node_bits}
use Rattle.jo_value.proofs.Distinct.{node_words}
use Rattle.jo_rule.specs.declared.counts.Counts.{Counts}
use Rattle.jo_rule.specs.Names.{WordName, node, first_child, sibling, storage}
use Rattle.jo_rule.specs.Areas.{Words, siblings, stored}
use Rattle.jo_rule.specs.Shapes.{Shape, shape_after, offset_of, word_of_node, IsChildOf, LinksTo, IsLink, IsMade, IsRoot}
use Rattle.jo_rule.specs.Spots.{Spot}
use Rattle.jo_rule.specs.Roles.{fixed, words_fixed, word_fixed, names_room, elements_room, place_by, frame}
use Rattle.jo_rule.specs.Contents.{is_keyed}
use Rattle.jo_rule.specs.Views.{View, Pin}
use Rattle.jo_rule.specs.Rule.{Rule}
use Rattle.jo_rule.specs.Sights.{told}
use Rattle.jo_rule.specs.Lasting.{IsNodeWord, IsFixedWord, IsLinkWord, IsLasting, KnowsLasting}
use Rattle.jo_rule.proofs.Concluded.{alike_same, at_least_same, concluded_same}
use Rattle.jo_rule.proofs.Raised.{raised_same}
use Rattle.jo_rule.proofs.Lists.{live_same}
use Rattle.jo_rule.proofs.Shapes.{extends, removed_of, name_here}
use Rattle.jo_rule.proofs.Shaped.{node_of_born, made_below}
use Rattle.jo_rule.proofs.Layouts.{place_same}
use Rattle.jo_rule.proofs.Histories.{SameNumbers, same_placements, same_histories}
use Rattle.jo_rule.proofs.Owned.{same_owned, same_structures}
use Rattle.jo_rule.proofs.Locks.{same_locks}
use Rattle.jo_rule.proofs.Timing.{timing_set}
use Rattle.jo_rule.proofs.Allowed.{allowed_same}
use Rattle.jo_rule.proofs.Sights.{sights_set}
use Rattle.jo_rule.proofs.Looks.{told_cases}

-- the view after the load of such a word
abbrev pub lasting : View → WordName → ℕ → Counts → View
lasting v name word counts = record v { lasting = record { at = name; word = word } ∷ v.lasting; counts = counts }

module _ {P : ℕ} {w : Words} {views : List View} (id : ℕ) (v : View) (r : Rule P w views) (at : get_elem? views id ≡ some v) (l : v.live ≡ true) where
  -- a word that never changes is known
  pub keeps_lasting : (name : WordName) (word : ℕ) (counts : Counts) → IsLasting r.node (siblings w) r.role name word → Rule P w (set views id (lasting v name word counts))
  keeps_lasting name word counts is =
      let u = lasting v name word counts in
      let same : SameNumbers v u = record { live = refl; number = refl; made = refl; kept = refl } in record {
        log = r.log;
        made = r.made;
        home = r.home;
        node = r.node;
        shape = r.shape;
        cell = r.cell;
        role = r.role;
        now = r.now;
        so = r.so;
        placements = same_placements views id v u at l same refl r.placements;
        histories = same_histories views id v u at l same refl r.histories;
        coded = r.coded;
        shaped = r.shaped;
        contents = r.contents;
        owned = same_owned views id u v at l refl refl refl r.owned;
        structures = same_structures views id v u at l refl refl r.structures;
        locks = same_locks views id v u at l l refl (λ j y e ly g f n k lt. refl) r.locks;
        unborn = r.unborn;
        unmade = r.unmade;
        sights = sights_set views id u r.sights (λ j y n e ly h. h) (r.sights.each id v at l);
        born_so = r.born_so;
        marked = r.marked;
        allowed = allowed_same views id v u at l refl r.allowed;
        timing = timing_set views id u r.timing (r.timing.timed id v at l);
        lasting = record {
          known = live_same (KnowsLasting r.node (siblings w) r.role) views id u r.lasting.known (λ q x e. ⊎_elim
              (λ (t : (q ≡ name) × (word ≡ x)). subst (λ (z : WordName × ℕ). IsLasting r.node (siblings w) r.role z.0 z.1) (λ i. (sym t.0 i, t.1 i)) is)
              (λ (t : told v.lasting q ≡ Some x). r.lasting.known id v at l q x t) (told_cases v.lasting q name word x e));
        };
        counted = r.counted;
        concluded = concluded_same views id v u at l same r.concluded (alike_same refl) refl (at_least_same v.past.calls u.past.calls refl);
        raised = raised_same views id v u at l same r.histories r.raised refl refl;
      }

  -- the node of a structure that is born
  pub loads_node : (s : Sid) (counts : Counts) → (r.shape s).born ≡ true → (n : Node) × (r.node s ≡ Some n) × (w (node s) ≡ node_bits n) × Rule P w (set views id (lasting v (node s) (node_bits n) counts))
  loads_node s counts born =
      let n = node_of_born r.shaped s born in
      (n.0, n.1, r.shaped.coded s ∙ ap word_of_node n.1, keeps_lasting (node s) (node_bits n.0) counts (inl (record { structure = s; found = n.0; name_is = refl; is = n.1; word_is = refl })))

  -- a word of storage that a role fixes
  pub loads_fixed : (a word : ℕ) (counts : Counts) → r.role a ≡ fixed word → (w (storage a) ≡ word) × Rule P w (set views id (lasting v (storage a) word counts))
  loads_fixed a word counts is = (r.contents.still a word is, keeps_lasting (storage a) word counts (inr (inl (record { at = a; name_is = refl; is = is }))))

  -- the header of the block of a pin
  pub loads_header : (i : ℕ) (p : Pin) (counts : Counts) → get_elem? v.sight.pins i ≡ some p → is_keyed p.cell.kind ≡ true → (head : ℕ) × (w (storage p.cell.address) ≡ head) × Rule P w (set views id (lasting v (storage p.cell.address) head counts))
  loads_header i p counts has keyed =
      let t = ((r.sights.each id v at l).sees i p has keyed).block in
      let h = loads_fixed p.cell.address t.head counts t.header in
      (t.head, h.0, h.1)

  -- ---- what known words tell

  node_formed : (s : Sid) (n : Node) → r.node s ≡ Some n → IsNode n
  node_formed s n e = ⊎_elim (λ (k : IsRoot P s n (r.shape s)). subst IsNode (sym k.3) (record { parent = omega arith; name = omega arith; offset = omega arith; top = omega arith; depth = omega arith })) (λ (k : IsMade (Rattle.jo_rule.specs.Areas.siblings w) r.node r.shape s n). k.child.node) (r.shaped.made s n e)

  pub known_node : (s : Sid) (n : Node) → IsNode n → told v.lasting (node s) ≡ Some (node_bits n) → r.node s ≡ Some n
  known_node s n formed e = ⊎_elim
      (λ (t : IsNodeWord r.node (node s) (node_bits n)).
      let name : node s ≡ node t.structure = t.name_is in
      let same : s ≡ t.structure = cc in
      let one : n ≡ t.found = node_words n t.found formed (node_formed t.structure t.found t.is) t.word_is in
      ap r.node same ∙ (t.is ∙ ap (λ (x : Node). Some x) (sym one)))
      (λ (f : IsFixedWord r.role (node s) (node_bits n) ⊎ IsLinkWord r.node (siblings w) (node s) (node_bits n)). ⊎_elim
      (λ (t : IsFixedWord r.role (node s) (node_bits n)). (let no : node s ≡ storage t.at = t.name_is in absurd cc))
      (λ (t : IsLinkWord r.node (siblings w) (node s) (node_bits n)). (let no : node s ≡ sibling t.structure = t.name_is in absurd cc)) f) (r.lasting.known id v at l (node s) (node_bits n) e)

  pub known_fixed : (a word : ℕ) → told v.lasting (storage a) ≡ Some word → r.role a ≡ fixed word
  known_fixed a word e = ⊎_elim
      (λ (t : IsNodeWord r.node (storage a) word). (let no : storage a ≡ node t.structure = t.name_is in absurd cc))
      (λ (f : IsFixedWord r.role (storage a) word ⊎ IsLinkWord r.node (siblings w) (storage a) word). ⊎_elim
      (λ (t : IsFixedWord r.role (storage a) word). let name : storage a ≡ storage t.at = t.name_is in let same : a ≡ t.at = cc in ap r.role same ∙ t.is)
      (λ (t : IsLinkWord r.node (siblings w) (storage a) word). (let no : storage a ≡ sibling t.structure = t.name_is in absurd cc)) f) (r.lasting.known id v at l (storage a) word e)

  -- a sibling link that is known is still the word there, and its structure is born
  pub known_link : (s : Sid) (word : ℕ) → told v.lasting (sibling s) ≡ Some word → (w (sibling s) ≡ word) × ((n : Node) × (r.node s ≡ Some n))
  known_link s word e = ⊎_elim
      (λ (t : IsNodeWord r.node (sibling s) word). (let no : sibling s ≡ node t.structure = t.name_is in absurd cc))
      (λ (f : IsFixedWord r.role (sibling s) word ⊎ IsLinkWord r.node (siblings w) (sibling s) word). ⊎_elim
      (λ (t : IsFixedWord r.role (sibling s) word). (let no : sibling s ≡ storage t.at = t.name_is in absurd cc))
      (λ (t : IsLinkWord r.node (siblings w) (sibling s) word).
      let name : sibling s ≡ sibling t.structure = t.name_is in
      let same : s ≡ t.structure = cc in
      (ap (siblings w) same ∙ t.word_is, (t.found, ap r.node same ∙ t.is))) f) (r.lasting.known id v at l (sibling s) word e)

  -- The link of a structure to its first child is 0 or names a child, as the word is now.
  pub finds_first : (s : Sid) → IsLink r.node s (w (first_child s))
  finds_first s = r.shaped.firsts s

  -- the sibling link of a structure below a root is loaded and known from then on; it is 0 or names another child of the parent
  pub loads_sibling : (s : Sid) (n : Node) (counts : Counts) → IsNode n → told v.lasting (node s) ≡ Some (node_bits n) → 0 < n.depth → IsLink r.node n.parent (w (sibling s)) × Rule P w (set views id (lasting v (sibling s) (w (sibling s)) counts))
  loads_sibling s n counts formed e deep =
      let is = known_node s n formed e in
      ((made_below r.shaped s n is deep).next, keeps_lasting (sibling s) (w (sibling s)) counts (inr (inr (record { structure = s; found = n; name_is = refl; is = is; word_is = refl }))))

  -- a link that names a known node is one to a child of that node's parent
  pub known_child_link : (s : Sid) (n : Node) → IsNode n → told v.lasting (node s) ≡ Some (node_bits n) → 0 < n.depth → LinksTo r.node n.parent (s.0 + 1)
  known_child_link s n formed e deep = record { child = s; found = n; number = refl; there = known_node s n formed e; parent_is = refl; deep = deep }

  -- A structure whose node is known is its parent's with one change.
  pub known_child : (s : Sid) (n : Node) → IsNode n → told v.lasting (node s) ≡ Some (node_bits n) → 0 < n.depth → IsChildOf n (r.shape n.parent) × (r.shape s ≡ shape_after n (r.shape n.parent))
  known_child s n formed e deep = ⊎_elim
      (λ (k : IsRoot P s n (r.shape s)). (let none_ : n.depth ≡ 0 = ap (λ (x : Node). x.depth) k.3 in absurd (omega arith)))
      (λ (k : IsMade (Rattle.jo_rule.specs.Areas.siblings w) r.node r.shape s n). (k.child, k.is)) (r.shaped.made s n (known_node s n formed e))

  -- So one step of the walk to the root finds the offset of a name, or goes on.
  pub known_added : (s : Sid) (n : Node) → IsNode n → told v.lasting (node s) ≡ Some (node_bits n) → 0 < n.depth → n.change ≡ Add → offset_of (r.shape s) n.name ≡ Some n.offset
  known_added s n formed e deep change = let k = known_child s n formed e deep in ap (λ (z : Shape). offset_of z n.name) k.1 ∙ (extends n (r.shape n.parent) change k.0).here

  pub known_removed : (s : Sid) (n : Node) → IsNode n → told v.lasting (node s) ≡ Some (node_bits n) → 0 < n.depth → n.change ≡ Remove → offset_of (r.shape s) n.name ≡ None
  known_removed s n formed e deep change = let k = known_child s n formed e deep in ap (λ (z : Shape). offset_of z n.name) k.1 ∙ (removed_of n (r.shape n.parent) change (r.shaped.formed n.parent) k.0).gone

  pub known_other : (s : Sid) (n : Node) (name : NameId) → IsNode n → told v.lasting (node s) ≡ Some (node_bits n) → 0 < n.depth → name ≢ n.name → offset_of (r.shape s) name ≡ offset_of (r.shape n.parent) name
  known_other s n name formed e deep other =
      let k = known_child s n formed e deep in
      ap (λ (z : Shape). offset_of z name) k.1 ∙ ⊎_elim
      (λ (c : n.change ≡ Add). (extends n (r.shape n.parent) c k.0).others name other)
      (λ (c : n.change ≡ Remove). (removed_of n (r.shape n.parent) c (r.shaped.formed n.parent) k.0).others name other) (Rattle.jo_rule.proofs.Shapes.change_cases n.change)

  -- The words that a view knows, where it knows the header of a block and its spine, give the places of the block.
  pub known_frame : (f : ℕ → ℕ) (sg : Bool) (o : ObjId) (b head : ℕ) → told v.lasting (storage b) ≡ Some head → f b ≡ head
      → ((j : ℕ) → sg ≡ true → j < names_room head → told v.lasting (storage (b - (1 + j / 4))) ≡ Some (f (b - (1 + j / 4)))) → ((i : ℕ) → sg ≡ true → i < elements_room head → told v.lasting (storage (b + 1 + i / 4)) ≡ Some (f (b + 1 + i / 4)))
      → (y : Spot) → place_by sg f o b y ≡ frame r.role sg o b y
  known_frame f sg o b head known is names elements y =
      let fixed_word : (a word : ℕ) → told v.lasting (storage a) ≡ Some word → words_fixed r.role a ≡ word = λ a word e. ap word_fixed (known_fixed a word e) in
      let head_is = fixed_word b head known in
      place_same f (words_fixed r.role) o b (is ∙ sym head_is) sg
      (λ j s lt. sym (fixed_word (b - (1 + j / 4)) (f (b - (1 + j / 4))) (names j s (subst (λ (x : ℕ). j < names_room x) head_is lt))))
      (λ i s lt. sym (fixed_word (b + 1 + i / 4) (f (b + 1 + i / 4)) (elements i s (subst (λ (x : ℕ). i < elements_room x) head_is lt)))) y
