-- Nodes and links: a structure is born below another, and is linked there. No shape changes that was there.
use Rattle.std.proofs.Common.{◌≡◌, ◌≢◌, ◌⊎◌, ◌<◌, ◌≤◌, ℕ, true, refl, sym, ap, ◌∙◌, subst, inl, inr, ⊎_elim, arith, Option, Some, None}
use Rattle.std.proofs.lemmas.Bool.{cases_eq, eq-eqb, ne_eqb, both_ways}
use Rattle.jo_value.specs.declared.capacities.TheConstants.{MOST_DEPTH}
use Rattle.jo_value.specs.declared.value.Sid.{Sid}
use Rattle.jo_value.specs.declared.words.node.Node.{Node}
use Rattle.jo_value.specs.Words.{node_bits}
use Rattle.jo_value.proofs.Distinct.{no_node_is_zero}
use Rattle.jo_rule.specs.Roots.{root_of, root_node}
use Rattle.jo_rule.specs.Areas.{set_structure}
use Rattle.jo_rule.specs.Shapes.{Shape, shape_after, IsChildOf, IsShape, word_of_node, LinksTo, IsLink, IsMade, IsRoot, Shaped}
use Rattle.jo_rule.proofs.Shapes.{formed_child}

pub cases_structure : (s t : Sid) → (s ≡ t) ⊎ (s ≢ t)
cases_structure s t = ⊎_elim (λ (e : s.0 ≡ t.0). inl (λ i. record { 0 = e i })) (λ (d : s.0 ≢ t.0). inr (λ e. d (ap (λ (x : Sid). x.0) e))) (cases_eq s.0 t.0)

module _ {A : Type 0} where
  pub structure_here : (f : Sid → A) (s : Sid) (x : A) → set_structure f s x s ≡ x
  structure_here f s x = rw (eq-eqb s.0 s.0 refl) refl

  pub structure_else : (f : Sid → A) (s t : Sid) (x : A) → t ≢ s → set_structure f s x t ≡ f t
  structure_else f s t x d = rw (ne_eqb t.0 s.0 (λ e. d (λ i. record { 0 = e i }))) refl

node_cases : (x : Option Node) → (x ≡ None) ⊎ ((n : Node) × (x ≡ Some n))
node_cases None = inl refl
node_cases (Some n) = inr (n, refl)

module _ {passes : ℕ} {nodes first_children siblings : Sid → ℕ} {node : Sid → Option Node} {shape : Sid → Shape} (r : Shaped passes nodes first_children siblings node shape) where
  -- a structure with a shape has a node
  pub node_of_born : (s : Sid) → (shape s).born ≡ true → (n : Node) × (node s ≡ Some n)
  node_of_born s born = ⊎_elim
      (λ (e : node s ≡ None). absurd (both_ways (shape s).born (ap (λ (z : Shape). z.born) (r.unborn s e)) born))
      (λ (e : (n : Node) × (node s ≡ Some n)). e) (node_cases (node s))

  pub born_of_node : (s : Sid) (n : Node) → node s ≡ Some n → (shape s).born ≡ true
  born_of_node s n e = ⊎_elim (λ (k : IsRoot passes s n (shape s)). ap (λ (z : Shape). z.born) k.4) (λ (k : IsMade siblings node shape s n). ap (λ (z : Shape). z.born) k.is) (r.made s n e)

  -- a word that is 0 is that of an unborn structure
  pub unborn_of_word : (s : Sid) → nodes s ≡ 0 → node s ≡ None
  unborn_of_word s e = ⊎_elim
      (λ (f : node s ≡ None). f)
      (λ (f : (n : Node) × (node s ≡ Some n)). absurd (let lt = no_node_is_zero f.0 in let z : nodes s ≡ node_bits f.0 = r.coded s ∙ ap word_of_node f.1 in omega (arith, z, e))) (node_cases (node s))

  -- the shapes of structures that are born stay where one is born
  pub shape_kept : (s : Sid) (z : Shape) (t : Sid) → node s ≡ None → (shape t).born ≡ true → set_structure shape s z t ≡ shape t
  shape_kept s z t none_ born = structure_else shape s t z (λ e. both_ways (shape t).born (ap (λ (x : Shape). x.born) (ap shape e ∙ r.unborn s none_)) born)

  link_kept : (s : Sid) (m : Node) → node s ≡ None → (parent : Sid) (word : ℕ) → IsLink node parent word → IsLink (set_structure node s (Some m)) parent word
  link_kept s m none_ parent word = λ h. ⊎_elim (λ (e : word ≡ 0). inl e)
      (λ (l : LinksTo node parent word). inr (record { child = l.child; found = l.found; number = l.number; there = structure_else node s l.child (Some m) (λ e. let no : None ≡ Some l.found = sym (ap node e ∙ none_) ∙ l.there in cc) ∙ l.there; parent_is = l.parent_is; deep = l.deep })) h

  -- the node of a structure is stored that was not born; its parent is born, and its sibling link was stored before
  pub bears_structure : (s : Sid) (m : Node) → node s ≡ None → IsChildOf m (shape m.parent) → IsLink node m.parent (siblings s)
      → Shaped passes (set_structure nodes s (node_bits m)) first_children siblings (set_structure node s (Some m)) (set_structure shape s (shape_after m (shape m.parent)))
  bears_structure s m none_ child next =
      let node' = set_structure node s (Some m) in
      let z = shape_after m (shape m.parent) in
      let shape' = set_structure shape s z in
      let kept : (t : Sid) → (shape t).born ≡ true → shape' t ≡ shape t = λ t b. shape_kept s z t none_ b in
      let parent_same : shape' m.parent ≡ shape m.parent = kept m.parent child.born in
      let other : (t : Sid) (n : Node) → node t ≡ Some n → t ≢ s = λ t n e f. let no : None ≡ Some n = sym none_ ∙ (ap node (sym f) ∙ e) in cc in record {
        coded = λ t. ⊎_elim
            (λ (e : t ≡ s). (ap (set_structure nodes s (node_bits m)) e ∙ structure_here nodes s (node_bits m)) ∙ sym (ap word_of_node (ap node' e ∙ structure_here node s (Some m))))
            (λ (d : t ≢ s). structure_else nodes s t (node_bits m) d ∙ (r.coded t ∙ sym (ap word_of_node (structure_else node s t (Some m) d)))) (cases_structure t s);
        roots = λ t lt.
            let k = r.roots t lt in
            (structure_else node s (root_of t) (Some m) (other (root_of t) root_node k.0) ∙ k.0, kept (root_of t) (ap (λ (x : Shape). x.born) k.1) ∙ k.1);
        unborn = λ t e. ⊎_elim
            (λ (f : t ≡ s). (let no : Some m ≡ None = sym (ap node' f ∙ structure_here node s (Some m)) ∙ e in absurd cc))
            (λ (d : t ≢ s). structure_else shape s t z d ∙ r.unborn t (sym (structure_else node s t (Some m) d) ∙ e)) (cases_structure t s);
        made = λ t n e. ⊎_elim
            (λ (f : t ≡ s).
            let both : Some m ≡ Some n = sym (ap node' f ∙ structure_here node s (Some m)) ∙ e in
            let is : m ≡ n = cc in
            inr (subst (λ (x : Sid × Node). IsMade siblings node' shape' x.0 x.1) (λ i. (sym f i, is i)) record {
              child = subst (IsChildOf m) (sym parent_same) child;
              is = structure_here shape s z ∙ ap (shape_after m) (sym parent_same);
              next = link_kept s m none_ m.parent (siblings s) next;
            }))
            (λ (d : t ≢ s).
            let old : node t ≡ Some n = sym (structure_else node s t (Some m) d) ∙ e in
            let same : shape' t ≡ shape t = structure_else shape s t z d in
            ⊎_elim (λ (k : IsRoot passes t n (shape t)). inl (subst (IsRoot passes t n) (sym same) k))
            (λ (k : IsMade siblings node shape t n).
            let up : shape' n.parent ≡ shape n.parent = kept n.parent k.child.born in
            inr (record { child = subst (IsChildOf n) (sym up) k.child; is = same ∙ (k.is ∙ ap (shape_after n) (sym up)); next = link_kept s m none_ n.parent (siblings t) k.next })) (r.made t n old)) (cases_structure t s);
        formed = λ t. ⊎_elim
            (λ (f : t ≡ s). subst IsShape (sym (ap shape' f ∙ structure_here shape s z)) (formed_child m (shape m.parent) (r.formed m.parent) child))
            (λ (d : t ≢ s). subst IsShape (sym (structure_else shape s t z d)) (r.formed t)) (cases_structure t s);
        firsts = λ t. link_kept s m none_ t (first_children t) (r.firsts t);
      }

  -- the sibling link of a structure is stored that is not born
  pub stores_sibling : (s : Sid) (x : ℕ) → node s ≡ None → Shaped passes nodes first_children (set_structure siblings s x) node shape
  stores_sibling s x none_ = record {
    coded = r.coded;
    roots = r.roots;
    unborn = r.unborn;
    made = λ t n e. ⊎_elim (λ (k : IsRoot passes t n (shape t)). inl k)
        (λ (k : IsMade siblings node shape t n). inr (record { child = k.child; is = k.is; next = subst (IsLink node n.parent) (sym (structure_else siblings s t x (λ f. let no : None ≡ Some n = sym none_ ∙ (ap node (sym f) ∙ e) in cc))) k.next })) (r.made t n e);
    formed = r.formed;
    firsts = r.firsts;
  }

  -- a structure is linked as the first child of its parent
  pub links_child : (s : Sid) (word : ℕ) → LinksTo node s word → Shaped passes nodes (set_structure first_children s word) siblings node shape
  links_child s word link = record {
    coded = r.coded;
    roots = r.roots;
    unborn = r.unborn;
    made = r.made;
    formed = r.formed;
    firsts = λ t. ⊎_elim (λ (f : t ≡ s). subst (λ (x : Sid × ℕ). IsLink node x.0 x.1) (λ i. (sym f i, sym (ap (set_structure first_children s word) f ∙ structure_here first_children s word) i)) (inr link))
        (λ (d : t ≢ s). subst (IsLink node t) (sym (structure_else first_children s t word d)) (r.firsts t)) (cases_structure t s);
  }

  -- what is found under a link is a child of its structure, which is born
  pub link_found : (parent : Sid) (word : ℕ) → word ≢ 0 → IsLink node parent word → LinksTo node parent word
  link_found parent word some_ h = ⊎_elim (λ (e : word ≡ 0). absurd (some_ e)) (λ (l : LinksTo node parent word). l) h

  -- the node word of a structure that is born tells its parent and what it changes
  pub made_below : (s : Sid) (n : Node) → node s ≡ Some n → 0 < n.depth → IsMade siblings node shape s n
  made_below s n e deep = ⊎_elim (λ (k : IsRoot passes s n (shape s)). (let zero_depth : n.depth ≡ 0 = ap (λ (x : Node). x.depth) k.3 in absurd (omega arith))) (λ (k : IsMade siblings node shape s n). k) (r.made s n e)

-- no structure is deeper than may be
pub deepest : {passes : ℕ} {nodes first_children siblings : Sid → ℕ} {node : Sid → Option Node} {shape : Sid → Shape} → Shaped passes nodes first_children siblings node shape → (s : Sid) → (shape s).depth ≤ MOST_DEPTH
deepest {passes} {nodes} {first_children} {siblings} {node} {shape} r s = deepest_by (node s) refl
  where
    deepest_by : (x : Option Node) → node s ≡ x → (shape s).depth ≤ MOST_DEPTH
    deepest_by None e = let d = ap (λ (z : Shape). z.depth) (r.unborn s e) in omega (arith, d)
    deepest_by (Some n) e = ⊎_elim
        (λ (k : IsRoot passes s n (shape s)). let d = ap (λ (z : Shape). z.depth) k.4 in omega (arith, d))
        (λ (k : IsMade siblings node shape s n). let d = ap (λ (z : Shape). z.depth) k.is in let c = k.child in let m = c.deepest in omega (arith, d)) (r.made s n e)
