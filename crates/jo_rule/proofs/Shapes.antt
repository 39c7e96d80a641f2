-- Names with their offsets: what an addition and a removal do to them, and that shapes stay well formed.
use Rattle.std.proofs.Common.{◌≡◌, ◌≢◌, ◌⊎◌, ◌+◌, ◌<◌, ◌≤◌, ℕ, true, false, eqb, List, [], ◌∷◌, ◌++◌, map, refl, sym, ap, ◌∙◌, subst, inl, inr, ⊎_elim, arith, Option, Some, None}
use Rattle.std.specs.Prelude.{nat_eq, if◌then◌else◌}
use Rattle.std.proofs.lemmas.Bool.{cases_eq, cond_both, eq-eqb, ne_eqb}
use Rattle.jo_value.specs.declared.value.NameId.{NameId}
use Rattle.jo_value.specs.declared.words.node.Change.{Change}
use Rattle.jo_value.specs.declared.words.node.Change.TheVariants.{Add, Remove}
use Rattle.jo_value.specs.declared.words.node.Node.{Node}
use Rattle.jo_value.specs.Values.{is_same_name}
use Rattle.jo_rule.specs.Shapes.{Shape, unborn_shape, root_shape, offset_in, offset_of, names_of, without_name, names_after, shape_after, Adds, Removes, IsChangeOf, IsChildOf, StandOnce, IsShape}

pub cases_name : (n m : NameId) → (n ≡ m) ⊎ (n ≢ m)
cases_name n m = ⊎_elim (λ (e : n.0 ≡ m.0). inl (λ i. record { 0 = e i })) (λ (d : n.0 ≢ m.0). inr (λ e. d (ap (λ (x : NameId). x.0) e))) (cases_eq n.0 m.0)

pub name_here : (n m : NameId) → n ≡ m → is_same_name n m ≡ true
name_here n m e = eq-eqb n.0 m.0 (ap (λ (x : NameId). x.0) e)

pub name_else : (n m : NameId) → n ≢ m → is_same_name n m ≡ false
name_else n m d = ne_eqb n.0 m.0 (λ e. d (λ i. record { 0 = e i }))

-- ---- pairs of a name and an offset

pub first_is : (p : NameId × ℕ) (ps : List (NameId × ℕ)) (m : NameId) → p.0 ≡ m → offset_in (p ∷ ps) m ≡ Some p.1
first_is p ps m e = rw (name_here p.0 m e) refl

pub first_else : (p : NameId × ℕ) (ps : List (NameId × ℕ)) (m : NameId) → p.0 ≢ m → offset_in (p ∷ ps) m ≡ offset_in ps m
first_else p ps m d = rw (name_else p.0 m d) refl

-- one more pair at the end
pub added_there : (ps : List (NameId × ℕ)) (n m : NameId) (j i : ℕ) → offset_in ps m ≡ Some i → offset_in (ps ++ (n, j) ∷ []) m ≡ Some i
added_there [] n m j i e = (let no : None ≡ Some i = e in absurd cc)
added_there (p ∷ ps) n m j i e = ⊎_elim
    (λ (f : p.0 ≡ m). first_is p (ps ++ (n, j) ∷ []) m f ∙ (sym (first_is p ps m f) ∙ e))
    (λ (d : p.0 ≢ m). first_else p (ps ++ (n, j) ∷ []) m d ∙ added_there ps n m j i (sym (first_else p ps m d) ∙ e)) (cases_name p.0 m)

pub added_new : (ps : List (NameId × ℕ)) (n m : NameId) (j : ℕ) → offset_in ps m ≡ None → offset_in (ps ++ (n, j) ∷ []) m ≡ offset_in ((n, j) ∷ []) m
added_new [] n m j e = refl
added_new (p ∷ ps) n m j e = ⊎_elim
    (λ (f : p.0 ≡ m). (let no : Some p.1 ≡ None = sym (first_is p ps m f) ∙ e in absurd cc))
    (λ (d : p.0 ≢ m). first_else p (ps ++ (n, j) ∷ []) m d ∙ added_new ps n m j (sym (first_else p ps m d) ∙ e)) (cases_name p.0 m)

pub option_cases : {A : Type 0} (o : Option A) → (o ≡ None) ⊎ ((a : A) × (o ≡ Some a))
option_cases None = inl refl
option_cases (Some a) = inr (a, refl)

pub added_else : (ps : List (NameId × ℕ)) (n m : NameId) (j : ℕ) → m ≢ n → offset_in (ps ++ (n, j) ∷ []) m ≡ offset_in ps m
added_else ps n m j d = ⊎_elim
    (λ (e : offset_in ps m ≡ None). added_new ps n m j e ∙ (first_else (n, j) [] m (λ f. d (sym f)) ∙ sym e))
    (λ (e : (i : ℕ) × (offset_in ps m ≡ Some i)). added_there ps n m j e.0 e.1 ∙ sym e.1) (option_cases (offset_in ps m))

pub added_once : (ps : List (NameId × ℕ)) (n : NameId) (j : ℕ) → offset_in ps n ≡ None → StandOnce ps → StandOnce (ps ++ (n, j) ∷ [])
added_once [] n j e h = (refl, tt)
added_once (p ∷ ps) n j e h = ⊎_elim
    (λ (f : p.0 ≡ n). (let no : Some p.1 ≡ None = sym (first_is p ps n f) ∙ e in absurd cc))
    (λ (d : p.0 ≢ n). (added_else ps n p.0 j d ∙ h.0, added_once ps n j (sym (first_else p ps n d) ∙ e) h.1)) (cases_name p.0 n)

-- one pair less
pub without_there : (p : NameId × ℕ) (ps : List (NameId × ℕ)) (n : NameId) → p.0 ≡ n → without_name (p ∷ ps) n ≡ ps
without_there p ps n e = rw (name_here p.0 n e) refl

pub without_else : (p : NameId × ℕ) (ps : List (NameId × ℕ)) (n : NameId) → p.0 ≢ n → without_name (p ∷ ps) n ≡ p ∷ without_name ps n
without_else p ps n d = rw (name_else p.0 n d) refl

pub left_else : (ps : List (NameId × ℕ)) (n m : NameId) → m ≢ n → offset_in (without_name ps n) m ≡ offset_in ps m
left_else [] n m d = refl
left_else (p ∷ ps) n m d = ⊎_elim
    (λ (f : p.0 ≡ n). ap (λ (l : List (NameId × ℕ)). offset_in l m) (without_there p ps n f) ∙ sym (first_else p ps m (λ e. d (sym e ∙ f))))
    (λ (g : p.0 ≢ n). ap (λ (l : List (NameId × ℕ)). offset_in l m) (without_else p ps n g) ∙ ⊎_elim
    (λ (e : p.0 ≡ m). first_is p (without_name ps n) m e ∙ sym (first_is p ps m e))
    (λ (e : p.0 ≢ m). first_else p (without_name ps n) m e ∙ (left_else ps n m d ∙ sym (first_else p ps m e))) (cases_name p.0 m)) (cases_name p.0 n)

pub left_gone : (ps : List (NameId × ℕ)) (n : NameId) → StandOnce ps → offset_in (without_name ps n) n ≡ None
left_gone [] n h = refl
left_gone (p ∷ ps) n h = ⊎_elim
    (λ (f : p.0 ≡ n). ap (λ (l : List (NameId × ℕ)). offset_in l n) (without_there p ps n f) ∙ (ap (offset_in ps) (sym f) ∙ h.0))
    (λ (g : p.0 ≢ n). ap (λ (l : List (NameId × ℕ)). offset_in l n) (without_else p ps n g) ∙ (first_else p (without_name ps n) n g ∙ left_gone ps n h.1)) (cases_name p.0 n)

pub left_once : (ps : List (NameId × ℕ)) (n : NameId) → StandOnce ps → StandOnce (without_name ps n)
left_once [] n h = h
left_once (p ∷ ps) n h = ⊎_elim
    (λ (f : p.0 ≡ n). subst StandOnce (sym (without_there p ps n f)) h.1)
    (λ (g : p.0 ≢ n). subst StandOnce (sym (without_else p ps n g)) (left_else ps n p.0 g ∙ h.0, left_once ps n h.1)) (cases_name p.0 n)

-- ---- shapes

-- z' has one name more than z, at offset j
pub record Extended (z z' : Shape) (n : NameId) (j : ℕ) : Type 0 where
  pub was : offset_of z n ≡ None
  pub here : offset_of z' n ≡ Some j
  pub others : (m : NameId) → m ≢ n → offset_of z' m ≡ offset_of z m
  pub names : names_of z' ≡ names_of z ++ n ∷ []
  pub top : z.top ≤ z'.top
  pub root : z'.root ≡ z.root

-- z' is z without the name n, which was at j
pub record Removed (z z' : Shape) (n : NameId) (j : ℕ) : Type 0 where
  pub was : offset_of z n ≡ Some j
  pub gone : offset_of z' n ≡ None
  pub others : (m : NameId) → m ≢ n → offset_of z' m ≡ offset_of z m
  pub top : z'.top ≡ z.top
  pub root : z'.root ≡ z.root

map_added : (ps : List (NameId × ℕ)) (n : NameId) (j : ℕ) → map (λ (p : NameId × ℕ). p.0) (ps ++ (n, j) ∷ []) ≡ map (λ (p : NameId × ℕ). p.0) ps ++ n ∷ []
map_added [] n j = refl
map_added (p ∷ ps) n j = ap (λ (l : List NameId). p.0 ∷ l) (map_added ps n j)

-- the change of a node, where the parent has this shape
pub adds_of : (n : Node) (z : Shape) → n.change ≡ Add → IsChildOf n z → Adds n z
adds_of n z e h = subst (λ (c : Change). IsChangeOf c n z) e h.change

pub removes_of : (n : Node) (z : Shape) → n.change ≡ Remove → IsChildOf n z → Removes n z
removes_of n z e h = subst (λ (c : Change). IsChangeOf c n z) e h.change

more_top : (offset top : ℕ) → top ≤ (if nat_eq offset top then top + 1 else top)
more_top offset top = cond_both (nat_eq offset top) (top + 1) top (λ x. top ≤ x) (λ t. omega arith) (λ f. omega arith)

pub extends : (n : Node) (z : Shape) → n.change ≡ Add → IsChildOf n z → Extended z (shape_after n z) n.name n.offset
extends n z e h =
    let a = adds_of n z e h in
    let names : (shape_after n z).names ≡ z.names ++ (n.name, n.offset) ∷ [] = ap (λ (c : Change). names_after c n.name n.offset z.names) e in record {
      was = a.new;
      here = ap (λ (l : List (NameId × ℕ)). offset_in l n.name) names ∙ (added_new z.names n.name n.name n.offset a.new ∙ first_is (n.name, n.offset) [] n.name refl);
      others = λ m d. ap (λ (l : List (NameId × ℕ)). offset_in l m) names ∙ added_else z.names n.name m n.offset d;
      names = ap (map (λ (p : NameId × ℕ). p.0)) names ∙ map_added z.names n.name n.offset;
      top = subst (λ (x : ℕ). z.top ≤ x) (sym a.top) (more_top n.offset z.top);
      root = refl;
    }

pub removed_of : (n : Node) (z : Shape) → n.change ≡ Remove → IsShape z → IsChildOf n z → Removed z (shape_after n z) n.name n.offset
removed_of n z e s h =
    let r = removes_of n z e h in
    let names : (shape_after n z).names ≡ without_name z.names n.name = ap (λ (c : Change). names_after c n.name n.offset z.names) e in record {
      was = r.there;
      gone = ap (λ (l : List (NameId × ℕ)). offset_in l n.name) names ∙ left_gone z.names n.name s.once;
      others = λ m d. ap (λ (l : List (NameId × ℕ)). offset_in l m) names ∙ left_else z.names n.name m d;
      top = r.top;
      root = refl;
    }

-- an offset of the longer shape is an old one, or the new one
pub extended_back : {z z' : Shape} {n : NameId} {j : ℕ} → Extended z z' n j → (m : NameId) (i : ℕ) → offset_of z' m ≡ Some i → (offset_of z m ≡ Some i) ⊎ ((m ≡ n) × (i ≡ j))
extended_back {z} {z'} {n} {j} x m i e = ⊎_elim
    (λ (f : m ≡ n). (let both : Some i ≡ Some j = sym e ∙ (ap (offset_of z') f ∙ x.here) in inr (f, cc)))
    (λ (d : m ≢ n). inl (sym (x.others m d) ∙ e)) (cases_name m n)

pub extended_keeps : {z z' : Shape} {n : NameId} {j : ℕ} → Extended z z' n j → (m : NameId) (i : ℕ) → offset_of z m ≡ Some i → offset_of z' m ≡ Some i
extended_keeps {z} {z'} {n} {j} x m i e = x.others m (λ f. let no : None ≡ Some i = sym x.was ∙ (ap (offset_of z) (sym f) ∙ e) in cc) ∙ e

pub removed_back : {z z' : Shape} {n : NameId} {j : ℕ} → Removed z z' n j → (m : NameId) (i : ℕ) → offset_of z' m ≡ Some i → (m ≢ n) × (offset_of z m ≡ Some i)
removed_back {z} {z'} {n} {j} x m i e =
    let d : m ≢ n = λ f. let no : None ≡ Some i = sym x.gone ∙ (ap (offset_of z') (sym f) ∙ e) in cc in
    (d, sym (x.others m d) ∙ e)

-- the first offset never given out, after one that is at most this
above : (offset top i : ℕ) → offset ≤ top → (i < top) ⊎ (i ≡ offset) → i < (if nat_eq offset top then top + 1 else top)
above offset top i le is = ⊎_elim
    (λ (e : offset ≡ top). let t : eqb offset top ≡ true = eq-eqb offset top e in rw t (⊎_elim (λ (lt : i < top). omega arith) (λ (f : i ≡ offset). omega arith) is))
    (λ (d : offset ≢ top). let t : eqb offset top ≡ false = ne_eqb offset top d in rw t (⊎_elim (λ (lt : i < top). lt) (λ (f : i ≡ offset). omega arith) is)) (cases_eq offset top)

pub formed_unborn : IsShape unborn_shape
formed_unborn = record { once = tt; apart = λ n m j e f. (let no : None ≡ Some j = e in absurd cc); below = λ n j e. (let no : None ≡ Some j = e in absurd cc) }

pub formed_root : (t : ℕ) → IsShape (root_shape t)
formed_root t = record { once = tt; apart = λ n m j e f. (let no : None ≡ Some j = e in absurd cc); below = λ n j e. (let no : None ≡ Some j = e in absurd cc) }

formed_added : (n : Node) (z : Shape) → n.change ≡ Add → IsShape z → IsChildOf n z → IsShape (shape_after n z)
formed_added n z e s h =
    let a = adds_of n z e h in
    let x = extends n z e h in
    let within = a.within in record {
      once = subst (λ (c : Change). StandOnce (names_after c n.name n.offset z.names)) (sym e) (added_once z.names n.name n.offset a.new s.once);
      apart = λ m q j f g. ⊎_elim
          (λ (k : offset_of z m ≡ Some j). ⊎_elim
          (λ (l : offset_of z q ≡ Some j). s.apart m q j k l)
          (λ (l : (q ≡ n.name) × (j ≡ n.offset)). absurd (a.free m (k ∙ ap (λ (i : ℕ). Some i) l.1))) (extended_back x q j g))
          (λ (k : (m ≡ n.name) × (j ≡ n.offset)). ⊎_elim
          (λ (l : offset_of z q ≡ Some j). absurd (a.free q (l ∙ ap (λ (i : ℕ). Some i) k.1)))
          (λ (l : (q ≡ n.name) × (j ≡ n.offset)). k.0 ∙ sym l.0) (extended_back x q j g)) (extended_back x m j f);
      below = λ m j f. subst (λ (t : ℕ). j < t) (sym a.top) (above n.offset z.top j within (⊎_elim (λ (k : offset_of z m ≡ Some j). inl (s.below m j k)) (λ (k : (m ≡ n.name) × (j ≡ n.offset)). inr k.1) (extended_back x m j f)));
    }

formed_removed : (n : Node) (z : Shape) → n.change ≡ Remove → IsShape z → IsChildOf n z → IsShape (shape_after n z)
formed_removed n z e s h =
    let x = removed_of n z e s h in record {
      once = subst (λ (c : Change). StandOnce (names_after c n.name n.offset z.names)) (sym e) (left_once z.names n.name s.once);
      apart = λ m q j f g. s.apart m q j (removed_back x m j f).1 (removed_back x q j g).1;
      below = λ m j f. subst (λ (t : ℕ). j < t) (sym x.top) (s.below m j (removed_back x m j f).1);
    }

pub change_cases : (c : Change) → (c ≡ Add) ⊎ (c ≡ Remove)
change_cases Add = inl refl
change_cases Remove = inr refl

-- the shape of a child is well formed where that of its parent is
pub formed_child : (n : Node) (z : Shape) → IsShape z → IsChildOf n z → IsShape (shape_after n z)
formed_child n z s h = ⊎_elim (λ (e : n.change ≡ Add). formed_added n z e s h) (λ (e : n.change ≡ Remove). formed_removed n z e s h) (change_cases n.change)
