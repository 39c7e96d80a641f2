-- The lists of a tree, with one more at the end.
use Rattle.std.proofs.Common.{◌≡◌, List, [], ◌∷◌, ◌++◌, refl, ap, ℕ}
use Rattle.jo_parse_tree.specs.declared.word.Name.{Name}
use Rattle.jo_parse_tree.specs.declared.expr.Access.{Access}
use Rattle.jo_parse_tree.specs.declared.expr.Access.TheVariants as a
use Rattle.jo_parse_tree.specs.declared.expr.Expr.{Expr, more_of-Expr, end_of-Expr}
use Rattle.jo_parse_tree.specs.declared.expr.Link.{Link}
use Rattle.jo_parse_tree.specs.declared.expr.Prop.{Prop}
use Rattle.jo_parse_tree.specs.Trees.{Tree, no_accesses, member, chain, prop, field, index, link}
use Rattle.jo_parse_tree.specs.Views.{expr_tree, chain_tree, accesses_list, links_list, props_list}
use Rattle.jo_parse_tree.proofs.Shapes.{accesses_with-key}
use Rattle.jo_parse_grammar.specs.inner.Read.{with_field, with_index, with_link, with_prop, member_of, chain_of}

pub accesses-with-name : (xs : List Access) (n : Name) → accesses_list (xs ++ a.Name n ∷ []) ≡ with_field (accesses_list xs) n
accesses-with-name [] n = refl
accesses-with-name (a.Name k ∷ xs) n = ap (λ v. field k v) (accesses-with-name xs n)
accesses-with-name (a.Key' q (more_of-Expr e end_of-Expr) ∷ xs) n = ap (λ v. index (expr_tree e) v) (accesses-with-name xs n)

pub accesses-with-key : (xs : List Access) (e : Expr) → accesses_list (xs ++ a.Key e ∷ []) ≡ with_index (accesses_list xs) (expr_tree e)
accesses-with-key [] e = accesses_with-key no_accesses e
accesses-with-key (a.Name k ∷ xs) e = ap (λ v. field k v) (accesses-with-key xs e)
accesses-with-key (a.Key' q (more_of-Expr d end_of-Expr) ∷ xs) e = ap (λ v. index (expr_tree d) v) (accesses-with-key xs e)

pub links-with : (ls : List Link) (l : Link) → links_list (ls ++ l ∷ []) ≡ with_link (links_list ls) l.operator (chain_tree l.operand)
links-with [] l = refl
links-with (k ∷ ls) l = ap (λ v. link k.operator (chain_tree k.operand) v) (links-with ls l)

pub props-with : (ps : List Prop) (p : Prop) → props_list (ps ++ p ∷ []) ≡ with_prop (props_list ps) p.key (expr_tree p.value)
props-with [] p = refl
props-with (q ∷ ps) p = ap (λ v. prop q.key (expr_tree q.value) v) (props-with ps p)

pub member_of-some : (e : Tree) (xs : List Access) → (xs ≡ [] → ⊥) → member_of e (accesses_list xs) ≡ member e (accesses_list xs)
member_of-some e [] h = absurd (h refl)
member_of-some e (a.Name k ∷ xs) h = refl
member_of-some e (a.Key' q (more_of-Expr d end_of-Expr) ∷ xs) h = refl

pub chain_of-some : (k : ℕ) (e : Tree) (ls : List Link) → (ls ≡ [] → ⊥) → chain_of k e (links_list ls) ≡ chain k e (links_list ls)
chain_of-some k e [] h = absurd (h refl)
chain_of-some k e (l ∷ ls) h = refl
