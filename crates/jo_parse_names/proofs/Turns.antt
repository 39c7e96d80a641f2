-- What is answered to the faults of the uses of parts that follow one another.
use Rattle.std.proofs.Common.{◌≡◌, ◌<◌, ℕ, ◌+◌, List, [], ◌∷◌, ◌++◌, Result, Ok, Err, refl, ap, sym, ◌∙◌, arith, drop, length, get_or, append-nil, add-one, suc}
use Rattle.std.proofs.Math.Seq.{drop-cons}
use Rattle.jo_lex.specs.declared.refusal.Refusal.{Refusal}
use Rattle.jo_parse_tree.specs.declared.word.Ident.{Ident}
use Rattle.jo_parse_tree.specs.declared.expr.Expr.{Expr, more_of-Expr, end_of-Expr}
use Rattle.jo_parse_tree.specs.declared.expr.Access.{Access}
use Rattle.jo_parse_tree.specs.declared.expr.Binary.{Binary, out-Binary, roll-out-Binary}
use Rattle.jo_parse_tree.specs.declared.expr.Link.{Link}
use Rattle.jo_parse_tree.specs.declared.expr.Object.{Object, out-Object, roll-out-Object}
use Rattle.jo_parse_tree.specs.declared.expr.Prop.{Prop}
use Rattle.jo_parse_tree.specs.declared.expr.Access.TheVariants as a
use Rattle.jo_parse_tree.specs.declared.expr.Chain.TheVariants as h
use Rattle.jo_parse_tree.specs.Trees.{chain, object, no_accesses}
use Rattle.jo_parse_tree.specs.Views.{expr_tree, chain_tree, object_tree, links_list, props_list, accesses_list, accesses_with}
use Rattle.jo_parse_tree.specs.ScriptViews.{trees_list}
use Rattle.jo_parse_grammar.specs.Declarations.{Scope, Found, faults_of_uses, uses_of, uses_of_accesses, uses_of_all, uses_of_links, uses_of_props}
use Rattle.jo_parse_names.specs.inner.Blocks.{answer_to, and_then}
use Rattle.jo_parse_tree.proofs.Shapes.{shapes, chain_tree-binary, object_tree-of}

-- ---- answers

pub answer_to-append : (faults others : List Found) → answer_to (faults ++ others) ≡ and_then (answer_to faults) (answer_to others)
answer_to-append [] others = refl
answer_to-append (found ∷ faults) others = refl

pub faults_of_uses-append : (scopes : List Scope) (uses others : List Ident) → faults_of_uses scopes (uses ++ others) ≡ faults_of_uses scopes uses ++ faults_of_uses scopes others
faults_of_uses-append scopes [] others = refl
faults_of_uses-append scopes (x ∷ uses) others = grind (arith, faults_of_uses-append scopes uses others)

both : (scopes : List Scope) (uses others : List Ident) → answer_to (faults_of_uses scopes (uses ++ others)) ≡ and_then (answer_to (faults_of_uses scopes uses)) (answer_to (faults_of_uses scopes others))
both scopes uses others = ap answer_to (faults_of_uses-append scopes uses others) ∙ answer_to-append (faults_of_uses scopes uses) (faults_of_uses scopes others)

-- ---- records of the code, opened

pub chain_tree-out : (b : Binary) → chain_tree (h.Binary b) ≡ chain (out-Binary b).level (chain_tree (out-Binary b).first) (links_list (out-Binary b).links)
chain_tree-out b = ap (λ v. chain_tree (h.Binary v)) (sym (roll-out-Binary b)) ∙ chain_tree-binary (out-Binary b).level (out-Binary b).first (out-Binary b).links

pub object_tree-out : (o : Object) → object_tree o ≡ object (props_list (out-Object o).props) (out-Object o).has_comma
object_tree-out o = ap (λ v. object_tree v) (sym (roll-out-Object o)) ∙ object_tree-of (out-Object o).props (out-Object o).has_comma

pub uses_of-access : (x : Access) (xs : List Access) → uses_of_accesses (accesses_list (x ∷ xs)) ≡ uses_of_accesses (accesses_with no_accesses x) ++ uses_of_accesses (accesses_list xs)
uses_of-access (a.Name k) xs = refl
uses_of-access (a.Key' q (more_of-Expr v end_of-Expr)) xs = ap (λ uses. uses ++ uses_of_accesses (accesses_list xs)) (sym (append-nil (uses_of (expr_tree v))))

-- ---- one more element

pub drop-at : {X : Type 0} (xs : List X) (i : ℕ) (x : X) → i < length xs → x ≡ get_or xs i x → drop i xs ≡ x ∷ drop (i + 1) xs
drop-at xs i x below is = drop-cons xs i x below ∙ (ap (λ v. v ∷ drop (suc i) xs) (sym is) ∙ ap (λ k. x ∷ drop k xs) (sym (add-one i)))

module _ (scopes : List Scope) where
  pub links-turn : (links : List Link) (i : ℕ) (link : Link) → i < length links → link ≡ get_or links i link
      → answer_to (faults_of_uses scopes (uses_of_links (links_list (drop i links))))
      ≡ and_then (answer_to (faults_of_uses scopes (uses_of (chain_tree link.operand)))) (answer_to (faults_of_uses scopes (uses_of_links (links_list (drop (i + 1) links)))))
  links-turn links i link below is =
      ap (λ v. answer_to (faults_of_uses scopes (uses_of_links (links_list v)))) (drop-at links i link below is)
      ∙ both scopes (uses_of (chain_tree link.operand)) (uses_of_links (links_list (drop (i + 1) links)))

  pub props-turn : (props : List Prop) (i : ℕ) (prop : Prop) → i < length props → prop ≡ get_or props i prop
      → answer_to (faults_of_uses scopes (uses_of_props (props_list (drop i props))))
      ≡ and_then (answer_to (faults_of_uses scopes (uses_of (expr_tree prop.value)))) (answer_to (faults_of_uses scopes (uses_of_props (props_list (drop (i + 1) props)))))
  props-turn props i prop below is =
      ap (λ v. answer_to (faults_of_uses scopes (uses_of_props (props_list v)))) (drop-at props i prop below is)
      ∙ both scopes (uses_of (expr_tree prop.value)) (uses_of_props (props_list (drop (i + 1) props)))

  pub accesses-turn : (accesses : List Access) (i : ℕ) (access : Access) → i < length accesses → access ≡ get_or accesses i access
      → answer_to (faults_of_uses scopes (uses_of_accesses (accesses_list (drop i accesses))))
      ≡ and_then (answer_to (faults_of_uses scopes (uses_of_accesses (accesses_with no_accesses access)))) (answer_to (faults_of_uses scopes (uses_of_accesses (accesses_list (drop (i + 1) accesses)))))
  accesses-turn accesses i access below is =
      ap (λ v. answer_to (faults_of_uses scopes (uses_of_accesses (accesses_list v)))) (drop-at accesses i access below is)
      ∙ (ap (λ v. answer_to (faults_of_uses scopes v)) (uses_of-access access (drop (i + 1) accesses))
      ∙ both scopes (uses_of_accesses (accesses_with no_accesses access)) (uses_of_accesses (accesses_list (drop (i + 1) accesses))))

  pub exprs-turn : (exprs : List Expr) (i : ℕ) (expr : Expr) → i < length exprs → expr ≡ get_or exprs i expr
      → answer_to (faults_of_uses scopes (uses_of_all (trees_list (drop i exprs))))
      ≡ and_then (answer_to (faults_of_uses scopes (uses_of (expr_tree expr)))) (answer_to (faults_of_uses scopes (uses_of_all (trees_list (drop (i + 1) exprs)))))
  exprs-turn exprs i expr below is =
      ap (λ v. answer_to (faults_of_uses scopes (uses_of_all (trees_list v)))) (drop-at exprs i expr below is)
      ∙ both scopes (uses_of (expr_tree expr)) (uses_of_all (trees_list (drop (i + 1) exprs)))

pub after_ok : {whole first : Result (Unit {0}) Refusal} {x : Unit {0}} (rest : Result (Unit {0}) Refusal) → whole ≡ and_then first rest → first ≡ Ok x → whole ≡ rest
after_ok rest e ok = e ∙ ap (λ v. and_then v rest) ok

pub after_err : {whole first : Result (Unit {0}) Refusal} {x : Refusal} (rest : Result (Unit {0}) Refusal) → whole ≡ and_then first rest → first ≡ Err x → whole ≡ Err x
after_err rest e err = e ∙ ap (λ v. and_then v rest) err

pub ruleset uses = (shapes, answer_to-append, faults_of_uses-append, chain_tree-out, object_tree-out, append-nil)
