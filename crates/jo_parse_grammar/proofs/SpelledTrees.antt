-- The trees of good tokens suit the table.
use Rattle.std.proofs.Common.{◌≤◌, ◌+◌, ℕ, List, [], ◌∷◌, ◌++◌, arith, Option, Some, None}
use Rattle.jo_value.specs.declared.limits.TheConstants.{MOST_INPUT}
use Rattle.jo_value.specs.Texts.{Table}
use Rattle.jo_lex.specs.declared.punct.Punct.TheVariants as p
use Rattle.jo_parse_tree.specs.Trees.{Tree, number, literal, constant, variable, group, object, cas, member, unary, delete, chain, choose, assign, Statement, empty, block, when, either, while, for, break, continue, print, print_names, evaluate, Props, no_props, prop, Accesses, no_accesses, field, index, Links, no_links, link, Binding, Head, declares, begins, Items, no_items, declare, perform}
use Rattle.jo_parse_grammar.specs.Expressions.{Symbol, punct, spelling, props, more_props, accesses, links}
use Rattle.jo_parse_grammar.specs.Statements.{optional, initial, binding, bindings, more_bindings, declaration, head, arguments, more_arguments, bracketed, statement, items}
use Rattle.jo_parse_grammar.specs.Sound.{Suits, SuitProps, SuitAccesses, SuitLinks, SuitsOptional, SuitAll, SuitBindings, SuitsDeclaration, SuitsHead, SuitsStatement, SuitItems}
use Rattle.jo_parse_grammar.proofs.GoodSymbols.{AreFine, named, keyed, front, back, at_head, after}
use Rattle.jo_parse_grammar.proofs.SpelledLengths.{props_few, accesses_few, links_few, bindings_few, arguments_few, items_few}

at_most : (m n : ℕ) → m ≤ n → n ≤ MOST_INPUT → m ≤ MOST_INPUT
at_most m n h k = omega (arith, h, k)

module _ (texts : Table) where
  mutual
    suits : (d : ℕ) (e : Tree) → AreFine texts (spelling d e) → Suits texts e
    suits d (number i) h = at_head texts _ _ h
    suits d (literal s) h = at_head texts _ _ h
    suits d (constant w) h = tt
    suits d (variable x) h = at_head texts _ _ h
    suits d (group e) h = suits (d + 1) e (front texts _ _ (after texts _ _ h))
    suits d (object ps comma) h =
        let h' = front texts (props (d + 1) ps) _ (after texts _ _ h) in
        (at_most _ _ (props_few (d + 1) ps) h'.few, suit_props (d + 1) ps h')
    suits d (cas o k a b) h =
        let h1 = after texts _ _ (after texts _ _ h) in
        let h2 = after texts _ _ (back texts (spelling (d + 1) o) _ h1) in
        let h3 = after texts _ _ (back texts (spelling (d + 1) k) _ h2) in
        let h4 = after texts _ _ (back texts (spelling (d + 1) a) _ h3) in
        (suits (d + 1) o (front texts _ _ h1), suits (d + 1) k (front texts _ _ h2), suits (d + 1) a (front texts _ _ h3), suits (d + 1) b (front texts _ _ h4))
    suits d (member e xs) h =
        let k = back texts (spelling d e) (accesses d xs) h in
        (suits d e (front texts _ _ h), at_most _ _ (accesses_few d xs) k.few, suit_accesses d xs k)
    suits d (unary o e) h = suits (d + 1) e (after texts _ _ h)
    suits d (delete e) h = suits (d + 1) e (after texts _ _ h)
    suits d (chain l e ls) h =
        let k = back texts (spelling d e) (links d ls) h in
        (suits d e (front texts _ _ h), at_most _ _ (links_few d ls) k.few, suit_links d ls k)
    suits d (choose a b c) h =
        let k = after texts _ _ (back texts (spelling d a) _ h) in
        (suits d a (front texts _ _ h), suits (d + 1) b (front texts _ _ k), suits (d + 1) c (after texts _ _ (back texts (spelling (d + 1) b) _ k)))
    suits d (assign o a b) h = (suits d a (front texts _ _ h), suits (d + 1) b (after texts _ _ (back texts (spelling d a) _ h)))

    suit_props : (d : ℕ) (ps : Props) → AreFine texts (props d ps) → SuitProps texts ps
    suit_props d no_props h = tt
    suit_props d (prop k e ps) h =
        let h' = after texts _ _ (after texts _ _ h) in
        (keyed texts k (at_head texts _ _ h), suits d e (front texts _ _ h'), suit_more_props d ps (back texts (spelling d e) _ h'))

    suit_more_props : (d : ℕ) (ps : Props) → AreFine texts (more_props d ps) → SuitProps texts ps
    suit_more_props d no_props h = tt
    suit_more_props d (prop k e ps) h =
        let h1 = after texts _ _ h in
        let h2 = after texts _ _ (after texts _ _ h1) in
        (keyed texts k (at_head texts _ _ h1), suits d e (front texts _ _ h2), suit_more_props d ps (back texts (spelling d e) _ h2))

    suit_accesses : (d : ℕ) (xs : Accesses) → AreFine texts (accesses d xs) → SuitAccesses texts xs
    suit_accesses d no_accesses h = tt
    suit_accesses d (field n xs) h =
        let k = after texts _ _ h in
        (named texts n (at_head texts _ _ k), suit_accesses d xs (after texts _ _ k))
    suit_accesses d (index e xs) h =
        let k = after texts _ _ h in
        (suits (d + 1) e (front texts _ _ k), suit_accesses d xs (after texts _ _ (back texts (spelling (d + 1) e) _ k)))

    suit_links : (d : ℕ) (ls : Links) → AreFine texts (links d ls) → SuitLinks texts ls
    suit_links d no_links h = tt
    suit_links d (link o e ls) h =
        let k = after texts _ _ h in
        (suits (d + 1) e (front texts _ _ k), suit_links d ls (back texts (spelling (d + 1) e) _ k))

  -- ---- parts of statements

  suits_optional : (d : ℕ) (e : Option Tree) → AreFine texts (optional d e) → SuitsOptional texts e
  suits_optional d None h = tt
  suits_optional d (Some e) h = suits d e h

  suits_initial : (d : ℕ) (e : Option Tree) → AreFine texts (initial d e) → SuitsOptional texts e
  suits_initial d None h = tt
  suits_initial d (Some e) h = suits (d + 1) e (after texts _ _ h)

  suit_all_more : (d : ℕ) (es : List Tree) → AreFine texts (more_arguments d es) → SuitAll texts es
  suit_all_more d [] h = tt
  suit_all_more d (e ∷ es) h =
      let k = after texts _ _ h in
      (suits d e (front texts _ _ k), suit_all_more d es (back texts (spelling d e) _ k))

  suit_all : (d : ℕ) (es : List Tree) → AreFine texts (arguments d es) → SuitAll texts es
  suit_all d [] h = tt
  suit_all d (e ∷ es) h = (suits d e (front texts _ _ h), suit_all_more d es (back texts (spelling d e) _ h))

  suit_more_bindings : (d : ℕ) (bs : List Binding) → AreFine texts (more_bindings d bs) → SuitBindings texts bs
  suit_more_bindings d [] h = tt
  suit_more_bindings d (b ∷ bs) h =
      let k = after texts _ _ h in
      let one = front texts (binding d b) _ k in
      (at_head texts _ _ one, suits_initial d b.1 (after texts _ _ one), suit_more_bindings d bs (back texts (binding d b) _ k))

  suit_bindings : (d : ℕ) (bs : List Binding) → AreFine texts (bindings d bs) → SuitBindings texts bs
  suit_bindings d [] h = tt
  suit_bindings d (b ∷ bs) h =
      let one = front texts (binding d b) (more_bindings d bs) h in
      (at_head texts _ _ one, suits_initial d b.1 (after texts _ _ one), suit_more_bindings d bs (back texts (binding d b) _ h))

  suits_declaration : (d : ℕ) (bs : List Binding) → AreFine texts (declaration d bs) → SuitsDeclaration texts bs
  suits_declaration d bs h =
      let k = front texts (bindings d bs) _ (after texts _ _ h) in
      (at_most _ _ (bindings_few d bs) k.few, suit_bindings d bs k)

  suits_head : (d : ℕ) (h : Head) → AreFine texts (head d h) → SuitsHead texts h
  suits_head d (declares bs) h = suits_declaration d bs h
  suits_head d (begins e) h = suits_optional d e (front texts (optional d e) _ h)

  -- what stands in round brackets
  inside : (d : ℕ) (m rest : List Symbol) → AreFine texts (bracketed d m ++ rest) → AreFine texts m
  inside d m rest h = front texts m _ (after texts _ _ (front texts (bracketed d m) rest h))

  -- ---- statements

  mutual
    suits_statement : (d : ℕ) (s : Statement) → AreFine texts (statement d s) → SuitsStatement texts s
    suits_statement d empty h = tt
    suits_statement d (block ss) h =
        let k = front texts (items (d + 1) ss) _ (after texts _ _ h) in
        (at_most _ _ (items_few (d + 1) ss) k.few, suit_items (d + 1) ss k)
    suits_statement d (when c s) h =
        let k = after texts _ _ h in
        let m = spelling (d + 1 + 1) c in
        (suits (d + 1 + 1) c (inside (d + 1) m _ k), suits_statement (d + 1) s (back texts (bracketed (d + 1) m) _ k))
    suits_statement d (either c a b) h =
        let k = after texts _ _ h in
        let m = spelling (d + 1 + 1) c in
        let l = back texts (bracketed (d + 1) m) _ k in
        (suits (d + 1 + 1) c (inside (d + 1) m _ k), suits_statement (d + 1) a (front texts (statement (d + 1) a) _ l), suits_statement (d + 1) b (after texts _ _ (back texts (statement (d + 1) a) _ l)))
    suits_statement d (while c s) h =
        let k = after texts _ _ h in
        let m = spelling (d + 1 + 1) c in
        (suits (d + 1 + 1) c (inside (d + 1) m _ k), suits_statement (d + 1) s (back texts (bracketed (d + 1) m) _ k))
    suits_statement d (for first c u s) h =
        let k = after texts _ _ h in
        let n = d + 1 + 1 in
        let m = head n first ++ (optional n c ++ punct p.Semicolon ∷ optional n u) in
        let parts = inside (d + 1) m _ k in
        let steps = back texts (head n first) _ parts in (
          suits_head n first (front texts (head n first) _ parts),
          suits_optional n c (front texts (optional n c) _ steps),
          suits_optional n u (after texts _ _ (back texts (optional n c) _ steps)),
          suits_statement (d + 1) s (back texts (bracketed (d + 1) m) _ k),
        )
    suits_statement d break h = tt
    suits_statement d continue h = tt
    suits_statement d (print es) h =
        let k = inside d (arguments (d + 1) es) _ (after texts _ _ h) in
        (at_most _ _ (arguments_few (d + 1) es) k.few, suit_all (d + 1) es k)
    suits_statement d (print_names e) h = suits (d + 1) e (inside d (spelling (d + 1) e) _ (after texts _ _ h))
    suits_statement d (evaluate e) h = suits d e (front texts (spelling d e) _ h)

    pub suit_items : (d : ℕ) (is : Items) → AreFine texts (items d is) → SuitItems texts is
    suit_items d no_items h = tt
    suit_items d (declare bs is) h = (suits_declaration d bs (front texts (declaration d bs) _ h), suit_items d is (back texts (declaration d bs) _ h))
    suit_items d (perform s is) h = (suits_statement d s (front texts (statement d s) _ h), suit_items d is (back texts (statement d s) _ h))
