-- The faults of a script come in order of place, where the places of the identifiers among its terminals rise.
use Rattle.std.proofs.Common.{subst, append_assoc}
use Rattle.std.specs.Prelude.{ℕ, ◌+◌, List, [], ◌∷◌, ◌++◌, Option, Some, None}
use Rattle.jo_parse_tree.specs.declared.word.Ident.{Ident}
use Rattle.jo_parse_tree.specs.Trees.{Tree, number, literal, constant, variable, group, object, cas, member, unary, delete, chain, choose, assign, Props, no_props, prop, Accesses, no_accesses, field, index, Links, no_links, link, Binding, Head, declares, begins, Statement, empty, block, when, either, while, for, break, continue, print, print_names, evaluate, Items, no_items, declare, perform}
use Rattle.jo_parse_grammar.specs.declared.terminal.Terminal.{Terminal}
use Rattle.jo_parse_grammar.specs.declared.terminal.Terminal.TheVariants as t
use Rattle.jo_parse_grammar.specs.Expressions.{Symbol, spelling, props, more_props, accesses, links}
use Rattle.jo_parse_grammar.specs.Statements.{optional, initial, more_bindings, bindings, declaration, head, more_arguments, arguments, statement, items}
use Rattle.jo_parse_grammar.specs.Declarations.{uses_of, uses_of_props, uses_of_accesses, uses_of_links, uses_of_optional, uses_of_all, faults}
use Rattle.jo_parse_grammar.proofs.Order.{identifiers_of_bindings, identifiers_of_head, identifiers_of, identifiers_of_items, IsAbove, Rise, places_of, places_at_fault, faults_rise}

-- ---- the identifiers among terminals

abbrev with_place : Terminal → List ℕ → List ℕ
with_place (t.Ident x) places = x.place ∷ places
with_place _ places = places

-- the places of the identifiers among these terminals, of the names of properties too
abbrev pub places_among : List Symbol → List ℕ
places_among [] = []
places_among (m ∷ ms) = with_place m.0 (places_among ms)

-- the identifiers stand among the terminals, in their order
data Written : List Ident → List Symbol → Type 0 where
  at_end : Written [] []
  passed : {m : Symbol} {xs : List Ident} {ms : List Symbol} → Written xs ms → Written xs (m ∷ ms)
  here : {x : Ident} {n : ℕ} {xs : List Ident} {ms : List Symbol} → Written xs ms → Written (x ∷ xs) ((t.Ident x, n) ∷ ms)

joined : {xs ys : List Ident} {ms ns : List Symbol} → Written xs ms → Written ys ns → Written (xs ++ ys) (ms ++ ns)
joined at_end k = k
joined (passed h) k = passed (joined h k)
joined (here h) k = here (joined h k)

none_in : (ms : List Symbol) → Written [] ms
none_in [] = at_end
none_in (m ∷ ms) = passed (none_in ms)

followed : {xs : List Ident} {ms : List Symbol} → Written xs ms → (ns : List Symbol) → Written xs (ms ++ ns)
followed at_end ns = none_in ns
followed (passed h) ns = passed (followed h ns)
followed (here h) ns = here (followed h ns)

above_rest : (place : ℕ) (c : Terminal) (places : List ℕ) → IsAbove place (with_place c places) → IsAbove place places
above_rest place (t.Ident x) places a = a.1
above_rest place _ places a = a

above : {xs : List Ident} {ms : List Symbol} (place : ℕ) → Written xs ms → IsAbove place (places_among ms) → IsAbove place (places_of xs)
above place at_end a = tt
above place (passed {m = m} {ms = ms} h) a = above place h (above_rest place m.0 (places_among ms) a)
above place (here h) a = (a.0, above place h a.1)

rest_rises : (c : Terminal) (places : List ℕ) → Rise (with_place c places) → Rise places
rest_rises (t.Ident x) places r = r.1
rest_rises _ places r = r

rise : {xs : List Ident} {ms : List Symbol} → Written xs ms → Rise (places_among ms) → Rise (places_of xs)
rise at_end r = tt
rise (passed {m = m} {ms = ms} h) r = rise h (rest_rises m.0 (places_among ms) r)
rise (here {x = x} h) r = (above x.place h r.0, rise h r.1)

-- ---- expressions

mutual
  uses_written : (d : ℕ) (e : Tree) → Written (uses_of e) (spelling d e)
  uses_written d (number i) = none_in _
  uses_written d (literal s) = none_in _
  uses_written d (constant w) = none_in _
  uses_written d (variable x) = here at_end
  uses_written d (group e) = passed (followed (uses_written (d + 1) e) _)
  uses_written d (object ps comma) = passed (followed (props_written (d + 1) ps) _)
  uses_written d (cas o k a b) =
      passed (passed (joined (uses_written (d + 1) o) (passed (joined (uses_written (d + 1) k) (passed (joined (uses_written (d + 1) a) (passed (followed (uses_written (d + 1) b) _))))))))
  uses_written d (member e xs) = joined (uses_written d e) (accesses_written d xs)
  uses_written d (unary o e) = passed (uses_written (d + 1) e)
  uses_written d (delete e) = passed (uses_written (d + 1) e)
  uses_written d (chain k e ls) = joined (uses_written d e) (links_written d ls)
  uses_written d (choose a b c) = joined (uses_written d a) (passed (joined (uses_written (d + 1) b) (passed (uses_written (d + 1) c))))
  uses_written d (assign o a b) = joined (uses_written d a) (passed (uses_written (d + 1) b))

  props_written : (d : ℕ) (ps : Props) → Written (uses_of_props ps) (props d ps)
  props_written d no_props = at_end
  props_written d (prop k e ps) = passed (passed (joined (uses_written d e) (more_props_written d ps)))

  more_props_written : (d : ℕ) (ps : Props) → Written (uses_of_props ps) (more_props d ps)
  more_props_written d no_props = at_end
  more_props_written d (prop k e ps) = passed (passed (passed (joined (uses_written d e) (more_props_written d ps))))

  accesses_written : (d : ℕ) (xs : Accesses) → Written (uses_of_accesses xs) (accesses d xs)
  accesses_written d no_accesses = at_end
  accesses_written d (field n xs) = passed (passed (accesses_written d xs))
  accesses_written d (index e xs) = passed (joined (uses_written (d + 1) e) (passed (accesses_written d xs)))

  links_written : (d : ℕ) (ls : Links) → Written (uses_of_links ls) (links d ls)
  links_written d no_links = at_end
  links_written d (link o e ls) = passed (joined (uses_written (d + 1) e) (links_written d ls))

optional_written : (d : ℕ) (e : Option Tree) → Written (uses_of_optional e) (optional d e)
optional_written d None = at_end
optional_written d (Some e) = uses_written d e

initial_written : (d : ℕ) (e : Option Tree) → Written (uses_of_optional e) (initial d e)
initial_written d None = at_end
initial_written d (Some e) = passed (uses_written (d + 1) e)

more_arguments_written : (d : ℕ) (es : List Tree) → Written (uses_of_all es) (more_arguments d es)
more_arguments_written d [] = at_end
more_arguments_written d (e ∷ es) = passed (joined (uses_written d e) (more_arguments_written d es))

arguments_written : (d : ℕ) (es : List Tree) → Written (uses_of_all es) (arguments d es)
arguments_written d [] = at_end
arguments_written d (e ∷ es) = joined (uses_written d e) (more_arguments_written d es)

-- ---- statements

more_bindings_written : (d : ℕ) (bs : List Binding) → Written (identifiers_of_bindings bs) (more_bindings d bs)
more_bindings_written d [] = at_end
more_bindings_written d (b ∷ bs) = passed (here (joined (initial_written d b.1) (more_bindings_written d bs)))

bindings_written : (d : ℕ) (bs : List Binding) → Written (identifiers_of_bindings bs) (bindings d bs)
bindings_written d [] = at_end
bindings_written d (b ∷ bs) = here (joined (initial_written d b.1) (more_bindings_written d bs))

declaration_written : (d : ℕ) (bs : List Binding) → Written (identifiers_of_bindings bs) (declaration d bs)
declaration_written d bs = passed (followed (bindings_written d bs) _)

head_written : (d : ℕ) (h : Head) → Written (identifiers_of_head h) (head d h)
head_written d (declares bs) = declaration_written d bs
head_written d (begins e) = followed (optional_written d e) _

regrouped : (xs ys zs : List Ident) {ms : List Symbol} → Written ((xs ++ ys) ++ zs) ms → Written (xs ++ (ys ++ zs)) ms
regrouped xs ys zs {ms = ms} h = subst (λ all. Written all ms) (append_assoc xs ys zs) h

mutual
  statement_written : (d : ℕ) (s : Statement) → Written (identifiers_of s) (statement d s)
  statement_written d empty = none_in _
  statement_written d (block ss) = passed (followed (items_written (d + 1) ss) _)
  statement_written d (when c s) = passed (passed (joined (followed (uses_written (d + 1 + 1) c) _) (statement_written (d + 1) s)))
  statement_written d (either c a b) =
      passed (passed (joined (followed (uses_written (d + 1 + 1) c) _) (joined (statement_written (d + 1) a) (passed (statement_written (d + 1) b)))))
  statement_written d (while c s) = passed (passed (joined (followed (uses_written (d + 1 + 1) c) _) (statement_written (d + 1) s)))
  statement_written d (for h c u s) =
      regrouped (identifiers_of_head h) (uses_of_optional c ++ uses_of_optional u) (identifiers_of s) (passed (passed (joined (followed (joined (head_written (d + 1 + 1) h) (joined (optional_written (d + 1 + 1) c) (passed (optional_written (d + 1 + 1) u)))) _) (statement_written (d + 1) s))))
  statement_written d break = none_in _
  statement_written d continue = none_in _
  statement_written d (print es) = passed (passed (followed (followed (arguments_written (d + 1) es) _) _))
  statement_written d (print_names e) = passed (passed (followed (followed (uses_written (d + 1) e) _) _))
  statement_written d (evaluate e) = followed (uses_written d e) _

  items_written : (d : ℕ) (is : Items) → Written (identifiers_of_items is) (items d is)
  items_written d no_items = at_end
  items_written d (declare bs is) = joined (declaration_written d bs) (items_written d is)
  items_written d (perform s is) = joined (statement_written d s) (items_written d is)

-- where the places of identifiers rise from terminal to terminal, the faults come in order of place
pub faults_rise_with_tokens : (script : Items) → Rise (places_among (items 0 script)) → Rise (places_at_fault (faults script))
faults_rise_with_tokens script r = faults_rise script (rise (items_written 0 script) r)
