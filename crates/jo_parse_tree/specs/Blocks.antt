-- Which names a block declares. A name stands as the id of its text.
use Rattle.std.specs.Prelude.{ℕ, List, [], ◌∷◌, ◌++◌}
use Rattle.jo_parse_tree.specs.Trees.{Binding, Head, declares, begins, Items, no_items, declare, perform}

abbrev pub names_of : List Binding → List ℕ
names_of [] = []
names_of (b ∷ bindings) = b.0.text.0 ∷ names_of bindings

-- the names that a block declares itself, anywhere, and so not those of the blocks in it
abbrev pub declared_in : Items → List ℕ
declared_in no_items = []
declared_in (declare bindings items) = names_of bindings ++ declared_in items
declared_in (perform statement items) = declared_in items

-- those that the head of a `for` declares
abbrev pub declared_by : Head → List ℕ
declared_by (declares bindings) = names_of bindings
declared_by (begins e) = []
