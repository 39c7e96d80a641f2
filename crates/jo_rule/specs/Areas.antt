-- The words of the table as functions of what they are words of, and a change of one of them.
use Rattle.std.specs.Prelude.{ℕ, Bool, true, false, nat_eq, ◌&&◌, if◌then◌else◌, List, slice_index}
use Rattle.jo_value.specs.declared.value.ObjId.{ObjId}
use Rattle.jo_value.specs.declared.value.Sid.{Sid}
use Rattle.jo_value.specs.Values.{is_same_object}
use Rattle.jo_rule.specs.Names.{WordName, epoch, acknowledgement, node, first_child, sibling, transition_set, write_set, cell, inline, storage, word_at, is_word}

-- whether two structures are one, by their numbers
abbrev pub is_same_structure : Sid → Sid → Bool
is_same_structure s t = nat_eq s.0 t.0

-- whether two names are the name of one word
abbrev pub is_same_word : WordName → WordName → Bool
is_same_word epoch epoch = true
is_same_word (acknowledgement p) (acknowledgement q) = nat_eq p q
is_same_word (node s) (node t) = is_same_structure s t
is_same_word (first_child s) (first_child t) = is_same_structure s t
is_same_word (sibling s) (sibling t) = is_same_structure s t
is_same_word (transition_set s) (transition_set t) = is_same_structure s t
is_same_word (write_set s) (write_set t) = is_same_structure s t
is_same_word (cell o) (cell q) = is_same_object o q
is_same_word (inline o j) (inline q k) = is_same_object o q && nat_eq j k
is_same_word (storage a) (storage b) = nat_eq a b
is_same_word _ _ = false

-- All words, by name.
abbrev pub Words : Type 0
Words = WordName → ℕ

-- the words of a table of `passes` passes; 0 for a name that is of none of its words
abbrev pub words_of : ℕ → List ℕ → Words
words_of passes ws n = if is_word passes n then slice_index ws (word_at passes n) else 0

-- the words, where one became x
abbrev pub put : Words → WordName → ℕ → Words
put w m x n = if is_same_word n m then x else w n

-- ---- the areas

-- the acknowledgement of each pass
abbrev pub acknowledgements : Words → ℕ → ℕ
acknowledgements w p = w (acknowledgement p)

-- the node word of each structure
abbrev pub nodes : Words → Sid → ℕ
nodes w s = w (node s)

-- the link of each structure to its first child
abbrev pub first_children : Words → Sid → ℕ
first_children w s = w (first_child s)

-- the link of each structure to its next sibling
abbrev pub siblings : Words → Sid → ℕ
siblings w s = w (sibling s)

-- the transition set of each structure
abbrev pub transition_sets : Words → Sid → ℕ
transition_sets w s = w (transition_set s)

-- the write set of each structure
abbrev pub write_sets : Words → Sid → ℕ
write_sets w s = w (write_set s)

-- the cell word of each object
abbrev pub cells : Words → ObjId → ℕ
cells w o = w (cell o)

-- the words beside the cell of each object
abbrev pub inline_words : Words → ObjId → ℕ → ℕ
inline_words w o j = w (inline o j)

-- the words of storage, by address
abbrev pub stored : Words → ℕ → ℕ
stored w a = w (storage a)

-- an area of numbers, where that of one became x
abbrev pub set_number : {A : Type 0} → (ℕ → A) → ℕ → A → ℕ → A
set_number f a x b = if nat_eq b a then x else f b

-- one of objects, where that of one became x
abbrev pub set_object : {A : Type 0} → (ObjId → A) → ObjId → A → ObjId → A
set_object f o x q = if is_same_object q o then x else f q

-- one of structures, where that of one became x
abbrev pub set_structure : {A : Type 0} → (Sid → A) → Sid → A → Sid → A
set_structure f s x t = if is_same_structure t s then x else f t
