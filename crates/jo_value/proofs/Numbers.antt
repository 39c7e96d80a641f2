-- The limits and capacities, stated once more, and how they hang together.
use Rattle.std.proofs.Common.{◌≡◌, ◌≤◌, ◌<◌, ◌+◌, ◌*◌, ◌^◌, [], ◌∷◌, pos, refl, arith, get_or}
use Rattle.jo_value.specs.declared.bits.TheConstants.{NUMBER_BIAS, CELL_ADDRESS, CELL_OWNER, NODE_OFFSET, NODE_TOP, NODE_DEPTH, NODE_PARENT}
use Rattle.jo_value.specs.declared.limits.TheConstants.{MOST_INPUT, MOST_SCRIPTS, DEFAULT_TURNS, MOST_TURNS, MOST_OPEN, MOST_TEXTS, MOST_TEXT_BYTES, MOST_NUMBER, MOST_INDEX, MOST_ARRAY_INDEX, MOST_LINE_BYTES, MOST_NAMES, MOST_OBJECTS, MOST_STORAGE, MOST_NEED, MOST_MADE}
use Rattle.jo_value.specs.declared.capacities.TheConstants.{MOST_PASSES, MOST_STRUCTURES, MOST_DEPTH, STRUCTURE_WORDS, OBJECT_WORDS, MOST_OFFSETS, INLINE_OFFSETS, NAME_CAPACITIES, ELEMENT_CAPACITIES, HEADER_NEED, FRAGMENT_WORDS, DICTIONARY_NAMES, DICTIONARY_NEED, SHARED_ADDRESS, SHARED_STORAGE, MOST_WORDS, STAMP_WORDS, OUT, UNSTAMPED, VALID, FIRING, FIRED, MOST_EPOCHS, MOST_FREE_RAISES, MOST_GET_LOADS, MOST_SIBLINGS, MOST_STRUCTURES_OF_CALL, CALLS_WITHIN_STRUCTURES, CALLS_WITHIN_STORAGE}

-- ---- the language and the heap

most_input : MOST_INPUT ≡ 1048576
most_input = refl

most_scripts : MOST_SCRIPTS ≡ 8
most_scripts = refl

default_turns : DEFAULT_TURNS ≡ 1000000
default_turns = refl

most_turns : MOST_TURNS ≡ 1000000000
most_turns = refl

most_open : MOST_OPEN ≡ 64
most_open = refl

most_texts : MOST_TEXTS ≡ 65535
most_texts = refl

most_text_bytes : MOST_TEXT_BYTES ≡ 255
most_text_bytes = refl

most_number : MOST_NUMBER ≡ 9007199254740991
most_number = refl

most_index : MOST_INDEX ≡ 1023
most_index = refl

most_array_index : MOST_ARRAY_INDEX ≡ 4294967294
most_array_index = refl

most_line_bytes : MOST_LINE_BYTES ≡ 262144
most_line_bytes = refl

most_names : MOST_NAMES ≡ 64
most_names = refl

most_objects : MOST_OBJECTS ≡ 4096
most_objects = refl

most_storage : MOST_STORAGE ≡ 1048576
most_storage = refl

most_need : MOST_NEED ≡ 2300
most_need = refl

most_made : MOST_MADE ≡ 999999
most_made = refl

-- ---- how objects are stored

most_passes : MOST_PASSES ≡ 9
most_passes = refl

most_structures : MOST_STRUCTURES ≡ 4096
most_structures = refl

most_depth : MOST_DEPTH ≡ 128
most_depth = refl

structure_words : STRUCTURE_WORDS ≡ 5
structure_words = refl

object_words : OBJECT_WORDS ≡ 5
object_words = refl

most_offsets : MOST_OFFSETS ≡ 64
most_offsets = refl

inline_offsets : INLINE_OFFSETS ≡ 4
inline_offsets = refl

name_capacities : NAME_CAPACITIES ≡ 0 ∷ 4 ∷ 8 ∷ 16 ∷ 32 ∷ 60 ∷ []
name_capacities = refl

element_capacities : ELEMENT_CAPACITIES ≡ 0 ∷ 4 ∷ 8 ∷ 16 ∷ 32 ∷ 64 ∷ 128 ∷ 256 ∷ 512 ∷ 1024 ∷ []
element_capacities = refl

header_need : HEADER_NEED ≡ 1
header_need = refl

fragment_words : FRAGMENT_WORDS ≡ 4
fragment_words = refl

dictionary_names : DICTIONARY_NAMES ≡ 64
dictionary_names = refl

dictionary_need : DICTIONARY_NEED ≡ 130
dictionary_need = refl

shared_address : SHARED_ADDRESS ≡ 1
shared_address = refl

shared_storage : SHARED_STORAGE ≡ 131
shared_storage = refl

most_words : MOST_WORDS ≡ 9805834
most_words = refl

stamp_words : STAMP_WORDS ≡ 262144
stamp_words = refl

out : OUT ≡ 18446744073709551615
out = refl

unstamped : UNSTAMPED ≡ 18446744073709551615
unstamped = refl

valid : VALID ≡ 0
valid = refl

firing : FIRING ≡ 1
firing = refl

fired : FIRED ≡ 2
fired = refl

most_epochs : MOST_EPOCHS ≡ 4829184
most_epochs = refl

most_free_raises : MOST_FREE_RAISES ≡ 1000
most_free_raises = refl

most_get_loads : MOST_GET_LOADS ≡ 140
most_get_loads = refl

most_siblings : MOST_SIBLINGS ≡ 64
most_siblings = refl

most_structures_of_call : MOST_STRUCTURES_OF_CALL ≡ 2
most_structures_of_call = refl

calls_within_structures : CALLS_WITHIN_STRUCTURES ≡ 2047
calls_within_structures = refl

calls_within_storage : CALLS_WITHIN_STORAGE ≡ 455
calls_within_storage = refl

-- ---- how they hang together

-- a pass for each script and one more
passes : MOST_PASSES ≡ MOST_SCRIPTS + 1
passes = refl

-- the word of the epoch, an acknowledgement for each pass, and then the structures, objects and storage of all
words :
    MOST_WORDS
    ≡ 1 + MOST_PASSES + MOST_PASSES * MOST_STRUCTURES * STRUCTURE_WORDS + MOST_PASSES * MOST_OBJECTS * OBJECT_WORDS + MOST_PASSES * MOST_STORAGE
words = refl

-- the cell and the offsets beside it
object : OBJECT_WORDS ≡ 1 + INLINE_OFFSETS
object = refl

-- an offset for each name, beside the cell and in the largest block
offsets : MOST_OFFSETS ≡ MOST_NAMES
offsets = refl

largest_block : get_or NAME_CAPACITIES 5 0 + INLINE_OFFSETS ≡ MOST_OFFSETS
largest_block = refl

-- and room for each index
all_indexes : get_or ELEMENT_CAPACITIES 9 0 ≡ MOST_INDEX + 1
all_indexes = refl

-- a stamp for each offset of each object
stamps : STAMP_WORDS ≡ MOST_OBJECTS * MOST_OFFSETS
stamps = refl

-- the header, the number of names, and a name and a value for each
dictionary : DICTIONARY_NEED ≡ HEADER_NEED + 1 + 2 * DICTIONARY_NAMES
dictionary = refl

dictionary_of_all_names : DICTIONARY_NAMES ≡ MOST_NAMES
dictionary_of_all_names = refl

-- the block of the shared object ends the storage that pass 0 uses
shared_block : SHARED_STORAGE ≡ SHARED_ADDRESS + DICTIONARY_NEED
shared_block = refl

-- two sets for each structure; one opening and MOST_DEPTH removals for each object
epochs : MOST_EPOCHS ≡ MOST_PASSES * MOST_STRUCTURES * 2 + MOST_PASSES * MOST_OBJECTS * (1 + MOST_DEPTH)
epochs = refl

-- CALLS_WITHIN_STORAGE calls fit into the storage of a pass and no more, CALLS_WITHIN_STRUCTURES into its structures
storage_of_calls : CALLS_WITHIN_STORAGE * MOST_NEED ≤ MOST_STORAGE
storage_of_calls = omega arith

storage_of_one_more : MOST_STORAGE < (CALLS_WITHIN_STORAGE + 1) * MOST_NEED
storage_of_one_more = omega arith

structures_of_calls : 1 + CALLS_WITHIN_STRUCTURES * MOST_STRUCTURES_OF_CALL < MOST_STRUCTURES
structures_of_calls = omega arith

structures_of_one_more : MOST_STRUCTURES ≤ 1 + (CALLS_WITHIN_STRUCTURES + 1) * MOST_STRUCTURES_OF_CALL
structures_of_one_more = omega arith

-- what is added to a number leaves 0 to the absent slot
bias : NUMBER_BIAS ≡ pos (MOST_NUMBER + 1)
bias = refl

-- addresses, owners, structures, offsets and depths fit into their bits
addresses : MOST_PASSES * MOST_STORAGE ≤ 2 ^ CELL_ADDRESS.width
addresses = omega arith

owners : MOST_PASSES ≤ 2 ^ CELL_OWNER.width
owners = omega arith

structures : MOST_PASSES * MOST_STRUCTURES ≤ 2 ^ NODE_PARENT.width
structures = omega arith

offsets_fit : MOST_OFFSETS ≤ 2 ^ NODE_OFFSET.width
offsets_fit = omega arith

tops_fit : MOST_OFFSETS < 2 ^ NODE_TOP.width
tops_fit = omega arith

depths_fit : MOST_DEPTH < 2 ^ NODE_DEPTH.width
depths_fit = omega arith
