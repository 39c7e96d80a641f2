-- Worked cases of the definitions, each computed and named by what it shows.
use Rattle.std.proofs.Common.{◌≡◌, ℕ, pos, negsuc, true, false, [], ◌∷◌, Ok, Err, refl}
use Rattle.std.specs.Prelude.{codes, Result}
use Rattle.jo_value.specs.declared.key.KeyOutside.{KeyOutside}
use Rattle.jo_value.specs.declared.value.Key.{Key}
use Rattle.jo_value.specs.declared.value.Key.TheVariants.{Name, Index}
use Rattle.jo_value.specs.declared.value.Value.TheVariants as value
use Rattle.jo_value.specs.declared.words.cell.Kind.TheVariants as kind
use Rattle.jo_value.specs.declared.words.node.Change.TheVariants as change
use Rattle.jo_value.specs.declared.words.slot.Slot.TheVariants as slot
use Rattle.jo_value.specs.Texts.{Table}
use Rattle.jo_value.specs.Keys.{key_of_int, key_of_id}
use Rattle.jo_value.specs.Words.{slot_bits, cell_bits, node_bits, header_bits}

-- ---- keys

abbrev texts : Table
texts =
    codes "5" ∷ codes "05" ∷ codes "0" ∷ codes "1023" ∷ codes "1024" ∷ codes "4294967294" ∷ codes "4294967295" ∷ codes "" ∷ codes "+5" ∷ codes "-0" ∷ codes "x"
    ∷ codes "5x" ∷ codes "99999999999999999999" ∷ codes "00" ∷ []

abbrev index : ℕ → Result Key KeyOutside
index n = Ok (Index n)

abbrev name : ℕ → Result Key KeyOutside
name id = Ok (Name (record { 0 = id }))

abbrev outside : Result Key KeyOutside
outside = Err (record {})

digits_are_an_index : key_of_id texts 0 ≡ index 5
digits_are_an_index = refl

a_zero_in_front_makes_a_name : key_of_id texts 1 ≡ name 1
a_zero_in_front_makes_a_name = refl

zero_alone_is_an_index : key_of_id texts 2 ≡ index 0
zero_alone_is_an_index = refl

the_largest_index : key_of_id texts 3 ≡ index 1023
the_largest_index = refl

an_array_index_above_is_outside : key_of_id texts 4 ≡ outside
an_array_index_above_is_outside = refl

so_is_the_largest_array_index : key_of_id texts 5 ≡ outside
so_is_the_largest_array_index = refl

the_number_after_it_is_a_name : key_of_id texts 6 ≡ name 6
the_number_after_it_is_a_name = refl

the_empty_text_is_a_name : key_of_id texts 7 ≡ name 7
the_empty_text_is_a_name = refl

a_sign_makes_a_name : key_of_id texts 8 ≡ name 8
a_sign_makes_a_name = refl

so_does_a_minus : key_of_id texts 9 ≡ name 9
so_does_a_minus = refl

a_word_is_a_name : key_of_id texts 10 ≡ name 10
a_word_is_a_name = refl

digits_and_more_are_a_name : key_of_id texts 11 ≡ name 11
digits_and_more_are_a_name = refl

twenty_digits_are_a_name : key_of_id texts 12 ≡ name 12
twenty_digits_are_a_name = refl

two_zeros_are_a_name : key_of_id texts 13 ≡ name 13
two_zeros_are_a_name = refl

a_text_that_is_not_there_is_outside : key_of_id texts 14 ≡ outside
a_text_that_is_not_there_is_outside = refl

the_largest_index_as_a_number : key_of_int (pos 1023) ≡ index 1023
the_largest_index_as_a_number = refl

zero_as_a_number : key_of_int (pos 0) ≡ index 0
zero_as_a_number = refl

a_number_above_is_outside : key_of_int (pos 1024) ≡ outside
a_number_above_is_outside = refl

a_number_below_zero_is_outside : key_of_int (negsuc 0) ≡ outside
a_number_below_zero_is_outside = refl

-- ---- words

an_absent_slot_is_zero : slot_bits slot.Absent ≡ 0
an_absent_slot_is_zero = refl

undefined_is_its_tag : slot_bits (slot.Holds value.Undefined) ≡ 1
undefined_is_its_tag = refl

null_is_its_tag : slot_bits (slot.Holds value.Null) ≡ 2
null_is_its_tag = refl

a_false_slot : slot_bits (slot.Holds (value.Bool false)) ≡ 3
a_false_slot = refl

a_true_slot : slot_bits (slot.Holds (value.Bool true)) ≡ 11
a_true_slot = refl

-- 4 + 8 * 2^53
zero_stands_in_the_middle : slot_bits (slot.Holds (value.Int (pos 0))) ≡ 72057594037927940
zero_stands_in_the_middle = refl

-- 4 + 8
the_least_number_is_the_least_content : slot_bits (slot.Holds (value.Int (negsuc 9007199254740990))) ≡ 12
the_least_number_is_the_least_content = refl

-- 4 + 8 * (2^54 - 1)
the_largest_number_is_the_largest_content : slot_bits (slot.Holds (value.Int (pos 9007199254740991))) ≡ 144115188075855868
the_largest_number_is_the_largest_content = refl

minus_one_stands_below_zero : slot_bits (slot.Holds (value.Int (negsuc 0))) ≡ 72057594037927932
minus_one_stands_below_zero = refl

a_text_is_its_id : slot_bits (slot.Holds (value.Text (record { 0 = 65534 }))) ≡ 524277
a_text_is_its_id = refl

-- 6 + 8 * (4096 * 8 + 4095)
an_object_is_its_pass_and_serial : slot_bits (slot.Holds (value.Object (record { pass = 8; serial = 4095 }))) ≡ 294910
an_object_is_its_pass_and_serial = refl

-- 6 + 8 * (4096 * 255 + 4095)
the_largest_object : slot_bits (slot.Holds (value.Object (record { pass = 255; serial = 4095 }))) ≡ 8388606
the_largest_object = refl

-- born, and nothing else
the_shared_object_without_a_block :
    cell_bits (record { sid = record { 0 = 0 }; address = 0; owner = 0; shared_write = false; locked = false; kind = kind.Flat })
    ≡ 2251799813685248
the_shared_object_without_a_block = refl

-- kind 2, locked, owner 1
an_object_on_its_way_to_a_dictionary :
    cell_bits (record { sid = record { 0 = 0 }; address = 0; owner = 1; shared_write = false; locked = true; kind = kind.Opening })
    ≡ 2959885301972992
an_object_on_its_way_to_a_dictionary = refl

-- each field at its largest
the_largest_cell :
    cell_bits (record { sid = record { 0 = 65535 }; address = 67108863; owner = 15; shared_write = true; locked = true; kind = kind.Dictionary })
    ≡ 3377699720527871
the_largest_cell = refl

-- structure 4096, owner 1, born
a_new_object_of_pass_one :
    cell_bits (record { sid = record { 0 = 4096 }; address = 0; owner = 1; shared_write = false; locked = false; kind = kind.Flat })
    ≡ 2256197860200448
a_new_object_of_pass_one = refl

-- the shared object while each is born a dictionary: address 1 at bit 16, kind 3 at bit 48, born
a_dictionary_at_address_one :
    cell_bits (record { sid = record { 0 = 0 }; address = 1; owner = 0; shared_write = false; locked = false; kind = kind.Dictionary })
    ≡ 3096224743882752
a_dictionary_at_address_one = refl

-- bits 46 and 47 beside kind 1
a_locked_object_that_others_write :
    cell_bits (record { sid = record { 0 = 1 }; address = 0; owner = 0; shared_write = true; locked = true; kind = kind.Segmented })
    ≡ 2744381022928897
a_locked_object_that_others_write = refl

-- a root has the born bit alone
a_root_is_its_born_bit :
    node_bits (record { parent = record { 0 = 0 }; name = record { 0 = 0 }; offset = 0; top = 0; depth = 0; change = change.Add })
    ≡ 144115188075855872
a_root_is_its_born_bit = refl

a_node_that_removes :
    node_bits (record { parent = record { 0 = 2 }; name = record { 0 = 3 }; offset = 4; top = 5; depth = 6; change = change.Remove })
    ≡ 217867146712252418
a_node_that_removes = refl

the_header_of_a_new_dictionary : header_bits (record { names = 64; elements = 0 }) ≡ 64
the_header_of_a_new_dictionary = refl

the_header_of_a_dictionary_with_all_indexes : header_bits (record { names = 64; elements = 1024 }) ≡ 67108928
the_header_of_a_dictionary_with_all_indexes = refl
