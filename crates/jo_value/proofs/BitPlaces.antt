-- Where the parts of a word stand in it, and the numbers that stand there, stated once more.
use Rattle.std.proofs.Common.{◌≡◌, ℕ, pos, refl}
use Rattle.jo_value.specs.declared.bits.Bits.{Bits}
use Rattle.jo_value.specs.declared.bits.TheConstants.{TAG, CONTENT, UNDEFINED_TAG, NULL_TAG, BOOL_TAG, INT_TAG, TEXT_TAG, OBJECT_TAG, NUMBER_BIAS, CELL_SID, CELL_ADDRESS, CELL_OWNER, CELL_SHARED_WRITE, CELL_LOCKED, CELL_KIND, FLAT_KIND, SEGMENTED_KIND, OPENING_KIND, DICTIONARY_KIND, CELL_BORN, NODE_PARENT, NODE_NAME, NODE_OFFSET, NODE_TOP, NODE_DEPTH, NODE_CHANGE, NODE_BORN, HEADER_NAMES, HEADER_ELEMENTS}

-- `width` bits from this place on
abbrev bits : ℕ → ℕ → Bits
bits place width = record { place = place; width = width }

tag : TAG ≡ bits 0 3
tag = refl

content : CONTENT ≡ bits 3 61
content = refl

undefined_tag : UNDEFINED_TAG ≡ 1
undefined_tag = refl

null_tag : NULL_TAG ≡ 2
null_tag = refl

bool_tag : BOOL_TAG ≡ 3
bool_tag = refl

int_tag : INT_TAG ≡ 4
int_tag = refl

text_tag : TEXT_TAG ≡ 5
text_tag = refl

object_tag : OBJECT_TAG ≡ 6
object_tag = refl

number_bias : NUMBER_BIAS ≡ pos 9007199254740992
number_bias = refl

cell_sid : CELL_SID ≡ bits 0 16
cell_sid = refl

cell_address : CELL_ADDRESS ≡ bits 16 26
cell_address = refl

cell_owner : CELL_OWNER ≡ bits 42 4
cell_owner = refl

cell_shared_write : CELL_SHARED_WRITE ≡ bits 46 1
cell_shared_write = refl

cell_locked : CELL_LOCKED ≡ bits 47 1
cell_locked = refl

cell_kind : CELL_KIND ≡ bits 48 3
cell_kind = refl

flat_kind : FLAT_KIND ≡ 0
flat_kind = refl

segmented_kind : SEGMENTED_KIND ≡ 1
segmented_kind = refl

opening_kind : OPENING_KIND ≡ 2
opening_kind = refl

dictionary_kind : DICTIONARY_KIND ≡ 3
dictionary_kind = refl

cell_born : CELL_BORN ≡ bits 51 1
cell_born = refl

node_parent : NODE_PARENT ≡ bits 0 16
node_parent = refl

node_name : NODE_NAME ≡ bits 16 16
node_name = refl

node_offset : NODE_OFFSET ≡ bits 32 8
node_offset = refl

node_top : NODE_TOP ≡ bits 40 8
node_top = refl

node_depth : NODE_DEPTH ≡ bits 48 8
node_depth = refl

node_change : NODE_CHANGE ≡ bits 56 1
node_change = refl

node_born : NODE_BORN ≡ bits 57 1
node_born = refl

header_names : HEADER_NAMES ≡ bits 0 16
header_names = refl

header_elements : HEADER_ELEMENTS ≡ bits 16 16
header_elements = refl
