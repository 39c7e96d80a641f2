-- Each word is the word of at most one value, and no word of a cell or a node is 0.
use Rattle.std.proofs.Common.{◌≡◌, ◌<◌, Bool, refl, arith, ap}
use Rattle.jo_value.specs.declared.words.cell.Cell.{Cell}
use Rattle.jo_value.specs.declared.words.cell.Kind.{Kind}
use Rattle.jo_value.specs.declared.words.header.Header.{Header}
use Rattle.jo_value.specs.declared.words.node.Node.{Node}
use Rattle.jo_value.specs.declared.words.node.Change.{Change}
use Rattle.jo_value.specs.declared.words.slot.Slot.{Slot}
use Rattle.jo_value.specs.declared.words.slot.Slot.TheVariants.{Absent, Holds}
use Rattle.jo_value.specs.declared.value.Value.{Value}
use Rattle.jo_value.specs.Values.{IsInRange}
use Rattle.jo_value.specs.Words.{IsSlot, IsTyped, IsCell, IsNode, IsHeader, bit, kind_number, change_number, tag_of, content_of, slot_bits, cell_bits, node_bits, header_bits}

same_bit : (a b : Bool) → bit a ≡ bit b → a ≡ b
same_bit a b e = grind arith

same_kind : (a b : Kind) → kind_number a ≡ kind_number b → a ≡ b
same_kind a b e = grind arith

same_change : (a b : Change) → change_number a ≡ change_number b → a ≡ b
same_change a b e = grind arith

few_kinds : (a : Kind) → kind_number a < 8
few_kinds a = grind arith

few_bits : (a : Bool) → bit a < 2
few_bits a = grind arith

few_changes : (a : Change) → change_number a < 2
few_changes a = grind arith

same_value : (a b : Value) → IsInRange a → IsInRange b → IsTyped a → IsTyped b → tag_of a ≡ tag_of b → content_of a ≡ content_of b → a ≡ b
same_value a b p q s t e f = grind arith

some_tag : (a : Value) → 0 < tag_of a
some_tag a = grind arith

few_tags : (a : Value) → tag_of a < 8
few_tags a = grind arith

pub slot_words : (a b : Slot) → IsSlot a → IsSlot b → slot_bits a ≡ slot_bits b → a ≡ b
slot_words Absent Absent p q e = refl
slot_words Absent (Holds v) p q e = absurd (omega (arith, e, some_tag v))
slot_words (Holds v) Absent p q e = absurd (omega (arith, e, some_tag v))
slot_words (Holds v) (Holds w) p q e =
    ap (λ x. Holds x) (same_value v w p.0 q.0 p.1 q.1 (omega (arith, e, few_tags v, few_tags w)) (omega (arith, e, few_tags v, few_tags w)))

pub header_words : (a b : Header) → IsHeader a → IsHeader b → header_bits a ≡ header_bits b → a ≡ b
header_words a b p q e = grind arith

pub cell_words : (a b : Cell) → IsCell a → IsCell b → cell_bits a ≡ cell_bits b → a ≡ b
cell_words a b p q e =
    let k = same_kind a.kind b.kind (omega (arith, e, p.sid, p.address, p.owner, q.sid, q.address, q.owner, few_bits a.shared_write, few_bits b.shared_write, few_bits a.locked, few_bits b.locked, few_kinds a.kind, few_kinds b.kind)) in
    let w = same_bit a.shared_write b.shared_write (omega (arith, e, p.sid, p.address, p.owner, q.sid, q.address, q.owner, few_bits a.shared_write, few_bits b.shared_write, few_bits a.locked, few_bits b.locked, few_kinds a.kind, few_kinds b.kind)) in
    let l = same_bit a.locked b.locked (omega (arith, e, p.sid, p.address, p.owner, q.sid, q.address, q.owner, few_bits a.shared_write, few_bits b.shared_write, few_bits a.locked, few_bits b.locked, few_kinds a.kind, few_kinds b.kind)) in
    grind arith

pub node_words : (a b : Node) → IsNode a → IsNode b → node_bits a ≡ node_bits b → a ≡ b
node_words a b p q e =
    let s = same_change a.change b.change (omega (arith, e, p.parent, p.name, p.offset, p.top, p.depth, q.parent, q.name, q.offset, q.top, q.depth, few_changes a.change, few_changes b.change)) in
    grind arith

pub no_cell_is_zero : (c : Cell) → 0 < cell_bits c
no_cell_is_zero c = omega arith

pub no_node_is_zero : (n : Node) → 0 < node_bits n
no_node_is_zero n = omega arith
