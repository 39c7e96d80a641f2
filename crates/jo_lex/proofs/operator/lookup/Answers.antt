use Rattle.std.proofs.Common.{◌≡◌, ◌≤◌, ◌<◌, ◌∷◌, [], true, length, drop, None, slice_index_or, refl, sym, ap, ◌∙◌, arith}
use Rattle.std.specs.Str.{chars}
use Rattle.jo_lex.specs.Punctuators.{longest}
use Rattle.jo_lex.specs.inner.Views.{entries_of, is_falling}
use Rattle.jo_lex.proofs.Punctuation.{entries_head, falling_parts, longest-first}
use Rattle.jo_lex.proofs.operator.lookup.Goals as goal

pub returns-in-Some : goal.returns-in-Some
returns-in-Some c =
    let rows = c.loop-table.table.now in
    let cs = chars c.args.input.now in
    let row = slice_index_or rows 0 (record { ref_ptr = (0, 0); now = [] }, None) in
    let some : 1 ≤ length rows = omega arith in
    let head = entries_head rows (record { ref_ptr = (0, 0); now = [] }, None) some in
    let n = c.loop-table.invariant.0.0 in
    let falls : is_falling n ((row.0.now, row.1) ∷ entries_of (drop 1 rows)) ≡ true = sym (ap (is_falling n) head) ∙ c.loop-table.invariant.0.1 in
    let parts = falling_parts n (row.0.now, row.1) (entries_of (drop 1 rows)) falls in
    let found = c.in-Some.ensures in
    let shorter : length c.in-Some.left.now < length c.args.input.now = omega (arith, parts.1, found.2) in
    ((row.0.now, row.1), sym c.loop-table.invariant.1 ∙ ap (λ t. longest t cs) head ∙ longest-first n (row.0.now, row.1) (entries_of (drop 1 rows)) cs falls found.0, refl, found.1, shorter)
