use Rattle.std.proofs.Common.{ℕ, ◌+◌, ◌∙◌, ap, subst}
use Rattle.jo_dict.specs.inner.Stored.{Copies, fresh_words, held_words}
use Rattle.jo_dict.proofs.Copied.{copied_made}
use Rattle.jo_dict.proofs.making.block_of.Goals as goal

pub returns-clause-made : goal.returns-clause-made
returns-clause-made c z b =
    let v = c.args.pass.now.view in
    let u = c.empty_block.new.pass.view in
    let a = c.room.new.pass.view in
    let w = c.copy_words.new.pass.view in
    let done = c.copy_words.ensures in
    let size = c.element_at-size.ensures ∙ ap (λ (n : ℕ). 130 + n) c.room.ensures.room in
    let copies = subst (λ (x : ℕ × ℕ). Copies (held_words a) x.0 x.1 (fresh_words a) (fresh_words w)) (λ i. (c.used-first.ensures i, size i)) done.copies in
    copied_made v u a w c.args.elements c.in_ok-address.address z b c.requires.elements.0 c.in_ok-address.ensures.made c.room.ensures.only copies done.used done.named done.only
