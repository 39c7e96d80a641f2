use Rattle.std.proofs.Common.{◌/◌, ◌^◌, ◌-◌, bit_and, ap, ◌∙◌}
use Rattle.std.proofs.lemmas.Nat.{and_mask, one_shl, mod_below, pow_pos}
use Rattle.jo_value.proofs.bits.Bits.of.Goals as goal

pub returns-clause-value : goal.returns-clause-value
returns-clause-value c =
    let bits = c.args.word / 2 ^ c.args.self.place in
    ap (λ n. bit_and bits (n - 1)) (one_shl c.args.self.width 64 c.requires.1) ∙ and_mask bits c.args.self.width

pub returns-clause-fits : goal.returns-clause-fits
returns-clause-fits c =
    rw (returns-clause-value c) (mod_below (c.args.word / 2 ^ c.args.self.place) (2 ^ c.args.self.width) (pow_pos c.args.self.width))
