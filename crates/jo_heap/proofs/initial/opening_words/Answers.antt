use Rattle.std.proofs.Common.{◌≡◌, ◌∙◌, ℕ, replicate, sym, ap, subst, arith}
use Rattle.jo_heap.proofs.Begun.{AreWords, begun_before}
use Rattle.jo_heap.proofs.Begun.{zeros_are, pass_begun, shared_begun}
use Rattle.jo_heap.proofs.initial.opening_words.Goals as goal

pub loop-pass-init : goal.loop-pass-init
loop-pass-init c =
    let zeros = c.in_ok-words.ensures.items_if_clones_equal (λ y e. e) in
    subst (AreWords c.args.passes (begun_before 0)) (sym (zeros ∙ ap (λ (n : ℕ). replicate n 0) c.words_in_all.ensures)) (zeros_are c.args.passes)

pub loop-pass-preserved : goal.loop-pass-preserved
loop-pass-preserved c =
    rw (c.acknowledgement.ensures, c.node.ensures, c.root_of.ensures, c.root_word.ensures) (pass_begun c.args.passes c.loop-pass.pass c.loop-pass.words.items c.loop-pass-test.true c.loop-pass.invariant)

pub returns : goal.returns
returns c =
    let all : c.loop-pass.pass ≡ c.args.passes = (let end = c.loop-pass.auto.pass-end in let past = c.loop-pass-test.false in omega (arith, end, past)) in
    let begun = subst (λ (p : ℕ). AreWords c.args.passes (begun_before p) c.loop-pass.words.items) all c.loop-pass.invariant in
    rw (c.cell.ensures, c.shared_word.ensures, c.storage.ensures, c.header_word.ensures) (shared_begun c.args.passes c.loop-pass.words.items c.requires.0 begun)
