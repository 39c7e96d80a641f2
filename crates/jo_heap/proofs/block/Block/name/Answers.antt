use Rattle.std.proofs.Common.{◌≡◌, ◌∙◌, sym, arith, subst, rules, Some, None}
use Rattle.jo_rule.specs.Areas.{words_of}
use Rattle.jo_heap.specs.inner.Values.{IsWordOf}
use Rattle.jo_heap.proofs.Written.{pair_found}
use Rattle.jo_heap.proofs.block.Block.name.Goals as goal

pub returns-in_err-value : goal.returns-in_err-value
returns-in_err-value c = λ object block.
    let w = words_of c.args.words.now.passes c.args.words.now.words in
    let p = pair_found w object c.args.self block c.args.at c.from.result c.name_at.result c.value_at.result c.stored.result c.stored-2.result c.from.ensures c.name_at.ensures c.value_at.ensures c.stored.ensures c.stored-2.ensures c.if-from-stored.false in
    let there : c.value_of.result ≡ Some p.value = c.value_of.ensures (Some p.value) (subst (IsWordOf (Some p.value)) (sym c.stored-3.ensures) p.second_is) in
    let gone : c.value_of.result ≡ None = c.in_err-value.was in absurd cc

pub returns : goal.returns
returns c = λ object block.
    let w = words_of c.args.words.now.passes c.args.words.now.words in
    let p = pair_found w object c.args.self block c.args.at c.from.result c.name_at.result c.value_at.result c.stored.result c.stored-2.result c.from.ensures c.name_at.ensures c.value_at.ensures c.stored.ensures c.stored-2.ensures c.if-from-stored.false in
    let both : Some c.in_ok-value.value ≡ Some p.value = c.in_ok-value.ensures (Some p.value) (subst (IsWordOf (Some p.value)) (sym c.stored-3.ensures) p.second_is) in
    let value : c.in_ok-value.value ≡ p.value = cc in
    let read : c.in_ok-name.name ≡ c.stored-2.result = search (rules, c.try_from.ensures, c.ok.ensures) in
    let name = read ∙ p.first_is in
    (λ i. Some (record { 0 = name i }, value i)) ∙ sym p.there
