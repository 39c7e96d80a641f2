use Rattle.std.proofs.Common.{◌≡◌, ◌≤◌, ◌<◌, ◌+◌, ◌-◌, suc, [], ◌∷◌, ◌++◌, length, ap, ◌∙◌, arith, rules}
use Rattle.std.proofs.lemmas.Grind.{common_steps}
use Rattle.std.proofs.lemmas.List.{nil_from_length}
use Rattle.std.proofs.lemmas.Str.{chars-nil}
use Rattle.std.specs.Str.{chars}
use Rattle.jo_lex.specs.Characters.{size}
use Rattle.jo_lex.specs.inner.Steps.{at}
use Rattle.jo_lex.specs.Tokens.{start, end_token}
use Rattle.jo_lex.proofs.Reading.{size-chars, reached-start, reached-more, fails, reads}
use Rattle.jo_lex.proofs.reader.tokens.Goals as goal

pub loop-first-init : goal.loop-first-init
loop-first-init c = (search rules, (0, reached-start c.args.base c.args.input.now c.new-tokens.result.items c.args.texts.now c.new-tokens.ensures.items, omega arith))

pub loop-first-preserved : goal.loop-first-preserved
loop-first-preserved c =
    let n = c.loop-first.invariant.1.0 in
    let left = c.in_ok-rest.rest.now in
    let below : length left < length c.loop-first.rest.now = search rules in
    let within : length c.loop-first.rest.now ≤ length c.args.input.now = omega arith in (
      search rules,
      (
        suc n,
        reached-more n c.args.base c.args.input.now c.loop-first.rest.now left _ _ _ _ _ c.loop-first.invariant.1.1 c.in_ok-rest.ensures.onward below within,
        omega arith,
      ),
    )

pub returns-in_err-rest-clause-err : goal.returns-in_err-rest-clause-err
returns-in_err-rest-clause-err c =
    let s = start c.args.base c.args.texts.now (chars c.args.input.now) in
    let n = c.loop-first.invariant.1.0 in
    let whole : size s.rest ≡ length c.args.input.now = size-chars c.args.input.now c.utf8.input in
    let le : n ≤ size s.rest = omega arith in
    let failed = fails n s (at (c.args.base + (length c.args.input.now - length c.loop-first.rest.now)) c.loop-first.rest.now c.loop-first.tokens.items c.loop-first.texts) c.in_err-rest.field-0.0 c.advance.new.texts le c.loop-first.invariant.1.1 c.in_err-rest.ensures.err (search rules) in
    search rules

pub returns-clause-ok : goal.returns-clause-ok
returns-clause-ok c =
    let s = start c.args.base c.args.texts.now (chars c.args.input.now) in
    let n = c.loop-first.invariant.1.0 in
    let whole : size s.rest ≡ length c.args.input.now = size-chars c.args.input.now c.utf8.input in
    let le : n ≤ size s.rest = omega arith in
    let rest = c.loop-first.rest.now in
    let short : length rest ≡ 0 = search rules in
    let none : chars rest ≡ [] = ap chars (nil_from_length rest short) ∙ chars-nil in
    let place : c.args.base + length c.args.input.now ≡ c.args.base + (length c.args.input.now - length rest) = omega arith in
    let pushed : c.push_reserved.new.self.items ≡ c.loop-first.tokens.items ++ end_token (c.args.base + length c.args.input.now) ∷ [] = grind (arith, common_steps) in
    reads n s (at (c.args.base + (length c.args.input.now - length rest)) rest c.loop-first.tokens.items c.loop-first.texts) c.push_reserved.new.self.items c.loop-first.texts le c.loop-first.invariant.1.1 none
    (pushed ∙ ap (λ p. c.loop-first.tokens.items ++ end_token p ∷ []) place) (search rules)
