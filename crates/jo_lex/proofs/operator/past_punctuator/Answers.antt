use Rattle.std.proofs.Common.{◌≡◌, ◌++◌, ◌&&◌, true, false, sym, ap, ◌∙◌, arith}
use Rattle.std.proofs.lemmas.Grind.{common_steps}
use Rattle.std.specs.Prelude.{codes}
use Rattle.std.specs.Str.{bytes_eq, chars}
use Rattle.jo_lex.specs.Characters.{begins_with}
use Rattle.jo_value.specs.Texts.{is_digit}
use Rattle.jo_lex.proofs.Punctuation.{starts-yes, drop-front, fits-front, fits-nowhere}
use Rattle.jo_lex.proofs.operator.past_punctuator.Goals as goal

pub returns-in-Some : goal.returns-in-Some
returns-in-Some c =
    let p = c.args.punctuator.now in
    let rest = c.in-Some.rest.now in
    let found = c.in-Some.ensures.cases in
    let split = starts-yes p c.args.input.now rest c.requires (found.1.1 ∙ ap (λ t. p ++ t) (sym found.2)) in
    let barred : (bytes_eq p (codes "?.") && begins_with is_digit (chars rest)) ≡ true = grind (arith, common_steps) in
    fits-front p (chars c.args.input.now) (chars rest) true split barred

pub returns-in-Some-2 : goal.returns-in-Some-2
returns-in-Some-2 c =
    let p = c.args.punctuator.now in
    let rest = c.in-Some.rest.now in
    let found = c.in-Some.ensures.cases in
    let split = starts-yes p c.args.input.now rest c.requires (found.1.1 ∙ ap (λ t. p ++ t) (sym found.2)) in
    let barred : (bytes_eq p (codes "?.") && begins_with is_digit (chars rest)) ≡ false = grind (arith, common_steps) in
    (fits-front p (chars c.args.input.now) (chars rest) false split barred, sym (drop-front p (chars c.args.input.now) (chars rest) split), omega arith)

pub returns-in-None : goal.returns-in-None
returns-in-None c = fits-nowhere c.args.punctuator.now c.args.input.now c.requires c.utf8.input c.in-None.ensures.cases
