use Rattle.std.proofs.Common.{◌≡◌, ◌++◌, true, sym, ap, ◌∙◌, arith, rules, append_assoc}
use Rattle.std.proofs.lemmas.Grind.{common_steps}
use Rattle.std.specs.Prelude.{encode_utf8}
use Rattle.std.specs.Str.{chars}
use Rattle.jo_lex.specs.Characters.{drop_while}
use Rattle.jo_lex.specs.inner.Classes.{test_of}
use Rattle.jo_lex.proofs.Texts.{drop_while-yes}
use Rattle.jo_lex.proofs.character.past.Goals as goal

pub loop-c-preserved : goal.loop-c-preserved
loop-c-preserved c =
    let first = c.in-Some.ensures in
    let front = c.loop-c.invariant.2.0 in
    let passes : test_of c.args.class c.in-Some.c ≡ true = grind (arith, common_steps) in (
      search rules,
      sym (ap (drop_while (test_of c.args.class)) first.0 ∙ drop_while-yes (test_of c.args.class) c.in-Some.c (chars c.in-Some.after.now) passes) ∙ c.loop-c.invariant.1,
      (front ++ encode_utf8 c.in-Some.c, c.loop-c.invariant.2.1 ∙ ap (λ t. front ++ t) first.2 ∙ sym (append_assoc front (encode_utf8 c.in-Some.c) c.in-Some.after.now)),
    )
