use Rattle.std.proofs.Common.{◌≡◌, sym, ap, ◌∙◌, rules}
use Rattle.std.specs.Str.{chars, IsUtf8}
use Rattle.jo_lex.specs.Pieces.{piece, gap, lexeme}
use Rattle.jo_lex.specs.inner.Views.{piece_of, lexeme_of}
use Rattle.jo_lex.proofs.Reading.{next-gap, next-token}
use Rattle.jo_lex.proofs.reader.advance.Goals as goal

pub returns-in-Gap-clause-onward : goal.returns-in-Gap-clause-onward
returns-in-Gap-clause-onward c =
    let rest = c.in-Gap.rest.now in
    let utf8 : IsUtf8 rest = search rules in
    let is : piece c.args.first (chars c.args.after.now) ≡ gap (chars rest) = sym c.in_ok-rest.ensures.value ∙ ap piece_of c.in-Gap.is in
    next-gap c.args.place c.args.input.now rest c.args.tokens.now.items c.args.texts.now c.utf8.input utf8 c.args.first (chars c.args.after.now) c.requires.chars is

pub returns-in_ok-add-in-Token-clause-onward : goal.returns-in_ok-add-in-Token-clause-onward
returns-in_ok-add-in-Token-clause-onward c =
    let rest = c.in-Token.rest.now in
    let utf8 : IsUtf8 rest = search rules in
    let is : piece c.args.first (chars c.args.after.now) ≡ lexeme (lexeme_of c.in-Token.lexeme) (chars rest) = sym c.in_ok-rest.ensures.value ∙ ap piece_of c.in-Token.is in
    let added = c.in_ok-add-in-Token.ensures.ok in
    next-token c.args.place c.args.input.now rest c.args.tokens.now.items c.args.texts.now c.utf8.input utf8 c.args.first (chars c.args.after.now) c.requires.chars (lexeme_of c.in-Token.lexeme) added.0 _ _ is added.1 added.2
