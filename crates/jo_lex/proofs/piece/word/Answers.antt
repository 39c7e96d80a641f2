use Rattle.std.proofs.Common.{◌≡◌, ◌∷◌, ◌++◌, ◌≤◌, ◌<◌, length, sym, ap, ◌∙◌, arith, append_assoc}
use Rattle.std.specs.List.{take_while}
use Rattle.std.specs.Prelude.{encode_utf8}
use Rattle.std.specs.Str.{chars, encode_utf8_all}
use Rattle.jo_value.specs.declared.limits.TheConstants.{MOST_TEXT_BYTES}
use Rattle.jo_lex.specs.Characters.{is_word_part}
use Rattle.jo_lex.specs.Pieces.{word}
use Rattle.jo_lex.proofs.Texts.{word_bytes}
use Rattle.jo_lex.proofs.Literals.{limited-fits, limited-long, word_piece-is}
use Rattle.jo_lex.proofs.piece.word.Goals as goal

pub front-word-requires : goal.front-word-requires
front-word-requires c =
    let head = encode_utf8 c.args.first in
    let front = c.past-rest.ensures.suffix in
    (head ++ front.0, c.requires ∙ ap (λ t. head ++ t) front.1 ∙ sym (append_assoc head front.0 c.past-rest.result.now))

pub returns-then-word-gt-MOST_TEXT_BYTES-clause-value : goal.returns-then-word-gt-MOST_TEXT_BYTES-clause-value
returns-then-word-gt-MOST_TEXT_BYTES-clause-value c =
    let bytes = c.front-word.result.now in
    let is : bytes ≡ encode_utf8_all (c.args.first ∷ take_while is_word_part (chars c.args.after.now)) =
    word_bytes is_word_part c.args.first _ c.args.after.now c.past-rest.ensures.suffix.0 c.past-rest.result.now bytes c.utf8.after c.past-rest.utf8 c.requires c.past-rest.ensures.suffix.1 c.past-rest.ensures.rest c.front-word.ensures in
    let long : MOST_TEXT_BYTES < length bytes = omega arith in
    sym (word_piece-is c.args.first (chars c.args.after.now) bytes (chars c.past-rest.result.now) is c.past-rest.ensures.rest ∙ limited-long word bytes (chars c.past-rest.result.now) long)

pub returns-clause-value : goal.returns-clause-value
returns-clause-value c =
    let bytes = c.front-word.result.now in
    let is : bytes ≡ encode_utf8_all (c.args.first ∷ take_while is_word_part (chars c.args.after.now)) =
    word_bytes is_word_part c.args.first _ c.args.after.now c.past-rest.ensures.suffix.0 c.past-rest.result.now bytes c.utf8.after c.past-rest.utf8 c.requires c.past-rest.ensures.suffix.1 c.past-rest.ensures.rest c.front-word.ensures in
    let short : length bytes ≤ MOST_TEXT_BYTES = omega arith in
    sym (word_piece-is c.args.first (chars c.args.after.now) bytes (chars c.past-rest.result.now) is c.past-rest.ensures.rest ∙ limited-fits word bytes (chars c.past-rest.result.now) short)
