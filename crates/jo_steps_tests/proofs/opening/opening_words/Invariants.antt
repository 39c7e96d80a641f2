use Rattle.std.proofs.Common.{◌≡◌, ℕ, ◌<◌, slice_index, vec_len}
use Rattle.jo_rule.specs.Names.{word_numbered}
use Rattle.jo_rule.specs.Opening.{opening_word}
use Rattle.jo_steps_tests.proofs.opening.opening_words.Given as goal

abbrev pub invariant-loop-at : goal.invariant-loop-at
invariant-loop-at l = record {
  len : vec_len l.words ≡ l.at;
  each : (k : ℕ) → k < l.at → slice_index l.words.items k ≡ opening_word (word_numbered l.fn.passes k);
}
