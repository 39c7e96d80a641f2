-- Worked cases: texts that are numbers of turns or of made sets, and texts that are none, by computation.
use Rattle.std.proofs.Common.{refl}
use Rattle.std.specs.Prelude.{◌≡◌, ℕ, List, codes, Option, Some, None, []}
use Rattle.jo_value.specs.declared.limits.TheConstants.{MOST_MADE, MOST_TURNS}
use Rattle.jo_program.specs.Words.{number_in, command_of}

abbrev pub turns : List ℕ → Option ℕ
turns text = number_in 1 MOST_TURNS text

abbrev pub made : List ℕ → Option ℕ
made text = number_in 0 MOST_MADE text

pub one_turn : turns (codes "1") ≡ Some 1
one_turn = refl

pub the_most_turns : turns (codes "1000000000") ≡ Some 1000000000
the_most_turns = refl

pub no_turn_is_none : turns (codes "0") ≡ None
no_turn_is_none = refl

pub a_turn_too_many_is_none : turns (codes "1000000001") ≡ None
a_turn_too_many_is_none = refl

pub a_zero_in_front_is_none : turns (codes "05") ≡ None
a_zero_in_front_is_none = refl

pub a_sign_is_none : turns (codes "+5") ≡ None
a_sign_is_none = refl

pub nothing_is_none : turns [] ≡ None
nothing_is_none = refl

pub the_first_made_set : made (codes "0") ≡ Some 0
the_first_made_set = refl

pub the_last_made_set : made (codes "999999") ≡ Some 999999
the_last_made_set = refl

pub a_set_too_far_is_none : made (codes "1000000") ≡ None
a_set_too_far_is_none = refl

pub a_set_with_a_zero_in_front_is_none : made (codes "07") ≡ None
a_set_with_a_zero_in_front_is_none = refl

pub a_set_below_none_is_none : made (codes "-1") ≡ None
a_set_below_none_is_none = refl

pub no_words_ask_for_nothing : command_of [] ≡ None
no_words_ask_for_nothing = refl
