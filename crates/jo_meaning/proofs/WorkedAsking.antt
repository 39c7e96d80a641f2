-- Worked cases of what is asked and what is not, each computed and named by what it shows.
use Rattle.std.proofs.Common.{◌≡◌, ℕ, refl, ap, inl, inr, lit<, lit≤, arith}
use Rattle.std.specs.Prelude.{negsuc, true, List, [], ◌∷◌}
use Rattle.jo_value.specs.declared.value.ObjId.{ObjId}
use Rattle.jo_value.specs.declared.value.Key.TheVariants.{Index}
use Rattle.jo_value.specs.declared.value.Value.{Value}
use Rattle.jo_value.specs.declared.value.Value.TheVariants as value
use Rattle.jo_parse_tree.specs.declared.operator.BinaryOperator.TheVariants as op
use Rattle.jo_parse_tree.specs.Trees.{Tree, object, cas, delete, no_props, print_names, evaluate, Items, declare}
use Rattle.jo_model.specs.declared.call.Call.{Call}
use Rattle.jo_model.specs.declared.call.Call.TheVariants as call
use Rattle.jo_model.specs.declared.call.Outcome.TheVariants as outcome
use Rattle.jo_model.specs.declared.call.Reply.{Reply}
use Rattle.jo_model.specs.declared.call.Reply.TheVariants as reply
use Rattle.jo_model.specs.Heaps.{shared}
use Rattle.jo_meaning.specs.Runs.{Waits}
use Rattle.jo_meaning.specs.inner.Asking.{known_at_start, known_by, IsSoundCall, IsSoundValue, IsSoundReply, AreSoundReplies, numbers_of}
use Rattle.jo_meaning.proofs.Words.{texts, x, natural, text, shared_word, dot, at, shared_x, shared_y, minus, two, sum, set, add, all, with, bare, name, integer, get, put, found, running, after, fails}

-- these replies are sound, and the call that waits at them is this one, and is sound for the objects that are known by then
pub record IsAsked (script : Items) (answers : List Reply) (c : Call) : Type 0 where
  pub replies : AreSoundReplies (numbers_of texts) (after script answers).calls answers
  pub waits : (after script answers).stand ≡ Waits c
  pub sound : IsSoundCall (numbers_of texts) (known_by known_at_start answers) c

-- `shared.x = e;`
abbrev put_x : Tree → Items
put_x e = all (evaluate (set shared_x e) ∷ [])

abbrev other : ObjId
other = record { pass = 1; serial = 2 }

abbrev text_value : ℕ → Value
text_value n = value.Text (record { 0 = n })

-- the largest number, and the least
abbrev largest : Tree
largest = natural 9007199254740991

abbrev least : Tree
least = minus largest

-- ---- literals

-- shared.x = 9007199254740991;
pub a_literal_is_put : IsAsked (put_x largest) [] (put (name 0) (integer 9007199254740991))
a_literal_is_put = record { replies = tt; waits = refl; sound = (refl, lit< tt, record { range = lit≤ tt; text = tt; object = tt }) }

-- shared.x = "ab";
pub a_text_is_put : IsAsked (put_x (text 11)) [] (put (name 0) (text_value 11))
a_text_is_put = record { replies = tt; waits = refl; sound = (refl, lit< tt, record { range = tt; text = lit< tt; object = tt }) }

-- shared.x = shared;
pub the_shared_object_is_put : IsAsked (put_x shared_word) [] (put (name 0) (value.Object shared))
the_shared_object_is_put = record { replies = tt; waits = refl; sound = (refl, lit< tt, record { range = lit< tt; text = tt; object = refl }) }

-- shared[1023];
pub a_literal_is_a_key : IsAsked (all (evaluate (at shared_word (natural 1023)) ∷ [])) [] (get (Index 1023))
a_literal_is_a_key = record { replies = tt; waits = refl; sound = (refl, lit≤ tt) }

-- shared[1024];
pub a_literal_above_the_limit_is_not : running (at shared_word (natural 1024)) [] ≡ fails outcome.KeyOutside []
a_literal_above_the_limit_is_not = refl

-- shared["ab"];
pub a_text_is_a_key : IsAsked (all (evaluate (at shared_word (text 11)) ∷ [])) [] (get (name 11))
a_text_is_a_key = record { replies = tt; waits = refl; sound = (refl, lit< tt) }

-- ---- variables

-- let x = "ab"; shared.x = x;
pub a_variable_is_put : IsAsked (with 0 (text 11) (put_x x)) [] (put (name 0) (text_value 11))
a_variable_is_put = record { replies = tt; waits = refl; sound = (refl, lit< tt, record { range = tt; text = lit< tt; object = tt }) }

-- let x; shared.x = x;
pub a_variable_without_a_value_is_put : IsAsked (declare (bare 0 ∷ []) (put_x x)) [] (put (name 0) value.Undefined)
a_variable_without_a_value_is_put = record { replies = tt; waits = refl; sound = (refl, lit< tt, record { range = tt; text = tt; object = tt }) }

-- let x = shared; x.y;
pub a_variable_is_an_object : IsAsked (with 0 shared_word (all (evaluate (dot x 1) ∷ []))) [] (get (name 1))
a_variable_is_an_object = record { replies = tt; waits = refl; sound = (refl, lit< tt) }

-- ---- gets

-- shared.x = shared.y;
pub what_is_found_is_put : IsAsked (put_x shared_y) (reply.Found (value.Object other) ∷ []) (put (name 0) (value.Object other))
what_is_found_is_put = record {
  replies = (record { fits = lit< tt; text = tt }, tt);
  waits = refl;
  sound = (inl refl, lit< tt, record { range = lit< tt; text = tt; object = inr refl });
}

-- shared.x.y;
pub what_is_found_is_an_object : IsAsked (all (evaluate (dot shared_x 1) ∷ [])) (reply.Found (value.Object other) ∷ []) (call.Get other (name 1))
what_is_found_is_an_object = record { replies = (record { fits = lit< tt; text = tt }, tt); waits = refl; sound = (inr refl, lit< tt) }

-- "y" in shared.x;
pub what_is_found_is_tested : IsAsked (all (evaluate (two (text 1) op.In shared_x) ∷ [])) (reply.Found (value.Object other) ∷ []) (call.Has other (name 1))
what_is_found_is_tested = record { replies = (record { fits = lit< tt; text = tt }, tt); waits = refl; sound = (inr refl, lit< tt) }

-- delete shared.x.y;
pub a_property_of_what_is_found_is_deleted :
    IsAsked (all (evaluate (delete (dot shared_x 1)) ∷ [])) (reply.Found (value.Object other) ∷ []) (call.Delete other (name 1))
a_property_of_what_is_found_is_deleted = record { replies = (record { fits = lit< tt; text = tt }, tt); waits = refl; sound = (inr refl, lit< tt) }

-- printNames(shared.x);
pub the_names_of_what_is_found_are_listed : IsAsked (all (print_names shared_x ∷ [])) (reply.Found (value.Object other) ∷ []) (call.Names other)
the_names_of_what_is_found_are_listed = record { replies = (record { fits = lit< tt; text = tt }, tt); waits = refl; sound = inr refl }

-- shared[shared.x];
pub what_is_found_is_a_key : IsAsked (all (evaluate (at shared_word shared_x) ∷ [])) (reply.Found (text_value 11) ∷ []) (get (name 11))
what_is_found_is_a_key = record { replies = (record { fits = tt; text = lit< tt }, tt); waits = refl; sound = (inl refl, lit< tt) }

-- shared[shared.x], where the reply is not sound
pub what_the_table_lacks_is_not_asked_for :
    after (all (evaluate (at shared_word shared_x) ∷ [])) (reply.Found (text_value 12) ∷ []) ≡ fails outcome.KeyOutside (get (name 0) ∷ [])
what_the_table_lacks_is_not_asked_for = refl

-- shared.x = "y" in shared;
pub what_a_test_finds_is_put : IsAsked (put_x (two (text 1) op.In shared_word)) (reply.Flag true ∷ []) (put (name 0) (value.Bool true))
what_a_test_finds_is_put = record {
  replies = (record { fits = tt; text = tt }, tt);
  waits = refl;
  sound = (inl refl, lit< tt, record { range = tt; text = tt; object = tt });
}

-- ---- new objects

-- let x = {}; x.x = x;
pub a_new_object_is_put : IsAsked (with 0 (object no_props true) (all (evaluate (set (dot x 0) x) ∷ []))) (reply.Made other ∷ []) (call.Put other (name 0) (value.Object other))
a_new_object_is_put = record {
  replies = (record { fits = lit< tt; text = tt }, tt);
  waits = refl;
  sound = (inr refl, lit< tt, record { range = lit< tt; text = tt; object = inr refl });
}

-- ---- swaps

-- shared.x = cas(shared, "y", 0, 1);
pub what_a_swap_finds_is_put :
    IsAsked (put_x (cas shared_word (text 1) (natural 0) (natural 1))) (reply.Found (value.Object other) ∷ []) (put (name 0) (value.Object other))
what_a_swap_finds_is_put = record {
  replies = (record { fits = lit< tt; text = tt }, tt);
  waits = refl;
  sound = (inl refl, lit< tt, record { range = lit< tt; text = tt; object = inr refl });
}

-- cas(shared.x, "y", shared.y, "ab");
pub what_is_found_is_swapped :
    IsAsked (all (evaluate (cas shared_x (text 1) shared_y (text 11)) ∷ [])) (reply.Found (value.Object other) ∷ found 4 ∷ [])
    (call.Cas other (name 1) (integer 4) (text_value 11))
what_is_found_is_swapped = record {
  replies = (record { fits = lit< tt; text = tt }, (record { fits = lit≤ tt; text = tt }, tt));
  waits = refl;
  sound = (inl (inr refl), lit< tt, record { range = lit≤ tt; text = tt; object = tt }, record { range = tt; text = lit< tt; object = tt });
}

-- cas(shared, "y", shared.x, 1);
pub what_is_found_is_expected :
    IsAsked (all (evaluate (cas shared_word (text 1) shared_x (natural 1)) ∷ [])) (reply.Found (value.Object other) ∷ [])
    (call.Cas shared (name 1) (value.Object other) (integer 1))
what_is_found_is_expected = record {
  replies = (record { fits = lit< tt; text = tt }, tt);
  waits = refl;
  sound = (inl refl, lit< tt, record { range = lit< tt; text = tt; object = inr refl }, record { range = lit≤ tt; text = tt; object = tt });
}

-- ---- arithmetic at its limits

-- shared.x = 9007199254740990 + 1;
pub the_largest_sum_is_put : IsAsked (put_x (sum (natural 9007199254740990) (natural 1))) [] (put (name 0) (integer 9007199254740991))
the_largest_sum_is_put = record { replies = tt; waits = refl; sound = (refl, lit< tt, record { range = lit≤ tt; text = tt; object = tt }) }

-- shared.x = 9007199254740991 + 1;
pub a_larger_sum_is_not : running (set shared_x (sum largest (natural 1))) [] ≡ fails outcome.NotSafe []
a_larger_sum_is_not = refl

-- shared.x += 1;
pub nor_is_one_of_what_is_found : running (add shared_x (natural 1)) (found 9007199254740991 ∷ []) ≡ fails outcome.NotSafe (get (name 0) ∷ [])
nor_is_one_of_what_is_found = refl

-- shared.x = 0 - 9007199254740991;
pub the_least_difference_is_put : IsAsked (put_x (two (natural 0) op.Minus largest)) [] (put (name 0) (value.Int (negsuc 9007199254740990)))
the_least_difference_is_put = record { replies = tt; waits = refl; sound = (refl, lit< tt, record { range = lit≤ tt; text = tt; object = tt }) }

-- shared.x = -9007199254740991 - 1;
pub a_lesser_difference_is_not : running (set shared_x (two least op.Minus (natural 1))) [] ≡ fails outcome.NotSafe []
a_lesser_difference_is_not = refl

-- shared.x = 94906265 * 94906265;
pub a_product_within_the_limit_is_put :
    IsAsked (put_x (two (natural 94906265) op.Times (natural 94906265))) [] (put (name 0) (integer 9007199136250225))
a_product_within_the_limit_is_put = record { replies = tt; waits = refl; sound = (refl, lit< tt, record { range = lit≤ tt; text = tt; object = tt }) }

-- shared.x = 94906266 * 94906266;
pub a_larger_product_is_not : running (set shared_x (two (natural 94906266) op.Times (natural 94906266))) [] ≡ fails outcome.NotSafe []
a_larger_product_is_not = refl

-- shared.x = -441650591 * 20394401;
pub the_least_product_is_put :
    IsAsked (put_x (two (minus (natural 441650591)) op.Times (natural 20394401))) [] (put (name 0) (value.Int (negsuc 9007199254740990)))
the_least_product_is_put = record { replies = tt; waits = refl; sound = (refl, lit< tt, record { range = lit≤ tt; text = tt; object = tt }) }

-- shared.x = -134217728 * 67108864;
pub a_lesser_product_is_not : running (set shared_x (two (minus (natural 134217728)) op.Times (natural 67108864))) [] ≡ fails outcome.NotSafe []
a_lesser_product_is_not = refl

-- shared.x = -9007199254740991 % 10;
pub a_remainder_is_put : IsAsked (put_x (two least op.Remainder (natural 10))) [] (put (name 0) (value.Int (negsuc 0)))
a_remainder_is_put = record { replies = tt; waits = refl; sound = (refl, lit< tt, record { range = lit≤ tt; text = tt; object = tt }) }

-- ---- what is not sound

-- shared.x = 9007199254740992; no script with this literal is accepted
pub a_literal_out_of_range_would_be_put :
    (after (put_x (natural 9007199254740992)) []).stand ≡ Waits (put (name 0) (integer 9007199254740992))
a_literal_out_of_range_would_be_put = refl

-- shared.x = shared.y;
pub what_no_sound_reply_gives_would_be_put : (after (put_x shared_y) (found 9007199254740992 ∷ [])).stand ≡ Waits (put (name 0) (integer 9007199254740992))
what_no_sound_reply_gives_would_be_put = refl

pub an_object_that_no_reply_gave : IsSoundCall (numbers_of texts) known_at_start (call.Get other (name 0)) → ⊥
an_object_that_no_reply_gave c_sound = let same : 2 ≡ 0 = ap (λ (o : ObjId). o.serial) c_sound.0 in absurd (omega (arith, same))

pub an_object_that_no_reply_gave_as_a_value : IsSoundValue (numbers_of texts) known_at_start (value.Object other) → ⊥
an_object_that_no_reply_gave_as_a_value v_sound = let same : 2 ≡ 0 = ap (λ (o : ObjId). o.serial) v_sound.object in absurd (omega (arith, same))

pub a_name_that_the_table_lacks : IsSoundCall (numbers_of texts) known_at_start (get (name 12)) → ⊥
a_name_that_the_table_lacks c_sound = absurd (omega (arith, c_sound.1))

pub an_index_above_the_limit : IsSoundCall (numbers_of texts) known_at_start (get (Index 1024)) → ⊥
an_index_above_the_limit c_sound = absurd (omega (arith, c_sound.1))

pub a_number_out_of_range : IsSoundValue (numbers_of texts) known_at_start (integer 9007199254740992) → ⊥
a_number_out_of_range v_sound = absurd (omega (arith, v_sound.range))

pub a_text_of_a_value_that_the_table_lacks : IsSoundValue (numbers_of texts) known_at_start (text_value 12) → ⊥
a_text_of_a_value_that_the_table_lacks v_sound = absurd (omega (arith, v_sound.text))

pub a_text_of_a_reply_that_the_table_lacks : IsSoundReply (numbers_of texts) (get (name 0)) (reply.Found (text_value 12)) → ⊥
a_text_of_a_reply_that_the_table_lacks a_sound = absurd (omega (arith, a_sound.text))

pub a_reply_of_another_kind : IsSoundReply (numbers_of texts) (get (name 0)) (reply.Flag true) → ⊥
a_reply_of_another_kind a_sound = absurd a_sound.fits
