-- Truth values, numbers and the operators on them.
use Rattle.std.specs.Prelude.{ℕ, ℤ, pos, neg_ℤ, nat_abs, ◌+ℤ◌, ◌-ℤ◌, ◌*ℤ◌, int_lt, int_le, int_rem, nat_le, Bool, true, false, not, if◌then◌else◌, List, [], ◌∷◌, Result, Ok, Err}
use Rattle.std.specs.Ordering.{int_eq}
use Rattle.jo_value.specs.declared.limits.TheConstants.{MOST_NUMBER}
use Rattle.jo_value.specs.declared.value.ObjId.{ObjId}
use Rattle.jo_value.specs.declared.value.Value.{Value}
use Rattle.jo_value.specs.declared.value.Value.TheVariants as value
use Rattle.jo_value.specs.Texts.{Table, text_in}
use Rattle.jo_value.specs.Values.{is_strictly_equal}
use Rattle.jo_parse_tree.specs.declared.operator.BinaryOperator.{BinaryOperator}
use Rattle.jo_parse_tree.specs.declared.operator.BinaryOperator.TheVariants as binary
use Rattle.jo_parse_tree.specs.declared.operator.UnaryOperator.{UnaryOperator}
use Rattle.jo_parse_tree.specs.declared.operator.UnaryOperator.TheVariants as unary
use Rattle.jo_model.specs.declared.call.Outcome.{Outcome}
use Rattle.jo_model.specs.declared.call.Outcome.TheVariants.{TypeFault, NotSafe}

-- ---- truth

abbrev pub is_zero : ℤ → Bool
is_zero i = int_eq i (pos 0)

abbrev pub is_empty : List ℕ → Bool
is_empty [] = true
is_empty (b ∷ text) = false

-- undefined, null, false, zero and the text without bytes count as false (ToBoolean)
abbrev pub is_falsy : Table → Value → Bool
is_falsy texts value.Undefined = true
is_falsy texts value.Null = true
is_falsy texts (value.Bool b) = not b
is_falsy texts (value.Int i) = is_zero i
is_falsy texts (value.Text t) = is_empty (text_in texts t.0)
is_falsy texts (value.Object o) = false

-- ---- numbers

-- the number as a value, or NotSafe where it is too far from 0
abbrev pub safe : ℤ → Result Value Outcome
safe i = if nat_le (nat_abs i) MOST_NUMBER then Ok (value.Int i) else Err NotSafe

-- what is left of the dividend when it is divided toward zero; NotSafe where the divisor is 0
abbrev pub remainder : ℤ → ℤ → Result Value Outcome
remainder i j = if is_zero j then Err NotSafe else Ok (value.Int (int_rem i j))

-- what an operator makes of two numbers; one that is not on numbers makes none
abbrev pub of_numbers : BinaryOperator → ℤ → ℤ → Result Value Outcome
of_numbers binary.Less i j = Ok (value.Bool (int_lt i j))
of_numbers binary.Greater i j = Ok (value.Bool (int_lt j i))
of_numbers binary.LessEqual i j = Ok (value.Bool (int_le i j))
of_numbers binary.GreaterEqual i j = Ok (value.Bool (int_le j i))
of_numbers binary.Plus i j = safe (i +ℤ j)
of_numbers binary.Minus i j = safe (i -ℤ j)
of_numbers binary.Times i j = safe (i *ℤ j)
of_numbers binary.Remainder i j = remainder i j
of_numbers _ i j = Err TypeFault

-- the same for two values, of which both have to be numbers
abbrev pub on_numbers : BinaryOperator → Value → Value → Result Value Outcome
on_numbers operator (value.Int i) (value.Int j) = of_numbers operator i j
on_numbers operator _ _ = Err TypeFault

-- what an operator that evaluates both operands makes of them
abbrev pub apply : BinaryOperator → Value → Value → Result Value Outcome
apply binary.Same x y = Ok (value.Bool (is_strictly_equal x y))
apply binary.NotSame x y = Ok (value.Bool (not (is_strictly_equal x y)))
apply operator x y = on_numbers operator x y

abbrev pub negated : Value → Result Value Outcome
negated (value.Int i) = safe (neg_ℤ i)
negated _ = Err TypeFault

-- what an operator makes of its one operand
abbrev pub apply_unary : Table → UnaryOperator → Value → Result Value Outcome
apply_unary texts unary.Minus x = negated x
apply_unary texts unary.Not x = Ok (value.Bool (is_falsy texts x))

-- ---- objects

-- the object that a value is, or TypeFault
abbrev pub object_in : Value → Result ObjId Outcome
object_in (value.Object o) = Ok o
object_in _ = Err TypeFault
