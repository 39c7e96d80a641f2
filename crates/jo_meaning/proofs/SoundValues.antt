-- Which values and keys of the meaning are sound: what literals are, what operators make, what replies hold.
use Rattle.std.proofs.Common.{◌≡◌, ◌<◌, ◌≤◌, ◌%◌, ℕ, zero, suc, ℤ, pos, negsuc, neg_ℤ, ◌+ℤ◌, ◌-ℤ◌, ◌*ℤ◌, nat_abs, int_rem, nat_le, Bool, List, length, refl, sym, subst, inl, inr, arith, lit<, Option, Some, None, IfOk}
use Rattle.std.proofs.Math.Nat.{mod-le}
use Rattle.std.specs.Prelude.{unsigned_abs}
use Rattle.std.proofs.lemmas.Bool.{cond_both, leb-true}
use Rattle.std.proofs.lemmas.Option.{slice_get_cases}
use Rattle.jo_value.specs.declared.limits.TheConstants.{MOST_INDEX, MOST_NUMBER}
use Rattle.jo_value.specs.declared.value.ObjId.{ObjId}
use Rattle.jo_value.specs.declared.value.Value.{Value}
use Rattle.jo_value.specs.declared.value.Value.TheVariants as value
use Rattle.jo_value.specs.Keys.{key_at, key_by, key_of_int, key_of_text, key_of_id, array_index}
use Rattle.jo_value.specs.Texts.{Table}
use Rattle.jo_parse_tree.specs.declared.keyword.Keyword.{Keyword}
use Rattle.jo_parse_tree.specs.declared.keyword.Keyword.TheVariants as keyword
use Rattle.jo_parse_tree.specs.declared.operator.BinaryOperator.{BinaryOperator}
use Rattle.jo_parse_tree.specs.declared.operator.BinaryOperator.TheVariants as binary
use Rattle.jo_parse_tree.specs.declared.operator.UnaryOperator.{UnaryOperator}
use Rattle.jo_parse_tree.specs.declared.operator.UnaryOperator.TheVariants as unary_op
use Rattle.jo_parse_grammar.specs.Sound as script
use Rattle.jo_model.specs.declared.call.Reply.{Reply}
use Rattle.jo_model.specs.declared.call.Reply.TheVariants as reply
use Rattle.jo_model.specs.Fits.{FitsNew, FitsRead}
use Rattle.jo_model.specs.Heaps.{shared}
use Rattle.jo_meaning.specs.State.{made_in, found_in, flag_in}
use Rattle.jo_meaning.specs.Values.{is_zero, safe, remainder, of_numbers, on_numbers, apply, apply_unary, object_in}
use Rattle.jo_meaning.specs.Keys.{or_outside, key_in}
use Rattle.jo_meaning.specs.Expressions.{constant_value}
use Rattle.jo_meaning.specs.inner.Asking.{Known, IsGiven, IsSoundKey, IsKnown, IsSoundValue, GivesText, Numbers}

-- ---- keys

module _ (texts : Table) (IsText : Numbers) (covers : (n : ℕ) → n < length texts → IsText n) where
  key_at_sound : (n : ℕ) → IfOk (or_outside (key_at n)) (IsSoundKey IsText)
  key_at_sound n = cond_both (nat_le n MOST_INDEX) _ _ (λ r. IfOk (or_outside r) (IsSoundKey IsText)) (λ e. leb-true n MOST_INDEX e) (λ e. tt)

  key_of_int_sound : (i : ℤ) → IfOk (or_outside (key_of_int i)) (IsSoundKey IsText)
  key_of_int_sound (pos n) = key_at_sound n
  key_of_int_sound (negsuc n) = tt

  key_by_sound : (id : ℕ) (index : Option ℕ) → id < length texts → IfOk (or_outside (key_by id index)) (IsSoundKey IsText)
  key_by_sound id None there = covers id there
  key_by_sound id (Some n) there = key_at_sound n

  key_of_id_sound : (id : ℕ) → IfOk (or_outside (key_of_id texts id)) (IsSoundKey IsText)
  key_of_id_sound id =
      let P : Option (List ℕ) → Type 0 = λ text. IfOk (or_outside (key_of_text id text)) (IsSoundKey IsText) in
      elim (slice_get_cases texts id).1 [
        | inl there ↦ subst P (sym there.2) (key_by_sound id (array_index there.0) there.1)
        | inr past ↦ subst P (sym past.1) tt
      ]

  -- whatever a value is, the key that it is is sound
  pub key_sound : (v : Value) → IfOk (key_in texts v) (IsSoundKey IsText)
  key_sound (value.Int i) = key_of_int_sound i
  key_sound (value.Text t) = key_of_id_sound t.0
  key_sound value.Undefined = tt
  key_sound value.Null = tt
  key_sound (value.Bool b) = tt
  key_sound (value.Object o) = tt

-- ---- numbers

abs_neg : (n : ℕ) → nat_abs (neg_ℤ (pos n)) ≡ n
abs_neg zero = refl
abs_neg (suc n) = refl

remainder_within : (i j : ℤ) (most : ℕ) → nat_abs i ≤ most → nat_abs (int_rem i j) ≤ most
remainder_within (pos n) j most within = omega (arith, mod-le n (unsigned_abs j), within)
remainder_within (negsuc n) j most within =
    omega (arith, abs_neg (suc n % unsigned_abs j), mod-le (suc n) (unsigned_abs j), within)

-- the objects of a reply are known
abbrev pub AreKnown : Known → Reply → Type 0
AreKnown known answer = (o : ObjId) → IsGiven answer o → known o

found_known : (known : Known) (v : Value) → AreKnown known (reply.Found v) → IsKnown known v
found_known known (value.Object o) given = given o refl
found_known known _ given = tt

module _ (texts : Table) (IsText : Numbers) (known : Known) where
  abbrev pub Sound : Value → Type 0
  Sound = IsSoundValue IsText known

  -- ---- values

  pub undefined_sound : Sound value.Undefined
  undefined_sound = record { range = tt; text = tt; object = tt }

  pub bool_sound : (b : Bool) → Sound (value.Bool b)
  bool_sound b = record { range = tt; text = tt; object = tt }

  int_sound : (i : ℤ) → nat_abs i ≤ MOST_NUMBER → Sound (value.Int i)
  int_sound i within = record { range = within; text = tt; object = tt }

  safe_sound : (i : ℤ) → IfOk (safe i) Sound
  safe_sound i = cond_both (nat_le (nat_abs i) MOST_NUMBER) _ _ (λ r. IfOk r Sound) (λ e. int_sound i (leb-true (nat_abs i) MOST_NUMBER e)) (λ e. tt)

  remainder_sound : (i j : ℤ) → nat_abs i ≤ MOST_NUMBER → IfOk (remainder i j) Sound
  remainder_sound i j within =
      cond_both (is_zero j) _ _ (λ r. IfOk r Sound) (λ e. tt) (λ e. int_sound (int_rem i j) (remainder_within i j MOST_NUMBER within))

  -- what an operator makes of two values is sound where the first one is
  of_numbers_sound : (operator : BinaryOperator) (i j : ℤ) → nat_abs i ≤ MOST_NUMBER → IfOk (of_numbers operator i j) Sound
  of_numbers_sound binary.Less i j within = bool_sound _
  of_numbers_sound binary.Greater i j within = bool_sound _
  of_numbers_sound binary.LessEqual i j within = bool_sound _
  of_numbers_sound binary.GreaterEqual i j within = bool_sound _
  of_numbers_sound binary.Plus i j within = safe_sound (i +ℤ j)
  of_numbers_sound binary.Minus i j within = safe_sound (i -ℤ j)
  of_numbers_sound binary.Times i j within = safe_sound (i *ℤ j)
  of_numbers_sound binary.Remainder i j within = remainder_sound i j within
  of_numbers_sound _ i j within = tt

  on_numbers_sound : (operator : BinaryOperator) (x y : Value) → Sound x → IfOk (on_numbers operator x y) Sound
  on_numbers_sound operator (value.Int i) (value.Int j) x_sound = of_numbers_sound operator i j x_sound.range
  on_numbers_sound operator _ _ x_sound = tt

  pub apply_sound : (operator : BinaryOperator) (x y : Value) → Sound x → IfOk (apply operator x y) Sound
  apply_sound binary.Same x y x_sound = bool_sound _
  apply_sound binary.NotSame x y x_sound = bool_sound _
  apply_sound operator x y x_sound = on_numbers_sound operator x y x_sound

  pub apply_unary_sound : (operator : UnaryOperator) (x : Value) → IfOk (apply_unary texts operator x) Sound
  apply_unary_sound unary_op.Minus (value.Int i) = safe_sound (neg_ℤ i)
  apply_unary_sound unary_op.Minus _ = tt
  apply_unary_sound unary_op.Not x = bool_sound _

  pub object_sound : (v : Value) → Sound v → IfOk (object_in v) known
  object_sound (value.Object o) v_sound = v_sound.object
  object_sound _ v_sound = tt

  pub number_sound : (i : ℤ) → script.IsInRange i → Sound (value.Int i)
  number_sound (pos n) within = int_sound (pos n) within
  number_sound (negsuc n) within = absurd within

  pub constant_sound : known shared → (w : Keyword) → Sound (constant_value w)
  constant_sound has keyword.Shared = record { range = lit< tt; text = tt; object = has }
  constant_sound has _ = record { range = tt; text = tt; object = tt }

  -- ---- replies

  pub found_sound : (answer : Reply) → FitsRead answer → GivesText IsText answer → AreKnown known answer → Sound (found_in answer)
  found_sound (reply.Found v) fits text given = record { range = fits; text = text; object = found_known known v given }
  found_sound _ fits text given = undefined_sound

  pub made_sound : (answer : Reply) → FitsNew answer → AreKnown known answer → Sound (made_in answer)
  made_sound (reply.Made o) fits given = record { range = fits; text = tt; object = given o refl }
  made_sound _ fits given = undefined_sound

  pub flag_sound : (answer : Reply) → Sound (flag_in answer)
  flag_sound (reply.Flag b) = bool_sound b
  flag_sound _ = undefined_sound
