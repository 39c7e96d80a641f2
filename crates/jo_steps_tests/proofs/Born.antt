-- The second pass of a new heap fills a block.
use Rattle.std.proofs.Common.{◌≡◌, ℕ, ◌+◌, sym, ap, ◌∙◌, subst, arith}
use Rattle.jo_value.specs.declared.limits.TheConstants.{MOST_STORAGE}
use Rattle.jo_rule.specs.Names.{word_at, storage}
use Rattle.jo_rule.specs.Steps.{opening_view, split_right, with_own_word}
use Rattle.jo_rule.specs.Views.{View}
use Rattle.jo_steps.specs.Counting.{one_store}
use Rattle.jo_steps.specs.Holding.{IsFreshAt}
use Rattle.jo_steps.specs.Effects.{StoredOwn}
use Rattle.jo_steps_tests.specs.Births.{header_view, filled_view}

module _ {P at : ℕ} {v u : View} (start : v ≡ split_right opening_view) (here : at ≡ word_at P (storage MOST_STORAGE)) (s : StoredOwn P v at 64 u) where
  first_fresh : IsFreshAt P v 0 at
  first_fresh = subst (λ (x : View). IsFreshAt P x 0 at) (sym start) (record { nameless = omega arith; within = omega arith; number = here })

  pub header_is : u ≡ header_view
  header_is = s.fresh 0 first_fresh ∙ ap (λ (x : View). with_own_word x 0 64 (one_store x.counts)) start

pub last_fresh : {P at : ℕ} (v : View) → v ≡ header_view → at ≡ word_at P (storage (MOST_STORAGE + 129)) → IsFreshAt P v 129 at
last_fresh {P} {at} v is here = subst (λ (x : View). IsFreshAt P x 129 at) (sym is) (record { nameless = omega arith; within = omega arith; number = here })

pub filled_is : {P at : ℕ} (v u : View) → v ≡ header_view → at ≡ word_at P (storage (MOST_STORAGE + 129)) → StoredOwn P v at 0 u → u ≡ filled_view
filled_is v u is here s = s.fresh 129 (last_fresh v is here) ∙ ap (λ (x : View). with_own_word x 129 0 (one_store x.counts)) is
