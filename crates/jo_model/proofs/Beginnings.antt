-- A beginning of a log: the heap at its end, the entry after it, and what stays of it in a longer one.
use Rattle.std.proofs.Common.{◌≡◌, ◌⊎◌, ◌+◌, ◌<◌, ℕ, zero, suc, [], ◌∷◌, ◌++◌, refl, inl, inr, arith, length, take, slice_get, Some, if◌then◌else◌}
use Rattle.std.proofs.lemmas.List.{take_at}
use Rattle.std.proofs.lemmas.List.Sums.{fold_push, sum_by_push}
use Rattle.jo_model.specs.Heaps.{heap_at_start}
use Rattle.jo_model.specs.Logs.{LogEntry, Log, is_change_of, changes_of, after_log_entry, after}

module _ {M : Type 0} where
  get-here : (done : Log M) (e : LogEntry M) (rest : Log M) → slice_get (done ++ e ∷ rest) (length done) ≡ Some e
  get-here [] e rest = refl
  get-here (d ∷ done) e rest = get-here done e rest

  -- the entry after a beginning
  pub entry-there : (C done : Log M) (e : LogEntry M) (rest : Log M) → done ++ e ∷ rest ≡ C → slice_get C (length done) ≡ Some e
  entry-there C done e rest is = rw (← is) (get-here done e rest)

  -- a beginning is what stands before its end
  pub taken : (C done rest : Log M) → done ++ rest ≡ C → take (length done) C ≡ done
  taken C done rest is = rw (← is) (take_at done rest (length done) refl)

  pub after-push : (P : ℕ) (done : Log M) (e : LogEntry M) → after P (done ++ e ∷ []) ≡ after_log_entry (after P done) e
  after-push P done e = fold_push after_log_entry (heap_at_start P) done e

  pub changes-push : (t : ℕ) (done : Log M) (e : LogEntry M) → changes_of t (done ++ e ∷ []) ≡ changes_of t done + (if is_change_of t e then 1 else 0)
  changes-push t done e = sum_by_push (λ x. if is_change_of t x then 1 else 0) done e

  -- an entry stands where it stood in a longer log
  pub get-longer : (C more : Log M) (n : ℕ) (e : LogEntry M) → slice_get C n ≡ Some e → slice_get (C ++ more) n ≡ Some e
  get-longer [] more n e is = absurd (cc)
  get-longer (d ∷ C) more zero e is = is
  get-longer (d ∷ C) more (suc n) e is = get-longer C more n e is

  -- an entry of a log with one more stood there before, or is the new one
  pub get-push : (C : Log M) (new : LogEntry M) (n : ℕ) (e : LogEntry M) → slice_get (C ++ new ∷ []) n ≡ Some e
      → (n < length C) × (slice_get C n ≡ Some e) ⊎ (n ≡ length C) × (new ≡ e)
  get-push [] new zero e is = inr (refl, cc)
  get-push [] new (suc n) e is = absurd (cc)
  get-push (d ∷ C) new zero e is = inl (omega arith, is)
  get-push (d ∷ C) new (suc n) e is = elim (get-push C new n e is) [
    | inl old ↦ inl (let k = old.0 in omega arith, old.1)
    | inr last ↦ inr (let k = last.0 in omega arith, last.1)
  ]
