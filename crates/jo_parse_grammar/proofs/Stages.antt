-- Stages one after another have one answer if each of them has.
use Rattle.std.proofs.Common.{◌≡◌, ◌⊎◌, inl, inr, Result, Ok, Err, ap, subst}
use Rattle.jo_lex.specs.declared.refusal.Refusal.{Refusal}

-- at most one value is so
abbrev pub Once : {A : Type 0} → (A → Type 0) → Type 0
Once {A = A} Is = (x y : A) → Is x → Is y → x ≡ y

module _ {A : Type 0} (Stops : Refusal → Type 0) where
  -- the stage refuses with this answer
  abbrev pub Refuses : Result A Refusal → Type 0
  Refuses (Ok a) = ⊥
  Refuses (Err refusal) = Stops refusal

  refuses-once : Once Stops → Once Refuses
  refuses-once once (Ok a) y h k = elim h [ ]
  refuses-once once (Err r) (Ok a) h k = elim k [ ]
  refuses-once once (Err r) (Err s) h k = ap (λ v. Err v) (once r s h k)

-- the refusals of a stage are one, what goes on from it is one, and there are not both
pub record Decides {X : Type 0} (Stops : Refusal → Type 0) (Goes : X → Type 0) : Type 0 where
  pub stops : Once Stops
  pub goes : Once Goes
  pub apart : (r : Refusal) (x : X) → Stops r → Goes x → ⊥

module _ {A X : Type 0} (Stops : Refusal → Type 0) (Goes : X → Type 0) (Next : X → Result A Refusal → Type 0) where
  -- the stage refuses, or something goes on to the next one
  abbrev pub Stage : Result A Refusal → Type 0
  Stage answer = Refuses Stops answer ⊎ ((x : X) × Goes x × Next x answer)

  refuses-apart : Decides Stops Goes → (answer : Result A Refusal) (x : X) → Refuses Stops answer → Goes x → ⊥
  refuses-apart d (Ok a) x h k = h
  refuses-apart d (Err r) x h k = d.apart r x h k

  pub stage-once : Decides Stops Goes → ((x : X) → Once (Next x)) → Once Stage
  stage-once d next a b (inl h) (inl k) = refuses-once Stops d.stops a b h k
  stage-once d next a b (inl h) (inr k) = absurd (refuses-apart d a k.0 h k.1)
  stage-once d next a b (inr h) (inl k) = absurd (refuses-apart d b h.0 k h.1)
  stage-once d next a b (inr h) (inr k) = next h.0 a b h.2 (subst (λ v. Next v b) (d.goes k.0 h.0 k.1 h.1) k.2)
