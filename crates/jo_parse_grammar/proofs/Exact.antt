-- Expressions are read exactly, at each level and as deep as there is room.
use Rattle.std.proofs.Common.{◌≡◌, ◌==◌, eqb, inl, inr, Bool, true, false, if◌then◌else◌, zero, suc, ℕ, ◌+◌, ◌-◌, ◌≤◌, ◌<◌, List, sym, subst, refl, arith}
use Rattle.std.proofs.lemmas.Bool.{eqb-true, eq-eqb}
use Rattle.jo_parse_grammar.specs.declared.terminal.Terminal.{Terminal}
use Rattle.jo_parse_grammar.specs.inner.Read.{Below, only_member, assignment, chains, at_level, no_room, read}
use Rattle.jo_parse_grammar.proofs.Outcome.{Any, Outcome}
use Rattle.jo_parse_grammar.proofs.Levels.{level_language, Above, IsLevel, ReadsAt, at-outcome}
use Rattle.jo_parse_grammar.proofs.Operands.{outcome-only_member}
use Rattle.jo_parse_grammar.proofs.Chains.{outcome-chains}
use Rattle.jo_parse_grammar.proofs.Assignments.{outcome-assignment}

module _ (limit d room : ℕ) (sum : d + room ≡ limit) (below : Below) (ih : 0 < room → ReadsAt limit (d + 1) below) (ins : Bool) where
  level-one : (ts : List Terminal) → Outcome (level_language ins 1 d) (Above ins 1) Any limit ts (at_level room below ins 1 ts)
  level-one ts = at-outcome ins 1 d limit ts (assignment room below ins ts) (λ e. omega arith) (outcome-assignment limit d room sum below ih ins ts)

  level-other : (l : ℕ) → (4 ≤ l) × (l ≤ 10) → (ts : List Terminal) → (b : Bool) → eqb l 10 ≡ b
      → Outcome (level_language ins l d) (Above ins l) Any limit ts (if b then only_member room below ts else chains room below ins (9 - l) l ts)
  level-other l h ts true e =
      let ten : 10 ≡ l = sym (eqb-true l 10 e) in
      subst (λ z. Outcome (level_language ins z d) (Above ins z) Any limit ts (only_member room below ts)) ten (outcome-only_member limit d room sum below ih ins ts)
  level-other l h ts false e =
      let apart : l ≡ 10 → ⊥ = λ same. let f : eqb l 10 ≡ true = eq-eqb l 10 same in cc in
      let high : l ≤ 9 = omega (arith, h.1) in
      at-outcome ins l d limit ts (chains room below ins (9 - l) l ts) apart (outcome-chains limit d room sum below ih ins (9 - l) l (omega (arith, h.0)) (omega arith) ts)

  level-some : (l : ℕ) → (4 ≤ l) × (l ≤ 10) → (ts : List Terminal) → (b : Bool) → eqb l 1 ≡ b
      → Outcome (level_language ins l d) (Above ins l) Any limit ts
      (if b then assignment room below ins ts else (if l == 10 then only_member room below ts else chains room below ins (9 - l) l ts))
  level-some l h ts true e = let one : l ≡ 1 = eqb-true l 1 e in absurd (omega (arith, h.0))
  level-some l h ts false e = level-other l h ts (eqb l 10) refl

  outcome-level : (l : ℕ) → IsLevel l → (ts : List Terminal) → Outcome (level_language ins l d) (Above ins l) Any limit ts (at_level room below ins l ts)
  outcome-level l (inl e) ts = subst (λ z. Outcome (level_language ins z d) (Above ins z) Any limit ts (at_level room below ins z ts)) (sym e) (level-one ts)
  outcome-level l (inr h) ts = level-some l h ts (eqb l 1) refl

-- ---- as deep as there is room

pub outcome-read : (room limit d : ℕ) → d + room ≡ limit → ReadsAt limit d (read room)
unfolding read
outcome-read zero limit d sum ins l h ts = outcome-level limit d zero sum no_room (λ pos. absurd (omega arith)) ins l h ts
outcome-read (suc n) limit d sum ins l h ts = outcome-level limit d (suc n) sum (read n) (λ pos ins l h ts. outcome-read n limit (d + 1) (omega arith) ins l h ts) ins l h ts
