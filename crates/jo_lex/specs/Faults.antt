-- What a call that reads answers where it gives nothing.
use Rattle.std.specs.Prelude.{◌≡◌, Result, Ok, Err}
use Rattle.jo_lex.specs.declared.refusal.Refusal.{Refusal}
use Rattle.jo_lex.specs.declared.refusal.ParseFault.{ParseFault}
use Rattle.jo_lex.specs.declared.refusal.ParseFault.TheVariants.{Memory, Refused}

-- Memory, or a refusal of which this holds
abbrev pub IsMemoryOr : (Refusal → Type 0) → ParseFault → Type 0
IsMemoryOr P Memory = Unit {0}
IsMemoryOr P (Refused refusal) = P refusal

-- the answer is this refusal, unless memory fails
abbrev pub Refuses : {X : Type 0} → Refusal → Result X ParseFault → Type 0
Refuses refusal (Ok x) = ⊥
Refuses refusal (Err Memory) = Unit {0}
Refuses refusal (Err (Refused r)) = r ≡ refusal
