-- What is known of the codes and the machines of scripts.
use Rattle.std.specs.Prelude.{◌≡◌, ℕ, List, length, slice_get, Some}
use Rattle.jo_value.specs.Texts.{Table}
use Rattle.jo_parse_tree.specs.Trees.{Items}
use Rattle.jo_parse_grammar.specs.Sound.{IsSound}
use Rattle.jo_code.specs.Behaves.{Behaves}
use Rattle.jo_code.specs.Machine.{interaction_by}
use Rattle.jo_code.specs.Needs.{entries_of}
use Rattle.jo_code.specs.declared.instruction.Instruction.{Instruction}
use Rattle.jo_vm.specs.Machines.{Machine, Free, stands}
use Rattle.jo_run.specs.Scripts.{IsAtStart}

-- what stands at one place of two lists is related
abbrev pub Beside : {A B : Type 0} → (A → B → Type 0) → List A → List B → Type 0
Beside {A} {B} R xs ys = (k : ℕ) (x : A) (y : B) → slice_get xs k ≡ Some x → slice_get ys k ≡ Some y → R x y

-- the code of a sound script
pub record IsCodeOf (texts : Table) (script : Items) (code : List Instruction) : Type 0 where
  pub sound : IsSound texts script
  pub behaves : Behaves script code

-- a code for each script, in order
pub record AreCodesOf (texts : Table) (scripts : List Items) (codes : List (List Instruction)) : Type 0 where
  pub all : length codes ≡ length scripts
  pub each : Beside (IsCodeOf texts) scripts codes

-- a machine at the start of a code
abbrev pub IsAtCode : Table → ℕ → List Instruction → Machine → Type 0
IsAtCode texts turns code m = stands m ≡ Free (interaction_by (entries_of code) code texts turns)

-- a machine for each code, in order
pub record AreAtCodes (texts : Table) (turns : ℕ) (codes : List (List Instruction)) (machines : List Machine) : Type 0 where
  pub all : length machines ≡ length codes
  pub each : Beside (IsAtCode texts turns) codes machines

-- a machine at the start of each script, in order
pub record AreAtStart (scripts : List Items) (texts : Table) (turns : ℕ) (machines : List Machine) : Type 0 where
  pub all : length machines ≡ length scripts
  pub each : Beside (λ script m. IsAtStart script texts turns m) scripts machines
