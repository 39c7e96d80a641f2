-- Each script of a sound set is sound.
use Rattle.std.proofs.Common.{ℕ, zero, suc, ◌<◌, List, [], ◌∷◌, length, map, get_or, arith}
use Rattle.jo_value.specs.Texts.{Table}
use Rattle.jo_parse_tree.specs.declared.script.Script.{Script}
use Rattle.jo_parse_tree.specs.ScriptViews.{script_tree}
use Rattle.jo_parse_grammar.specs.Sound.{IsSound}
use Rattle.jo_parse_grammar.specs.Soundness.{AreSound}

pub sound_at : (texts : Table) (scripts : List Script) (at : ℕ) (d : Script) → AreSound texts (map script_tree scripts) → at < length scripts
    → IsSound texts (script_tree (get_or scripts at d))
sound_at texts [] at d s h = let nothing : ⊥ = omega arith in absurd nothing
sound_at texts (script ∷ scripts) zero d s h = s.0
sound_at texts (script ∷ scripts) (suc at) d s h = sound_at texts scripts at d s.1 (omega arith)
