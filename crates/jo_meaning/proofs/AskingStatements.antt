-- What the statements of a sound script ask is sound, whatever objects are known, where the shared one is and those in replies are.
use Rattle.std.proofs.Common.{ℕ, ◌<◌, zero, suc, true, List, [], ◌∷◌, ◌++◌, ◌+◌, length, nat_le, Option, Some, None}
use Rattle.std.proofs.lemmas.Bool.{cond_both}
use Rattle.jo_value.specs.declared.limits.TheConstants.{MOST_LINE_BYTES}
use Rattle.jo_value.specs.declared.value.Value.{Value}
use Rattle.jo_value.specs.declared.value.Value.TheVariants as value
use Rattle.jo_value.specs.Texts.{Table}
use Rattle.jo_parse_tree.specs.Blocks.{declared_in, declared_by}
use Rattle.jo_parse_tree.specs.Trees.{Tree, Binding, Head, declares, begins, Statement, empty, block, when, either, while, for, break, continue, print, print_names, evaluate, Items, no_items, declare, perform}
use Rattle.jo_parse_grammar.specs.Sound.{IsSound, SuitsOptional, SuitBindings, SuitsHead, SuitsStatement, SuitItems}
use Rattle.jo_model.specs.declared.call.Call.TheVariants as call
use Rattle.jo_model.specs.declared.call.Outcome.TheVariants as outcome
use Rattle.jo_model.specs.Heaps.{shared}
use Rattle.jo_model.specs.Printed.{line_of}
use Rattle.jo_meaning.specs.State.{Next, Environment, ends, names_in, take_turn, variable_of}
use Rattle.jo_meaning.specs.Values.{is_falsy, object_in}
use Rattle.jo_meaning.specs.Printed.{line_of_names, prints}
use Rattle.jo_meaning.specs.Expressions.{Giving, named, evaluates}
use Rattle.jo_meaning.specs.Statements.{evaluates_or, steps, binds, starts, repeats, loops, loops_for, executes, executes_all}
use Rattle.jo_meaning.specs.Scripts.{interaction_of, state_at_start}
use Rattle.jo_meaning.specs.inner.Asking.{Known, Numbers}
use Rattle.jo_meaning.proofs.SoundValues.{Sound, undefined_sound, bool_sound, object_sound}
use Rattle.jo_meaning.proofs.Asking.{AsksAmong, SoundNext, Gives, GoesOn, sound_end, sound_if, sound_fault, sound_asks, sound_put, sound_expression, sound_each}

module _ (texts : Table) (IsText : Numbers) (covers : (n : ℕ) → n < length texts → IsText n) (known : Known) where
  -- ---- lines and turns

  sound_line : (line : List ℕ) → GoesOn texts IsText covers known (prints line)
  sound_line line next h = record {
    by = λ s v. cond_both (nat_le (length s.lines + length line + 1) MOST_LINE_BYTES)
        (next (record s { lines = s.lines ++ line ++ 10 ∷ [] })) (ends outcome.OutputFull s) (AsksAmong texts IsText covers known)
        (λ room. h.by (record s { lines = s.lines ++ line ++ 10 ∷ [] }) v) (λ full. tt);
  }

  sound_turn : (left : ℕ) → GoesOn texts IsText covers known (take_turn left)
  sound_turn zero next h = record { by = λ s v. tt }
  sound_turn (suc left) next h = record { by = λ s v. h.by (record s { turns = left }) v }

  -- ---- loops

  module _ (test : Giving Value) (body : Next → Next) (after : Next)
      (gives : Gives texts IsText covers known (Sound texts IsText known) test) (goes : GoesOn texts IsText covers known body) (h : SoundNext texts IsText covers known after) where
    sound_repeats : (most : ℕ) → SoundNext texts IsText covers known (repeats texts most test body after)
    sound_repeats zero = sound_end texts IsText covers known outcome.TurnsSpent
    sound_repeats (suc most) = record {
      by = λ s v. (sound_turn s.turns _ (gives _ (λ x x_sound. sound_if texts IsText covers known (is_falsy texts x) _ _ h (goes _ (sound_repeats most))))).by s v;
    }

    sound_loops : SoundNext texts IsText covers known (loops texts test body after)
    sound_loops = record { by = λ s v. (sound_repeats s.turns).by s v }

  -- ---- statements

  -- what has three ways to go on is sound where they are
  abbrev pub GoesOnThree : (Next → Next → Next → Next) → Type 0
  GoesOnThree f =
      (next broken continued : Next) → SoundNext texts IsText covers known next → SoundNext texts IsText covers known broken → SoundNext texts IsText covers known continued
      → SoundNext texts IsText covers known (f next broken continued)

  module _ (has : known shared) where
    sound_or : (other : Value) → Sound texts IsText known other → (environment : Environment) (e : Option Tree) → SuitsOptional texts e
        → Gives texts IsText covers known (Sound texts IsText known) (evaluates_or texts other environment e)
    sound_or other o environment None suits next h = h other o
    sound_or other o environment (Some e) suits next h = sound_expression texts IsText covers known has environment e suits next h

    sound_steps : (environment : Environment) (e : Option Tree) → SuitsOptional texts e → GoesOn texts IsText covers known (steps texts environment e)
    sound_steps environment e suits next h = sound_or value.Undefined (undefined_sound texts IsText known) environment e suits _ (λ v v_sound. h)

    sound_binds : (environment : Environment) (bindings : List Binding) → SuitBindings texts bindings → GoesOn texts IsText covers known (binds texts environment bindings)
    sound_binds environment [] suits next h = h
    sound_binds environment (b ∷ bindings) suits next h =
        sound_or value.Undefined (undefined_sound texts IsText known) environment b.1 suits.1 _ (λ v v_sound.
        sound_put texts IsText covers known (named (variable_of environment b.0)) tt v v_sound _ (sound_binds environment bindings suits.2 next h))

    sound_starts : (environment : Environment) (head : Head) → SuitsHead texts head → GoesOn texts IsText covers known (starts texts environment head)
    sound_starts environment (declares bindings) suits next h = sound_binds environment bindings suits.1 next h
    sound_starts environment (begins e) suits next h = sound_steps environment e suits next h

    sound_for : (environment : Environment) (head : Head) (c step : Option Tree) → SuitsHead texts head → SuitsOptional texts c → SuitsOptional texts step
        → (body : Environment → Next → Next → Next → Next) → GoesOnThree (body environment)
        → GoesOn texts IsText covers known (loops_for texts environment head c step body)
    sound_for environment head c step head_suits c_suits step_suits body goes next h =
        sound_starts environment head head_suits _ (sound_loops (evaluates_or texts (value.Bool true) environment c)
        (λ again. body environment (steps texts environment step again) next (steps texts environment step again)) next
        (sound_or (value.Bool true) (bool_sound texts IsText known true) environment c c_suits)
        (λ again a. goes _ _ _ (sound_steps environment step step_suits again a) h (sound_steps environment step step_suits again a)) h)

    mutual
      sound_statement : (environment : Environment) (statement : Statement) → SuitsStatement texts statement → GoesOnThree (executes texts environment statement)
      sound_statement environment empty suits next broken continued h b c = h
      sound_statement environment (block items) suits next broken continued h b c =
          sound_items (declared_in items ++ environment) items suits.1 next broken continued h b c
      sound_statement environment (when e a) suits next broken continued h b c =
          sound_expression texts IsText covers known has environment e suits.0 _ (λ v v_sound. sound_if texts IsText covers known (is_falsy texts v) _ _ h
          (sound_statement environment a suits.1 next broken continued h b c))
      sound_statement environment (either e a other) suits next broken continued h b c =
          sound_expression texts IsText covers known has environment e suits.0 _ (λ v v_sound. sound_if texts IsText covers known (is_falsy texts v) _ _
          (sound_statement environment other suits.2 next broken continued h b c) (sound_statement environment a suits.1 next broken continued h b c))
      sound_statement environment (while e body) suits next broken continued h b c =
          sound_loops (evaluates texts environment e) (λ again. executes texts environment body again next again) next
          (sound_expression texts IsText covers known has environment e suits.0)
          (λ again a. sound_statement environment body suits.1 again next again a h a) h
      sound_statement environment (for head e step body) suits next broken continued h b c =
          sound_for (declared_by head ++ environment) head e step suits.0 suits.1 suits.2 (λ inner. executes texts inner body)
          (sound_statement (declared_by head ++ environment) body suits.3) next h
      sound_statement environment break suits next broken continued h b c = b
      sound_statement environment continue suits next broken continued h b c = c
      sound_statement environment (print es) suits next broken continued h b c =
          sound_each texts IsText covers known has environment es suits.1 _ (λ values all. sound_line (line_of texts values) next h)
      sound_statement environment (print_names e) suits next broken continued h b c =
          sound_expression texts IsText covers known has environment e suits _ (λ v v_sound.
          sound_fault texts IsText covers known known (object_in v) (object_sound texts IsText known v v_sound) _ (λ o o_known.
          sound_asks texts IsText covers known (call.Names o) o_known _ (λ answer a given. sound_line (line_of_names texts (names_in answer)) next h)))
      sound_statement environment (evaluate e) suits next broken continued h b c =
          sound_expression texts IsText covers known has environment e suits _ (λ v v_sound. h)

      sound_items : (environment : Environment) (items : Items) → SuitItems texts items → GoesOnThree (executes_all texts environment items)
      sound_items environment no_items suits next broken continued h b c = h
      sound_items environment (declare bindings items) suits next broken continued h b c =
          sound_binds environment bindings suits.0.1 _ (sound_items environment items suits.1 next broken continued h b c)
      sound_items environment (perform statement items) suits next broken continued h b c =
          sound_statement environment statement suits.0 _ broken continued (sound_items environment items suits.1 next broken continued h b c) b c

    -- ---- scripts

    pub script_among : (script : Items) (turns : ℕ) → IsSound texts script → AsksAmong texts IsText covers known (interaction_of script texts turns)
    script_among script turns s =
        (sound_items (declared_in script) script s.parts _ _ _ (sound_end texts IsText covers known outcome.Done) (sound_end texts IsText covers known outcome.Done) (sound_end texts IsText covers known outcome.Done)).by
        (state_at_start turns) (λ n. undefined_sound texts IsText known)
