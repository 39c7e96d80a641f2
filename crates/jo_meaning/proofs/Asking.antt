-- What expressions ask is sound, whatever objects are known, where the shared one is and those in replies are.
use Rattle.std.proofs.Common.{ℕ, ◌<◌, length, Bool, true, false, List, [], ◌∷◌, ◌==◌, if◌then◌else◌, Option, Some, None, Result, Ok, Err, IfOk}
use Rattle.std.proofs.lemmas.Bool.{cond_both}
use Rattle.jo_value.specs.declared.value.Key.{Key}
use Rattle.jo_value.specs.declared.value.ObjId.{ObjId}
use Rattle.jo_value.specs.declared.value.Value.{Value}
use Rattle.jo_value.specs.declared.value.Value.TheVariants as value
use Rattle.jo_value.specs.Texts.{Table}
use Rattle.jo_parse_tree.specs.declared.operator.AssignOperator.{AssignOperator}
use Rattle.jo_parse_tree.specs.declared.operator.AssignOperator.TheVariants as assign_op
use Rattle.jo_parse_tree.specs.declared.operator.BinaryOperator.{BinaryOperator}
use Rattle.jo_parse_tree.specs.declared.operator.BinaryOperator.TheVariants as binary
use Rattle.jo_parse_tree.specs.Trees.{Tree, number, literal, constant, variable, group, object, cas, member, unary, delete, chain, choose, assign, Props, no_props, prop, Accesses, no_accesses, field, index, Links, no_links, link}
use Rattle.jo_parse_grammar.specs.Sound.{Suits, SuitProps, SuitAccesses, SuitLinks, SuitAll}
use Rattle.jo_model.specs.declared.call.Call.{Call}
use Rattle.jo_model.specs.declared.call.Call.TheVariants as call
use Rattle.jo_model.specs.declared.call.Outcome.{Outcome}
use Rattle.jo_model.specs.declared.call.Reply.{Reply}
use Rattle.jo_model.specs.declared.call.Reply.TheVariants as reply
use Rattle.jo_model.specs.Heaps.{shared}
use Rattle.jo_meaning.specs.Runs.{Interaction, Ends, Asks, Takes}
use Rattle.jo_meaning.specs.State.{State, Next, Environment, ends, unless_fault, unless_refused, asks, made_in, found_in, flag_in, variable_of, value_at, with_value_at}
use Rattle.jo_meaning.specs.Values.{is_falsy, apply, apply_unary, object_in}
use Rattle.jo_meaning.specs.Keys.{key_in, name_value, prop_value}
use Rattle.jo_meaning.specs.Expressions.{Giving, constant_value, Reference, plain, named, property, on_property, get_value, put_value, deletes, adjusts, assigns, operates, evaluates, refers, reaches, fills, operates_each, evaluates_each}
use Rattle.jo_meaning.specs.inner.Asking.{Known, IsSoundKey, IsSoundReply, IsSoundCall, Numbers}
use Rattle.jo_meaning.proofs.SoundValues.{key_sound, Sound, undefined_sound, bool_sound, apply_sound, apply_unary_sound, object_sound, number_sound, constant_sound, AreKnown, found_sound, made_sound, flag_sound}

module _ (texts : Table) (IsText : Numbers) (covers : (n : ℕ) → n < length texts → IsText n) (known : Known) where
  -- ---- what comes next

  -- each call is sound, for as long as the replies are sound and their objects are known
  abbrev pub AsksAmong : Interaction → Type 0
  AsksAmong (Ends outcome lines) = Unit {0}
  AsksAmong (Takes rest) = AsksAmong rest
  AsksAmong (Asks c lines answered) =
      IsSoundCall IsText known c × ((answer : Reply) → IsSoundReply IsText c answer → AreKnown known answer → AsksAmong (answered answer))

  -- so it is from each state on whose variables are sound
  pub record SoundNext (next : Next) : Type 0 where
    pub by : (s : State) → ((n : ℕ) → Sound texts IsText known (s.variables n)) → AsksAmong (next s)

  -- what is given is so, as far as sound ways to go on can tell
  abbrev pub Gives : {A : Type 0} → (A → Type 0) → Giving A → Type 0
  Gives {A} P give = (next : A → Next) → ((a : A) → P a → SoundNext (next a)) → SoundNext (give next)

  abbrev pub GoesOn : (Next → Next) → Type 0
  GoesOn f = (next : Next) → SoundNext next → SoundNext (f next)

  pub sound_end : (o : Outcome) → SoundNext (ends o)
  sound_end o = record { by = λ s v. tt }

  pub sound_if : (b : Bool) (f g : Next) → SoundNext f → SoundNext g → SoundNext (if b then f else g)
  sound_if true f g p q = p
  sound_if false f g p q = q

  pub sound_fault : {A : Type 0} (P : A → Type 0) (r : Result A Outcome) → IfOk r P → Gives P (unless_fault r)
  sound_fault P (Ok a) p next h = h a p
  sound_fault P (Err fault) p next h = sound_end fault

  refused : (answer : Reply) → GoesOn (unless_refused answer)
  refused reply.TooManyNames next h = sound_end _
  refused reply.ObjectsSpent next h = sound_end _
  refused (reply.Spent spent) next h = sound_end _
  refused _ next h = h

  pub sound_asks : (c : Call) → IsSoundCall IsText known c → (next : Reply → Next)
      → ((answer : Reply) → IsSoundReply IsText c answer → AreKnown known answer → SoundNext (next answer)) → SoundNext (asks c next)
  sound_asks c c_sound next h =
      record { by = λ s v. (c_sound, λ answer a given. (refused answer (next answer) (h answer a given)).by s v) }

  -- ---- what is referred to

  abbrev pub SoundReference : Reference → Type 0
  SoundReference (plain v) = Sound texts IsText known v
  SoundReference (named x) = Unit {0}
  SoundReference (property base key) = Sound texts IsText known base

  sound_on : (base key : Value) → Sound texts IsText known base → (next : ObjId → Key → Next)
      → ((o : ObjId) → known o → (k : Key) → IsSoundKey IsText k → SoundNext (next o k)) → SoundNext (on_property texts base key next)
  sound_on base key b next h =
      sound_fault known (object_in base) (object_sound texts IsText known base b) _
      (λ o o_known. sound_fault (IsSoundKey IsText) (key_in texts key) (key_sound texts IsText covers key) _ (h o o_known))

  value_at_sound : (x : Option ℕ) (s : State) → ((n : ℕ) → Sound texts IsText known (s.variables n)) → Sound texts IsText known (value_at x s)
  value_at_sound None s v = undefined_sound texts IsText known
  value_at_sound (Some n) s v = v n

  pub sound_get : (r : Reference) → SoundReference r → Gives (Sound texts IsText known) (get_value texts r)
  sound_get (plain v) r next h = h v r
  sound_get (named x) r next h = record { by = λ s v. (h (value_at x s) (value_at_sound x s v)).by s v }
  sound_get (property base key) r next h =
      sound_on base key r _ (λ o o_known k k_sound. sound_asks (call.Get o k) (o_known, k_sound) _
      (λ answer a given. h (found_in answer) (found_sound texts IsText known answer a.fits a.text given)))

  pub sound_put : (r : Reference) → SoundReference r → (new : Value) → Sound texts IsText known new → GoesOn (put_value texts r new)
  sound_put (plain v) r new n next h = h
  sound_put (named None) r new n next h = h
  sound_put (named (Some x)) r new n next h =
      record { by = λ s v. h.by (with_value_at (Some x) new s) (λ m. cond_both (m == x) new (s.variables m) (Sound texts IsText known) (λ e. n) (λ e. v m)) }
  sound_put (property base key) r new n next h =
      sound_on base key r _ (λ o o_known k k_sound. sound_asks (call.Put o k new) (o_known, k_sound, n) _ (λ answer a given. h))

  sound_delete : (r : Reference) → SoundReference r → GoesOn (deletes texts r)
  sound_delete (property base key) r next h =
      sound_on base key r _ (λ o o_known k k_sound. sound_asks (call.Delete o k) (o_known, k_sound) _ (λ answer a given. h))
  sound_delete _ r next h = h

  -- ---- expressions

  sound_operator : (operator : BinaryOperator) (x : Value) → Sound texts IsText known x → (right : Giving Value) → Gives (Sound texts IsText known) right
      → Gives (Sound texts IsText known) (operates texts operator x right)
  sound_operator binary.Or x x_sound right give next h = sound_if (is_falsy texts x) _ _ (give next h) (h x x_sound)
  sound_operator binary.And x x_sound right give next h = sound_if (is_falsy texts x) _ _ (h x x_sound) (give next h)
  sound_operator binary.In x x_sound right give next h =
      give _ (λ y y_sound. sound_on y x y_sound _ (λ o o_known k k_sound. sound_asks (call.Has o k) (o_known, k_sound) _
      (λ answer a given. h (flag_in answer) (flag_sound texts IsText known answer))))
  sound_operator operator x x_sound right give next h =
      give _ (λ y y_sound. sound_fault (Sound texts IsText known) (apply operator x y) (apply_sound texts IsText known operator x y x_sound) next h)

  sound_adjust : (operator : BinaryOperator) (r : Reference) → SoundReference r → (right : Giving Value) → Gives (Sound texts IsText known) right
      → Gives (Sound texts IsText known) (adjusts texts operator r right)
  sound_adjust operator r r_sound right give next h =
      sound_get r r_sound _ (λ old old_sound. sound_operator operator old old_sound right give _
      (λ new new_sound. sound_put r r_sound new new_sound _ (h new new_sound)))

  sound_assign : (operator : AssignOperator) (r : Reference) → SoundReference r → (right : Giving Value) → Gives (Sound texts IsText known) right
      → Gives (Sound texts IsText known) (assigns texts operator r right)
  sound_assign assign_op.Set r r_sound right give next h = give _ (λ v v_sound. sound_put r r_sound v v_sound _ (h v v_sound))
  sound_assign assign_op.Add r r_sound right give next h = sound_adjust binary.Plus r r_sound right give next h
  sound_assign assign_op.Subtract r r_sound right give next h = sound_adjust binary.Minus r r_sound right give next h

  module _ (has : known shared) where
    mutual
      pub sound_expression : (environment : Environment) (e : Tree) → Suits texts e → Gives (Sound texts IsText known) (evaluates texts environment e)
      sound_expression environment (number i) suits next h = h (value.Int i) (number_sound texts IsText known i suits)
      sound_expression environment (literal t) suits next h = h (value.Text t.text) (record { range = tt; text = covers t.text.0 suits; object = tt })
      sound_expression environment (constant w) suits next h = h (constant_value w) (constant_sound texts IsText known has w)
      sound_expression environment (variable x) suits next h = sound_get (named (variable_of environment x)) tt next h
      sound_expression environment (group e) suits next h = sound_expression environment e suits next h
      sound_expression environment (object props comma) suits next h =
          sound_asks call.New tt _ (λ answer a given.
          let made : Sound texts IsText known (made_in answer) = made_sound texts IsText known answer a.fits given in
          sound_props environment (made_in answer) made props suits.1 _ (h (made_in answer) made))
      sound_expression environment (cas base key expected desired) suits next h =
          sound_expression environment base suits.0 _ (λ b b_sound. sound_expression environment key suits.1 _ (λ at at_sound.
          sound_expression environment expected suits.2 _ (λ old old_sound. sound_expression environment desired suits.3 _ (λ new new_sound.
          sound_on b at b_sound _ (λ o o_known k k_sound. sound_asks (call.Cas o k old new) (o_known, k_sound, old_sound, new_sound) _
          (λ answer a given. h (found_in answer) (found_sound texts IsText known answer a.fits a.text given)))))))
      sound_expression environment (member e accesses) suits next h =
          sound_expression environment e suits.0 _ (λ v v_sound. sound_accesses environment (plain v) v_sound accesses suits.2 _
          (λ r r_sound. sound_get r r_sound next h))
      sound_expression environment (unary operator e) suits next h =
          sound_expression environment e suits _ (λ v v_sound. sound_fault (Sound texts IsText known) (apply_unary texts operator v) (apply_unary_sound texts IsText known operator v) next h)
      sound_expression environment (delete e) suits next h =
          sound_target environment e suits _ (λ r r_sound. sound_delete r r_sound _ (h (value.Bool true) (bool_sound texts IsText known true)))
      sound_expression environment (chain level e links) suits next h =
          sound_expression environment e suits.0 _ (λ v v_sound. sound_links environment v v_sound links suits.2 next h)
      sound_expression environment (choose c a b) suits next h =
          sound_expression environment c suits.0 _ (λ v v_sound. sound_if (is_falsy texts v) _ _
          (sound_expression environment b suits.2 next h) (sound_expression environment a suits.1 next h))
      sound_expression environment (assign operator target e) suits next h =
          sound_target environment target suits.0 _ (λ r r_sound.
          sound_assign operator r r_sound (evaluates texts environment e) (sound_expression environment e suits.1) next h)

      sound_target : (environment : Environment) (e : Tree) → Suits texts e → Gives SoundReference (refers texts environment e)
      sound_target environment (variable x) suits next h = h (named (variable_of environment x)) tt
      sound_target environment (member e accesses) suits next h =
          sound_expression environment e suits.0 _ (λ v v_sound. sound_accesses environment (plain v) v_sound accesses suits.2 next h)
      sound_target environment _ suits next h = h (plain value.Undefined) (undefined_sound texts IsText known)

      sound_accesses : (environment : Environment) (r : Reference) → SoundReference r → (accesses : Accesses) → SuitAccesses texts accesses
          → Gives SoundReference (reaches texts environment r accesses)
      sound_accesses environment r r_sound no_accesses suits next h = h r r_sound
      sound_accesses environment r r_sound (field name more) suits next h =
          sound_get r r_sound _ (λ base base_sound.
          sound_accesses environment (property base (name_value texts name)) base_sound more suits.1 next h)
      sound_accesses environment r r_sound (index e more) suits next h =
          sound_get r r_sound _ (λ base base_sound. sound_expression environment e suits.0 _ (λ key key_sound.
          sound_accesses environment (property base key) base_sound more suits.1 next h))

      sound_props : (environment : Environment) (o : Value) → Sound texts IsText known o → (props : Props) → SuitProps texts props
          → GoesOn (fills texts environment o props)
      sound_props environment o o_sound no_props suits next h = h
      sound_props environment o o_sound (prop key e more) suits next h =
          sound_expression environment e suits.1 _ (λ v v_sound. sound_put (property o (prop_value texts key)) o_sound v v_sound _
          (sound_props environment o o_sound more suits.2 next h))

      sound_links : (environment : Environment) (x : Value) → Sound texts IsText known x → (links : Links) → SuitLinks texts links
          → Gives (Sound texts IsText known) (operates_each texts environment x links)
      sound_links environment x x_sound no_links suits next h = h x x_sound
      sound_links environment x x_sound (link operator e more) suits next h =
          sound_operator operator x x_sound (evaluates texts environment e) (sound_expression environment e suits.0) _
          (λ v v_sound. sound_links environment v v_sound more suits.1 next h)

    -- the values of a printed line are not asked for
    pub sound_each : (environment : Environment) (es : List Tree) → SuitAll texts es
        → Gives (λ values. Unit {0}) (evaluates_each texts environment es)
    sound_each environment [] suits next h = h [] tt
    sound_each environment (e ∷ more) suits next h =
        sound_expression environment e suits.0 _ (λ v v_sound. sound_each environment more suits.1 _ (λ values all. h (v ∷ values) tt))
