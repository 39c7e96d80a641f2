-- In the history that one thread gives for a sound script each call is valid for the heap before it, and each heap is valid.
use Rattle.std.proofs.Common.{◌<◌, ℕ, length, sym, subst, ⊎_elim, lit<, arith, if◌then◌else◌}
use Rattle.std.specs.Prelude.{nat_lt}
use Rattle.std.proofs.lemmas.Bool.{cond_both}
use Rattle.jo_value.specs.declared.limits.TheConstants.{MOST_OBJECTS}
use Rattle.jo_value.specs.declared.value.ObjId.{ObjId}
use Rattle.jo_value.specs.declared.value.Key.{Key}
use Rattle.jo_value.specs.declared.value.Value.{Value}
use Rattle.jo_value.specs.declared.value.Value.TheVariants as value
use Rattle.jo_value.specs.Texts.{Table}
use Rattle.jo_parse_tree.specs.Trees.{Items}
use Rattle.jo_parse_grammar.specs.Sound.{IsSound}
use Rattle.jo_model.specs.declared.call.Call.{Call}
use Rattle.jo_model.specs.declared.call.Call.TheVariants as call
use Rattle.jo_model.specs.declared.call.Reply.{Reply}
use Rattle.jo_model.specs.declared.call.Reply.TheVariants as reply
use Rattle.jo_model.specs.Objects.{Object, value_of, has_property, is_full_for, with_value, with_property}
use Rattle.jo_model.specs.Heaps.{Heap, heap_at_start, objects_of, object_of, with_new_object, IsBorn}
use Rattle.jo_model.specs.One.{one, put_in}
use Rattle.jo_model.specs.WellFormed.{IsWellFormedHeap}
use Rattle.jo_model.specs.Valid.{IsValidCall, IsValidReply, IsValidHeap}
use Rattle.jo_model.specs.Fits.{LeavesValid}
use Rattle.jo_model.proofs.LegalSteps.{kept}
use Rattle.jo_model.proofs.WellFormed.{well_formed-one, well_formed-start}
use Rattle.jo_model.proofs.ValidBirths.{born_after}
use Rattle.jo_model.proofs.Valid.{leaves_valid, valid_at_start}
use Rattle.jo_meaning.specs.Runs.{Interaction, Ends, Asks, Takes}
use Rattle.jo_meaning.specs.Play.{Played, play}
use Rattle.jo_meaning.specs.Scripts.{interaction_of}
use Rattle.jo_meaning.specs.Histories.{played_alone}
use Rattle.jo_meaning.specs.inner.Asking.{Known, known_at_start, known_after, IsGiven, HasText, GivesText, numbers_of, IsSoundKey, IsSoundCall, AsksSoundly, AreValidFrom}
use Rattle.jo_meaning.proofs.HeldProperties.{HeapHolds, PutsSuch, value_holds, object_holds, holds-one, holds_at_start, as_many_passes}
use Rattle.jo_meaning.proofs.AskingScripts.{asks_soundly}
use Rattle.jo_meaning.proofs.SoundCalls.{valid_call}

module _ (texts : Table) where
  -- a property with a sound key, of which a text is one of the table
  abbrev pub OfTable : Key → Value → Type 0
  OfTable key v = IsSoundKey (numbers_of texts) key × HasText (numbers_of texts) v

  -- a heap on which the pass may call
  pub record IsReady (pass : ℕ) (heap : Heap) : Type 0 where
    pub within : pass < length heap
    pub formed : IsWellFormedHeap heap
    pub valid : IsValidHeap heap
    pub of_table : HeapHolds OfTable heap

  -- ---- calls

  puts_of_table : (known : Known) (c : Call) → IsSoundCall (numbers_of texts) known c → PutsSuch OfTable c
  puts_of_table known (call.Put o key v) c_sound = (c_sound.1, c_sound.2.text)
  puts_of_table known (call.Cas o key expected desired) c_sound = (c_sound.1, c_sound.3.text)
  puts_of_table known _ c_sound = tt

  -- ---- replies

  -- a reply of one thread has a text of the table where the heap has no other

  put_of_table : (object : Object) (key : Key) (v : Value) → GivesText (numbers_of texts) (put_in object key v).1
  put_of_table object key v =
      let P : Object × Reply → Type 0 = λ edited. GivesText (numbers_of texts) edited.1 in
      cond_both (has_property object key) (with_value object key v, reply.Done)
      (if is_full_for object key then (object, reply.TooManyNames) else (with_property object key v, reply.Done)) P (λ there. tt)
      (λ lacking. cond_both (is_full_for object key) (object, reply.TooManyNames) (with_property object key v, reply.Done) P (λ full. tt) (λ room. tt))

  value_of_table : (heap : Heap) (o : ObjId) (key : Key) → HeapHolds OfTable heap → HasText (numbers_of texts) (value_of (object_of heap o) key)
  value_of_table heap o key h =
      value_holds OfTable (HasText (numbers_of texts)) tt (λ key v p. p.1) (object_of heap o) key (object_holds OfTable heap o h)

  answer_of_table : (heap : Heap) (pass : ℕ) (c : Call) → HeapHolds OfTable heap → GivesText (numbers_of texts) (one heap pass c).1
  answer_of_table heap pass call.New h =
      cond_both {A = Heap × Reply} (nat_lt (length (objects_of heap pass)) MOST_OBJECTS)
      (with_new_object heap pass, reply.Made (record { pass = pass; serial = length (objects_of heap pass) })) (heap, reply.ObjectsSpent)
      (λ left. GivesText (numbers_of texts) left.1) (λ few. tt) (λ many. tt)
  answer_of_table heap pass (call.Get o key) h = value_of_table heap o key h
  answer_of_table heap pass (call.Cas o key expected desired) h = value_of_table heap o key h
  answer_of_table heap pass (call.Put o key v) h = put_of_table (object_of heap o) key v
  answer_of_table heap pass _ h = tt

  -- the object that a valid reply gives is born
  pub given_born : (heap : Heap) (answer : Reply) → IsValidReply heap answer → (o : ObjId) → IsGiven answer o → IsBorn heap o
  given_born heap (reply.Made made) valid o given = subst (IsBorn heap) (sym given) valid
  given_born heap (reply.Found (value.Object found)) valid o given = subst (IsBorn heap) (sym given) valid
  given_born heap _ valid o given = absurd given

  -- ---- histories

  ready-one : (known : Known) (pass : ℕ) (heap : Heap) (c : Call) → IsReady pass heap → IsSoundCall (numbers_of texts) known c
      → LeavesValid c (one heap pass c).0 (one heap pass c).1 → IsReady pass (one heap pass c).0
  ready-one known pass heap c ready c_sound leaves = record {
    within = omega (arith, ready.within, as_many_passes heap pass c);
    formed = well_formed-one heap pass c ready.formed;
    valid = leaves.values;
    of_table = holds-one OfTable heap pass c (puts_of_table known c c_sound) ready.of_table;
  }

  -- the history is valid, and its heap is one on which the pass may go on
  pub valid-play : (pass : ℕ) (t : Interaction) (known : Known) (heap : Heap) → ((o : ObjId) → known o → IsBorn heap o)
      → IsReady pass heap → AsksSoundly (numbers_of texts) known t → AreValidFrom heap (play pass t heap).history × IsReady pass (play pass t heap).heap
  valid-play pass (Ends outcome lines) known heap born ready asks = (ready.valid, ready)
  valid-play pass (Takes rest) known heap born ready asks = valid-play pass rest known heap born ready asks
  valid-play pass (Asks c lines answered) known heap born ready asks =
      let new : Heap = (one heap pass c).0 in
      let answer : Reply = (one heap pass c).1 in
      let c_valid : IsValidCall heap c = valid_call (numbers_of texts) known heap born c asks.0 in
      let leaves : LeavesValid c new answer = leaves_valid heap pass c ready.within ready.formed ready.valid c_valid in
      let rest : Played = play pass (answered answer) new in
      let after : AreValidFrom new rest.history × IsReady pass rest.heap =
      valid-play pass (answered answer) (known_after known answer) new
      (λ o. ⊎_elim (λ o_known. born_after heap pass c o (born o o_known)) (given_born new answer leaves.named o))
      (ready-one known pass heap c ready asks.0 leaves)
      (asks.1 answer (record { fits = leaves.fits; text = answer_of_table heap pass c ready.of_table })) in
      ((ready.valid, c_valid, subst (λ h. AreValidFrom h rest.history) (sym (kept heap pass c)) after.0), after.1)

  ready_at_start : IsReady 1 (heap_at_start 2)
  ready_at_start = record { within = lit< tt; formed = well_formed-start 2; valid = valid_at_start 2; of_table = holds_at_start OfTable 2 }

  module _ (script : Items) (turns : ℕ) (s : IsSound texts script) where
    abbrev alone : Played
    alone = played_alone script texts turns

    both_alone : AreValidFrom (heap_at_start 2) alone.history × IsReady 1 alone.heap
    both_alone =
        valid-play 1 (interaction_of script texts turns) known_at_start (heap_at_start 2)
        (λ o is_shared. subst (IsBorn (heap_at_start 2)) (sym is_shared) (lit< tt)) ready_at_start (asks_soundly script texts turns s)

    pub valid-alone : AreValidFrom (heap_at_start 2) alone.history
    valid-alone = both_alone.0

    -- the heap that is left is valid and well formed, and its names and texts are those of the table
    pub ready-alone : IsReady 1 alone.heap
    ready-alone = both_alone.1
