-- When all that a script asks of the heap is sound: it names texts of its table, and objects that it was given.
use Rattle.std.specs.Prelude.{◌≡◌, ◌⊎◌, ℕ, ◌<◌, ◌≤◌, List, [], ◌∷◌, length}
use Rattle.jo_value.specs.declared.limits.TheConstants.{MOST_INDEX}
use Rattle.jo_value.specs.declared.value.Key.{Key}
use Rattle.jo_value.specs.declared.value.Key.TheVariants.{Name, Index}
use Rattle.jo_value.specs.declared.value.ObjId.{ObjId}
use Rattle.jo_value.specs.declared.value.Value.{Value}
use Rattle.jo_value.specs.declared.value.Value.TheVariants as value
use Rattle.jo_value.specs.Texts.{Table}
use Rattle.jo_value.specs.Values.{IsInRange}
use Rattle.jo_model.specs.declared.call.Call.{Call}
use Rattle.jo_model.specs.declared.call.Call.TheVariants as call
use Rattle.jo_model.specs.declared.call.Reply.{Reply}
use Rattle.jo_model.specs.declared.call.Reply.TheVariants as reply
use Rattle.jo_model.specs.Fits.{Fits}
use Rattle.jo_model.specs.Heaps.{Heap, shared}
use Rattle.jo_model.specs.History.{History, after_entry}
use Rattle.jo_model.specs.Valid.{IsValidCall, IsValidHeap}
use Rattle.jo_meaning.specs.Runs.{Interaction, Ends, Asks, Takes}

-- ---- objects

-- the objects that a script knows
abbrev pub Known : Type 1
Known = ObjId → Type 0

-- at the start it knows the shared one
abbrev pub known_at_start : Known
known_at_start o = o ≡ shared

-- the object that a reply is, or holds
abbrev pub IsGiven : Reply → Known
IsGiven (reply.Made given) o = o ≡ given
IsGiven (reply.Found (value.Object given)) o = o ≡ given
IsGiven _ o = ⊥

-- after a reply it knows that one too
abbrev pub known_after : Known → Reply → Known
known_after known answer o = known o ⊎ IsGiven answer o

-- after these replies, from the first on
abbrev pub known_by : Known → List Reply → Known
known_by known [] = known
known_by known (answer ∷ answers) = known_by (known_after known answer) answers

-- a value that is an object is one that is known
abbrev pub IsKnown : Known → Value → Type 0
IsKnown known (value.Object o) = known o
IsKnown known v = Unit {0}

-- ---- values, keys, calls and replies

-- which numbers are those of texts: those of a table, or any
abbrev pub Numbers : Type 1
Numbers = ℕ → Type 0

abbrev pub numbers_of : Table → Numbers
numbers_of texts n = n < length texts

abbrev pub all_numbers : Numbers
all_numbers n = Unit {0}

module _ (IsText : Numbers) where
  -- a text has such a number
  abbrev pub HasText : Value → Type 0
  HasText (value.Text t) = IsText t.0
  HasText v = Unit {0}

  -- the number of a name is that of a text, and an index is within the limit
  abbrev pub IsSoundKey : Key → Type 0
  IsSoundKey (Name name) = IsText name.0
  IsSoundKey (Index index) = index ≤ MOST_INDEX

  -- so has a text in a reply
  abbrev pub GivesText : Reply → Type 0
  GivesText (reply.Found v) = HasText v
  GivesText answer = Unit {0}

  -- a reply fits its call, and a text that it holds has such a number; the names in it may be any, since they are only printed
  pub record IsSoundReply (call : Call) (answer : Reply) : Type 0 where
    pub fits : Fits call answer
    pub text : GivesText answer

  module _ (known : Known) where
    -- a number is in range, a text has such a number, and an object is known
    pub record IsSoundValue (v : Value) : Type 0 where
      pub range : IsInRange v
      pub text : HasText v
      pub object : IsKnown known v

    -- the object of a call is known, and its key and values are sound
    abbrev pub IsSoundCall : Call → Type 0
    IsSoundCall call.New = Unit {0}
    IsSoundCall (call.Get o key) = known o × IsSoundKey key
    IsSoundCall (call.Has o key) = known o × IsSoundKey key
    IsSoundCall (call.Names o) = known o
    IsSoundCall (call.Put o key v) = known o × IsSoundKey key × IsSoundValue v
    IsSoundCall (call.Delete o key) = known o × IsSoundKey key
    IsSoundCall (call.Cas o key expected desired) = known o × IsSoundKey key × IsSoundValue expected × IsSoundValue desired

  -- ---- runs

  -- Each call is sound for the objects known before it, for as long as the replies are sound.
  abbrev pub AsksSoundly : Known → Interaction → Type 0
  AsksSoundly known (Ends outcome lines) = Unit {0}
  AsksSoundly known (Takes rest) = AsksSoundly known rest
  AsksSoundly known (Asks call lines answered) =
      IsSoundCall known call × ((answer : Reply) → IsSoundReply call answer → AsksSoundly (known_after known answer) (answered answer))

  -- the replies that these calls were answered with are sound; replies to no call may be any
  abbrev pub AreSoundReplies : List Call → List Reply → Type 0
  AreSoundReplies (call ∷ calls) (answer ∷ answers) = IsSoundReply call answer × AreSoundReplies calls answers
  AreSoundReplies calls answers = Unit {0}

-- each call of a run is valid where the objects known by then are born, for as long as the replies fit, whatever texts they hold
abbrev pub AsksValidly : Known → Interaction → Type 0
AsksValidly = AsksSoundly all_numbers

-- ---- histories

-- each heap on the way is valid, and each call is valid for the heap before it
abbrev pub AreValidFrom : Heap → History → Type 0
AreValidFrom heap [] = IsValidHeap heap
AreValidFrom heap (e ∷ w) = IsValidHeap heap × IsValidCall heap e.call × AreValidFrom (after_entry heap e) w
