-- A sound call is valid for each heap in which the known objects are born.
use Rattle.jo_value.specs.declared.value.ObjId.{ObjId}
use Rattle.jo_value.specs.declared.value.Key.{Key}
use Rattle.jo_value.specs.declared.value.Key.TheVariants.{Name, Index}
use Rattle.jo_value.specs.declared.value.Value.{Value}
use Rattle.jo_value.specs.declared.value.Value.TheVariants as value
use Rattle.jo_model.specs.declared.call.Call.{Call}
use Rattle.jo_model.specs.declared.call.Call.TheVariants as call
use Rattle.jo_model.specs.Heaps.{Heap, IsBorn}
use Rattle.jo_model.specs.Valid.{IsValidValue, IsValidKey, IsValidCall}
use Rattle.jo_meaning.specs.inner.Asking.{Known, IsSoundKey, IsSoundValue, IsSoundCall, Numbers}

module _ (IsText : Numbers) (known : Known) (heap : Heap) (born : (o : ObjId) → known o → IsBorn heap o) where
  valid_value : (v : Value) → IsSoundValue IsText known v → IsValidValue heap v
  valid_value (value.Object o) v_sound = born o v_sound.object
  valid_value _ v_sound = v_sound.range

  valid_key : (key : Key) → IsSoundKey IsText key → IsValidKey key
  valid_key (Name name) k_sound = tt
  valid_key (Index index) k_sound = k_sound

  pub valid_call : (c : Call) → IsSoundCall IsText known c → IsValidCall heap c
  valid_call call.New c_sound = record { object = tt; key = tt; values = tt }
  valid_call (call.Get o key) c_sound = record { object = born o c_sound.0; key = valid_key key c_sound.1; values = tt }
  valid_call (call.Has o key) c_sound = record { object = born o c_sound.0; key = valid_key key c_sound.1; values = tt }
  valid_call (call.Names o) c_sound = record { object = born o c_sound; key = tt; values = tt }
  valid_call (call.Put o key v) c_sound =
      record { object = born o c_sound.0; key = valid_key key c_sound.1; values = valid_value v c_sound.2 }
  valid_call (call.Delete o key) c_sound = record { object = born o c_sound.0; key = valid_key key c_sound.1; values = tt }
  valid_call (call.Cas o key expected desired) c_sound = record {
    object = born o c_sound.0;
    key = valid_key key c_sound.1;
    values = (valid_value expected c_sound.2, valid_value desired c_sound.3);
  }
