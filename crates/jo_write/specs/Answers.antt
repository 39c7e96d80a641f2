-- What the answers of calls that write say.
use Rattle.std.specs.Prelude.{◌≡◌, ◌⊎◌, ℕ, ◌+◌, ◌<◌, ◌≤◌, true, nat_lt, if◌then◌else◌, List, [], ◌∷◌, ◌++◌, Result, Ok, Err, None}
use Rattle.jo_value.specs.declared.capacities.TheConstants.{ELEMENT_CAPACITIES}
use Rattle.jo_value.specs.declared.limits.TheConstants.{MOST_OBJECTS, MOST_STORAGE}
use Rattle.jo_value.specs.declared.value.Key.{Key}
use Rattle.jo_value.specs.declared.value.Key.TheVariants.{Name, Index}
use Rattle.jo_value.specs.declared.value.ObjId.{ObjId}
use Rattle.jo_value.specs.declared.value.Value.{Value}
use Rattle.jo_model.specs.declared.call.Call.TheVariants as call
use Rattle.jo_model.specs.declared.call.Reply.{Reply}
use Rattle.jo_model.specs.declared.call.Reply.TheVariants as reply
use Rattle.jo_model.specs.declared.call.Spent.{Spent}
use Rattle.jo_model.specs.Heaps.{object_of}
use Rattle.jo_model.specs.Logs.{Log, after, change}
use Rattle.jo_model.specs.Objects.{Object, property}
use Rattle.jo_rule.specs.Dictionaries.{block_size}
use Rattle.jo_rule.specs.Marks.{Mark}
use Rattle.jo_rule.specs.Views.{View}
use Rattle.jo_write.specs.declared.faults.NewFault.{NewFault}
use Rattle.jo_write.specs.declared.faults.NewFault.TheVariants as new_fault
use Rattle.jo_write.specs.declared.faults.PutFault.{PutFault}
use Rattle.jo_write.specs.declared.faults.PutFault.TheVariants as put_fault

-- the reply that an answer is
abbrev pub new_reply : Result ObjId NewFault → Reply
new_reply (Ok o) = reply.Made o
new_reply (Err new_fault.ObjectsSpent) = reply.ObjectsSpent
new_reply (Err (new_fault.Spent spent)) = reply.Spent spent

abbrev pub put_reply : Result (Unit {0}) PutFault → Reply
put_reply (Ok done) = reply.Done
put_reply (Err put_fault.TooManyNames) = reply.TooManyNames
put_reply (Err (put_fault.Spent spent)) = reply.Spent spent

abbrev pub delete_reply : Result (Unit {0}) Spent → Reply
delete_reply (Ok done) = reply.Flag true
delete_reply (Err spent) = reply.Spent spent

-- the least of these that is above a number, 0 for none
abbrev pub least_above : List ℕ → ℕ → ℕ
least_above [] n = 0
least_above (e ∷ es) n = if nat_lt n e then e else least_above es n

-- the words that a put may take: those of a block with the least room that has the index
abbrev pub need_for : Key → ℕ
need_for (Name name) = 0
need_for (Index index) = block_size (least_above ELEMENT_CAPACITIES index)

-- neither this index nor one above it is there
abbrev pub IsBeyond : Object → ℕ → Type 0
IsBeyond z index = (i : ℕ) → index ≤ i → property z (Index i) ≡ None

-- storage was taken for an index that was not there when it was put, nor was one above it
pub record HasGrown (passes : ℕ) (o : ObjId) (index : ℕ) (value : Value) (v u : View) : Type 0 where
  pub log : Log Mark
  pub seen : u.past.seen ≡ log ++ change v.number (call.Put o (Index index) value) ∷ []
  pub beyond : IsBeyond (object_of (after passes log) o) index
  pub used : u.storage.used ≡ v.storage.used + need_for (Index index)

-- a put took no storage, or it has grown the elements
abbrev pub TakesStorage : ℕ → ObjId → Key → Value → View → View → Type 0
TakesStorage passes o (Name name) value v u = u.storage.used ≡ v.storage.used
TakesStorage passes o (Index index) value v u = (u.storage.used ≡ v.storage.used) ⊎ HasGrown passes o index value v u

-- the storage used, and what was needed beside, which is too much
pub record IsSpentBy (need : ℕ) (v : View) (spent : Spent) : Type 0 where
  pub used : spent.used ≡ v.storage.used
  pub need_is : spent.need ≡ need
  pub over : MOST_STORAGE < v.storage.used + need

-- why no object was made
abbrev pub IsNewFault : View → NewFault → Type 0
IsNewFault v new_fault.ObjectsSpent = v.births.objects ≡ MOST_OBJECTS
IsNewFault v (new_fault.Spent spent) = (v.births.objects < MOST_OBJECTS) × IsSpentBy (block_size 0) v spent

-- Why a property was not put. That there are too many names is the reply of one thread; storage is spent for an index that is not
-- there, nor is one above it.
abbrev pub IsPutFault : ℕ → ObjId → Key → View → View → PutFault → Type 0
IsPutFault passes o key v u put_fault.TooManyNames = Unit {0}
IsPutFault passes o (Name name) v u (put_fault.Spent spent) = ⊥
IsPutFault passes o (Index index) v u (put_fault.Spent spent) =
    IsSpentBy (need_for (Index index)) v spent × IsBeyond (object_of (after passes u.past.seen) o) index
