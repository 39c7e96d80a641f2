use Rattle.std.proofs.Common.{◌≡◌, length, map, take}
use Rattle.jo_vm.specs.inner.Words.{word_id}
use Rattle.jo_vm.proofs.keywords.ids_of.Given as goal

abbrev pub invariant-loop-place : goal.invariant-loop-place
invariant-loop-place l = record {
  long : length l.ids ≡ 17;
  so_far : take l.place l.ids ≡ map (word_id l.texts) (take l.place l.words);
}
