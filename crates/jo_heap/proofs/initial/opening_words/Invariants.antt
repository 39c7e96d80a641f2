use Rattle.jo_heap.proofs.Begun.{AreWords, begun_before}
use Rattle.jo_heap.proofs.initial.opening_words.Given as goal

abbrev pub invariant-loop-pass : goal.invariant-loop-pass
invariant-loop-pass l = AreWords l.fn.passes (begun_before l.pass) l.words.items
