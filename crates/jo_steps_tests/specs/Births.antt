-- What the second pass of a new heap knows when it has filled a block.
use Rattle.jo_rule.specs.Steps.{opening_view, split_right, with_own_word}
use Rattle.jo_rule.specs.Views.{View}
use Rattle.jo_steps.specs.Counting.{one_store}

abbrev pub header_view : View
header_view = let v = split_right opening_view in with_own_word v 0 64 (one_store v.counts)

abbrev pub filled_view : View
filled_view = with_own_word header_view 129 0 (one_store header_view.counts)
