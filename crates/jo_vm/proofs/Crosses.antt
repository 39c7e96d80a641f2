-- A machine may go to another thread, and a table of texts be read by several at once.
use denote.Param.Send.{IsSend, IsSync, sendable}
use denote.RattleType.{RattleType}
use denote.Ref.{NamedLft}
use Rattle.core.specs.declared.cmp.PartialEq as eq
use Rattle.core.specs.declared.hash.Hash as hash
use Rattle.core.specs.declared.hash.Hasher as hasher
use Rattle.core.specs.declared.hash.build.BuildHasher as builder
use Rattle.indexmap.specs.contracts.columns.Columns as columns
use Rattle.indexmap.specs.contracts.index_table.Bucket as bucket
use Rattle.indexmap.specs.contracts.index_table.IndexTable as table
use Rattle.indexmap.specs.contracts.index_table.group.Group as group
use Rattle.indexmap.specs.contracts.map.IndexMap as maps
use Rattle.jo_code.specs.contracts.instruction.Instruction as instruction
use Rattle.jo_value.specs.contracts.texts.Texts as texts
use Rattle.jo_value.specs.contracts.value.Value as value
use Rattle.jo_vm.specs.contracts.execution.Execution as execution
use Rattle.jo_vm.specs.contracts.frame.Frame as frame
use Rattle.jo_vm.specs.contracts.lines.Lines as lines
use Rattle.jo_vm.specs.contracts.stack.Stack as stack
use Rattle.jo_vm.specs.contracts.variables.Variables as variables
use Rattle.jo_vm.specs.contracts.vm.Stage as stage
use Rattle.jo_vm.specs.contracts.vm.Vm as vm
use Rattle.jo_vm.specs.contracts.keywords.Words as words
use Rattle.std.proofs.Crossing.{crosses}
use Rattle.std_alloc.specs.contracts.string.String as string
use Rattle.std_heap.specs.contracts.Global as heap
use Rattle.std_heap.specs.contracts.GlobalAllocator.TheImpl.{ghosts}

group_shows : IsSync group.the_row
group_shows = search sendable depth 20

bucket_shows : IsSync bucket.the_row
bucket_shows = search sendable depth 20

string_shows : IsSync (string.the_field heap.the_row ghosts).row
string_shows = search (sendable, crosses) depth 20

table_shows : IsSync (table.the_field heap.the_row ghosts).row
table_shows = search (sendable, crosses, group_shows, bucket_shows) depth 20

module _ (K V : RattleType) where
  columns_show : IsSync K → IsSync V → IsSync (columns.the_field K V heap.the_row ghosts).row
  columns_show yk yv = search (sendable, crosses) depth 20

  module _ (S T : RattleType) (e : eq.Ghosts K.Denot) (h : hash.Ghosts K.Denot) (b : builder.Ghosts S.Denot T.Denot) (w : hasher.Ghosts T.Denot) where
    map_shows : IsSync K → IsSync V → IsSync S → IsSync (maps.the_field K V S heap.the_row T e h b w ghosts).row
    map_shows yk yv ys = let a = columns_show yk yv in search (sendable, table_shows) depth 20

-- several threads may read a table of texts at once
pub texts_show : IsSync texts.the_row
texts_show = search (sendable, crosses, string_shows, map_shows) depth 20

-- several threads may read an instruction at once
instruction_shows : IsSync instruction.the_row
instruction_shows = search sendable depth 200 fits 2000000

value_goes : IsSend value.the_row
value_goes = search sendable depth 200 fits 200000

stack_goes : IsSend stack.the_row
stack_goes = search (sendable, crosses, value_goes) depth 20

variables_go : IsSend variables.the_row
variables_go = search (sendable, crosses, value_goes) depth 20

lines_go : IsSend lines.the_row
lines_go = search (sendable, crosses) depth 20

stage_goes : IsSend stage.the_field.row
stage_goes = search sendable depth 200 fits 200000

module _ (l : NamedLft) where
  words_go : IsSend (words.the_row l)
  words_go = search (sendable, crosses, texts_show) depth 40 fits 20000

  frame_goes : IsSend (frame.the_field l).row
  frame_goes = search (sendable, texts_show, words_go, stack_goes, variables_go, lines_go) depth 40 fits 20000

  execution_goes : IsSend (execution.the_field l).row
  execution_goes = search (sendable, crosses, instruction_shows, frame_goes) depth 200 fits 200000

  -- a machine may go to another thread
  pub machine_goes : IsSend (vm.the_row l)
  machine_goes = search (sendable, crosses, execution_goes, stage_goes) depth 200 fits 200000
