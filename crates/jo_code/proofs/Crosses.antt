-- A code may go to other threads, and be read by several at once.
use denote.Param.Send.{IsSend, IsSync, sendable}
use Rattle.std.proofs.Crossing.{crosses}
use Rattle.jo_code.specs.contracts.code.Code as code
use Rattle.jo_code.specs.contracts.instruction.Instruction as instruction

-- an instruction may go to another thread
instruction_goes : IsSend instruction.the_row
instruction_goes = search sendable depth 200 fits 200000

-- several threads may read an instruction at once
instruction_shows : IsSync instruction.the_row
instruction_shows = search sendable depth 200 fits 2000000

-- it may go to another thread
pub code_goes : IsSend code.the_row
code_goes = search (sendable, crosses, instruction_goes) depth 20

-- several threads may read it at once
pub code_shows : IsSync code.the_row
code_shows = search (sendable, crosses, instruction_shows) depth 20
