-- What contracts see of the edge over std.
use Rattle.std.specs.Prelude.{ℕ}
use Rattle.jo_io.specs.declared.standard.StdSource.{StdSource}
use Rattle.jo_io.specs.declared.standard.StdSink.{StdSink}

-- the reader that a source stands on
abbrev pub source_inner : {R : Type 0} → StdSource R → R
source_inner s = s.inner

-- how many faults a source answered
abbrev pub source_faults : {R : Type 0} → StdSource R → ℕ
source_faults s = s.faults

-- the writer that a sink stands on
abbrev pub sink_inner : {W : Type 0} → StdSink W → W
sink_inner s = s.inner

-- how many faults a sink answered
abbrev pub sink_faults : {W : Type 0} → StdSink W → ℕ
sink_faults s = s.faults
