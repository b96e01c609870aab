-- The reader and the writer under an adapter. Source: this project's own.
use Rattle.std.specs.Prelude.{ℕ}
use Rattle.blink_edge.specs.declared.streams.StdIn.{StdIn}
use Rattle.blink_edge.specs.declared.streams.StdOut.{StdOut}

-- the reader that a source stands over
abbrev pub reader_under : {R : Type 0} → StdIn R → R
reader_under source = source.inner

-- how often it has failed
abbrev pub source_faults : {R : Type 0} → StdIn R → ℕ
source_faults source = source.faults

-- the writer that a sink stands over
abbrev pub writer_under : {W : Type 0} → StdOut W → W
writer_under sink = sink.inner

-- how often it has failed
abbrev pub sink_faults : {W : Type 0} → StdOut W → ℕ
sink_faults sink = sink.faults
