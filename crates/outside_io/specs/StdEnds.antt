-- What a source or a sink over std shows of itself.
use Rattle.std.specs.Prelude.{ℕ}
use Rattle.outside_io.specs.declared.std_ends.StdSource.{StdSource}
use Rattle.outside_io.specs.declared.std_ends.StdSink.{StdSink}

-- the reader that a source reads
abbrev pub reader : {R : Type 0} → StdSource R → R
reader source = source.from

-- how often a source has failed
abbrev pub read_faults : {R : Type 0} → StdSource R → ℕ
read_faults source = source.faults

-- the writer that a sink writes to
abbrev pub writer : {W : Type 0} → StdSink W → W
writer sink = sink.to

-- how often a sink has failed
abbrev pub write_faults : {W : Type 0} → StdSink W → ℕ
write_faults sink = sink.faults
