-- A source and a sink, before a call and behind it.
use Rattle.std.specs.Prelude.{◌≡◌}
use Rattle.std.specs.Io.KnownBytes.{Keeps}
use Rattle.outside_io.specs.Causes.{Rose}
use Rattle.outside_io.specs.declared.sink.Sink.{Ghosts as SinkGhosts}
use Rattle.outside_io.specs.declared.source.Source.{Ghosts as SourceGhosts}

-- a source before a call and behind it; `of` says of both what is left and how often it has failed
pub record SourceStream (S : Type 0) : Type 1 where
  pub of : SourceGhosts S
  pub old : S
  pub new : S

-- a sink before a call and behind it; `of` says of both what it holds and how often it has failed
pub record SinkStream (K : Type 0) : Type 1 where
  pub of : SinkGhosts K
  pub old : K
  pub new : K

abbrev pub source_stream : {S : Type 0} → SourceGhosts S → S → S → SourceStream S
source_stream of old new = record { of = of; old = old; new = new }

abbrev pub sink_stream : {K : Type 0} → SinkGhosts K → K → K → SinkStream K
sink_stream of old new = record { of = of; old = old; new = new }

-- what a call did to its source and its sink
pub record CallStreams (S K : Type 0) : Type 1 where
  pub source : SourceStream S
  pub out : SinkStream K

-- the streams of a call: its source first, and then its output
abbrev pub call : {S K : Type 0} → SourceGhosts S → S → S → SinkGhosts K → K → K → CallStreams S K
call source source_old source_new out out_old out_new = record {
  source = source_stream source source_old source_new;
  out = sink_stream out out_old out_new;
}

-- its bytes are what they were, and so is its count of faults
abbrev pub SourceStays : {S : Type 0} → SourceStream S → Type 0
SourceStays source = Keeps (source.of.left source.old) (source.of.left source.new) × (source.of.faults source.new ≡ source.of.faults source.old)

abbrev pub SinkStays : {K : Type 0} → SinkStream K → Type 0
SinkStays out = Keeps (out.of.held out.old) (out.of.held out.new) × (out.of.faults out.new ≡ out.of.faults out.old)

-- its count rose, or it stands at its last number
abbrev pub SourceFails : {S : Type 0} → SourceStream S → Type 0
SourceFails source = Rose (source.of.faults source.old) (source.of.faults source.new)

abbrev pub SinkFails : {K : Type 0} → SinkStream K → Type 0
SinkFails out = Rose (out.of.faults out.old) (out.of.faults out.new)
