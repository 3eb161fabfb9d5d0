-- What a pen leaves in a sink. A clause over a sink of type `K` passes `K.Sink`, which has what the sink holds and its count of faults.
use Rattle.std.specs.Prelude.{◌≡◌, ◌⊎◌, ℕ, ◌≤◌, Bool, true, false, List, [], ◌++◌, Option, length, take, Result, OnOk, OnErr}
use Rattle.std.specs.List.{flat_map}
use Rattle.std.specs.Io.KnownBytes.{Appends, Keeps}
use Rattle.outside_io.specs.Causes.{Rose, HasCause}
use Rattle.outside_io.specs.declared.sink.Sink.{Ghosts as SinkGhosts}

-- what a pen stands at: whether a put of it has failed, and the bytes that it was told and has not put yet
pub record PenState : Type 0 where
  pub failed : Bool
  pub pending : List ℕ

-- a pen without pending bytes
abbrev pub emptied : Bool → PenState
emptied failed = record { failed = failed; pending = [] }

-- the parts, one after the other
abbrev pub joined_text : List (List ℕ) → List ℕ
joined_text parts = flat_map (λ part. part) parts

-- the sink took a front of the text, perhaps nothing or all of it
abbrev pub AppendsFront : Option (List ℕ) → Option (List ℕ) → List ℕ → Type 0
AppendsFront old new text = (n : ℕ) × (n ≤ length text) × Appends old new (take n text)

-- What a sink holds by now it held at a moment at which its count of faults had not risen yet: nothing was written behind a fault.
abbrev pub StopsAtFault : {K : Type 0} (sink : SinkGhosts K) (old new : K) → Type 0
StopsAtFault {K} sink old new = (moment : K) × (sink.faults moment ≡ sink.faults old) × Keeps (sink.held moment) (sink.held new)

-- A pen that stood so was told the text, and stands so by now. Of what was pending and the text behind it, the sink took a front, and without
-- a fault the rest is pending. The sink is as it was if the pen had failed before. The count stays until a fault, and the bytes behind it.
pub record Says {K : Type 0} (sink : SinkGhosts K) (old : K) (was : PenState) (new : K) (is : PenState) (text : List ℕ) : Type 0 where
  pub stays : was.failed ≡ true → (new ≡ old) × (is.failed ≡ true)
  pub whole : is.failed ≡ false
      → (was.failed ≡ false) × ((taken : List ℕ) × Appends (sink.held old) (sink.held new) taken × (was.pending ++ text ≡ taken ++ is.pending))
  pub front : was.failed ≡ false → AppendsFront (sink.held old) (sink.held new) (was.pending ++ text)
  pub stops : StopsAtFault sink old new
  pub quiet : is.failed ≡ false → sink.faults new ≡ sink.faults old
  pub cause : is.failed ≡ true → (was.failed ≡ true) ⊎ Rose (sink.faults old) (sink.faults new)
  pub later : sink.faults old ≤ sink.faults new

-- a text was written whole, or a front of it where the sink failed, and nothing behind the fault
pub record Writes {K T E : Type 0} (sink : SinkGhosts K) (old new : K) (result : Result T E) (text : List ℕ) : Type 0 where
  pub whole : OnOk result (Appends (sink.held old) (sink.held new) text)
  pub front : OnErr result (AppendsFront (sink.held old) (sink.held new) text)
  pub stops : StopsAtFault sink old new
  pub cause : HasCause (sink.faults old) (sink.faults new) result
