-- The calls of one task, by the objects that they ask.
use Rattle.std.specs.Prelude.{◌==◌, ◌++◌, ℕ, Bool, true, false, List, [], ◌∷◌, filter}
use Rattle.run_machine.specs.Laws.{Object, OfPool, OfRescuer, OfDisk, OfBook, OfTally, OfNone, object_of}
use Rattle.run_machine.specs.Maps.{upd}
use Rattle.run_machine.specs.Objects.{clear_bio, clear_vector, clear_slip}
use Rattle.run_machine.specs.Requests.{Request, GiveBio, GiveVec, GiveSlip, NextRound}
use Rattle.object_things.specs.Histories.{Call}

-- A request with struck out what its object does not see: the tally starts its next round, whatever its number, and a pool sees of an element
-- that goes home only whose it is.
abbrev pub struck : Request → Request
struck (GiveBio bio) = GiveBio (clear_bio bio.share)
struck (GiveVec vector) = GiveVec (clear_vector vector.share)
struck (GiveSlip slip) = GiveSlip (clear_slip slip.share)
struck (NextRound round) = NextRound 0
struck request = request

abbrev pub is_same_object : Object → Object → Bool
is_same_object (OfPool a) (OfPool b) = a == b
is_same_object (OfRescuer a) (OfRescuer b) = a == b
is_same_object (OfDisk a) (OfDisk b) = a == b
is_same_object (OfBook a) (OfBook b) = a == b
is_same_object OfTally OfTally = true
is_same_object OfNone OfNone = true
is_same_object a b = false

-- those of a list of calls that ask the object of this name
abbrev pub calls_to : Object → List Call → List Call
calls_to name calls = filter (λ (call : Call). is_same_object name (object_of call.asked)) calls

-- the calls of a task at each object
pub record CallsAt : Type 0 where
  pub pool : ℕ → List Call
  pub rescue : ℕ → List Call
  pub disk : ℕ → List Call
  pub book : ℕ → List Call
  pub tally : List Call

abbrev pub calls_at : CallsAt → Object → List Call
calls_at calls (OfPool number) = calls.pool number
calls_at calls (OfRescuer dev) = calls.rescue dev
calls_at calls (OfDisk dev) = calls.disk dev
calls_at calls (OfBook writer) = calls.book writer
calls_at calls OfTally = calls.tally
calls_at calls OfNone = []

-- one more call at an object
abbrev pub with_call : CallsAt → Object → Call → CallsAt
with_call calls (OfPool number) call = record calls { pool = upd calls.pool number (calls.pool number ++ call ∷ []) }
with_call calls (OfRescuer dev) call = record calls { rescue = upd calls.rescue dev (calls.rescue dev ++ call ∷ []) }
with_call calls (OfDisk dev) call = record calls { disk = upd calls.disk dev (calls.disk dev ++ call ∷ []) }
with_call calls (OfBook writer) call = record calls { book = upd calls.book writer (calls.book writer ++ call ∷ []) }
with_call calls OfTally call = record calls { tally = calls.tally ++ call ∷ [] }
with_call calls OfNone call = calls
