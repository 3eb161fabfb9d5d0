-- As which kind each event is paid for.
use Rattle.std.specs.Prelude.{Bool}
use Rattle.block_core.specs.Payers.{WriteBio, WriteVector, Record, PieceBio, payer_at, Paid}
use Rattle.block_core.specs.Payers as paid
use Rattle.block_core.specs.Paying.{end_carried}
use Rattle.block_core.proofs.moves.Moves.{Move, TakesFirst, TakesVector, TakesSub, TakesSlip, MissesOne, MissesTry, Punts, Pops, Pushes, Completed, Begins, Chained, Mastered, Legged, Told, Closes, Gives, Ends, Resized, Started}

-- the kind of event that is paid for, by whether what its task carries of a closed node was a master
abbrev pub kind_of : Bool → Move → Paid
-- takes: by what is taken
kind_of was_master (TakesFirst place writer todo later move) = paid.IsTaken WriteBio
kind_of was_master (TakesVector place writer todo later item move) = paid.IsTaken WriteVector
kind_of was_master (TakesSub place x doing lists dev waits move) = paid.IsTaken PieceBio
kind_of was_master (TakesSlip place x bio lists move) = paid.IsTaken Record
-- misses: by whether the task waits
kind_of was_master (MissesOne place x number used) = paid.MissesWaiting
kind_of was_master (MissesTry place x doing lists dev used) = paid.MissesAtOnce
-- punts, pops, pushes and completions
kind_of was_master (Punts place x doing lists dev) = paid.IsPunted
kind_of was_master (Pops place dev bio bios) = paid.IsPopped
kind_of was_master (Pushes place x bio lists) = paid.IsPushed
kind_of was_master (Completed place disk index bio status new) = paid.IsCompleted
-- links: by what the new node takes along
kind_of was_master (Begins place writer todo later item vector key) = paid.IsLinked WriteBio
kind_of was_master (Chained place x bio lists hand number kind sizes members key node) = paid.IsLinked PieceBio
kind_of was_master (Mastered place x bio lists slip key node) = paid.IsLinked Record
kind_of was_master (Legged place x bio lists master leg hand key node) = paid.IsLinked PieceBio
-- drops: by what the task carries
kind_of was_master (Told place disk carried writer key status part node) = end_carried was_master carried
kind_of was_master (Closes place disk carried writer key status part node) = end_carried was_master carried
-- gives: by the pool
kind_of was_master (Gives place disk writer number closed held) = paid.IsGiven (payer_at number)
-- ends of writes, resizes and rounds
kind_of was_master (Ends place disk writer closed) = paid.IsDone
kind_of was_master (Resized place pool min later duties) = paid.Resizes
kind_of was_master (Started place round later duties) = paid.Starts
