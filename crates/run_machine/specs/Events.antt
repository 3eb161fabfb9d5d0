-- What is told of a request and its reply.
use Rattle.std.specs.Prelude.{◌-◌, ◌^◌, ◌/◌, ◌%◌, ◌==◌, if◌then◌else◌, min, ℕ, Bool, true, false, length, Option, None, Some}
use Rattle.stack_base.specs.declared.ids.PoolId.{PoolId}
use Rattle.stack_base.specs.declared.ids.PoolId.TheVariants.{FsBios, FsVecs, Bios, Records}
use Rattle.stack_base.specs.declared.ids.Status.{Status}
use Rattle.bioset_pools.specs.Sets.{bios_of}
use Rattle.bio_books.specs.Links.{Linked, Made, NoRoom, Stray}
use Rattle.bio_books.specs.Drops.{DropOutcome}
use Rattle.bio_books.specs.Drops as end
use Rattle.run_machine.specs.declared.event.TaskId.{TaskId}
use Rattle.run_machine.specs.declared.event.TaskId.TheVariants as id
use Rattle.run_machine.specs.declared.event.Got.{Got}
use Rattle.run_machine.specs.declared.event.Got.TheVariants as got
use Rattle.run_machine.specs.declared.event.How.{How}
use Rattle.run_machine.specs.declared.event.How.TheVariants as how
use Rattle.run_machine.specs.declared.event.End.TheVariants as left
use Rattle.run_machine.specs.declared.event.What.{What}
use Rattle.run_machine.specs.declared.event.What.TheVariants as what
use Rattle.run_machine.specs.Tasks.{TaskState, Writer, Rescuer, Completer, Keeper}
use Rattle.run_machine.specs.Requests.{Request, Reply, Opening, Write, Chain, Master, Leg, TakeBio, TakeVec, TakeSlip, GiveBio, GiveVec, GiveSlip, Punt, Pop, Push, Complete, Link, Drop, Done, Resize, NextRound, HadBio, HadVec, HadSlip, Missed, Did, Popped, Completed, LinkedTo, DroppedTo, OutIs}

abbrev pub id_of : TaskState → TaskId
id_of (Writer number todo taken submission) = id.Writer number
id_of (Rescuer dev submission) = id.Rescuer dev
id_of (Completer disk carried) = id.Completer disk
id_of (Keeper keeping) = id.Keeper

abbrev pub take_of : Bool → PoolId → Got → What
take_of true pool got = what.Take pool got
take_of false pool got = what.Try pool got

-- a missed take is told where it used up an entry of the script, and a missed Try always
abbrev pub miss_of : Bool → Bool → PoolId → Option What
miss_of true true pool = Some (what.Take pool got.Missed)
miss_of true false pool = None
miss_of false used pool = Some (what.Try pool got.Missed)

abbrev pub how_of : Opening → How
how_of (Write write vector) = how.Write
how_of (Chain parent) = how.Chain
how_of (Master parent part slip legs) = how.Master
how_of (Leg master) = how.Leg

abbrev pub link_of : ℕ → Opening → Linked → Option What
link_of writer opening (Made node) = Some (what.Link writer (how_of opening) node)
link_of writer opening (NoRoom back) = None
link_of writer opening (Stray back) = None

abbrev pub drop_of : ℕ → ℕ → Status → DropOutcome → Option What
drop_of writer node status end.Left = Some (what.Drop writer node status left.Left)
drop_of writer node status (end.Up closed) = Some (what.Drop writer node status left.Up)
drop_of writer node status (end.Top closed) = Some (what.Drop writer node status left.Top)
drop_of writer node status (end.Stray part) = None

abbrev pub resize_of : Bool → PoolId → ℕ → Option What
resize_of true pool min = Some (what.Resize pool min)
resize_of false pool min = None

-- the pool of a number
abbrev pub pool_of : ℕ → PoolId
pool_of number =
    if number == 65 then FsBios
    else if number == 64 then FsVecs
    else if number % 2 == 0 then Bios (record { 0 = number / 2 })
    else Records (record { 0 = number / 2 })

-- What is told of a request and its reply. A look that found nothing, a refusal and a missed take that used up no entry are not told: they
-- change nothing, and are no events.
abbrev pub what_of : Request → Reply → Option What
what_of (TakeBio set waits) (HadBio got bio) = Some (take_of waits (bios_of set) got)
what_of (TakeBio set waits) (Missed used) = miss_of waits used (bios_of set)
what_of TakeVec (HadVec got vector) = Some (what.Take FsVecs got)
what_of TakeVec (Missed used) = miss_of true used FsVecs
what_of (TakeSlip dev) (HadSlip got slip) = Some (what.Take (Records dev) got)
what_of (TakeSlip dev) (Missed used) = miss_of true used (Records dev)
what_of (GiveBio bio) Did = Some (what.Give (pool_of bio.share.no))
what_of (GiveVec vector) Did = Some (what.Give (pool_of vector.share.no))
what_of (GiveSlip slip) Did = Some (what.Give (pool_of slip.share.no))
what_of (Punt dev moved) Did = Some (what.Punt dev (min (length moved) (2 ^ 64 - 1)))
what_of (Pop dev) (Popped bio) = Some (what.Pop dev)
what_of (Push bio) Did = Some (what.Push bio.bio.dev bio.bio.range.start bio.bio.range.len bio.pad.leg)
what_of (Complete disk) (Completed index bio status) = Some (what.Complete disk index status)
what_of (Link writer opening) (LinkedTo answer) = link_of writer opening answer
what_of (Drop writer node status part) (DroppedTo ended) = drop_of writer node status ended
what_of (Done write status) Did = Some (what.Done write status)
what_of (Resize pool min) (OutIs out) = resize_of (out == 0) pool min
what_of (NextRound round) Did = Some (what.Round round)
what_of request reply = None

-- an event that uses no ordinary element and is no missed take
abbrev pub is_free : What → Bool
is_free (what.Take pool got.Ordinary) = false
is_free (what.Take pool got.Spare) = true
is_free (what.Take pool got.Missed) = false
is_free (what.Try pool got.Ordinary) = false
is_free (what.Try pool got.Spare) = true
is_free (what.Try pool got.Missed) = true
is_free what = true
