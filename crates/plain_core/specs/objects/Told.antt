-- What each call of an object does, and where it can't: the event tells so, and the object can.
use Rattle.std.specs.Prelude.{◌≡◌, ◌+◌, ◌-◌, ◌^◌, ◌<◌, ◌++◌, ◌∷◌, ℕ, Bool, List, min, length, MatchOption, Option, None, Some, Result, Ok, Err}
use Rattle.stack_base.specs.declared.ids.DevId.{DevId}
use Rattle.stack_base.specs.declared.ids.PoolId.{PoolId}
use Rattle.stack_base.specs.declared.ids.Status.{Status}
use Rattle.stack_base.specs.declared.ids.SetId.TheVariants.{Of}
use Rattle.bio_records.specs.declared.bio.Pad.{Pad}
use Rattle.bio_records.specs.declared.tasks.TaskLists.{TaskLists}
use Rattle.bio_records.specs.Items.{Item}
use Rattle.mempool_core.specs.Move.{PoolMove, CanMove, after_move}
use Rattle.bio_lists.specs.Punt.{punted, unpunted}
use Rattle.model_disks.specs.Disks.{DiskState}
use Rattle.model_disks.specs.Moves.{pushed, Completes}
use Rattle.bio_books.specs.Books.{BookState, SlipItem}
use Rattle.bio_books.specs.Drops.{Drops}
use Rattle.bio_books.specs.Drops as drop
use Rattle.bio_books.specs.Links.{Made}
use Rattle.run_machine.specs.declared.event.End.{End}
use Rattle.run_machine.specs.declared.event.Got.{Got}
use Rattle.run_machine.specs.declared.event.What.{What}
use Rattle.run_machine.specs.declared.event.What.TheVariants as told
use Rattle.run_machine.specs.Events.{take_of, how_of}
use Rattle.run_machine.specs.Requests.{Opening, Master}
use Rattle.run_machine.specs.Objects.{OpensNode, done_one}
use Rattle.plain_core.specs.objects.Pools.{move_of, CanTake}
use Rattle.plain_core.specs.declared.objects.book.NodeOutcome.{NodeOutcome}
use Rattle.plain_core.specs.objects.Books.{ended_of_plain, end_of, IsToldBy}
use Rattle.plain_core.specs.objects.Plain.{CoreObjects, AnswersIfEnabled, core_pool_at, with_pool, core_rescue_at, with_rescue, kept_disk, with_disk, core_book_at, with_book}
use Rattle.plain_core.specs.declared.fault.CoreFault.{CoreFault}
use Rattle.plain_core.specs.declared.fault.CoreFault.TheVariants as fault

-- the pool of this number makes a move
abbrev pub CorePoolMoves : CoreObjects → ℕ → PoolMove → CoreObjects → Type 0
CorePoolMoves old number move new =
    CanMove (core_pool_at old number) move
    × (core_pool_at new number ≡ after_move (core_pool_at old number) move)
    × (new ≡ with_pool old number (core_pool_at new number))

-- a take of a pool had this
abbrev pub Takes : CoreObjects → ℕ → PoolId → Bool → What → Result Got CoreFault → CoreObjects → Type 0
Takes old number pool waits what result new =
    AnswersIfEnabled old
    (λ got next.
    (what ≡ take_of waits pool got) × CanTake (core_pool_at old number) waits got × CorePoolMoves old number (move_of (core_pool_at old number) got) next)
    ((got : Got) → what ≡ take_of waits pool got → CanTake (core_pool_at old number) waits got → ⊥)
    result new

-- the pool of this number makes a move that the event tells
abbrev pub MovesAs : CoreObjects → ℕ → PoolMove → What → What → Result (Unit {0}) CoreFault → CoreObjects → Type 0
MovesAs old number move tells what result new =
    AnswersIfEnabled old (λ done next. (what ≡ tells) × CorePoolMoves old number move next) (what ≡ tells → CanMove (core_pool_at old number) move → ⊥) result new

-- all bios of a device's set that wait in these lists go to its rescuer
abbrev pub IsPunt : TaskLists → DevId → What → Type 0
IsPunt lists dev what = what ≡ told.Punt dev (min (length (punted (Of dev) lists)) (2 ^ 64 - 1))

abbrev pub Punts : CoreObjects → TaskLists → DevId → What → Result (Unit {0}) CoreFault → CoreObjects → TaskLists → Type 0
Punts old lists dev what (Ok done) new rest =
    IsPunt lists dev what
    × (core_rescue_at new dev.0 ≡ core_rescue_at old dev.0 ++ punted (Of dev) lists)
    × (new ≡ with_rescue old dev.0 (core_rescue_at new dev.0))
    × (rest ≡ unpunted (Of dev) lists)
Punts old lists dev what (Err fault.NotEnabled) new rest = (new ≡ old) × (rest ≡ lists) × (IsPunt lists dev what → ⊥)
Punts old lists dev what (Err fault.Memory) new rest = (new ≡ old) × (rest ≡ lists) × IsPunt lists dev what

-- the first bio that waits for a rescuer was taken
abbrev pub Pops : CoreObjects → DevId → What → Result (Item Pad) CoreFault → CoreObjects → Type 0
Pops old dev what result new =
    AnswersIfEnabled old
    (λ part next.
    (what ≡ told.Pop dev) × (core_rescue_at old dev.0 ≡ part ∷ core_rescue_at next dev.0) × (next ≡ with_rescue old dev.0 (core_rescue_at next dev.0)))
    ((part : Item Pad) (rest : List (Item Pad)) → what ≡ told.Pop dev → core_rescue_at old dev.0 ≡ part ∷ rest → ⊥)
    result new

-- a bio came to the disk that it is at
abbrev pub IsPush : Item Pad → What → Type 0
IsPush part what = what ≡ told.Push part.bio.dev part.bio.range.start part.bio.range.len part.pad.leg

abbrev pub PushesIn : Option DiskState → Item Pad → Option DiskState → Type 0
PushesIn None part after = ⊥
PushesIn (Some disk) part after = after ≡ Some (pushed part disk)

abbrev pub Pushes : CoreObjects → Item Pad → What → Result (Unit {0}) CoreFault → CoreObjects → Type 0
Pushes old part what (Ok done) new =
    IsPush part what
    × PushesIn (kept_disk old part.bio.dev.0) part (kept_disk new part.bio.dev.0)
    × (new ≡ with_disk old part.bio.dev.0 (kept_disk new part.bio.dev.0))
Pushes old part what (Err fault.NotEnabled) new = (new ≡ old) × (IsPush part what → ⊥)
Pushes old part what (Err fault.Memory) new = (new ≡ old) × IsPush part what

-- a disk ended a bio that waited in it
abbrev pub CompletesIn : Option DiskState → ℕ → Item Pad → Status → Option DiskState → Type 0
CompletesIn (Some disk) index part status (Some after) = Completes disk index part status after
CompletesIn old index part status new = ⊥

abbrev pub CompletesInOrNot : Option DiskState → ℕ → Status → Option (Item Pad) → Option DiskState → Type 0
CompletesInOrNot old index status ended new =
    MatchOption ended
    ((new ≡ old) × ((part : Item Pad) (after : Option DiskState) → CompletesIn old index part status after → ⊥))
    (λ part. CompletesIn old index part status new)

abbrev pub CompletesBio : CoreObjects → DevId → What → Result (ℕ × Item Pad × Status) CoreFault → CoreObjects → Type 0
CompletesBio old disk what result new =
    AnswersIfEnabled old
    (λ done next. (what ≡ told.Complete disk done.0 done.2)
    × CompletesIn (kept_disk old disk.0) done.0 done.1 done.2 (kept_disk next disk.0)
    × (next ≡ with_disk old disk.0 (kept_disk next disk.0)))
    ((index : ℕ) (part : Item Pad) (status : Status) (after : Option DiskState) → what ≡ told.Complete disk index status
    → CompletesIn (kept_disk old disk.0) index part status after → ⊥)
    result new

-- a node was opened in a writer's book
abbrev pub Links : CoreObjects → ℕ → Opening → What → Result ℕ CoreFault → CoreObjects → Type 0
Links old writer opening what result new =
    AnswersIfEnabled old
    (λ node next. (what ≡ told.Link writer (how_of opening) node)
    × OpensNode (core_book_at old writer) opening (Made node) (core_book_at next writer)
    × (next ≡ with_book old writer (core_book_at next writer)))
    ((node : ℕ) (book : BookState) → what ≡ told.Link writer (how_of opening) node → OpensNode (core_book_at old writer) opening (Made node) book → ⊥)
    result new

-- the same where room is made for what comes of it: that can lack memory, and then a node could be opened else
abbrev pub LinksWithRoom : CoreObjects → ℕ → Opening → What → Result ℕ CoreFault → CoreObjects → Type 0
LinksWithRoom old writer opening what (Ok node) new = Links old writer opening what (Ok node) new
LinksWithRoom old writer opening what (Err fault.NotEnabled) new = Links old writer opening what (Err fault.NotEnabled) new
LinksWithRoom old writer opening what (Err fault.Memory) new =
    (new ≡ old)
    × (node : ℕ)
    × (book : BookState)
    × (what ≡ told.Link writer (how_of opening) node)
    × OpensNode (core_book_at old writer) opening (Made node) book

-- the same of a mirror's master for a bio
abbrev pub JoinsMaster : CoreObjects → Item Pad → SlipItem → ℕ → What → Result ℕ CoreFault → CoreObjects → Type 0
JoinsMaster old part slip legs what result new = LinksWithRoom old part.bio.writer (Master part.bio.node part slip legs) what result new

-- a node of a writer's book was told of an end
abbrev pub IsDrop : CoreObjects → ℕ → ℕ → Status → Option (Item Pad) → What → Result NodeOutcome CoreFault → CoreObjects → Type 0
IsDrop old writer place status part what result new =
    AnswersIfEnabled old
    (λ ended next. (what ≡ told.Drop writer place status (end_of ended))
    × Drops (core_book_at old writer) place status part (ended_of_plain ended) (core_book_at next writer)
    × (next ≡ with_book old writer (core_book_at next writer)))
    ((end : End) (answer : drop.DropOutcome) (book : BookState) → what ≡ told.Drop writer place status end → IsToldBy end answer
    → Drops (core_book_at old writer) place status part answer book → ⊥)
    result new

-- a write was done
abbrev pub Finishes : CoreObjects → ℕ → Status → What → Result (Unit {0}) CoreFault → CoreObjects → Type 0
Finishes old write status what result new =
    AnswersIfEnabled old
    (λ done next. (what ≡ told.Done write status) × (next ≡ record old { tally = done_one write status old.tally }))
    (what ≡ told.Done write status → ⊥)
    result new

-- the round behind the present one started
abbrev pub StartsRound : CoreObjects → ℕ → What → Result (Unit {0}) CoreFault → CoreObjects → Type 0
StartsRound old round what result new =
    AnswersIfEnabled old
    (λ done next. (what ≡ told.Round round)
    × (old.tally.round + 1 < length old.tally.left)
    × (next ≡ record old { tally = record old.tally { round = old.tally.round + 1 } }))
    (what ≡ told.Round round → old.tally.round + 1 < length old.tally.left → ⊥)
    result new
