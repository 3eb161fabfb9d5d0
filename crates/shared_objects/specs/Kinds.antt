-- The things behind the locks, by the names of their objects.
use Rattle.std.specs.Prelude.{◌≡◌, ℕ, Option, false, []}
use Rattle.bio_records.specs.Rescue.{Rescue}
use Rattle.bio_books.specs.Books.{BookState}
use Rattle.mempool_core.specs.Pool.{LedgerPool}
use Rattle.model_disks.specs.Disks.{DiskState}
use Rattle.run_machine.specs.Laws.{Object, OfPool, OfRescuer, OfDisk, OfBook, OfTally, OfNone}
use Rattle.run_machine.specs.Objects.{TallyState}
use Rattle.run_machine.specs.Opened.{device_at}
use Rattle.run_machine.specs.Requests.{Request, Reply}
use Rattle.task_core.specs.declared.plain.Plain.{Plain}
use Rattle.task_core.specs.Plains.{list_number, objects_of, pool_at, tally_of}
use Rattle.task_core.specs.Tables.{look_up}
use Rattle.object_things.specs.Stamps.{Told, ThingState, ThingAnswers, ChoosesNone}
use Rattle.object_things.specs.Pools.{PoolServes, PoolLooks}
use Rattle.object_things.specs.Lists.{ListServes, ListLooks}
use Rattle.object_things.specs.Disks.{DiskChooses, DiskServes, DiskLooks}
use Rattle.object_things.specs.Books.{BookServes, BookLooks}
use Rattle.object_things.specs.Tallies.{TallyServes, TallyLooks}

-- what the thing of an object is, beside its note
abbrev pub ThingAt : Object → Type 0
ThingAt (OfPool number) = LedgerPool
ThingAt (OfRescuer dev) = Rescue
ThingAt (OfDisk dev) = DiskState
ThingAt (OfBook writer) = BookState
ThingAt OfTally = TallyState
ThingAt OfNone = Unit {0}

-- what it serves, and which looks it answers
abbrev pub serves_at : (name : Object) → ThingAt name → Request → Reply → ThingAt name → Type 0
serves_at (OfPool number) = PoolServes
serves_at (OfRescuer dev) = ListServes
serves_at (OfDisk dev) = DiskServes
serves_at (OfBook writer) = BookServes
serves_at OfTally = TallyServes
serves_at OfNone = λ old request reply new. ⊥

abbrev pub looks_at : (name : Object) → ThingState (ThingAt name) → Request → Reply → ThingState (ThingAt name) → Type 0
looks_at (OfPool number) = PoolLooks
looks_at (OfRescuer dev) = ListLooks
looks_at (OfDisk dev) = DiskLooks
looks_at (OfBook writer) = BookLooks
looks_at OfTally = TallyLooks
looks_at OfNone = λ old request reply new. ⊥

-- what became of a choice in it
abbrev pub chooses_at : (name : Object) → ThingAt name → Reply → Option ℕ → Type 0
chooses_at (OfPool number) = ChoosesNone
chooses_at (OfRescuer dev) = ChoosesNone
chooses_at (OfDisk dev) = DiskChooses
chooses_at (OfBook writer) = ChoosesNone
chooses_at OfTally = ChoosesNone
chooses_at OfNone = ChoosesNone

abbrev pub answers_at : (name : Object) → ThingState (ThingAt name) → Request → Told → ThingState (ThingAt name) → Type 0
answers_at name = ThingAnswers (serves_at name) (looks_at name) (chooses_at name)

-- the list of a rescuer that there is not
abbrev pub no_list : ℕ → Rescue
no_list dev = record { dev = device_at dev; bios = [] }

-- what the objects had of it as they were opened
abbrev pub opened_at : Plain → (name : Object) → ThingAt name
opened_at plain (OfPool number) = pool_at plain number
opened_at plain (OfRescuer dev) = look_up list_number (λ entry. entry.1) no_list plain.lists.items dev
opened_at plain (OfDisk dev) = (objects_of plain).disk dev
opened_at plain (OfBook writer) = (objects_of plain).book writer
opened_at plain OfTally = tally_of plain.tally
opened_at plain OfNone = tt

-- a thing that nothing was asked of yet
abbrev pub unasked : {O : Type 0} → O → ThingState O
unasked object = record { object = object; note = 0; spent = false }
