-- All objects, by the names that requests have for them.
use Rattle.std.specs.Prelude.{List}
use Rattle.mempool_core.specs.Move.{PoolState}
use Rattle.bio_records.specs.declared.bio.Pad.{Pad}
use Rattle.bio_records.specs.Items.{Item}
use Rattle.model_disks.specs.Disks.{DiskState}
use Rattle.bio_books.specs.Books.{BookState}
use Rattle.run_machine.specs.Laws.{Object, OfPool, OfRescuer, OfDisk, OfBook, OfTally, OfNone}
use Rattle.run_machine.specs.Maps.{upd}
use Rattle.run_machine.specs.Objects.{TallyState, Objects}

-- what an object of this name is
abbrev pub StateAt : Object → Type 0
StateAt (OfPool number) = PoolState
StateAt (OfRescuer dev) = List (Item Pad)
StateAt (OfDisk dev) = DiskState
StateAt (OfBook writer) = BookState
StateAt OfTally = TallyState
StateAt OfNone = Unit {0}

-- the one of this name
abbrev pub object_named : Objects → (name : Object) → StateAt name
object_named objects (OfPool number) = objects.pool number
object_named objects (OfRescuer dev) = objects.rescue dev
object_named objects (OfDisk dev) = objects.disk dev
object_named objects (OfBook writer) = objects.book writer
object_named objects OfTally = objects.tally
object_named objects OfNone = tt

-- all of them, with another one of this name
abbrev pub put_object : Objects → (name : Object) → StateAt name → Objects
put_object objects (OfPool number) pool = record objects { pool = upd objects.pool number pool }
put_object objects (OfRescuer dev) bios = record objects { rescue = upd objects.rescue dev bios }
put_object objects (OfDisk dev) disk = record objects { disk = upd objects.disk dev disk }
put_object objects (OfBook writer) book = record objects { book = upd objects.book writer book }
put_object objects OfTally tally = record objects { tally = tally }
put_object objects OfNone none = objects

-- and made of one for each name
abbrev pub made_of : ((name : Object) → StateAt name) → Objects
made_of f = record { pool = λ n. f (OfPool n); rescue = λ n. f (OfRescuer n); disk = λ n. f (OfDisk n); book = λ n. f (OfBook n); tally = f OfTally }
