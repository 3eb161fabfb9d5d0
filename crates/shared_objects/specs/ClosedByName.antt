-- What a close shows, by the names of objects.
use Rattle.std.specs.Prelude.{◌++◌, List, [], ◌∷◌, map}
use Rattle.stack_base.specs.declared.ids.PoolId.TheVariants.{FsVecs}
use Rattle.stack_base.specs.PoolId.{pool_number}
use Rattle.run_machine.specs.Laws.{Object, OfPool, OfRescuer, OfDisk, OfBook, OfTally, OfNone}
use Rattle.task_core.specs.declared.plain.Plain.{Plain}
use Rattle.task_core.specs.Plains.{no_book, no_pool, by_kind}
use Rattle.run_machine.specs.Opened.{opened_disk}
use Rattle.task_core.specs.Tables.{look_up}
use Rattle.object_things.specs.Histories.{Call}
use Rattle.object_things.specs.Stamps.{Stamped, ThingState, thing_state}
use Rattle.shared_objects.specs.Calls.{is_same_object}
use Rattle.shared_objects.specs.Holding.{dev_key, set_key, slip_key, writer_key}
use Rattle.shared_objects.specs.Names.{once}
use Rattle.shared_objects.specs.Kinds.{ThingAt, no_list, unasked}
use Rattle.shared_objects.specs.declared.closed.Closed.{Closed}
use Rattle.shared_objects.specs.Shutting.{thing_of}

-- the objects that were shared
abbrev pub names_of : Closed → List Object
names_of closed =
    map (λ entry. OfPool (set_key entry.0)) closed.bios.items
    ++ (OfPool (pool_number FsVecs) ∷ map (λ entry. OfPool (slip_key entry.0)) closed.records.items
    ++ (map (λ entry. OfRescuer (dev_key entry.0)) closed.lists.items
    ++ (map (λ shut. OfDisk shut.thing.object.dev.0) closed.disks.items
    ++ (map (λ entry. OfBook (writer_key entry.0)) closed.books.items
    ++ OfTally ∷ []))))

-- each once
abbrev pub names_in : Closed → List Object
names_in closed = once is_same_object (names_of closed)

-- what the first seat of each lock had seen at the end: its whole history
abbrev pub history_in : Closed → Object → List Call
history_in closed (OfPool number) =
    by_kind closed.vecs.told.value.known.seen (look_up (λ entry. set_key entry.0) (λ entry. entry.1.told.value.known.seen) (λ n. []) closed.bios.items)
    (look_up (λ entry. slip_key entry.0) (λ entry. entry.1.told.value.known.seen) (λ n. []) closed.records.items) number
history_in closed (OfRescuer dev) = look_up (λ entry. dev_key entry.0) (λ entry. entry.1.told.value.known.seen) (λ n. []) closed.lists.items dev
history_in closed (OfDisk dev) = look_up (λ shut. shut.thing.object.dev.0) (λ shut. shut.told.value.known.seen) (λ n. []) closed.disks.items dev
history_in closed (OfBook writer) = look_up (λ entry. writer_key entry.0) (λ entry. entry.1.told.value.known.seen) (λ n. []) closed.books.items writer
history_in closed OfTally = closed.tally.told.value.known.seen
history_in closed OfNone = []

-- what is left of each object; one that was not shared is as it was opened
abbrev pub object_left_in : Closed → Plain → (name : Object) → ThingState (ThingAt name)
object_left_in closed opened (OfPool number) =
    by_kind (thing_of closed.vecs.thing)
    (look_up (λ entry. set_key entry.0) (λ entry. thing_of entry.1.thing) (λ n. unasked (no_pool opened.stage.value.stack opened.vecs.ledger n)) closed.bios.items)
    (look_up (λ entry. slip_key entry.0) (λ entry. thing_of entry.1.thing) (λ n. unasked (no_pool opened.stage.value.stack opened.vecs.ledger n)) closed.records.items) number
object_left_in closed opened (OfRescuer dev) =
    look_up (λ entry. dev_key entry.0) (λ entry. thing_of entry.1.thing) (λ n. unasked (no_list n)) closed.lists.items dev
object_left_in closed opened (OfDisk dev) =
    look_up (λ shut. shut.thing.object.dev.0) (λ shut. thing_of shut.thing) (λ n. unasked (opened_disk opened.stage.value.stack n)) closed.disks.items dev
object_left_in closed opened (OfBook writer) =
    look_up (λ entry. writer_key entry.0) (λ entry. thing_of entry.1.thing) (λ n. unasked (no_book n)) closed.books.items writer
object_left_in closed opened OfTally = thing_of closed.tally.thing
object_left_in closed opened OfNone = unasked tt
