-- What is behind locks adds up, and so does what a close shows.
use Rattle.std.proofs.Common.{ℕ, List, All, get_or, arith, sym, subst}
use Rattle.mempool_core.specs.Facts.{AddsUp}
use Rattle.mempool_core.specs.Pool.{LedgerPool}
use Rattle.seat_lock.specs.History.{Leads}
use Rattle.seat_lock.specs.Seats.{LockId}
use Rattle.run_machine.specs.Laws.{Object, OfPool, OfRescuer, OfDisk, OfBook, OfTally, OfNone}
use Rattle.run_machine.specs.Requests.{Request}
use Rattle.task_core.specs.declared.plain.Plain.{Plain}
use Rattle.object_things.specs.Books.{BookAnswers, BookLooks, BookServes, book_mark}
use Rattle.object_things.specs.Disks.{DiskAnswers, DiskChooses, DiskLooks, DiskServes, disk_mark}
use Rattle.object_things.specs.Histories.{Call}
use Rattle.object_things.specs.Homes.{AddsUpAtHome, BookAddsUp, DiskAddsUp, ListAddsUp, PoolAddsUp, TallyAddsUp}
use Rattle.object_things.specs.Lists.{ListAnswers, ListLooks, ListServes, list_mark}
use Rattle.object_things.specs.Pools.{PoolAnswers, PoolLooks, PoolServes, pool_mark}
use Rattle.object_things.specs.Stamps.{ChoosesNone, CommonState, MarkState, Stamped, ThingState, Told}
use Rattle.object_things.specs.Tallies.{TallyAnswers, TallyLooks, TallyServes, tally_mark}
use Rattle.object_things.proofs.Adding.{adds_up_at_home, disk_none, disk_one, list_none, list_one, pool_none, pool_one, tally_none, tally_one, throughout_from}
use Rattle.object_things.proofs.Counting.{book_none, book_one}
use Rattle.shared_objects.specs.AddingUp.{HistoriesAddUp, LockAddsUp, LocksAddUp, ObjectsAddUp, PoolAlwaysAddsUp, adds_up_at}
use Rattle.shared_objects.specs.Guards.{guarded}
use Rattle.shared_objects.specs.ClosedByName.{history_in, object_left_in}
use Rattle.shared_objects.specs.Kinds.{ThingAt, answers_at, opened_at, unasked}
use Rattle.shared_objects.specs.Left.{HasClosed}
use Rattle.shared_objects.specs.Shared.{SharedHolds}
use Rattle.shared_objects.specs.Sharing.{AreAround}
use Rattle.shared_objects.specs.Shutting.{thing_of}
use Rattle.shared_objects.specs.declared.closed.Closed.{Closed}
use Rattle.shared_objects.specs.declared.shared.Shared.{Shared}
use Rattle.shared_objects.proofs.row_lemmas.AbreastRows.{some_of}
use Rattle.shared_objects.proofs.sharing.OpenedPools.{bios_add_up, pool_adds_up, records_add_up}

-- each kind
pools : AddsUpAtHome pool_mark PoolAnswers PoolAddsUp
pools = adds_up_at_home pool_mark PoolServes PoolLooks ChoosesNone PoolAddsUp pool_none pool_one

lists : AddsUpAtHome list_mark ListAnswers ListAddsUp
lists = adds_up_at_home list_mark ListServes ListLooks ChoosesNone ListAddsUp list_none list_one

disks : AddsUpAtHome disk_mark DiskAnswers DiskAddsUp
disks = adds_up_at_home disk_mark DiskServes DiskLooks DiskChooses DiskAddsUp disk_none disk_one

books : AddsUpAtHome book_mark BookAnswers BookAddsUp
books = adds_up_at_home book_mark BookServes BookLooks ChoosesNone BookAddsUp book_none book_one

tally : AddsUpAtHome tally_mark TallyAnswers TallyAddsUp
tally = adds_up_at_home tally_mark TallyServes TallyLooks ChoosesNone TallyAddsUp tally_none tally_one

-- a lock of a kind
in_lock : {O : Type 0} (mark : Stamped O → MarkState) (answers : ThingState O → Request → Told → ThingState O → Type 0) (adds_up : O → List Call → O → Type 0) (lock : LockId (Stamped O))
    → AddsUpAtHome mark answers adds_up → LockAddsUp mark answers adds_up lock
in_lock mark answers adds_up lock at_home = record {
  along = λ new history l. at_home.along (thing_of lock.key.value) new history l;
  free = λ table kept turning home. at_home.at_home lock.key table kept turning home;
}

-- a lock of a pool that added up
pool_in_lock : (lock : LockId (Stamped LedgerPool)) → AddsUp lock.key.value.object.state.facts → LockAddsUp pool_mark PoolAnswers PoolAlwaysAddsUp lock
pool_in_lock lock opened = record {
  along = λ new history l. (pools.along (thing_of lock.key.value) new history l).adds_up opened;
  free = λ table kept turning home. (pools.at_home lock.key table kept turning home).adds_up opened;
}

pools_in_locks : {K : Type 0} (common : CommonState) (objects : List (K × LedgerPool)) (locks : List (K × LockId (Stamped LedgerPool))) → AreAround (guarded common) objects locks
    → All (λ (entry : K × LedgerPool). AddsUp entry.1.state.facts) objects → All (λ (e : K × LockId (Stamped LedgerPool)). LockAddsUp pool_mark PoolAnswers PoolAlwaysAddsUp e.1) locks
pools_in_locks {K = K} common objects locks round all = λ k lock lt.
    let l = round.lens in
    let o = some_of objects k (omega (arith, lt, l)) in
    let here = round.each k o lock (omega (arith, lt, l)) in
    let e : K × LockId (Stamped LedgerPool) = get_or locks k lock in
    pool_in_lock e.1 (subst (λ (held : Stamped LedgerPool). AddsUp held.object.state.facts) (sym here.1) (all k o (omega (arith, lt, l))))

locks_add_up : (shared : Shared) → SharedHolds shared → LocksAddUp shared.locks
locks_add_up shared holds = record {
  bios = pools_in_locks shared.locks.common.value shared.told.value.objects.bios.items shared.locks.bios.items holds.round.bios (bios_add_up shared.told.value holds.opened);
  vecs = pool_in_lock shared.locks.vecs
      (subst (λ (held : Stamped LedgerPool). AddsUp held.object.state.facts) (sym holds.round.vecs) (pool_adds_up shared.told.value holds.opened 64));
  records = pools_in_locks shared.locks.common.value shared.told.value.objects.records.items shared.locks.records.items holds.round.records (records_add_up shared.told.value holds.opened);
  lists = λ k e lt. in_lock list_mark ListAnswers ListAddsUp (get_or shared.locks.lists.items k e).1 lists;
  disks = λ k e lt. in_lock disk_mark DiskAnswers DiskAddsUp (get_or shared.locks.disks.items k e).1 disks;
  books = λ k e lt. in_lock book_mark BookAnswers BookAddsUp (get_or shared.locks.books.items k e).1 books;
  tally = in_lock tally_mark TallyAnswers TallyAddsUp shared.locks.tally tally;
}

-- what a history leaves of an object that was opened
left_adds_up : (opened : Plain) → ((number : ℕ) → AddsUp (opened_at opened (OfPool number)).state.facts) → (name : Object) (here : ThingState (ThingAt name)) (history : List Call)
    → Leads (answers_at name) (unasked (opened_at opened name)) history here → adds_up_at name (opened_at opened name) history here.object
left_adds_up opened all (OfPool number) here history l = (pools.along (unasked (opened_at opened (OfPool number))) here history l).adds_up (all number)
left_adds_up opened all (OfRescuer dev) here history l = lists.along (unasked (opened_at opened (OfRescuer dev))) here history l
left_adds_up opened all (OfDisk dev) here history l = disks.along (unasked (opened_at opened (OfDisk dev))) here history l
left_adds_up opened all (OfBook writer) here history l = books.along (unasked (opened_at opened (OfBook writer))) here history l
left_adds_up opened all OfTally here history l = tally.along (unasked (opened_at opened OfTally)) here history l
left_adds_up opened all OfNone here history l = tt

histories_add_up : (closed : Closed) → HasClosed closed → HistoriesAddUp closed
histories_add_up closed has = λ name.
    throughout_from (answers_at name) (adds_up_at name) (unasked (opened_at closed.told.value.objects name)) (object_left_in closed closed.told.value.objects name) (history_in closed name)
    (left_adds_up closed.told.value.objects (pool_adds_up closed.told.value has.opened) name) (has.closes.things name)

pub objects_add_up : ObjectsAddUp
objects_add_up = record { shared = locks_add_up; closed = histories_add_up }
