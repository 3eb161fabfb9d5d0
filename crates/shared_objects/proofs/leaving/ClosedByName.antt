-- What a close shows, object by object.
use Rattle.std.proofs.Common.{◌≡◌, ◌<◌, ◌≤◌, ◌+◌, ◌==◌, ℕ, zero, suc, Bool, true, false, List, [], ◌∷◌, All, arith, refl, sym, ◌∙◌, ap, subst, length, map, get_or}
use Rattle.std.specs.Prelude.{if◌then◌else◌}
use Rattle.std.proofs.lemmas.List.{length-map}
use Rattle.seat_lock.specs.History.{Leads, calls_by}
use Rattle.seat_lock.specs.Seats.{LockId, SeatState, own}
use Rattle.model_disks.specs.Disks.{DiskState}
use Rattle.run_machine.specs.Laws.{Object, OfPool, OfRescuer, OfDisk, OfBook, OfTally, OfNone}
use Rattle.run_machine.specs.Requests.{Request}
use Rattle.mempool_core.specs.Pool.{LedgerPool}
use Rattle.task_core.specs.declared.plain.Plain.{Plain}
use Rattle.task_core.specs.Plains.{bios_at, book_number, disk_number, is_bios_number, list_number, no_book, no_pool, records_at, records_number, set_number, tally_of}
use Rattle.run_machine.specs.Opened.{opened_disk}
use Rattle.object_things.specs.Histories.{Call}
use Rattle.object_things.specs.Stamps.{Told, ThingState}
use Rattle.object_things.specs.Pools.{PoolAnswers}
use Rattle.object_things.specs.Lists.{ListAnswers}
use Rattle.object_things.specs.Disks.{DiskAnswers}
use Rattle.object_things.specs.Books.{BookAnswers}
use Rattle.object_things.specs.Tallies.{TallyAnswers}
use Rattle.task_core.specs.Tables.{look_up}
use Rattle.shared_objects.specs.Calls.{calls_at}
use Rattle.shared_objects.specs.ClosedByName.{history_in, object_left_in}
use Rattle.shared_objects.specs.Holding.{AreSeatsOf, SeatsHold, calls_in, desk_of, dev_key, set_key, slip_key, writer_key}
use Rattle.shared_objects.specs.Kinds.{answers_at, no_list, opened_at, unasked}
use Rattle.shared_objects.specs.Rows.{Abreast}
use Rattle.shared_objects.specs.Sharing.{AreOfOpened}
use Rattle.shared_objects.specs.Shutting.{HasShut, thing_of}
use Rattle.shared_objects.specs.Taking.{TakenHold}
use Rattle.shared_objects.specs.declared.closed.Closed.{Closed}
use Rattle.shared_objects.specs.declared.locks.Locks.{Locks}
use Rattle.shared_objects.specs.declared.seats.TaskSeats.{TaskSeats}
use Rattle.shared_objects.specs.Guards.{guarded}
use Rattle.shared_objects.specs.Joins.{HasTaken, IsOfThese}
use Rattle.shared_objects.specs.Shutting.{IsShutOf}
use Rattle.shared_objects.specs.Taking.{AreTaken}
use Rattle.object_things.specs.Stamps.{CommonState, Stamped, MarkState}
use Rattle.object_things.specs.Pools.{pool_mark}
use Rattle.object_things.specs.Lists.{list_mark}
use Rattle.object_things.specs.Disks.{disk_mark}
use Rattle.object_things.specs.Books.{book_mark}
use Rattle.object_things.specs.Tallies.{tally_mark}
use Rattle.seat_lock.specs.declared.view.Known.{Known}
use Rattle.shared_objects.proofs.leaving.LeftOfKind.{IsLeftOfKind, left_with_key, thing_led, numbers_by_number, task_calls}
use Rattle.shared_objects.proofs.row_lemmas.AbreastRows.{of_made, weaker_two, weaker_three}
use Rattle.shared_objects.proofs.row_lemmas.SplitAndJoined.{stay_apart}

mapped_at : {X Y : Type 0} (f : X → Y) (xs : List X) (k : ℕ) (x : X) (y : Y) → k < length xs → get_or (map f xs) k y ≡ f (get_or xs k x)
mapped_at f [] k x y lt = absurd (omega (arith, lt))
mapped_at f (a ∷ xs) zero x y lt = refl
mapped_at f (a ∷ xs) (suc k) x y lt = mapped_at f xs k x y (omega (arith, lt))

-- what is left of one lock, into whose first seat those of all tasks were joined
module _ {O : Type 0} (mark : Stamped O → MarkState) (answers : ThingState O → Request → Told → ThingState O → Type 0) (common : CommonState) (object : O) (lock : LockId (Stamped O))
    (first : SeatState (Stamped O) Request Told) (thing : Stamped O) (told : SeatState (Stamped O) Request Told) (seats : List (Known (Stamped O) Request Told))
    (round : lock.key.value ≡ guarded common object) (shut : IsShutOf mark answers lock first thing told) (taken : HasTaken (length seats) seats first.known) where
  one_led : Leads answers (unasked object) told.known.seen (thing_of thing)
  one_led =
      subst (λ history. Leads answers (unasked object) history (thing_of thing)) (sym (ap (λ (s : SeatState (Stamped O) Request Told). s.known.seen) shut.told_is))
      (subst (λ start. Leads answers start first.known.seen (thing_of thing)) (ap thing_of round) shut.left.0)

  one_of_these : IsOfThese seats told.known.seen
  one_of_these =
      subst (IsOfThese seats) (sym (ap (λ (s : SeatState (Stamped O) Request Told). s.known.seen) shut.told_is))
      (((stay_apart (Stamped O) answers).ends seats first.known taken).1 shut.all)

-- what stands for a number among pools
pub pool_by : {X : Type 0} (P : X → Type 0) (vecs bios records : X) (is_vecs of_set : Bool) → P vecs → P bios → P records
    → P (if is_vecs then vecs else if of_set then bios else records)
pool_by P vecs bios records true of_set v b r = v
pool_by P vecs bios records false true v b r = b
pool_by P vecs bios records false false v b r = r

module _ (opened : Plain) (locks : Locks) (firsts : TaskSeats) (closed : Closed) (all : List TaskSeats)
    (of : AreOfOpened opened locks) (shut : HasShut locks firsts closed) (taken : TakenHold (length all) locks all firsts) where
  pub bios_left : IsLeftOfKind PoolAnswers set_key set_number (λ entry. set_key entry.0) (λ entry. entry.1) (λ entry. entry.1.thing) (λ entry. entry.1.told.value.known.seen) locks.common.value
      opened.bios.items locks.bios.items firsts.bios.items closed.bios.items (map (λ (seats : TaskSeats). seats.bios.items) all)
  bios_left = record {
    round = weaker_two _ _ (λ entry lock is. (ap set_key is.0, is.1)) opened.bios.items locks.bios.items of.bios;
    shut = weaker_three _ _ (λ lock first entry is. left_with_key set_key pool_mark PoolAnswers lock first entry.0 entry.1.thing entry.1.told.value is.0 is.1)
        locks.bios.items firsts.bios.items closed.bios.items shut.bios;
    taken = subst (λ n. AreTaken n (map (λ (seats : TaskSeats). seats.bios.items) all) firsts.bios.items) (sym (length-map all _)) taken.bios;
  }

  pub records_left : IsLeftOfKind PoolAnswers slip_key records_number (λ entry. slip_key entry.0) (λ entry. entry.1) (λ entry. entry.1.thing) (λ entry. entry.1.told.value.known.seen) locks.common.value
      opened.records.items locks.records.items firsts.records.items closed.records.items (map (λ (seats : TaskSeats). seats.records.items) all)
  records_left = record {
    round = weaker_two _ _ (λ entry lock is. (ap slip_key is.0, is.1)) opened.records.items locks.records.items of.records;
    shut = weaker_three _ _ (λ lock first entry is. left_with_key slip_key pool_mark PoolAnswers lock first entry.0 entry.1.thing entry.1.told.value is.0 is.1)
        locks.records.items firsts.records.items closed.records.items shut.records;
    taken = subst (λ n. AreTaken n (map (λ (seats : TaskSeats). seats.records.items) all) firsts.records.items) (sym (length-map all _)) taken.records;
  }

  pub lists_left : IsLeftOfKind ListAnswers dev_key list_number (λ entry. dev_key entry.0) (λ entry. entry.1) (λ entry. entry.1.thing) (λ entry. entry.1.told.value.known.seen) locks.common.value
      opened.lists.items locks.lists.items firsts.lists.items closed.lists.items (map (λ (seats : TaskSeats). seats.lists.items) all)
  lists_left = record {
    round = weaker_two _ _ (λ entry lock is. (ap dev_key is.0, is.1)) opened.lists.items locks.lists.items of.lists;
    shut = weaker_three _ _ (λ lock first entry is. left_with_key dev_key list_mark ListAnswers lock first entry.0 entry.1.thing entry.1.told.value is.0 is.1)
        locks.lists.items firsts.lists.items closed.lists.items shut.lists;
    taken = subst (λ n. AreTaken n (map (λ (seats : TaskSeats). seats.lists.items) all) firsts.lists.items) (sym (length-map all _)) taken.lists;
  }

  pub disks_left : IsLeftOfKind DiskAnswers dev_key disk_number (λ shut. shut.thing.object.dev.0) (λ disk. disk) (λ shut. shut.thing) (λ shut. shut.told.value.known.seen) locks.common.value
      opened.disks.items locks.disks.items firsts.disks.items closed.disks.items (map (λ (seats : TaskSeats). seats.disks.items) all)
  disks_left = record {
    round = weaker_two _ _ (λ disk lock is. (ap dev_key is.0, is.1)) opened.disks.items locks.disks.items
        (of_made (λ (disk : DiskState). (disk.dev, disk)) (λ entry lock. (lock.0 ≡ entry.0) × (lock.1.key.value ≡ guarded locks.common.value entry.1)) opened.disks.items locks.disks.items of.disks);
    shut = weaker_three _ _ (λ lock first left is. (
      is.0,
      (left_with_key dev_key disk_mark DiskAnswers lock first lock.0 left.thing left.told.value refl is.1).1,
      (left_with_key dev_key disk_mark DiskAnswers lock first lock.0 left.thing left.told.value refl is.1).2,
      (left_with_key dev_key disk_mark DiskAnswers lock first lock.0 left.thing left.told.value refl is.1).3,
    ))
        locks.disks.items firsts.disks.items closed.disks.items shut.disks;
    taken = subst (λ n. AreTaken n (map (λ (seats : TaskSeats). seats.disks.items) all) firsts.disks.items) (sym (length-map all _)) taken.disks;
  }

  pub books_left : IsLeftOfKind BookAnswers writer_key book_number (λ entry. writer_key entry.0) (λ entry. entry.1) (λ entry. entry.1.thing) (λ entry. entry.1.told.value.known.seen) locks.common.value
      opened.books.items locks.books.items firsts.books.items closed.books.items (map (λ (seats : TaskSeats). seats.books.items) all)
  books_left = record {
    round = weaker_two _ _ (λ entry lock is. (ap writer_key is.0, is.1)) opened.books.items locks.books.items of.books;
    shut = weaker_three _ _ (λ lock first entry is. left_with_key writer_key book_mark BookAnswers lock first entry.0 entry.1.thing entry.1.told.value is.0 is.1)
        locks.books.items firsts.books.items closed.books.items shut.books;
    taken = subst (λ n. AreTaken n (map (λ (seats : TaskSeats). seats.books.items) all) firsts.books.items) (sym (length-map all _)) taken.books;
  }

  vecs_taken : HasTaken (length (map (λ (seats : TaskSeats). seats.vecs.known) all)) (map (λ (seats : TaskSeats). seats.vecs.known) all) firsts.vecs.known
  vecs_taken = subst (λ n. HasTaken n (map (λ (seats : TaskSeats). seats.vecs.known) all) firsts.vecs.known) (sym (length-map all _)) taken.vecs

  tally_taken : HasTaken (length (map (λ (seats : TaskSeats). seats.tally.known) all)) (map (λ (seats : TaskSeats). seats.tally.known) all) firsts.tally.known
  tally_taken = subst (λ n. HasTaken n (map (λ (seats : TaskSeats). seats.tally.known) all) firsts.tally.known) (sym (length-map all _)) taken.tally

  -- each object is what its whole history leaves of it
  abbrev seen_bios : ℕ → List Call
  seen_bios = look_up (λ entry. set_key entry.0) (λ entry. entry.1.told.value.known.seen) (λ n. []) closed.bios.items

  abbrev seen_records : ℕ → List Call
  seen_records = look_up (λ entry. slip_key entry.0) (λ entry. entry.1.told.value.known.seen) (λ n. []) closed.records.items

  abbrev left_bios : ℕ → ThingState LedgerPool
  left_bios = look_up (λ entry. set_key entry.0) (λ entry. thing_of entry.1.thing) (λ n. unasked (no_pool opened.stage.value.stack opened.vecs.ledger n)) closed.bios.items

  abbrev left_records : ℕ → ThingState LedgerPool
  left_records = look_up (λ entry. slip_key entry.0) (λ entry. thing_of entry.1.thing) (λ n. unasked (no_pool opened.stage.value.stack opened.vecs.ledger n)) closed.records.items

  pools_led : (n : ℕ) (is_vecs of_set : Bool)
      → Leads PoolAnswers (unasked (if is_vecs then opened.vecs else if of_set then bios_at opened n else records_at opened n))
      (if is_vecs then closed.vecs.told.value.known.seen else if of_set then seen_bios n else seen_records n)
      (if is_vecs then thing_of closed.vecs.thing else if of_set then left_bios n else left_records n)
  pools_led n true of_set =
      one_led pool_mark PoolAnswers locks.common.value opened.vecs locks.vecs firsts.vecs closed.vecs.thing closed.vecs.told.value (map (λ (seats : TaskSeats). seats.vecs.known) all) of.vecs shut.vecs vecs_taken
  pools_led n false true = thing_led bios_left (no_pool opened.stage.value.stack opened.vecs.ledger) n
  pools_led n false false = thing_led records_left (no_pool opened.stage.value.stack opened.vecs.ledger) n

  pub things_led : (name : Object) → Leads (answers_at name) (unasked (opened_at opened name)) (history_in closed name) (object_left_in closed opened name)
  things_led (OfPool n) = pools_led n (n == 64) (is_bios_number n)
  things_led (OfRescuer dev) = thing_led lists_left no_list dev
  things_led (OfDisk dev) = thing_led disks_left (opened_disk opened.stage.value.stack) dev
  things_led (OfBook writer) = thing_led books_left no_book writer
  things_led OfTally =
      one_led tally_mark TallyAnswers locks.common.value (tally_of opened.tally) locks.tally firsts.tally closed.tally.thing closed.tally.told.value (map (λ (seats : TaskSeats). seats.tally.known) all) of.tally shut.tally tally_taken
  things_led OfNone = refl

  -- each call of each history is of a task
  abbrev IsOfTask : Call → Type 0
  IsOfTask call = (0 < call.by) × (call.by ≤ length all)

  by_rows : {X Y : Type 0} (f : X → Y) (xs : List X) (history : List Call) → All (λ (call : Call). (0 < call.by) × (call.by ≤ length (map f xs))) history
      → All (λ (call : Call). (0 < call.by) × (call.by ≤ length xs)) history
  by_rows f xs history = subst (λ n. All (λ (call : Call). (0 < call.by) × (call.by ≤ n)) history) (length-map xs f)

  pub numbers_of : (name : Object) → All IsOfTask (history_in closed name)
  numbers_of (OfPool n) =
      pool_by (All IsOfTask) closed.vecs.told.value.known.seen (seen_bios n) (seen_records n) (n == 64) (is_bios_number n)
      (by_rows _ all closed.vecs.told.value.known.seen
      (one_of_these pool_mark PoolAnswers locks.common.value opened.vecs locks.vecs firsts.vecs closed.vecs.thing closed.vecs.told.value (map (λ (seats : TaskSeats). seats.vecs.known) all) of.vecs shut.vecs vecs_taken).all)
      (by_rows _ all _ (numbers_by_number bios_left n)) (by_rows _ all _ (numbers_by_number records_left n))
  numbers_of (OfRescuer dev) = by_rows _ all _ (numbers_by_number lists_left dev)
  numbers_of (OfDisk dev) = by_rows _ all _ (numbers_by_number disks_left dev)
  numbers_of (OfBook writer) = by_rows _ all _ (numbers_by_number books_left writer)
  numbers_of OfTally =
      by_rows _ all closed.tally.told.value.known.seen
      (one_of_these tally_mark TallyAnswers locks.common.value (tally_of opened.tally) locks.tally firsts.tally closed.tally.thing closed.tally.told.value (map (λ (seats : TaskSeats). seats.tally.known) all) of.tally shut.tally tally_taken).all
  numbers_of OfNone = λ k d lt. absurd (omega (arith, lt))

  module _ (seated : All (SeatsHold locks) all) where
    -- the seats of one task
    module _ (k : ℕ) (none : TaskSeats) (lt : k < length all) where
      abbrev mine : TaskSeats
      mine = get_or all k none

      hold : SeatsHold locks mine
      hold = seated k none lt

      keys_of : {K T : Type 0} (key : K → ℕ) (rows : List (K × LockId T)) (seats row : List (K × SeatState T Request Told)) → row ≡ seats → AreSeatsOf mine.number rows seats
          → Abreast (λ (lock : K × LockId T) (seat : K × SeatState T Request Told). key seat.0 ≡ key lock.0) rows row
      keys_of {K = K} {T = T} key rows seats row same are =
          subst (λ (row : List (K × SeatState T Request Told)). Abreast (λ (lock : K × LockId T) (seat : K × SeatState T Request Told). key seat.0 ≡ key lock.0) rows row) (sym same)
          (weaker_two _ _ (λ lock seat is. ap key is.0) rows seats are)

      many : {X : Type 0} (f : TaskSeats → X) → k < length (map f all)
      many f = let l = length-map all f in omega (arith, lt, l)

      vecs_calls : calls_by ((k + 1) ∷ []) closed.vecs.told.value.known.seen ≡ own mine.vecs.known
      vecs_calls =
          (one_of_these pool_mark PoolAnswers locks.common.value opened.vecs locks.vecs firsts.vecs closed.vecs.thing closed.vecs.told.value (map (λ (seats : TaskSeats). seats.vecs.known) all) of.vecs shut.vecs vecs_taken).each
          k mine.vecs.known (many (λ (seats : TaskSeats). seats.vecs.known))
          ∙ ap own (mapped_at (λ (seats : TaskSeats). seats.vecs.known) all k none mine.vecs.known lt)

      tally_calls : calls_by ((k + 1) ∷ []) closed.tally.told.value.known.seen ≡ own mine.tally.known
      tally_calls =
          (one_of_these tally_mark TallyAnswers locks.common.value (tally_of opened.tally) locks.tally firsts.tally closed.tally.thing closed.tally.told.value (map (λ (seats : TaskSeats). seats.tally.known) all) of.tally shut.tally tally_taken).each
          k mine.tally.known (many (λ (seats : TaskSeats). seats.tally.known))
          ∙ ap own (mapped_at (λ (seats : TaskSeats). seats.tally.known) all k none mine.tally.known lt)

      -- of a kind
      kind_calls : {K E Z O : Type 0} {answers : ThingState O → Request → Told → ThingState O → Type 0} {skey : K → ℕ} {ekey : E → ℕ} {zkey : Z → ℕ} {value : E → O}
          {thing : Z → Stamped O} {seen : Z → List Call} {common : CommonState} {es : List E} {rows : List (K × LockId (Stamped O))}
          {first_row : List (K × SeatState (Stamped O) Request Told)} {zs : List Z} (row : TaskSeats → List (K × SeatState (Stamped O) Request Told))
          → IsLeftOfKind answers skey ekey zkey value thing seen common es rows first_row zs (map row all) → AreSeatsOf mine.number rows (row mine)
          → (n : ℕ) → calls_by ((k + 1) ∷ []) (look_up zkey seen (λ m. []) zs n) ≡ calls_in skey (row mine) n
      kind_calls {skey = skey} {rows = rows} row left are n =
          let same = mapped_at row all k none [] lt in
          task_calls left k [] (many row) (keys_of skey rows (row mine) (get_or (map row all) k []) same are) n
          ∙ ap (λ seats. calls_in skey seats n) same

      pool_calls : (n : ℕ) (is_vecs of_set : Bool)
          → calls_by ((k + 1) ∷ []) (if is_vecs then closed.vecs.told.value.known.seen else if of_set then seen_bios n else seen_records n)
          ≡ (if is_vecs then own mine.vecs.known else if of_set then calls_in set_key mine.bios.items n else calls_in slip_key mine.records.items n)
      pool_calls n true of_set = vecs_calls
      pool_calls n false true = kind_calls (λ seats. seats.bios.items) bios_left hold.bios n
      pool_calls n false false = kind_calls (λ seats. seats.records.items) records_left hold.records n

      pub calls_here : (name : Object) → calls_by ((k + 1) ∷ []) (history_in closed name) ≡ calls_at (desk_of mine).calls name
      calls_here (OfPool n) = pool_calls n (n == 64) (is_bios_number n)
      calls_here (OfRescuer dev) = kind_calls (λ seats. seats.lists.items) lists_left hold.lists dev
      calls_here (OfDisk dev) = kind_calls (λ seats. seats.disks.items) disks_left hold.disks dev
      calls_here (OfBook writer) = kind_calls (λ seats. seats.books.items) books_left hold.books writer
      calls_here OfTally = tally_calls
      calls_here OfNone = refl
