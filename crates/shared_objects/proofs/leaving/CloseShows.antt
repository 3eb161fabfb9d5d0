-- What is shown once all tasks were put away and the locks were closed.
use Rattle.std.proofs.Common.{◌≡◌, ◌≤◌, ◌<◌, ℕ, zero, suc, true, List, [], ◌∷◌, All, arith, refl, sym, ◌∙◌, ap, ap₂, subst, length, map, get_or, Option, None, Some}
use Rattle.std.specs.Global.{Vec}
use Rattle.std.specs.Prelude.{◌-◌, ◌^◌, min}
use Rattle.std.proofs.lemmas.List.{get_or-map, length-map}
use Rattle.std.proofs.lemmas.List.Elements.{All-map}
use Rattle.run_machine.specs.Scene.{Setup}
use Rattle.task_steps.specs.Routed.{routing_setup}
use Rattle.task_steps.specs.TaskViews.{TaskOf}
use Rattle.task_core.specs.Leaving.{IsReservedForRun}
use Rattle.task_core.specs.Plains.{book_number, disk_number, list_number, records_number, set_number, stage_of}
use Rattle.task_core.specs.declared.opening.Opened.{Opened}
use Rattle.task_core.specs.declared.plain.Plain.{Plain}
use Rattle.task_core.specs.opened.OfOne.{IsOpened, scenario_in, states}
use Rattle.shared_objects.specs.ClosedByName.{history_in, object_left_in, names_in}
use Rattle.shared_objects.specs.Closes.{ClosesAs, Returned}
use Rattle.shared_objects.specs.Desks.{DeskState}
use Rattle.shared_objects.specs.Holding.{SeatsHold, desk_of, dev_key, set_key, slip_key, stage_at, writer_key}
use Rattle.shared_objects.specs.Joining.{AreHere, ArePutAway, CanEnd, HaveNoted, IsHereOf}
use Rattle.shared_objects.specs.Left.{AreInOpenedOrder, HasClosed, IsReturned, IsNotedTrace}
use Rattle.shared_objects.specs.Logs.{HasStopped, IsLogged, events_in}
use Rattle.shared_objects.specs.Noting.{AreNoted, HaveTickets, notes_of}
use Rattle.shared_objects.specs.Passes.{found_by}
use Rattle.shared_objects.specs.Rans.{RanHolds, RanKey, RanState, ran_key}
use Rattle.shared_objects.specs.Rows.{Abreast}
use Rattle.shared_objects.specs.Shared.{HaveStopped, IsBackStopped, IsOwnIfHere, SharedHolds, ran_key_at}
use Rattle.shared_objects.specs.Shutting.{HasShut}
use Rattle.shared_objects.specs.Taking.{AreTaken, HasTakenPasses, PassHasTaken, TakenHold}
use Rattle.shared_objects.specs.Joins.{HasTaken}
use Rattle.shared_objects.specs.declared.closed.Closed.{Closed}
use Rattle.shared_objects.specs.declared.locks.Locks.{Locks}
use Rattle.shared_objects.specs.declared.noted.Noted.{Noted}
use Rattle.shared_objects.specs.declared.seats.TaskSeats.{TaskSeats}
use Rattle.shared_objects.specs.declared.shared.Shared.{Shared}
use Rattle.shared_objects.specs.declared.closed.ClosedTask.{ClosedTask}
use Rattle.shared_objects.proofs.leaving.ClosedByName.{bios_left, books_left, disks_left, lists_left, records_left}
use Rattle.shared_objects.proofs.leaving.ClosesAs.{closes_as}
use Rattle.shared_objects.proofs.leaving.JoinedSeats.{as_many, one_can_close, row_can_close}
use Rattle.shared_objects.proofs.leaving.LeftOfKind.{pairs}
use Rattle.shared_objects.proofs.row_lemmas.AbreastRows.{front, none_left, none_right, some_of, weaker_two}

-- rows abreast by a mark of each have the same marks
maps_same : {X Y C : Type 0} (f : X → C) (g : Y → C) (xs : List X) (ys : List Y) → Abreast (λ x y. g y ≡ f x) xs ys → map g ys ≡ map f xs
maps_same f g [] [] are = refl
maps_same f g [] (y ∷ ys) are = absurd (none_left (λ x y. g y ≡ f x) y ys are)
maps_same f g (x ∷ xs) [] are = absurd (none_right (λ x y. g y ≡ f x) x xs are)
maps_same f g (x ∷ xs) (y ∷ ys) are = let parts = front (λ x y. g y ≡ f x) x y xs ys are in ap₂ (λ a l. a ∷ l) parts.0 (maps_same f g xs ys parts.1)

two_front : {X Y : Type 0} (P : X → Y → Type 0) (x : X) (y : Y) (xs : List X) (ys : List Y) → P x y → Abreast P xs ys → Abreast P (x ∷ xs) (y ∷ ys)
two_front {X = X} {Y = Y} P x y xs ys is are = record { lens = let l = are.lens in omega (arith, l); each = at }
  where
    at : (place : ℕ) (a : X) (b : Y) → place < length (x ∷ xs) → P (get_or (x ∷ xs) place a) (get_or (y ∷ ys) place b)
    at zero a b lt = is
    at (suc place) a b lt = are.each place a b (omega (arith, lt))

-- all tasks are here, each at its place
pub are_here : (shared : Shared) → SharedHolds shared → HaveStopped shared → AreHere shared.locks shared.tasks.items
are_here shared holds over place slot lt =
    let many = holds.all in let first = some_of shared.told.value.tasks.items place (omega (arith, lt, many)) in
    here (get_or shared.told.value.tasks.items place first) (get_or shared.tasks.items place slot) (over place slot lt) (holds.own place first slot lt)
  where
    here : (first : TaskOf) (found : Option RanState) → IsBackStopped found → IsOwnIfHere (ran_key_at shared.locks place first) found → IsHereOf shared.locks place found
    here first None back own = absurd back
    here first (Some ran) back own = (ap (λ (k : RanKey). k.home) own, ap (λ (k : RanKey). k.number) own)

-- every seat that was split off was joined
module _ (locks : Locks) (slots : List (Option RanState)) (firsts : TaskSeats) (closed : List ClosedTask)
    (trace : Option (Vec Noted)) (away : ArePutAway (length slots) locks slots firsts closed trace) where
  abbrev joined_all : List TaskSeats
  joined_all = map (λ (r : RanState). r.seats) away.rans

  as_split : {X : Type 0} (f : TaskSeats → X) → length slots ≡ length (map f joined_all)
  as_split f = sym ((as_many (length slots) locks slots firsts closed trace away).0) ∙ sym (length-map away.rans (λ (r : RanState). r.seats)) ∙ sym (length-map joined_all f)

  pub can_end : CanEnd firsts
  can_end = record {
    bios = row_can_close (map (λ (s : TaskSeats). s.bios.items) joined_all) firsts.bios.items
        (subst (λ n. AreTaken n (map (λ (s : TaskSeats). s.bios.items) joined_all) firsts.bios.items) (as_split (λ (s : TaskSeats). s.bios.items)) away.taken.bios);
    vecs = one_can_close (map (λ (s : TaskSeats). s.vecs.known) joined_all) firsts.vecs
        (subst (λ n. HasTaken n (map (λ (s : TaskSeats). s.vecs.known) joined_all) firsts.vecs.known) (as_split (λ (s : TaskSeats). s.vecs.known)) away.taken.vecs);
    records = row_can_close (map (λ (s : TaskSeats). s.records.items) joined_all) firsts.records.items
        (subst (λ n. AreTaken n (map (λ (s : TaskSeats). s.records.items) joined_all) firsts.records.items) (as_split (λ (s : TaskSeats). s.records.items)) away.taken.records);
    lists = row_can_close (map (λ (s : TaskSeats). s.lists.items) joined_all) firsts.lists.items
        (subst (λ n. AreTaken n (map (λ (s : TaskSeats). s.lists.items) joined_all) firsts.lists.items) (as_split (λ (s : TaskSeats). s.lists.items)) away.taken.lists);
    disks = row_can_close (map (λ (s : TaskSeats). s.disks.items) joined_all) firsts.disks.items
        (subst (λ n. AreTaken n (map (λ (s : TaskSeats). s.disks.items) joined_all) firsts.disks.items) (as_split (λ (s : TaskSeats). s.disks.items)) away.taken.disks);
    books = row_can_close (map (λ (s : TaskSeats). s.books.items) joined_all) firsts.books.items
        (subst (λ n. AreTaken n (map (λ (s : TaskSeats). s.books.items) joined_all) firsts.books.items) (as_split (λ (s : TaskSeats). s.books.items)) away.taken.books);
    tally = one_can_close (map (λ (s : TaskSeats). s.tally.known) joined_all) firsts.tally
        (subst (λ n. HasTaken n (map (λ (s : TaskSeats). s.tally.known) joined_all) firsts.tally.known) (as_split (λ (s : TaskSeats). s.tally.known)) away.taken.tally);
  }

-- A task that was put away and has stopped, and what it is returned as.
record IsStoppedRan (set : Setup) (ran : RanState) : Type 0 where
  pub hold : RanHolds ran
  pub setup_is : routing_setup ran.first.routing ≡ set
  pub over : ran.stopped ≡ true

record ReturnsAs (set : Setup) (ran : RanState) (task : Returned) : Type 0 where
  pub first : task.first ≡ ran.first.state
  pub state : task.task ≡ ran.task.state
  pub desk : task.desk ≡ desk_of ran.seats
  pub events : ran.events ≡ min (length (events_in task.log)) (2 ^ 64 - 1)
  pub logged : IsLogged set task.first task.log task.task task.desk
  pub stopped : HasStopped set task.log task.task
  pub notes : HaveTickets task.log → AreNoted (notes_of set task.first task.log) ran.noted

module _ (set : Setup) where
  abbrev one_returned : (ran : RanState) → IsStoppedRan set ran → Returned
  one_returned ran ready = record { first = ran.first.state; log = ready.hold.ran.log; task = ran.task.state; desk = desk_of ran.seats }

  returns_as : (ran : RanState) (ready : IsStoppedRan set ran) → ReturnsAs set ran (one_returned ran ready)
  returns_as ran ready = record {
    first = refl;
    state = refl;
    desk = refl;
    events = ready.hold.ran.counted;
    logged = subst (λ (s : Setup). IsLogged s ran.first.state ready.hold.ran.log ran.task.state (desk_of ran.seats)) ready.setup_is ready.hold.ran.logged;
    stopped = subst (λ (s : Setup). HasStopped s ready.hold.ran.log ran.task.state) ready.setup_is (ready.hold.ran.stops ready.over);
    notes = subst (λ (s : Setup). HaveTickets ready.hold.ran.log → AreNoted (notes_of s ran.first.state ready.hold.ran.log) ran.noted) ready.setup_is ready.hold.ran.notes;
  }

  returned_of : (rans : List RanState) → All (IsStoppedRan set) rans → (returned : List Returned) × Abreast (ReturnsAs set) rans returned
  returned_of [] ready = ([], record { lens = refl; each = λ place x y lt. absurd (omega (arith, lt)) })
  returned_of (ran ∷ rans) ready =
      let here : IsStoppedRan set ran = ready 0 ran (omega arith) in
      let rest = returned_of rans (λ k d lt. ready (suc k) d (omega (arith, lt))) in
      (one_returned ran here ∷ rest.0, two_front (ReturnsAs set) ran (one_returned ran here) rans rest.0 (returns_as ran here) rest.1)

module _ (shared : Shared) (firsts : TaskSeats) (closed : Closed) (holds : SharedHolds shared) (over : HaveStopped shared)
    (away : ArePutAway (length shared.tasks.items) shared.locks shared.tasks.items firsts closed.tasks.items closed.trace) (shut : HasShut shared.locks firsts closed)
    (pass : firsts.pass ≡ Some closed.pass.value) where
  abbrev opened : Plain
  opened = shared.told.value.objects

  abbrev set : Setup
  set = routing_setup (stage_of opened).routing

  abbrev seats_in : RanState → TaskSeats
  seats_in ran = ran.seats

  abbrev all : List TaskSeats
  all = map seats_in away.rans

  many : (length away.rans ≡ length shared.tasks.items) × (length all ≡ length away.rans)
  many = ((as_many (length shared.tasks.items) shared.locks shared.tasks.items firsts closed.tasks.items closed.trace away).0, length-map away.rans seats_in)

  slot_is : (k : ℕ) (ran : RanState) → k < length away.rans → get_or shared.tasks.items k (Some ran) ≡ Some (get_or away.rans k ran)
  slot_is k ran lt = ap (λ (slots : List (Option RanState)). get_or slots k (Some ran)) away.are ∙ get_or-map (λ (r : RanState). Some r) away.rans k ran (Some ran) lt

  ready : All (IsStoppedRan set) away.rans
  ready k ran lt = let m = many.0 in record {
    hold = away.hold k ran lt;
    setup_is = ap routing_setup ((away.hold k ran lt).routing ∙ ap (λ (home : Locks). (stage_at home).routing) (away.homes k ran lt) ∙ ap (λ (p : Plain). (stage_of p).routing) holds.round.same);
    over = subst IsBackStopped (slot_is k ran lt) (over k (Some ran) (omega (arith, lt, m)));
  }

  key_is : (k : ℕ) (ran : RanState) (first : TaskOf) → k < length away.rans → ran_key (get_or away.rans k ran) ≡ ran_key_at shared.locks k (get_or shared.told.value.tasks.items k first)
  key_is k ran first lt = let m = many.0 in
      subst (IsOwnIfHere (ran_key_at shared.locks k (get_or shared.told.value.tasks.items k first))) (slot_is k ran lt) (holds.own k first (Some ran) (omega (arith, lt, m)))

  abbrev returned : List Returned
  returned = (returned_of set away.rans ready).0

  are : Abreast (ReturnsAs set) away.rans returned
  are = (returned_of set away.rans ready).1

  taken : TakenHold (length all) shared.locks all firsts
  taken = let m = many.0 in let n = many.1 in subst (λ k. TakenHold k shared.locks all firsts) (sym m ∙ sym n) away.taken

  -- what is known of a task that was put away, by its place among those that were returned
  as_returned : (k : ℕ) (ran : RanState) (task : Returned) → k < length returned → ReturnsAs set (get_or away.rans k ran) (get_or returned k task)
  as_returned k ran task lt = let l = are.lens in are.each k ran task (omega (arith, lt, l))

  ran_at : (k : ℕ) → k < length returned → RanState
  ran_at k lt = let l = are.lens in some_of away.rans k (omega (arith, lt, l))

  same : Abreast (λ (seats : TaskSeats) (task : Returned). task.desk ≡ desk_of seats) all returned
  same = let l = are.lens in let n = many.1 in record {
    lens = omega (arith, l, n);
    each = λ k seats task lt.
        let in_rans : k < length away.rans = omega (arith, lt, n) in let ran = some_of away.rans k in_rans in
        (are.each k ran task in_rans).desk ∙ ap desk_of (sym (get_or-map seats_in away.rans k ran seats in_rans));
  }

  closes : ClosesAs set opened (names_in closed) (history_in closed) (object_left_in closed opened) returned closed.pass.value
  closes = closes_as set opened shared.locks firsts closed all returned closed.pass.value holds.round shut taken
      (All-map (SeatsHold shared.locks) seats_in away.rans
      (λ k ran lt. subst (λ (home : Locks). SeatsHold home (get_or away.rans k ran).seats) (away.homes k ran lt) (away.hold k ran lt).desk.seated))
      same
      (λ k task lt. let is = as_returned k (ran_at k lt) task lt in (is.logged, is.stopped))
      pass

  firsts_are : map (λ (task : Returned). task.first) returned ≡ states shared.told.value.tasks.items
  firsts_are = maps_same (λ (task : TaskOf). task.state) (λ (task : Returned). task.first) shared.told.value.tasks.items returned
      (let l = are.lens in let m = many.0 in let n = holds.all in record {
        lens = omega (arith, l, m, n);
        each = λ k first task lt.
            let in_rans : k < length away.rans = omega (arith, lt, m, n) in let ran = some_of away.rans k in_rans in
            (are.each k ran task in_rans).first ∙ ap (λ (key : RanKey). key.first.state) (key_is k ran first in_rans);
      })

  tasks_are : Abreast (IsReturned set) closed.tasks.items returned
  tasks_are = let l = are.lens in let m = away.tasks.lens in record {
    lens = omega (arith, l, m);
    each = λ k left task lt.
        let in_rans : k < length away.rans = omega (arith, lt, m) in let ran = some_of away.rans k in_rans in
        let is = are.each k ran task in_rans in let put = away.tasks.each k ran left in_rans in record {
          first = ap (λ (t : TaskOf). t.state) put.first ∙ sym is.first;
          task = ap (λ (t : TaskOf). t.state) put.task ∙ sym is.state;
          desk = ap desk_of put.seats ∙ sym is.desk;
          events = put.events ∙ is.events;
        };
  }

  -- what each noted are the notes of its calls
  noted_by : (trace : Option (Vec Noted)) → HaveNoted away.rans trace → IsNotedTrace set returned trace
  noted_by None have = tt
  noted_by (Some list) have = let l = are.lens in let m = have.lens in record {
    lens = omega (arith, l, m);
    each = λ k noted task lt tickets.
        let in_rans : k < length away.rans = omega (arith, lt, m) in let ran = some_of away.rans k in_rans in
        subst (AreNoted (notes_of set (get_or returned k task).first (get_or returned k task).log)) (have.each k ran noted in_rans) ((are.each k ran task in_rans).notes tickets);
  }

  first_pass : PassHasTaken (length shared.tasks.items) all closed.pass.value
  first_pass = subst (HasTakenPasses (length shared.tasks.items) all) pass away.taken.passes

  found : All (λ (task : Returned). found_by task.desk.pass ≤ closed.pass.value.known) returned
  found k task lt =
      let l = are.lens in let n = many.1 in let in_rans : k < length away.rans = omega (arith, lt, l) in
      let ran = some_of away.rans k in_rans in
      subst (λ (desk : DeskState). found_by desk.pass ≤ closed.pass.value.known) (sym (are.each k ran task in_rans).desk)
      (subst (λ (seats : TaskSeats). found_by seats.pass ≤ closed.pass.value.known) (get_or-map seats_in away.rans k ran ran.seats in_rans)
      (first_pass.found k ran.seats (omega (arith, in_rans, n))))

  order : AreInOpenedOrder opened closed
  order = record {
    bios = maps_same set_number (λ entry. set_key entry.0) opened.bios.items closed.bios.items
        (weaker_two _ _ (λ e z is. is.0) opened.bios.items closed.bios.items (pairs (bios_left opened shared.locks firsts closed all holds.round shut taken)));
    records = maps_same records_number (λ entry. slip_key entry.0) opened.records.items closed.records.items
        (weaker_two _ _ (λ e z is. is.0) opened.records.items closed.records.items (pairs (records_left opened shared.locks firsts closed all holds.round shut taken)));
    lists = maps_same list_number (λ entry. dev_key entry.0) opened.lists.items closed.lists.items
        (weaker_two _ _ (λ e z is. is.0) opened.lists.items closed.lists.items (pairs (lists_left opened shared.locks firsts closed all holds.round shut taken)));
    disks = maps_same disk_number (λ left. left.thing.object.dev.0) opened.disks.items closed.disks.items
        (weaker_two _ _ (λ e z is. is.0) opened.disks.items closed.disks.items (pairs (disks_left opened shared.locks firsts closed all holds.round shut taken)));
    books = maps_same book_number (λ entry. writer_key entry.0) opened.books.items closed.books.items
        (weaker_two _ _ (λ e z is. is.0) opened.books.items closed.books.items (pairs (books_left opened shared.locks firsts closed all holds.round shut taken)));
  }

  pub has_closed : closed.told.value ≡ shared.told.value → closed.room ≡ shared.room.ended → HasClosed closed
  has_closed told room = let back = sym told in record {
    opened = subst IsOpened back holds.opened;
    returned = returned;
    closes = subst (λ (o : Opened). ClosesAs (routing_setup (stage_of o.objects).routing) o.objects (names_in closed) (history_in closed) (object_left_in closed o.objects) returned closed.pass.value) back closes;
    firsts = subst (λ (o : Opened). map (λ (task : Returned). task.first) returned ≡ states o.tasks.items) back firsts_are;
    tasks = subst (λ (o : Opened). Abreast (IsReturned (routing_setup (stage_of o.objects).routing)) closed.tasks.items returned) back tasks_are;
    trace = subst (λ (o : Opened). IsNotedTrace (routing_setup (stage_of o.objects).routing) returned closed.trace) back (noted_by closed.trace away.noted);
    found = found;
    order = subst (λ (o : Opened). AreInOpenedOrder o.objects closed) back order;
    room = subst (λ (o : Opened). IsReservedForRun (scenario_in o).stack (length (scenario_in o).writes) closed.room) back
        (subst (IsReservedForRun (scenario_in shared.told.value).stack (length (scenario_in shared.told.value).writes)) (sym room) holds.room.ended);
  }
