-- A close is as all that it shows of its objects together.
use Rattle.std.proofs.Common.{◌≡◌, ◌<◌, ◌≤◌, ◌+◌, ℕ, Bool, true, false, List, [], ◌∷◌, All, arith, refl, sym, ◌∙◌, ap, subst, length, get_or, Some, ap₂}
use Rattle.std.specs.Prelude.{◌++◌, slice_get}
use Rattle.std.specs.List.{flat_map}
use Rattle.std.proofs.lemmas.Option.{get_or_from_slice_get, slice_get-get_or, slice_get_within}
use Rattle.seat_lock.specs.History.{calls_by}
use Rattle.run_machine.specs.Laws.{Object, object_of}
use Rattle.task_core.specs.declared.plain.Plain.{Plain}
use Rattle.object_things.specs.Histories.{Call}
use Rattle.shared_objects.specs.Calls.{calls_at, calls_to, is_same_object}
use Rattle.shared_objects.specs.ClosedByName.{history_in, object_left_in, names_in, names_of}
use Rattle.shared_objects.specs.Closes.{ClosesAs, Returned}
use Rattle.shared_objects.specs.Holding.{SeatsHold, desk_of}
use Rattle.shared_objects.specs.Rows.{Abreast}
use Rattle.shared_objects.specs.Sharing.{AreOfOpened}
use Rattle.shared_objects.specs.Shutting.{HasShut}
use Rattle.shared_objects.specs.Taking.{HasTakenPasses, PassHasTaken, TakenHold}
use Rattle.shared_objects.specs.Passes.{drawn_by}
use Rattle.shared_objects.specs.Desks.{DeskState}
use Rattle.shared_objects.specs.Logs.{HasStopped, IsLogged}
use Rattle.tick_clock.specs.declared.ticking.PassRank.TheVariants as pass_rank
use Rattle.tick_clock.specs.declared.ticking.Ticket.{Ticket}
use Rattle.tick_clock.specs.Tickets.{PassState}
use Rattle.run_machine.specs.Scene.{Setup}
use Rattle.shared_objects.specs.declared.closed.Closed.{Closed}
use Rattle.shared_objects.specs.declared.locks.Locks.{Locks}
use Rattle.shared_objects.specs.declared.seats.TaskSeats.{TaskSeats}
use Rattle.shared_objects.proofs.leaving.ClosedByName.{calls_here, numbers_of, things_led}
use Rattle.shared_objects.proofs.row_lemmas.AbreastRows.{front, none_left, none_right, some_of}
use Rattle.shared_objects.proofs.SameNames.{same_is, same_self}
use Rattle.shared_objects.proofs.leaving.Unshared.{others_in}
use Rattle.shared_objects.proofs.row_lemmas.CallsApart.{all_by_tasks, all_more, not_once, once_apart}

module _ (setup : Setup) (opened : Plain) (locks : Locks) (firsts : TaskSeats) (closed : Closed) (all : List TaskSeats) (returned : List Returned) (pass : PassState)
    (of : AreOfOpened opened locks) (shut : HasShut locks firsts closed) (taken : TakenHold (length all) locks all firsts) (seated : All (SeatsHold locks) all)
    (same : Abreast (λ (seats : TaskSeats) (task : Returned). task.desk ≡ desk_of seats) all returned)
    (logged : All (λ (task : Returned). IsLogged setup task.first task.log task.task task.desk × HasStopped setup task.log task.task) returned)
    (passes : firsts.pass ≡ Some pass) where
  calls_of : (name : Object) (place : ℕ) (task : Returned) → slice_get returned place ≡ Some task → calls_by ((place + 1) ∷ []) (history_in closed name) ≡ calls_to name task.log
  calls_of name place task found =
      let lt : place < length returned = slice_get_within returned place task found in
      let is : get_or returned place task ≡ task = get_or_from_slice_get returned place task task found in
      let l = same.lens in
      let seats = some_of all place (omega (arith, lt, l)) in
      let desk : task.desk ≡ desk_of (get_or all place seats) = ap (λ (t : Returned). t.desk) (sym is) ∙ same.each place seats task (omega (arith, lt, l)) in
      let log = subst (λ (t : Returned). IsLogged setup t.first t.log t.task t.desk × HasStopped setup t.log t.task) is (logged place task lt) in
      calls_here opened locks firsts closed all of shut taken seated place seats (omega (arith, lt, l)) name
      ∙ ap (λ (d : DeskState). calls_at d.calls name) (sym desk) ∙ log.0.calls name

  by_returned : (name : Object) → All (λ (call : Call). (0 < call.by) × (call.by ≤ length returned)) (history_in closed name)
  by_returned name =
      let l = same.lens in
      subst (λ n. All (λ (call : Call). (0 < call.by) × (call.by ≤ n)) (history_in closed name)) (sym l) (numbers_of opened locks firsts closed all of shut taken name)

  named_so : (name : Object) (calls : List Call) → All (λ (call : Call). object_of call.asked ≡ name) (calls_to name calls)
  named_so name [] = λ k d lt. absurd (omega (arith, lt))
  named_so name (call ∷ calls) = by_case (is_same_object name (object_of call.asked)) refl (named_so name calls)
    where
      by_case : (b : Bool) → is_same_object name (object_of call.asked) ≡ b → All (λ (c : Call). object_of c.asked ≡ name) (calls_to name calls)
          → All (λ (c : Call). object_of c.asked ≡ name) (calls_to name (call ∷ calls))
      by_case true e rest = rw (e) (all_more (λ (c : Call). object_of c.asked ≡ name) call (calls_to name calls) (sym (same_is name (object_of call.asked) e)) rest)
      by_case false e rest = rw (e) rest

  named_in : (name : Object) → All (λ (call : Call). object_of call.asked ≡ name) (history_in closed name)
  named_in name =
      all_by_tasks (λ (call : Call). object_of call.asked ≡ name) (length returned) (history_in closed name) (by_returned name)
      (λ k lt.
      let task = get_or returned k (some_of returned k lt) in
      subst (All (λ (call : Call). object_of call.asked ≡ name)) (sym (calls_of name k task (slice_get-get_or returned k (some_of returned k lt) lt))) (named_so name task.log))

  drawn_of : (xs : List TaskSeats) (ys : List Returned) → Abreast (λ (seats : TaskSeats) (task : Returned). task.desk ≡ desk_of seats) xs ys
      → flat_map (λ (seats : TaskSeats). drawn_by seats.pass) xs ≡ flat_map (λ (task : Returned). drawn_by task.desk.pass) ys
  drawn_of [] [] are = refl
  drawn_of [] (y ∷ ys) are = absurd (none_left (λ (seats : TaskSeats) (task : Returned). task.desk ≡ desk_of seats) y ys are)
  drawn_of (x ∷ xs) [] are = absurd (none_right (λ (seats : TaskSeats) (task : Returned). task.desk ≡ desk_of seats) x xs are)
  drawn_of (x ∷ xs) (y ∷ ys) are =
      let parts = front (λ (seats : TaskSeats) (task : Returned). task.desk ≡ desk_of seats) x y xs ys are in
      ap₂ (λ (a b : List Ticket). a ++ b) (ap (λ (d : DeskState). drawn_by d.pass) (sym parts.0)) (drawn_of xs ys parts.1)

  pub closes_as : ClosesAs setup opened (names_in closed) (history_in closed) (object_left_in closed opened) returned pass
  closes_as =
      let first : PassHasTaken (length all) all pass = subst (HasTakenPasses (length all) all) passes taken.passes in record {
        apart = once_apart is_same_object same_self same_is (names_of closed);
        others = λ name none. others_in closed name (not_once is_same_object same_self same_is name (names_of closed) none);
        things = things_led opened locks firsts closed all of shut taken;
        named = named_in;
        numbers = by_returned;
        calls = calls_of;
        logged = logged;
        all = (first.rank ∙ ap pass_rank.First (sym first.joined), first.shows);
        drawn = first.drawn ∙ drawn_of all returned same;
      }
