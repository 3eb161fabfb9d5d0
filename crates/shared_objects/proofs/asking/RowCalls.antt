-- One call of an object among those of its kind.
use Rattle.std.proofs.Common.{◌≡◌, ◌+◌, ◌++◌, ℕ, Bool, List, [], ◌∷◌, Option, sym, ◌∙◌, ap, subst}
use Rattle.std.specs.Prelude.{IsTrue, slice_index_or}
use Rattle.tick_clock.specs.Tickets.{PassState}
use Rattle.seat_lock.specs.Seats.{LockId, SeatState}
use Rattle.run_machine.specs.Laws.{Object, object_of}
use Rattle.run_machine.specs.Maps.{upd}
use Rattle.run_machine.specs.Requests.{Request, Reply}
use Rattle.object_things.specs.declared.stamp.Asking.{Asking}
use Rattle.object_things.specs.declared.stamp.Replied.{Replied}
use Rattle.object_things.specs.Histories.{Call}
use Rattle.object_things.specs.Stamps.{CommonState, MarkState, PassByReply, Told, told_by}
use Rattle.shared_objects.specs.Calling.{AreSeatedAt, FitsAt, FitsWith, HasAskedAt}
use Rattle.shared_objects.specs.Calls.{CallsAt, with_call}
use Rattle.shared_objects.specs.Desks.{HasCalled}
use Rattle.shared_objects.specs.Holding.{AreLocked, AreSeatsOf, IsPassOf, IsSeatOf, calls_in}
use Rattle.shared_objects.proofs.asking.PassAndCalls.{SeatCalls, fits_with, has_called, home_again, numbered_stays, owed_of, seat_calls}
use Rattle.shared_objects.proofs.asking.RowSeats.{named_at, seat_of, seated_at, calls_now, seats_now}

abbrev pub mark_as : CommonState → Object → MarkState
mark_as common name = record { common = common; name = name }

module _ {K T : Type 0} {key : K → ℕ} {mark : T → MarkState} {name : ℕ → Object} {common : CommonState} {used : ℕ → Bool} {table : List ℕ} {task : ℕ}
    {locks row : List (K × LockId T)} {seats : List (K × SeatState T Request Told)} (locks_are : locks ≡ row) (row_locked : AreLocked key mark name common used table row)
    (row_seated : AreSeatsOf task row seats) (n i : ℕ) (is : IsTrue (used n)) (place : i ≡ slice_index_or table n 0) where
  locked : AreLocked key mark name common used table locks
  locked = subst (AreLocked key mark name common used table) (sym locks_are) row_locked

  seated : AreSeatsOf task locks seats
  seated = subst (λ l. AreSeatsOf task l seats) (sym locks_are) row_seated

  -- the desk has a seat at the object of the number
  pub has_seat : AreSeatedAt locks seats i
  has_seat = seated_at locked seated n i is place

  -- what fits the object of the number fits that behind the lock there
  pub row_fits : {Q : Type 0} (fits : MarkState → Asking Q → Type 0) (held : Option PassState) (ask : Q) → IsPassOf common.clock held
      → ((pass : PassState) → pass.clock ≡ common.clock → fits (mark_as common (name n)) (record { pass = pass; ask = ask }))
      → FitsAt mark fits locks i held ask
  row_fits fits held ask home all lock lock_is =
      subst (λ (m : MarkState). FitsWith (fits m) held ask) (sym (named_at locked seated n i is place lock lock_is))
      (fits_with (fits (mark_as common (name n))) common.clock held ask home all)

  module _ {Q S : Type 0} (asked_of : Q → Request) (reply_of : S → Reply) (owes : MarkState → Asking Q → Replied S → Type 0)
      {before after : Option PassState} {ask : Q} {said : S} {new : List (K × SeatState T Request Told)}
      (made : HasAskedAt (λ (asking : Asking Q). asked_of asking.ask) (told_by reply_of) (λ (thing : T). owes (mark thing)) i locks seats before ask said new after) where
    pub seat_is_of : IsSeatOf task made.lock.1 made.seat.1
    seat_is_of = seat_of locked seated n i is place made.lock made.lock_is made.seat made.seat_is

    module _ (passes : (m : MarkState) (asking : Asking Q) (replied : Replied S) → owes m asking replied → PassByReply reply_of asking.pass replied) where
      abbrev pub row_call : SeatCalls task made.seat.1.known made.now.known before (asked_of ask) (reply_of said) after
      row_call =
          seat_calls asked_of reply_of made.made task seat_is_of.numbered
          (passes (mark made.lock.1.key.value) (record { pass = made.made.pass; ask = ask }) made.made.replied)

      pub row_calls : calls_in key new ≡ upd (calls_in key seats) n (calls_in key seats n ++ record { by = task + 1; asked = asked_of ask; told = row_call.told } ∷ [])
      row_calls =
          calls_now locked seated n i is place made.lock made.lock_is made.seat made.seat_is made.now new made.changed
          (record { by = task + 1; asked = asked_of ask; told = row_call.told }) row_call.calls

      -- and it is a call of the task, whose calls at all objects are `whole` of those at the objects of this kind
      abbrev pub row_called : (calls : CallsAt) (whole : (ℕ → List Call) → CallsAt) → object_of (asked_of ask) ≡ name n
          → ((call : Call) → whole (upd (calls_in key seats) n (calls_in key seats n ++ call ∷ [])) ≡ with_call calls (name n) call)
          → HasCalled (record { number = task + 1; pass = before; calls = calls }) (asked_of ask) (reply_of said)
          (record { number = task + 1; pass = after; calls = whole (calls_in key new) })
      row_called calls whole named adds =
          has_called (name n) calls (whole (calls_in key new)) named row_call
          (ap whole row_calls ∙ adds (record { by = task + 1; asked = asked_of ask; told = row_call.told }))

      pub row_home : IsPassOf common.clock before → IsPassOf common.clock after
      row_home home = home_again common.clock row_call home

    pub row_seats : AreSeatsOf task row new
    row_seats =
        subst (λ l. AreSeatsOf task l new) locks_are
        (seats_now locked seated n i is place made.lock made.lock_is made.seat made.seat_is made.now new made.changed
        (record { of = made.of; numbered = numbered_stays task made.seat.1.known made.now.known made.made.same seat_is_of.numbered }))

    -- what is owed by the object of the number
    pub row_owed : (P : MarkState → S → Type 0) → ((m : MarkState) (pass : PassState) (replied : Replied S) → owes m (record { pass = pass; ask = ask }) replied → P m replied.said)
        → P (mark_as common (name n)) said
    row_owed P owed =
        subst (λ (m : MarkState). P m said) (named_at locked seated n i is place made.lock made.lock_is)
        (owed_of asked_of reply_of made.made (P (mark made.lock.1.key.value))
        (owed (mark made.lock.1.key.value) made.made.pass made.made.replied))
