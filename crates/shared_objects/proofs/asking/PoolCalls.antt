-- What one call makes of what holds of a desk, and of the calls that its task has made: for each kind of pool.
use Rattle.std.proofs.Common.{◌≡◌, ◌+◌, ◌++◌, ℕ, List, [], ◌∷◌, Option, sym, ap, subst, ◌∙◌}
use Rattle.std.specs.Prelude.{IsTrue, slice_index_or}
use Rattle.std.specs.Global.{Vec}
use Rattle.tick_clock.specs.Tickets.{PassState}
use Rattle.seat_lock.specs.Seats.{LockId, SeatState, IsOfLock, own}
use Rattle.stack_base.specs.declared.ids.DevId.{DevId}
use Rattle.stack_base.specs.declared.ids.SetId.{SetId}
use Rattle.bio_records.specs.declared.bio.Pad.{Pad}
use Rattle.bio_records.specs.declared.bio.Slip.{Slip}
use Rattle.bio_records.specs.declared.body.BioBody.{BioBody}
use Rattle.bio_records.specs.declared.segment.Vector.{Vector}
use Rattle.bio_records.specs.Clear.{IsClearBody, IsClearSlip, IsClearVector}
use Rattle.run_machine.specs.Laws.{OfPool, object_of}
use Rattle.run_machine.specs.Maps.{upd}
use Rattle.run_machine.specs.Requests.{Request}
use Rattle.task_steps.specs.Stage.{is_bios, is_slips}
use Rattle.object_things.specs.declared.pool.PoolThing.{PoolThing}
use Rattle.object_things.specs.declared.pool.PoolAsk.{PoolAsk}
use Rattle.object_things.specs.declared.pool.PoolSaid.{PoolSaid}
use Rattle.object_things.specs.declared.stamp.Asking.{Asking}
use Rattle.object_things.specs.Histories.{Call}
use Rattle.object_things.specs.Stamps.{MarkState, Told, stage_in}
use Rattle.object_things.specs.Pools.{PoolAskFits, PoolFits, PoolOwes, PoolSays, object_pool_number, pool_asked, pool_mark, pool_replied, pool_told}
use Rattle.shared_objects.specs.declared.locks.Locks.{Locks}
use Rattle.shared_objects.specs.declared.seats.TaskSeats.{TaskSeats}
use Rattle.shared_objects.specs.Calling.{AreSeatedAt, FitsAt, FitsWith, HasAsked, HasAskedAt}
use Rattle.shared_objects.specs.Desks.{HasCalled}
use Rattle.shared_objects.specs.Holding.{DeskHolds, calls_in, calls_of, desk_of, set_key, slip_key, stage_at}
use Rattle.task_core.specs.Plains.{by_kind}
use Rattle.shared_objects.proofs.asking.PassAndCalls.{SeatCalls, fits_with, has_called, home_again, numbered_stays, owed_of, seat_calls}
use Rattle.task_core.proofs.PoolLemmas.{bios_change, records_change, vecs_change, stands_for_bios, stands_for_records, bios_not_64, bios_of_set, slips_not_64, slips_of_set}
use Rattle.shared_objects.proofs.asking.RowCalls.{has_seat, mark_as, row_called, row_fits, row_home, row_owed, row_seats}

module _ (locks : Locks) (seats : TaskSeats) (holds : DeskHolds locks seats) where
  -- pools of bios
  module _ (rows : List (SetId × LockId (PoolThing (BioBody Pad)))) (rows_are : rows ≡ locks.bios.items) (n place : ℕ) (is : IsTrue (is_bios (stage_at locks) n)) (there : place ≡ slice_index_or locks.index.bios n 0) (ask : (PoolAsk (BioBody Pad)))
      (named : object_of (pool_asked ask) ≡ OfPool n) where
    pub bios_seated : AreSeatedAt rows seats.bios.items place
    bios_seated = has_seat rows_are holds.locked.bios holds.seated.bios n place is there

    pub bios_fits : PoolAskFits (stage_at locks) ask → FitsAt pool_mark PoolFits rows place seats.pass ask
    bios_fits fits =
        row_fits rows_are holds.locked.bios holds.seated.bios n place is there PoolFits seats.pass ask holds.passed (λ pass clock. (clock, named, fits))

    module _ (said : (PoolSaid (BioBody Pad))) (new : Vec (SetId × SeatState (PoolThing (BioBody Pad)) Request Told)) (after : Option PassState)
        (made : HasAskedAt (λ (asking : Asking (PoolAsk (BioBody Pad))). pool_asked asking.ask) pool_told (λ (thing : (PoolThing (BioBody Pad))). PoolOwes IsClearBody (pool_mark thing)) place
        rows seats.bios.items seats.pass ask said new.items after) where
      abbrev with_bios : TaskSeats
      with_bios = record seats { pass = after; bios = new }

      pub bios_called : HasCalled (desk_of seats) (pool_asked ask) (pool_replied said) (desk_of with_bios)
      bios_called =
          row_called rows_are holds.locked.bios holds.seated.bios n place is there pool_asked pool_replied (PoolOwes {P = (BioBody Pad)} IsClearBody) made (λ m asking replied owed. owed.pass)
          (calls_of seats) (λ f. record (calls_of seats) { pool = by_kind (own seats.vecs.known) f (calls_in slip_key seats.records.items) }) named
          (λ call. ap (λ (f : ℕ → List Call). record (calls_of seats) { pool = f })
          (bios_change (own seats.vecs.known) (calls_in set_key seats.bios.items) (calls_in slip_key seats.records.items) n _ (bios_not_64 locks.common.value.opened n holds.locked.opened is) (bios_of_set locks.common.value.opened n is)
          ∙ ap (λ xs. upd (calls_of seats).pool n (xs ++ call ∷ [])) (sym (stands_for_bios (own seats.vecs.known) (calls_in set_key seats.bios.items) (calls_in slip_key seats.records.items) n (bios_not_64 locks.common.value.opened n holds.locked.opened is) (bios_of_set locks.common.value.opened n is)))))

      pub bios_holds : DeskHolds locks with_bios
      bios_holds = record {
        locked = holds.locked;
        seated = record {
          bios = row_seats rows_are holds.locked.bios holds.seated.bios n place is there pool_asked pool_replied (PoolOwes {P = (BioBody Pad)} IsClearBody) made;
          vecs = holds.seated.vecs;
          records = holds.seated.records;
          lists = holds.seated.lists;
          disks = holds.seated.disks;
          books = holds.seated.books;
          tally = holds.seated.tally;
        };
        passed = row_home rows_are holds.locked.bios holds.seated.bios n place is there pool_asked pool_replied (PoolOwes {P = (BioBody Pad)} IsClearBody) made (λ m asking replied owed. owed.pass) holds.passed;
      }

      pub bios_says : PoolSays IsClearBody ((stage_at locks).ledger n) ask said
      bios_says =
          row_owed rows_are holds.locked.bios holds.seated.bios n place is there pool_asked pool_replied (PoolOwes {P = (BioBody Pad)} IsClearBody) made
          (λ m s. PoolSays IsClearBody ((stage_in m.common).ledger (object_pool_number m.name)) ask s) (λ m pass replied owed. owed.says)

  -- pools of records
  module _ (rows : List (DevId × LockId (PoolThing Slip))) (rows_are : rows ≡ locks.records.items) (n place : ℕ) (is : IsTrue (is_slips (stage_at locks) n)) (there : place ≡ slice_index_or locks.index.records n 0) (ask : (PoolAsk Slip))
      (named : object_of (pool_asked ask) ≡ OfPool n) where
    pub slips_seated : AreSeatedAt rows seats.records.items place
    slips_seated = has_seat rows_are holds.locked.records holds.seated.records n place is there

    pub slips_fits : PoolAskFits (stage_at locks) ask → FitsAt pool_mark PoolFits rows place seats.pass ask
    slips_fits fits =
        row_fits rows_are holds.locked.records holds.seated.records n place is there PoolFits seats.pass ask holds.passed (λ pass clock. (clock, named, fits))

    module _ (said : (PoolSaid Slip)) (new : Vec (DevId × SeatState (PoolThing Slip) Request Told)) (after : Option PassState)
        (made : HasAskedAt (λ (asking : Asking (PoolAsk Slip)). pool_asked asking.ask) pool_told (λ (thing : (PoolThing Slip)). PoolOwes IsClearSlip (pool_mark thing)) place
        rows seats.records.items seats.pass ask said new.items after) where
      abbrev with_slips : TaskSeats
      with_slips = record seats { pass = after; records = new }

      pub slips_called : HasCalled (desk_of seats) (pool_asked ask) (pool_replied said) (desk_of with_slips)
      slips_called =
          row_called rows_are holds.locked.records holds.seated.records n place is there pool_asked pool_replied (PoolOwes {P = Slip} IsClearSlip) made (λ m asking replied owed. owed.pass)
          (calls_of seats) (λ f. record (calls_of seats) { pool = by_kind (own seats.vecs.known) (calls_in set_key seats.bios.items) f }) named
          (λ call. ap (λ (f : ℕ → List Call). record (calls_of seats) { pool = f })
          (records_change (own seats.vecs.known) (calls_in set_key seats.bios.items) (calls_in slip_key seats.records.items) n _ (slips_not_64 locks.common.value.opened n is) (slips_of_set locks.common.value.opened n holds.locked.opened is)
          ∙ ap (λ xs. upd (calls_of seats).pool n (xs ++ call ∷ [])) (sym (stands_for_records (own seats.vecs.known) (calls_in set_key seats.bios.items) (calls_in slip_key seats.records.items) n (slips_not_64 locks.common.value.opened n is) (slips_of_set locks.common.value.opened n holds.locked.opened is)))))

      pub slips_holds : DeskHolds locks with_slips
      slips_holds = record {
        locked = holds.locked;
        seated = record {
          bios = holds.seated.bios;
          vecs = holds.seated.vecs;
          records = row_seats rows_are holds.locked.records holds.seated.records n place is there pool_asked pool_replied (PoolOwes {P = Slip} IsClearSlip) made;
          lists = holds.seated.lists;
          disks = holds.seated.disks;
          books = holds.seated.books;
          tally = holds.seated.tally;
        };
        passed = row_home rows_are holds.locked.records holds.seated.records n place is there pool_asked pool_replied (PoolOwes {P = Slip} IsClearSlip) made (λ m asking replied owed. owed.pass) holds.passed;
      }

      pub slips_says : PoolSays IsClearSlip ((stage_at locks).ledger n) ask said
      slips_says =
          row_owed rows_are holds.locked.records holds.seated.records n place is there pool_asked pool_replied (PoolOwes {P = Slip} IsClearSlip) made
          (λ m s. PoolSays IsClearSlip ((stage_in m.common).ledger (object_pool_number m.name)) ask s) (λ m pass replied owed. owed.says)

  -- the pool of vectors
  module _ (ask : (PoolAsk Vector)) (named : object_of (pool_asked ask) ≡ OfPool 64) where
    pub vecs_fits : PoolAskFits (stage_at locks) ask → FitsWith (PoolFits (pool_mark locks.vecs.key.value)) seats.pass ask
    vecs_fits fits =
        subst (λ (m : MarkState). FitsWith (PoolFits m) seats.pass ask) (sym holds.locked.vecs)
        (fits_with (PoolFits (mark_as locks.common.value (OfPool 64))) locks.common.value.clock seats.pass ask holds.passed (λ pass clock. (clock, named, fits)))

    module _ (said : (PoolSaid Vector)) (new : SeatState (PoolThing Vector) Request Told) (after : Option PassState) (of : IsOfLock locks.vecs new)
        (made : HasAsked (λ (asking : Asking (PoolAsk Vector)). pool_asked asking.ask) pool_told (PoolOwes IsClearVector (pool_mark locks.vecs.key.value)) seats.vecs.known seats.pass ask said new.known after) where
      abbrev with_vecs : TaskSeats
      with_vecs = record seats { pass = after; vecs = new }

      abbrev vecs_call : SeatCalls seats.number seats.vecs.known new.known seats.pass (pool_asked ask) (pool_replied said) after
      vecs_call = seat_calls pool_asked pool_replied made seats.number holds.seated.vecs.numbered (λ owed. owed.pass)

      pub vecs_called : HasCalled (desk_of seats) (pool_asked ask) (pool_replied said) (desk_of with_vecs)
      vecs_called = has_called (OfPool 64) (calls_of seats) (calls_of with_vecs) named vecs_call
          (ap (λ (f : ℕ → List Call). record (calls_of seats) { pool = f })
          (vecs_change (own seats.vecs.known) (calls_in set_key seats.bios.items) (calls_in slip_key seats.records.items) (own new.known)
          ∙ ap (upd (calls_of seats).pool 64) vecs_call.calls))

      pub vecs_holds : DeskHolds locks with_vecs
      vecs_holds = record {
        locked = holds.locked;
        seated = record {
          bios = holds.seated.bios;
          vecs = record { of = of; numbered = numbered_stays seats.number seats.vecs.known new.known made.same holds.seated.vecs.numbered };
          records = holds.seated.records;
          lists = holds.seated.lists;
          disks = holds.seated.disks;
          books = holds.seated.books;
          tally = holds.seated.tally;
        };
        passed = home_again locks.common.value.clock vecs_call holds.passed;
      }

      pub vecs_says : PoolSays IsClearVector ((stage_at locks).ledger 64) ask said
      vecs_says =
          subst (λ (m : MarkState). PoolSays IsClearVector ((stage_in m.common).ledger (object_pool_number m.name)) ask said) holds.locked.vecs
          (owed_of pool_asked pool_replied made (λ s. PoolSays IsClearVector ((stage_in (pool_mark locks.vecs.key.value).common).ledger (object_pool_number (pool_mark locks.vecs.key.value).name)) ask s) (λ owed. owed.says))
