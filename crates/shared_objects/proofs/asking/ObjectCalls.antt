-- What one call makes of what holds of a desk, and of the calls that its task has made: for books, disks, lists of rescuers and the tally.
use Rattle.std.proofs.Common.{◌≡◌, ℕ, List, Option, refl, sym, ap, subst}
use Rattle.std.specs.Prelude.{IsTrue, slice_index_or}
use Rattle.std.specs.Global.{Vec}
use Rattle.tick_clock.specs.Tickets.{PassState}
use Rattle.seat_lock.specs.Seats.{LockId, SeatState, IsOfLock}
use Rattle.stack_base.specs.declared.ids.DevId.{DevId}
use Rattle.run_machine.specs.Laws.{OfRescuer, OfDisk, OfBook, OfTally, object_of}
use Rattle.run_machine.specs.Opened.{device_at}
use Rattle.run_machine.specs.Requests.{Request}
use Rattle.task_steps.specs.Stage.{RequestFits, Owes, has_book, has_disk, has_rescuer}
use Rattle.object_things.specs.declared.book.BookThing.{BookThing}
use Rattle.object_things.specs.declared.book.BookAsk.{BookAsk}
use Rattle.object_things.specs.declared.book.BookSaid.{BookSaid}
use Rattle.object_things.specs.declared.disk.DiskThing.{DiskThing}
use Rattle.object_things.specs.declared.disk.DiskAsk.{DiskAsk}
use Rattle.object_things.specs.declared.disk.DiskSaid.{DiskSaid}
use Rattle.object_things.specs.declared.list.ListThing.{ListThing}
use Rattle.object_things.specs.declared.list.ListAsk.{ListAsk}
use Rattle.object_things.specs.declared.list.ListSaid.{ListSaid}
use Rattle.object_things.specs.declared.stamp.Asking.{Asking}
use Rattle.object_things.specs.declared.tally.TallyThing.{TallyThing}
use Rattle.object_things.specs.declared.tally.TallyAsk.{TallyAsk}
use Rattle.object_things.specs.declared.tally.TallySaid.{TallySaid}
use Rattle.object_things.specs.Histories.{Call}
use Rattle.object_things.specs.Stamps.{MarkState, Told, stage_in}
use Rattle.object_things.specs.Books.{BookAskAlone, BookFits, BookOwes, BookSays, book_asked, book_mark, book_replied, book_told}
use Rattle.object_things.specs.Disks.{DiskAskAlone, DiskFits, DiskOwes, DiskSays, KeepsChoice, disk_asked, disk_mark, disk_replied, disk_told}
use Rattle.object_things.specs.Lists.{ListFits, ListOwes, ListSays, list_asked, list_mark, list_replied, list_told}
use Rattle.object_things.specs.Tallies.{TallyFits, TallyOwes, TallySays, tally_asked, tally_mark, tally_replied, tally_told}
use Rattle.shared_objects.specs.declared.locks.Locks.{Locks}
use Rattle.shared_objects.specs.declared.seats.TaskSeats.{TaskSeats}
use Rattle.shared_objects.specs.Calling.{AreSeatedAt, FitsAt, FitsWith, HasAsked, HasAskedAt}
use Rattle.shared_objects.specs.Desks.{HasCalled}
use Rattle.shared_objects.specs.Holding.{DeskHolds, calls_of, desk_of, stage_at}
use Rattle.shared_objects.proofs.asking.PassAndCalls.{SeatCalls, fits_with, has_called, home_again, numbered_stays, owed_of, seat_calls}
use Rattle.shared_objects.proofs.asking.RowCalls.{has_seat, mark_as, row_called, row_fits, row_home, row_owed, row_seats}

module _ (locks : Locks) (seats : TaskSeats) (holds : DeskHolds locks seats) where
  -- books of writers
  module _ (rows : List (ℕ × LockId BookThing)) (rows_are : rows ≡ locks.books.items) (n place : ℕ) (is : IsTrue (has_book (stage_at locks) n)) (there : place ≡ slice_index_or locks.index.books n 0) (ask : BookAsk)
      (named : object_of (book_asked ask) ≡ OfBook n) where
    pub book_seated : AreSeatedAt rows seats.books.items place
    book_seated = has_seat rows_are holds.locked.books holds.seated.books n place is there

    pub book_fits : RequestFits (stage_at locks) (book_asked ask) → BookAskAlone ask → FitsAt book_mark BookFits rows place seats.pass ask
    book_fits fits alone =
        row_fits rows_are holds.locked.books holds.seated.books n place is there BookFits seats.pass ask holds.passed (λ pass clock. (clock, named, (fits, alone)))

    module _ (said : BookSaid) (new : Vec (ℕ × SeatState BookThing Request Told)) (after : Option PassState)
        (made : HasAskedAt (λ (asking : Asking BookAsk). book_asked asking.ask) book_told (λ (thing : BookThing). BookOwes (book_mark thing)) place
        rows seats.books.items seats.pass ask said new.items after) where
      abbrev with_book : TaskSeats
      with_book = record seats { pass = after; books = new }

      pub book_called : HasCalled (desk_of seats) (book_asked ask) (book_replied said) (desk_of with_book)
      book_called =
          row_called rows_are holds.locked.books holds.seated.books n place is there book_asked book_replied BookOwes made (λ m asking replied owed. owed.pass)
          (calls_of seats) (λ f. record (calls_of seats) { book = f }) named (λ call. refl)

      pub book_holds : DeskHolds locks with_book
      book_holds = record {
        locked = holds.locked;
        seated = record {
          bios = holds.seated.bios;
          vecs = holds.seated.vecs;
          records = holds.seated.records;
          lists = holds.seated.lists;
          disks = holds.seated.disks;
          books = row_seats rows_are holds.locked.books holds.seated.books n place is there book_asked book_replied BookOwes made;
          tally = holds.seated.tally;
        };
        passed = row_home rows_are holds.locked.books holds.seated.books n place is there book_asked book_replied BookOwes made (λ m asking replied owed. owed.pass) holds.passed;
      }

      pub book_owed : Owes (stage_at locks) (book_asked ask) (book_replied said)
      book_owed =
          row_owed rows_are holds.locked.books holds.seated.books n place is there book_asked book_replied BookOwes made
          (λ m s. Owes (stage_in m.common) (book_asked ask) (book_replied s)) (λ m pass replied owed. owed.owed)

      pub book_says : BookSays ask said
      book_says =
          row_owed rows_are holds.locked.books holds.seated.books n place is there book_asked book_replied BookOwes made
          (λ m s. BookSays ask s) (λ m pass replied owed. owed.says)

  -- disks
  module _ (rows : List (DevId × LockId DiskThing)) (rows_are : rows ≡ locks.disks.items) (n place : ℕ) (is : IsTrue (has_disk (stage_at locks) (device_at n))) (there : place ≡ slice_index_or locks.index.disks n 0) (ask : DiskAsk)
      (named : object_of (disk_asked ask) ≡ OfDisk n) where
    pub disk_seated : AreSeatedAt rows seats.disks.items place
    disk_seated = has_seat rows_are holds.locked.disks holds.seated.disks n place is there

    pub disk_fits : RequestFits (stage_at locks) (disk_asked ask) → DiskAskAlone ask → FitsAt disk_mark DiskFits rows place seats.pass ask
    disk_fits fits alone =
        row_fits rows_are holds.locked.disks holds.seated.disks n place is there DiskFits seats.pass ask holds.passed (λ pass clock. (clock, named, (fits, alone)))

    module _ (said : DiskSaid) (new : Vec (DevId × SeatState DiskThing Request Told)) (after : Option PassState)
        (made : HasAskedAt (λ (asking : Asking DiskAsk). disk_asked asking.ask) disk_told (λ (thing : DiskThing). DiskOwes (disk_mark thing)) place
        rows seats.disks.items seats.pass ask said new.items after) where
      abbrev with_disk : TaskSeats
      with_disk = record seats { pass = after; disks = new }

      abbrev pub disk_called : HasCalled (desk_of seats) (disk_asked ask) (disk_replied said) (desk_of with_disk)
      disk_called =
          row_called rows_are holds.locked.disks holds.seated.disks n place is there disk_asked disk_replied DiskOwes made (λ m asking replied owed. owed.pass)
          (calls_of seats) (λ f. record (calls_of seats) { disk = f }) named (λ call. refl)

      -- and the entry keeps the index that was chosen
      pub disk_choice : KeepsChoice ask (disk_replied said) disk_called.told.chosen
      disk_choice = subst (λ s. KeepsChoice ask (disk_replied s) made.made.replied.chosen.value) made.made.says made.made.owed.choice

      pub disk_holds : DeskHolds locks with_disk
      disk_holds = record {
        locked = holds.locked;
        seated = record {
          bios = holds.seated.bios;
          vecs = holds.seated.vecs;
          records = holds.seated.records;
          lists = holds.seated.lists;
          disks = row_seats rows_are holds.locked.disks holds.seated.disks n place is there disk_asked disk_replied DiskOwes made;
          books = holds.seated.books;
          tally = holds.seated.tally;
        };
        passed = row_home rows_are holds.locked.disks holds.seated.disks n place is there disk_asked disk_replied DiskOwes made (λ m asking replied owed. owed.pass) holds.passed;
      }

      pub disk_says : DiskSays (stage_at locks) ask said
      disk_says =
          row_owed rows_are holds.locked.disks holds.seated.disks n place is there disk_asked disk_replied DiskOwes made
          (λ m s. DiskSays (stage_in m.common) ask s) (λ m pass replied owed. owed.says)

  -- lists of rescuers
  module _ (rows : List (DevId × LockId ListThing)) (rows_are : rows ≡ locks.lists.items) (n place : ℕ) (is : IsTrue (has_rescuer (stage_at locks) (device_at n))) (there : place ≡ slice_index_or locks.index.lists n 0) (ask : ListAsk)
      (named : object_of (list_asked ask) ≡ OfRescuer n) where
    pub list_seated : AreSeatedAt rows seats.lists.items place
    list_seated = has_seat rows_are holds.locked.lists holds.seated.lists n place is there

    pub list_fits : RequestFits (stage_at locks) (list_asked ask) → FitsAt list_mark ListFits rows place seats.pass ask
    list_fits fits =
        row_fits rows_are holds.locked.lists holds.seated.lists n place is there ListFits seats.pass ask holds.passed (λ pass clock. (clock, named, fits))

    module _ (said : ListSaid) (new : Vec (DevId × SeatState ListThing Request Told)) (after : Option PassState)
        (made : HasAskedAt (λ (asking : Asking ListAsk). list_asked asking.ask) list_told (λ (thing : ListThing). ListOwes (list_mark thing)) place
        rows seats.lists.items seats.pass ask said new.items after) where
      abbrev with_list : TaskSeats
      with_list = record seats { pass = after; lists = new }

      pub list_called : HasCalled (desk_of seats) (list_asked ask) (list_replied said) (desk_of with_list)
      list_called =
          row_called rows_are holds.locked.lists holds.seated.lists n place is there list_asked list_replied ListOwes made (λ m asking replied owed. owed.pass)
          (calls_of seats) (λ f. record (calls_of seats) { rescue = f }) named (λ call. refl)

      pub list_holds : DeskHolds locks with_list
      list_holds = record {
        locked = holds.locked;
        seated = record {
          bios = holds.seated.bios;
          vecs = holds.seated.vecs;
          records = holds.seated.records;
          lists = row_seats rows_are holds.locked.lists holds.seated.lists n place is there list_asked list_replied ListOwes made;
          disks = holds.seated.disks;
          books = holds.seated.books;
          tally = holds.seated.tally;
        };
        passed = row_home rows_are holds.locked.lists holds.seated.lists n place is there list_asked list_replied ListOwes made (λ m asking replied owed. owed.pass) holds.passed;
      }

      pub list_owed : Owes (stage_at locks) (list_asked ask) (list_replied said)
      list_owed =
          row_owed rows_are holds.locked.lists holds.seated.lists n place is there list_asked list_replied ListOwes made
          (λ m s. Owes (stage_in m.common) (list_asked ask) (list_replied s)) (λ m pass replied owed. owed.owed)

      pub list_says : ListSays ask said
      list_says =
          row_owed rows_are holds.locked.lists holds.seated.lists n place is there list_asked list_replied ListOwes made
          (λ m s. ListSays ask s) (λ m pass replied owed. owed.says)

  -- the tally
  module _ (ask : TallyAsk) (named : object_of (tally_asked ask) ≡ OfTally) where
    pub tally_fits : RequestFits (stage_at locks) (tally_asked ask) → FitsWith (TallyFits (tally_mark locks.tally.key.value)) seats.pass ask
    tally_fits fits =
        subst (λ (m : MarkState). FitsWith (TallyFits m) seats.pass ask) (sym holds.locked.tally)
        (fits_with (TallyFits (mark_as locks.common.value OfTally)) locks.common.value.clock seats.pass ask holds.passed (λ pass clock. (clock, named, fits)))

    module _ (said : TallySaid) (new : SeatState TallyThing Request Told) (after : Option PassState) (of : IsOfLock locks.tally new)
        (made : HasAsked (λ (asking : Asking TallyAsk). tally_asked asking.ask) tally_told (TallyOwes (tally_mark locks.tally.key.value)) seats.tally.known seats.pass ask said new.known after) where
      abbrev with_tally : TaskSeats
      with_tally = record seats { pass = after; tally = new }

      abbrev tally_call : SeatCalls seats.number seats.tally.known new.known seats.pass (tally_asked ask) (tally_replied said) after
      tally_call = seat_calls tally_asked tally_replied made seats.number holds.seated.tally.numbered (λ owed. owed.pass)

      pub tally_called : HasCalled (desk_of seats) (tally_asked ask) (tally_replied said) (desk_of with_tally)
      tally_called = has_called (OfTally) (calls_of seats) (calls_of with_tally) named tally_call (ap (λ (xs : List Call). record (calls_of seats) { tally = xs }) tally_call.calls)

      pub tally_holds : DeskHolds locks with_tally
      tally_holds = record {
        locked = holds.locked;
        seated = record {
          bios = holds.seated.bios;
          vecs = holds.seated.vecs;
          records = holds.seated.records;
          lists = holds.seated.lists;
          disks = holds.seated.disks;
          books = holds.seated.books;
          tally = record { of = of; numbered = numbered_stays seats.number seats.tally.known new.known made.same holds.seated.tally.numbered };
        };
        passed = home_again locks.common.value.clock tally_call holds.passed;
      }

      pub tally_owed : Owes (stage_at locks) (tally_asked ask) (tally_replied said)
      tally_owed =
          subst (λ (m : MarkState). Owes (stage_in m.common) (tally_asked ask) (tally_replied said)) holds.locked.tally
          (owed_of tally_asked tally_replied made (λ s. Owes (stage_in (tally_mark locks.tally.key.value).common) (tally_asked ask) (tally_replied s)) (λ owed. owed.owed))

      pub tally_says : TallySays ask said
      tally_says =
          subst (λ (m : MarkState). TallySays ask said) holds.locked.tally
          (owed_of tally_asked tally_replied made (λ s. TallySays ask s) (λ owed. owed.says))
