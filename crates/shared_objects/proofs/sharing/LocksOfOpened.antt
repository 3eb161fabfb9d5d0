-- Locks round objects that can be shared.
use Rattle.std.proofs.Common.{◌≡◌, ◌==◌, ◌<◌, ℕ, Bool, List, All, map, length, get_or, arith, refl, sym, ap, subst, ◌∙◌}
use Rattle.std.specs.Prelude.{slice_index_or}
use Rattle.std.proofs.lemmas.List.Elements.{All-map}
use Rattle.seat_lock.specs.Seats.{LockId}
use Rattle.bio_books.specs.Books.{BookState}
use Rattle.bio_records.specs.Rescue.{Rescue}
use Rattle.mempool_core.specs.Pool.{LedgerPool}
use Rattle.model_disks.specs.Disks.{DiskState}
use Rattle.stack_base.specs.declared.ids.DevId.{DevId}
use Rattle.stack_base.specs.declared.ids.SetId.{SetId}
use Rattle.run_machine.specs.Laws.{Object, OfPool, OfRescuer, OfDisk, OfBook, OfTally}
use Rattle.run_machine.specs.Opened.{device_at}
use Rattle.task_core.specs.declared.plain.index.ObjectIndex.{ObjectIndex}
use Rattle.task_core.specs.declared.plain.Plain.{Plain}
use Rattle.task_core.specs.Plains.{book_number, disk_number, list_number, records_number, set_number, stage_of}
use Rattle.task_core.specs.Tables.{is_entry_of, AreAt}
use Rattle.task_steps.specs.Stage.{has_book, has_disk, has_rescuer, is_bios, is_slips}
use Rattle.object_things.specs.Books.{book_mark}
use Rattle.object_things.specs.Disks.{disk_mark}
use Rattle.object_things.specs.Lists.{list_mark}
use Rattle.object_things.specs.Pools.{pool_mark}
use Rattle.object_things.specs.Stamps.{CommonState, Stamped, MarkState}
use Rattle.object_things.specs.Tallies.{tally_mark}
use Rattle.shared_objects.specs.Guards.{guarded}
use Rattle.shared_objects.specs.Holding.{AreLocked, IsNamed, LocksHold, dev_key, set_key, slip_key, writer_key}
use Rattle.shared_objects.specs.Opening.{CanShare}
use Rattle.shared_objects.specs.Rows.{Abreast}
use Rattle.shared_objects.specs.Sharing.{AreOfOpened, AreAround, disks_by_device}
use Rattle.shared_objects.specs.declared.locks.Locks.{Locks}
use Rattle.shared_objects.proofs.asking.RowSeats.{same_position}
use Rattle.shared_objects.proofs.row_lemmas.AbreastRows.{of_made, some_of, weaker_two}

-- rows with the same numbers have their entries at the same places
placed_by : {E L : Type 0} (ekey : E → ℕ) (lkey : L → ℕ) (used : ℕ → Bool) (table : List ℕ) (entries : List E) (locks : List L) → Abreast (λ e l. lkey l ≡ ekey e) entries locks
    → AreAt ekey used table entries → AreAt lkey used table locks
placed_by ekey lkey used table entries locks are there = λ n is. record {
  there = subst (λ k. slice_index_or table n 0 < k) (sym are.lens) (there n is).there;
  first = (there n is).first
      ∙ sym (same_position (is_entry_of ekey n) (is_entry_of lkey n) entries locks are.lens (λ k e l lt. ap (λ x. x == n) (are.each k e l lt)));
}

module _ {K O : Type 0} (key : K → ℕ) (mark : Stamped O → MarkState) (name : ℕ → Object) (number : O → ℕ) (common : CommonState)
    (marks : (o : O) → mark (guarded common o) ≡ record { common = common; name = name (number o) }) (objects : List (K × O)) (locks : List (K × LockId (Stamped O)))
    (round : AreAround (guarded common) objects locks) where
  -- each lock is round the object that its key names
  named_by : All (λ (entry : K × O). number entry.1 ≡ key entry.0) objects → All (λ (e : K × LockId (Stamped O)). IsNamed mark common (name (key e.0)) e.1) locks
  named_by all k lock lt =
      let l = round.lens in
      let o = some_of objects k (omega (arith, lt, l)) in
      let here = round.each k o lock (omega (arith, lt, l)) in
      let entry : K × O = get_or objects k o in
      ap mark here.1 ∙ marks entry.1 ∙ ap (λ n. record { common = common; name = name n }) (all k o (omega (arith, lt, l)) ∙ ap key (sym here.0))

  pub are_locked : {E : Type 0} (ekey : E → ℕ) (used : ℕ → Bool) (table : List ℕ) (entries : List E) → Abreast (λ e (lock : K × LockId (Stamped O)). key lock.0 ≡ ekey e) entries locks
      → AreAt ekey used table entries → All (λ (entry : K × O). number entry.1 ≡ key entry.0) objects → AreLocked key mark name common used table locks
  are_locked ekey used table entries same there all = record {
    placed = placed_by ekey (λ (e : K × LockId (Stamped O)). key e.0) used table entries locks same there;
    named = named_by all;
  }

  -- of rows of entries with their keys
  pub row_locked : (used : ℕ → Bool) (table : List ℕ) → AreAt (λ (entry : K × O). key entry.0) used table objects → All (λ (entry : K × O). number entry.1 ≡ key entry.0) objects
      → AreLocked key mark name common used table locks
  row_locked used table = are_locked (λ (entry : K × O). key entry.0) used table objects
      (weaker_two _ (λ (entry : K × O) (lock : K × LockId (Stamped O)). key lock.0 ≡ key entry.0) (λ entry lock is. ap key is.0) objects locks round)

module _ (locks : Locks) (can : CanShare locks.common.value.opened) (round : AreOfOpened locks.common.value.opened locks) where
  abbrev common : CommonState
  common = locks.common.value

  abbrev plain : Plain
  plain = common.opened

  tables : (P : ObjectIndex → Type 0) → P plain.index → P locks.index
  tables P is = subst P (sym round.index) is

  hold : LocksHold locks
  hold = record {
    opened = can.holds;
    bios = row_locked set_key pool_mark OfPool (λ (p : LedgerPool). p.ledger.no) common (λ o. refl) plain.bios.items locks.bios.items round.bios
        (is_bios (stage_of plain)) locks.index.bios (tables (λ i. AreAt set_number (is_bios (stage_of plain)) i.bios plain.bios.items) can.holds.entered.bios) (λ k d lt. (can.bios k d lt).1);
    vecs = ap pool_mark round.vecs ∙ ap (λ n. record { common = common; name = OfPool n }) can.vecs.1;
    records = row_locked slip_key pool_mark OfPool (λ (p : LedgerPool). p.ledger.no) common (λ o. refl) plain.records.items locks.records.items round.records
        (is_slips (stage_of plain)) locks.index.records (tables (λ i. AreAt records_number (is_slips (stage_of plain)) i.records plain.records.items) can.holds.entered.records) (λ k d lt. (can.records k d lt).1);
    lists = row_locked dev_key list_mark OfRescuer (λ (r : Rescue). r.dev.0) common (λ o. refl) plain.lists.items locks.lists.items round.lists
        (λ dev. has_rescuer (stage_of plain) (device_at dev)) locks.index.lists
        (tables (λ i. AreAt list_number (λ dev. has_rescuer (stage_of plain) (device_at dev)) i.lists plain.lists.items) can.holds.entered.lists) (λ k d lt. (can.lists k d lt).1);
    disks = are_locked dev_key disk_mark OfDisk (λ (disk : DiskState). disk.dev.0) common (λ o. refl) (disks_by_device plain.disks.items) locks.disks.items round.disks
        disk_number (λ dev. has_disk (stage_of plain) (device_at dev)) locks.index.disks plain.disks.items
        (weaker_two _ (λ (disk : DiskState) (lock : DevId × LockId (Stamped DiskState)). dev_key lock.0 ≡ disk_number disk) (λ disk lock is. ap dev_key is.0) plain.disks.items locks.disks.items
        (of_made (λ (disk : DiskState). (disk.dev, disk)) _ plain.disks.items locks.disks.items round.disks))
        (tables (λ i. AreAt disk_number (λ dev. has_disk (stage_of plain) (device_at dev)) i.disks plain.disks.items) can.holds.entered.disks)
        (All-map (λ (entry : DevId × DiskState). entry.1.dev.0 ≡ dev_key entry.0) (λ (disk : DiskState). (disk.dev, disk)) plain.disks.items (λ k d lt. refl));
    books = row_locked writer_key book_mark OfBook (λ (b : BookState). b.writer) common (λ o. refl) plain.books.items locks.books.items round.books
        (has_book (stage_of plain)) locks.index.books (tables (λ i. AreAt book_number (has_book (stage_of plain)) i.books plain.books.items) can.holds.entered.books) (λ k d lt. (can.books k d lt).1);
    tally = ap tally_mark round.tally;
  }

-- locks round objects that can be shared are as a run wants them
pub locks_hold : (locks : Locks) (opened : Plain) → CanShare opened → AreOfOpened opened locks → LocksHold locks
locks_hold locks opened can round = hold locks (subst CanShare (sym round.same) can) (subst (λ p. AreOfOpened p locks) (sym round.same) round)
