-- The entries of rows as they were opened: each is the first of its number, and made as it should be.
use Rattle.std.proofs.Common.{◌≡◌, ◌≢◌, ◌+◌, ◌*◌, ◌%◌, ◌<◌, ◌≤◌, ◌==◌, ◌||◌, cond, ℕ, zero, suc, Bool, true, false, List, [], ◌∷◌, All, length, map, filter, find, get_or, Some, arith, refl, sym, ap, subst, ◌∙◌}
use Rattle.std.specs.List.{range_with_len}
use Rattle.std.specs.Option.{option_map_or}
use Rattle.std.proofs.lemmas.Bool.Decides.{nat_tests}
use Rattle.std.proofs.lemmas.Bool.{ne_eqb, eq-eqb}
use Rattle.stack_base.specs.PoolId.{pool_number}
use Rattle.stack_base.specs.declared.ids.DevId.{DevId}
use Rattle.stack_base.specs.declared.ids.SetId.{SetId}
use Rattle.stack_base.proofs.ListLemmas.{first_or, behind_first}
use Rattle.bio_books.specs.Books.{BookState}
use Rattle.bio_records.specs.Rescue.{Rescue}
use Rattle.mempool_core.specs.Pool.{LedgerPool}
use Rattle.model_disks.specs.Disks.{DiskState}
use Rattle.task_core.specs.declared.opening.Opened.{Opened}
use Rattle.task_core.specs.declared.plain.Plain.{Plain}
use Rattle.task_core.specs.opened.Filled.{AreMade}
use Rattle.task_core.specs.opened.NewTasks.{reserves_in}
use Rattle.task_core.specs.opened.OfOne.{IsOpened}
use Rattle.task_core.specs.opened.Openings.{itself, set_index, slip_index, has_set_at, IsNewBook, IsNewDisk, IsNewList, IsNewRecords, IsNewSet}
use Rattle.task_core.specs.ObjectsOf.{IsBookOf, IsDiskOf}
use Rattle.task_core.specs.Plains.{bios_at, book_number, disk_number, is_bios_number, list_number, no_book, no_pool, objects_of, pool_at, records_at, records_number, set_number, stage_of}
use Rattle.run_machine.specs.Opened.{opened_disk}
use Rattle.task_core.specs.Tables.{is_entry_of, look_up}
use Rattle.task_core.proofs.PoolLemmas.{stands_for_bios, stands_for_records, neither}
use Rattle.task_core.proofs.opened.NewPools.{sets_apart, slips_apart}
use Rattle.task_steps.specs.Stage.{AreServed, has_disk_in, has_rescuer_in, has_book_in, has_mirror_in}
use Rattle.object_things.specs.Pools.{IsPoolOf}
use Rattle.shared_objects.specs.Opening.{CanShare, IsPoolAt}
use Rattle.shared_objects.proofs.row_lemmas.CallsApart.{all_more}

module _ {E : Type 0} (key : E → ℕ) (number : ℕ → ℕ) (is_used : ℕ → Bool) (apart : (i n : ℕ) → i < n → number i ≢ number n) where
  -- an entry is that of an index among so many from one on, and the first of its number
  record IsIndexed (first count : ℕ) (entries : List E) (entry : E) : Type 0 where
    pub index : ℕ
    pub least : first ≤ index
    pub below : index < first + count
    pub used : is_used index ≡ true
    pub keyed : key entry ≡ number index
    pub found : find (is_entry_of key (number index)) entries ≡ Some entry

  stands : (count first : ℕ) (entries : List E) → map key entries ≡ map number (filter is_used (range_with_len first count)) → All (IsIndexed first count entries) entries
  stands zero first [] e = λ k d lt. absurd (omega (arith, lt))
  stands zero first (x ∷ xs) e = let l = ap length e in absurd (omega (arith, l))
  stands (suc count) first entries e = by_case (is_used first) refl entries e (λ xs f. stands count (first + 1) xs f)
    where
      by_entry : (x : E) (xs : List E) (is : is_used first ≡ true) → key x ≡ number first → (y : E) → IsIndexed (first + 1) count xs y → IsIndexed first (suc count) (x ∷ xs) y
      by_entry x xs is here y s =
          let lo = s.least in let hi = s.below in
          let other : (key x == number s.index) ≡ false = ne_eqb (key x) (number s.index) (λ same. apart first s.index (omega (arith, lo)) (sym here ∙ same)) in
          record { index = s.index; least = omega (arith, lo); below = omega (arith, hi); used = s.used; keyed = s.keyed; found = rw (other) s.found }

      by_case : (b : Bool) → is_used first ≡ b → (es : List E) → map key es ≡ map number (cond b (first ∷ filter is_used (range_with_len (first + 1) count)) (filter is_used (range_with_len (first + 1) count)))
          → ((xs : List E) → map key xs ≡ map number (filter is_used (range_with_len (first + 1) count)) → All (IsIndexed (first + 1) count xs) xs) → All (IsIndexed first (suc count) es) es
      by_case false is es f later = λ k d lt. let s = later es f k d lt in let lo = s.least in let hi = s.below in
          record { index = s.index; least = omega (arith, lo); below = omega (arith, hi); used = s.used; keyed = s.keyed; found = s.found }
      by_case true is [] f later = λ k d lt. absurd (omega (arith, lt))
      by_case true is (x ∷ xs) f later =
          let here : key x ≡ number first = ap (first_or 0) f in
          let same : (key x == number first) ≡ true = eq-eqb (key x) (number first) here in
          all_more (IsIndexed first (suc count) (x ∷ xs)) x xs
          (record { index = first; least = omega arith; below = omega arith; used = is; keyed = here; found = rw (same) refl })
          (λ k d lt. by_entry x xs is here (get_or xs k d) (later xs (ap behind_first f) k d lt))

  module _ (IsMade : ℕ → E → Type 0) (bound : ℕ) (entries : List E) (table : List ℕ) where
    -- and it is as its index wants it
    pub record IsEntry (entry : E) : Type 0 where
      pub index : ℕ
      pub below : index < bound
      pub keyed : key entry ≡ number index
      pub made : IsMade index entry
      pub found : find (is_entry_of key (number index)) entries ≡ Some entry

    pub each_entry : AreMade key number is_used IsMade bound entries table → All IsEntry entries
    each_entry all = λ k d lt.
        let s = stands bound 0 entries all.order k d lt in
        let hi = s.below in
        let m = all.made s.index (omega (arith, hi)) s.used in
        record {
          index = s.index;
          below = omega (arith, hi);
          keyed = s.keyed;
          made = subst (IsMade s.index) (same m.0 (get_or entries k d) (sym m.1 ∙ s.found)) m.2;
          found = s.found;
        }
      where
        same : (a b : E) → Some a ≡ Some b → a ≡ b
        same a b e = cc

-- what is found is what is looked up
looked_up : {E X : Type 0} (key : E → ℕ) (value : E → X) (none : ℕ → X) (entries : List E) (n : ℕ) (entry : E) → find (is_entry_of key n) entries ≡ Some entry
    → look_up key value none entries n ≡ value entry
looked_up key value none entries n entry found = ap (λ o. option_map_or value o (none n)) found

-- numbers are apart
pub by_itself : (i n : ℕ) → i < n → itself i ≢ itself n
by_itself i n lt e = absurd (omega (arith, lt, e))

-- a number of a set is not that of the vectors, nor that of records
set_kind : (count index : ℕ) → count ≤ 32 → index < suc count → (set_index index ≢ 64) × (is_bios_number (set_index index) ≡ true)
set_kind count zero few lt = (λ e. absurd (omega (arith, e)), refl)
set_kind count (suc dev) few lt = (λ e. absurd (omega (arith, e, few, lt)), even dev)
  where
    even : (dev : ℕ) → (2 * dev == 65 || 2 * dev % 2 == 0) ≡ true
    even dev = let none : 2 * dev % 2 ≡ 0 = omega arith in grind (none, arith, nat_tests)

slip_kind : (count dev : ℕ) → count ≤ 32 → dev < count → (slip_index dev ≢ 64) × (is_bios_number (slip_index dev) ≡ false)
slip_kind count dev few lt = (λ e. absurd (omega (arith, e)), neither (2 * dev + 1) (omega arith) (λ e. absurd (omega (arith, e, few, lt))))

-- a pool that is at its number is one of the stage
pool_is : (plain : Plain) (number : ℕ) (pool : LedgerPool) → pool.ledger.no ≡ number → pool_at plain number ≡ pool → IsPoolOf (stage_of plain) pool
pool_is plain number pool numbered there =
    let here : pool ≡ pool_at plain pool.ledger.no = sym (ap (pool_at plain) numbered ∙ there) in
    record { ledger = ap (λ (p : LedgerPool). p.ledger) here; most = ap (λ (p : LedgerPool). p.most) here }

module _ (o : Opened) (opened : IsOpened o) where
  abbrev plain : Plain
  plain = o.objects

  abbrev count : ℕ
  count = length plain.stage.value.stack.devices.items

  few : count ≤ 32
  few = opened.one.holds.stack_is.few

  bios : All (λ (entry : SetId × LedgerPool). IsPoolAt (stage_of plain) (set_number entry) entry.1) plain.bios.items
  bios = λ k d lt.
      let is = each_entry set_number set_index (has_set_at plain.stage.value) sets_apart
      (IsNewSet plain.stage.value o.accepted.value.scripts.items (reserves_in o.work.value.resizes.items)) (suc count) plain.bios.items plain.index.bios opened.rows.bios k d lt in
      let entry : SetId × LedgerPool = get_or plain.bios.items k d in
      let kind = set_kind count is.index few is.below in
      let there : pool_at plain (set_index is.index) ≡ entry.1 =
      stands_for_bios plain.vecs (bios_at plain) (records_at plain) (set_index is.index) kind.0 kind.1
      ∙ looked_up set_number (λ (e : SetId × LedgerPool). e.1) (no_pool plain.stage.value.stack plain.vecs.ledger) plain.bios.items (set_index is.index) entry is.found in
      (pool_is plain (set_index is.index) entry.1 is.made.numbered there, is.made.numbered ∙ sym is.keyed)

  records : All (λ (entry : DevId × LedgerPool). IsPoolAt (stage_of plain) (records_number entry) entry.1) plain.records.items
  records = λ k d lt.
      let is = each_entry records_number slip_index (has_mirror_in plain.stage.value) slips_apart
      (IsNewRecords plain.stage.value o.accepted.value.scripts.items (reserves_in o.work.value.resizes.items)) count plain.records.items plain.index.records opened.rows.records k d lt in
      let entry : DevId × LedgerPool = get_or plain.records.items k d in
      let kind = slip_kind count is.index few is.below in
      let there : pool_at plain (slip_index is.index) ≡ entry.1 =
      stands_for_records plain.vecs (bios_at plain) (records_at plain) (slip_index is.index) kind.0 kind.1
      ∙ looked_up records_number (λ (e : DevId × LedgerPool). e.1) (no_pool plain.stage.value.stack plain.vecs.ledger) plain.records.items (slip_index is.index) entry is.found in
      (pool_is plain (slip_index is.index) entry.1 is.made.numbered there, is.made.numbered ∙ sym is.keyed)

  lists : All (λ (entry : DevId × Rescue). AreServed (stage_of plain) entry.1.bios × (entry.1.dev.0 ≡ entry.0.0)) plain.lists.items
  lists = λ k d lt.
      let is = each_entry list_number itself (has_rescuer_in plain.stage.value) by_itself IsNewList count plain.lists.items plain.index.lists opened.rows.lists k d lt in
      let entry : DevId × Rescue = get_or plain.lists.items k d in (
        subst (AreServed (stage_of plain)) (looked_up list_number (λ (e : DevId × Rescue). e.1.bios) (λ dev. []) plain.lists.items is.index entry is.found) (opened.one.holds.objects.rescue is.index),
        ap (λ (e : DevId × Rescue). e.1.dev.0) is.made ∙ sym (ap (λ (e : DevId × Rescue). e.0.0) is.made),
      )

  disks : All (λ (disk : DiskState). IsDiskOf (stage_of plain) disk.dev.0 disk) plain.disks.items
  disks = λ k d lt.
      let is = each_entry disk_number itself (has_disk_in plain.stage.value) by_itself (IsNewDisk plain.stage.value) count plain.disks.items plain.index.disks opened.rows.disks k d lt in
      let disk : DiskState = get_or plain.disks.items k d in
      subst (λ n. IsDiskOf (stage_of plain) n disk) (sym is.keyed)
      (subst (IsDiskOf (stage_of plain) is.index) (looked_up disk_number (λ (e : DiskState). e) (opened_disk plain.stage.value.stack) plain.disks.items is.index disk is.found) (opened.one.holds.objects.disk is.index))

  books : All (λ (entry : ℕ × BookState). IsBookOf (stage_of plain) entry.1.writer entry.1 × (entry.1.writer ≡ entry.0)) plain.books.items
  books = λ k d lt.
      let is = each_entry book_number itself (has_book_in plain.stage.value) by_itself (IsNewBook plain.stage.value) 8 plain.books.items plain.index.books opened.rows.books k d lt in
      let entry : ℕ × BookState = get_or plain.books.items k d in
      let here : IsBookOf (stage_of plain) is.index entry.1 =
      subst (IsBookOf (stage_of plain) is.index) (looked_up book_number (λ (e : ℕ × BookState). e.1) no_book plain.books.items is.index entry is.found) (opened.one.holds.objects.book is.index) in
      (subst (λ n. IsBookOf (stage_of plain) n entry.1) (sym here.writer_is) here, here.writer_is ∙ sym is.keyed)

  pub can_share : CanShare plain
  can_share =
      let number : plain.vecs.ledger.no ≡ 64 = opened.one.holds.numbered 64 in record {
        holds = opened.one.holds;
        bios = bios;
        vecs = (pool_is plain 64 plain.vecs number refl, number);
        records = records;
        lists = lists;
        disks = disks;
        books = books;
      }
