-- What was opened, as the objects of a run.
use Rattle.std.proofs.Common.{◌≡◌, ◌≢◌, ◌⊎◌, inl, inr, ◌+◌, ◌*◌, ◌/◌, ◌%◌, ◌^◌, ◌<◌, ◌≤◌, ◌==◌, ◌&&◌, ◌||◌, if◌then◌else◌, ℕ, zero, suc, Bool, true, false, List, [], ◌∷◌, length, map, filter, replicate, get_or, Option, None, refl, sym, ap, subst, ◌∙◌, arith}
use Rattle.std.specs.Prelude.{IfSome, nat_lt, sum}
use Rattle.std.specs.List.{range_with_len}
use Rattle.std.specs.Option.{option_map_or}
use Rattle.std.proofs.lemmas.Bool.{and_parts, cases_lt, ltb-true, eqb-true, eqb-false, both_ways}
use Rattle.std.proofs.lemmas.Bool.Decides.{nat_tests}
use Rattle.std.proofs.lemmas.List.{length-replicate, map-id}
use Rattle.std.proofs.lemmas.List.Elements.{All-nil, All-replicate}
use Rattle.elem_ledger.specs.Ledger.{LedgerId}
use Rattle.fail_script.specs.Script.{Answers, only_tail}
use Rattle.stack_base.specs.declared.ids.DevId.{DevId}
use Rattle.stack_base.specs.declared.ids.PoolId.{PoolId}
use Rattle.stack_base.specs.declared.ids.PoolId.TheVariants.{FsVecs, Records}
use Rattle.stack_base.specs.declared.ids.SetId.{SetId}
use Rattle.stack_base.specs.declared.stack.Stack.{Stack}
use Rattle.stack_base.specs.PoolId.{pool_number, IsOfStack}
use Rattle.stack_base.specs.Stack.{IsStack}
use Rattle.stack_base.specs.Tree.{size, tree}
use Rattle.stack_base.specs.Words.{zero_sector}
use Rattle.mempool_core.specs.Move.{PoolState, opened}
use Rattle.mempool_core.specs.Pool.{LedgerPool}
use Rattle.bioset_pools.specs.Sets.{bios_of}
use Rattle.bio_records.specs.declared.bio.Pad.{Pad}
use Rattle.bio_records.specs.Items.{Item}
use Rattle.bio_records.specs.Rescue.{Rescue}
use Rattle.bio_books.specs.Books.{BookState, Node}
use Rattle.model_disks.specs.Disks.{DiskState}
use Rattle.task_core.specs.declared.plain.Plain.{Plain}
use Rattle.run_machine.specs.Events.{pool_of}
use Rattle.task_core.specs.opened.Filled.{AreMade}
use Rattle.run_machine.specs.Objects.{Objects, TallyState}
use Rattle.task_core.specs.ObjectsOf.{AreObjectsOf, IsNodeOf}
use Rattle.run_machine.specs.Opened.{device_at, reserve_of, script_at, opened_disk, opened_objects}
use Rattle.task_core.specs.opened.Openings.{has_pool, widest, AreOpened, IsNewPool, set_at, set_index, has_set_at, IsNewSet, AreSets, slip_index, IsNewRecords, AreRecords, itself, IsNewDisk, AreDisks, IsNewList, AreLists, IsNewBook, AreBooks}
use Rattle.task_core.specs.Plains.{set_number, records_number, no_pool, list_number, disk_number, book_number, no_book, by_kind, pool_at, tally_of, objects_of, stage_of, AreEntered}
use Rattle.task_steps.specs.Routed.{Routing, places_at, routing_setup}
use Rattle.run_machine.specs.Scene.{has_set}
use Rattle.task_steps.specs.Stage.{Stage, IsServed, has_disk_in, has_rescuer_in, has_book_in, has_mirror_in}
use Rattle.task_core.specs.Tables.{look_up, IsEntryAt, AreAt}
use Rattle.run_machine.proofs.Frames.{pools_are_numbered}

module _ {E : Type 0} (key : E → ℕ) (number : ℕ → ℕ) (is_used : ℕ → Bool) (IsMade : ℕ → E → Type 0) (bound : ℕ) (entries : List E) (table : List ℕ)
    (all : AreMade key number is_used IsMade bound entries table) where
  -- what is looked up of an index that is used is of its entry
  pub look_used : {X : Type 0} (P : X → Type 0) (value : E → X) (none : ℕ → X) (index : ℕ) → index < bound → is_used index ≡ true
      → ((entry : E) → IsMade index entry → P (value entry)) → P (look_up key value none entries (number index))
  look_used P value none index lt used each =
      let found = all.made index lt used in
      subst P (sym (ap (λ o. option_map_or value o (none (number index))) found.1)) (each found.0 found.2)

  -- and of another number it is what none has
  pub look_other : {X : Type 0} (P : X → Type 0) (value : E → X) (none : ℕ → X) (other : ℕ)
      → ((index : ℕ) → index < bound → is_used index ≡ true → number index ≢ other) → P (none other) → P (look_up key value none entries other)
  look_other P value none other apart is = subst P (sym (ap (λ o. option_map_or value o (none other)) (all.no_other other apart))) is

module _ {E : Type 0} (key : E → ℕ) (is_used : ℕ → Bool) (IsMade : ℕ → E → Type 0) (bound : ℕ) (entries : List E) (table : List ℕ)
    (all : AreMade key itself is_used IsMade bound entries table) (below : (n : ℕ) → is_used n ≡ true → n < bound) where
  -- what is looked up of things that were made up to a bound, where each number below it is used or not
  pub look_made : {X : Type 0} (value : E → X) (none as_made : ℕ → X) → ((n : ℕ) (e : E) → IsMade n e → value e ≡ as_made n)
      → ((n : ℕ) → is_used n ≡ false → none n ≡ as_made n) → look_up key value none entries ≡ as_made
  look_made value none as_made made unused = λ k n. by_case n (is_used n) refl k
    where
      by_case : (n : ℕ) (b : Bool) → is_used n ≡ b → look_up key value none entries n ≡ as_made n
      by_case n true q = look_used key itself is_used IsMade bound entries table all (λ x. x ≡ as_made n) value none n (below n q) q (made n)
      by_case n false q =
          look_other key itself is_used IsMade bound entries table all (λ x. x ≡ as_made n) value none n (λ i lt used e. absurd (clash i n e used q)) (unused n q)
        where
          clash : (i n : ℕ) → i ≡ n → is_used i ≡ true → is_used n ≡ false → ⊥
          clash i n e used q = let p : is_used n ≡ true = ap is_used (sym e) ∙ used in cc

  pub enters_made : AreAt key is_used table entries
  enters_made = λ n used. all.entered n (below n used) used

  pub order_made : map key entries ≡ filter is_used (range_with_len 0 bound)
  order_made = all.order ∙ map-id (filter is_used (range_with_len 0 bound))

module _ (routing : Routing) where
  disk_below : (n : ℕ) → has_disk_in routing n ≡ true → n < length routing.stack.devices.items
  disk_below n used = ltb-true n (length routing.stack.devices.items) (and_parts (nat_lt n (length routing.stack.devices.items)) _ used).0

  list_below : (n : ℕ) → has_rescuer_in routing n ≡ true → n < length routing.stack.devices.items
  list_below n used = ltb-true n (length routing.stack.devices.items) (and_parts (nat_lt n (length routing.stack.devices.items)) _ used).0

  disks_are : (disks : List DiskState) (table : List ℕ) → AreDisks routing (length routing.stack.devices.items) disks table
      → look_up disk_number (λ disk. disk) (opened_disk routing.stack) disks ≡ opened_disk routing.stack
  disks_are disks table all =
      look_made disk_number (has_disk_in routing) (IsNewDisk routing) (length routing.stack.devices.items) disks table all disk_below (λ disk. disk)
      (opened_disk routing.stack) (opened_disk routing.stack) (λ n disk made. made) (λ n unused. refl)

  lists_are : (lists : List (DevId × Rescue)) (table : List ℕ) → AreLists routing (length routing.stack.devices.items) lists table
      → ◌≡◌ {A = ℕ → List (Item Pad)} (look_up list_number (λ entry. entry.1.bios) (λ dev. []) lists) (λ dev. [])
  lists_are lists table all =
      look_made list_number (has_rescuer_in routing) IsNewList (length routing.stack.devices.items) lists table all list_below (λ entry. entry.1.bios)
      (λ dev. []) (λ dev. []) (λ n entry made. ap (λ (e : DevId × Rescue). e.1.bios) made) (λ n unused. refl)

  abbrev new_book : ℕ → BookState
  new_book writer = record { writer = writer; nodes = replicate (places_at routing.places writer) None }

  none_there : (n places : ℕ) → nat_lt 0 places ≡ false → no_book n ≡ record { writer = n; nodes = replicate places None }
  none_there n zero e = refl
  none_there n (suc places) e = absurd (wrong places e)
    where
      wrong : (places : ℕ) → nat_lt 0 (suc places) ≡ false → ⊥
      wrong places e = grind (e, arith, nat_tests)

  books_are : (books : List (ℕ × BookState)) (table : List ℕ) → AreBooks routing 8 books table → ((n : ℕ) → has_book_in routing n ≡ true → n < 8)
      → ◌≡◌ {A = ℕ → BookState} (look_up book_number (λ entry. entry.1) no_book books) new_book
  books_are books table all below =
      look_made book_number (has_book_in routing) (IsNewBook routing) 8 books table all below (λ entry. entry.1) no_book new_book
      (λ n entry made. ap (λ (e : ℕ × BookState). e.1) made) (λ n unused. none_there n (places_at routing.places n) unused)

-- what a pool of a number is, as it was opened
pub record IsPoolOf (routing : Routing) (scripts : List (PoolId × Answers)) (reserves : List (PoolId × ℕ)) (number : ℕ) (pool : LedgerPool) : Type 0 where
  pub numbered : pool.ledger.no ≡ number
  pub state : pool.state ≡ opened (reserve_of routing.stack (pool_of number)) (script_at scripts number)
  pub most : has_pool routing number ≡ true → pool.most ≡ widest reserves number (reserve_of routing.stack (pool_of number))

module _ (routing : Routing) (good : IsStack routing.stack) (scripts : List (PoolId × Answers)) (reserves : List (PoolId × ℕ))
    (no_other : (number : ℕ) → has_pool routing number ≡ false → script_at scripts number ≡ only_tail true) (some : LedgerId) where
  made_is : (id : PoolId) (pool : LedgerPool) → IsOfStack id → IsNewPool routing.stack scripts reserves id pool
      → IsPoolOf routing scripts reserves (pool_number id) pool
  made_is id pool known made = record {
    numbered = made.numbered;
    state = made.state ∙ ap (λ i. opened (reserve_of routing.stack i) (script_at scripts (pool_number id))) (sym (pools_are_numbered id known));
    most = λ has. made.most ∙ ap (λ i. widest reserves (pool_number id) (reserve_of routing.stack i)) (sym (pools_are_numbered id known));
  }

  none_is : (number : ℕ) → has_pool routing number ≡ false → IsPoolOf routing scripts reserves number (no_pool routing.stack some number)
  none_is number none = record {
    numbered = refl;
    state = ap (opened (reserve_of routing.stack (pool_of number))) (sym (no_other number none));
    most = λ has. absurd (both_ways (has_pool routing number) none has);
  }

  set_below : (dev : ℕ) → has_set (routing_setup routing) dev ≡ true → dev < length routing.stack.devices.items
  set_below dev used = ltb-true dev (length routing.stack.devices.items) (and_parts (nat_lt dev (length routing.stack.devices.items)) _ used).0

  slips_below : (dev : ℕ) → has_mirror_in routing dev ≡ true → dev < length routing.stack.devices.items
  slips_below dev used = ltb-true dev (length routing.stack.devices.items) (and_parts (nat_lt dev (length routing.stack.devices.items)) _ used).0

  abbrev bios_found : List (SetId × LedgerPool) → ℕ → LedgerPool
  bios_found bios = look_up set_number (λ entry. entry.1) (no_pool routing.stack some) bios

  abbrev records_found : List (DevId × LedgerPool) → ℕ → LedgerPool
  records_found records = look_up records_number (λ entry. entry.1) (no_pool routing.stack some) records

  module _ (bios : List (SetId × LedgerPool)) (table : List ℕ) (all : AreSets routing scripts reserves (suc (length routing.stack.devices.items)) bios table) where
    set_is : (index : ℕ) → index < suc (length routing.stack.devices.items) → has_set_at routing index ≡ true → IsOfStack (bios_of (set_at index))
        → IsPoolOf routing scripts reserves (set_index index) (bios_found bios (set_index index))
    set_is index lt used known =
        look_used set_number set_index (has_set_at routing) (IsNewSet routing scripts reserves) (suc (length routing.stack.devices.items)) bios table all
        (IsPoolOf routing scripts reserves (set_index index)) (λ entry. entry.1) (no_pool routing.stack some) index lt used
        (λ entry made. made_is (bios_of (set_at index)) entry.1 known made)

    device_set : (number dev : ℕ) → 2 * dev ≡ number → has_set (routing_setup routing) dev ≡ true → IsPoolOf routing scripts reserves number (bios_found bios number)
    device_set number dev is used =
        let lt = set_below dev used in
        let few = good.few in
        subst (λ n. IsPoolOf routing scripts reserves n (bios_found bios n)) is (set_is (suc dev) (omega (arith, lt)) used (omega (arith, lt, few)))

    unused_set : (number : ℕ) → number ≢ 65 → has_set (routing_setup routing) (number / 2) ≡ false → has_pool routing number ≡ false
        → IsPoolOf routing scripts reserves number (bios_found bios number)
    unused_set number apart none no_pool_is =
        look_other set_number set_index (has_set_at routing) (IsNewSet routing scripts reserves) (suc (length routing.stack.devices.items)) bios table all
        (IsPoolOf routing scripts reserves number) (λ entry. entry.1) (no_pool routing.stack some) number (λ i lt used e. absurd (clash i e used))
        (none_is number no_pool_is)
      where
        clash : (i : ℕ) → set_index i ≡ number → has_set_at routing i ≡ true → ⊥
        clash zero e used = apart (sym e)
        clash (suc dev) e used =
            let half : number / 2 ≡ dev = omega (arith, e) in
            let is : has_set (routing_setup routing) (number / 2) ≡ true = ap (has_set (routing_setup routing)) half ∙ used in cc

    sets_entered : (number : ℕ) (fs even : Bool) → (number == 65) ≡ fs → (number % 2 == 0) ≡ even
        → (fs || even && has_set (routing_setup routing) (number / 2)) ≡ true → IsEntryAt set_number table bios number
    sets_entered number true even q r is = subst (IsEntryAt set_number table bios) (sym (eqb-true number 65 q)) (all.entered 0 (omega arith) refl)
    sets_entered number false true q r is =
        let zero_left = eqb-true (number % 2) 0 r in
        let lt = set_below (number / 2) is in
        let whole : 2 * (number / 2) ≡ number = omega (arith, zero_left) in
        subst (IsEntryAt set_number table bios) whole (all.entered (suc (number / 2)) (omega (arith, lt)) is)
    sets_entered number false false q r is = absurd (cc_false is)
      where
        cc_false : false ≡ true → ⊥
        cc_false e = cc

  module _ (records : List (DevId × LedgerPool)) (table : List ℕ) (all : AreRecords routing scripts reserves (length routing.stack.devices.items) records table) where
    device_slips : (number dev : ℕ) → 2 * dev + 1 ≡ number → has_mirror_in routing dev ≡ true → IsPoolOf routing scripts reserves number (records_found records number)
    device_slips number dev is used =
        let lt = slips_below dev used in
        let few = good.few in
        subst (λ n. IsPoolOf routing scripts reserves n (records_found records n)) is
        (look_used records_number slip_index (has_mirror_in routing) (IsNewRecords routing scripts reserves) (length routing.stack.devices.items) records table all
        (IsPoolOf routing scripts reserves (slip_index dev)) (λ entry. entry.1) (no_pool routing.stack some) dev lt used
        (λ entry made. made_is (Records (device_at dev)) entry.1 (omega (arith, lt, few)) made))

    unused_slips : (number : ℕ) → has_mirror_in routing (number / 2) ≡ false → has_pool routing number ≡ false
        → IsPoolOf routing scripts reserves number (records_found records number)
    unused_slips number none no_pool_is =
        look_other records_number slip_index (has_mirror_in routing) (IsNewRecords routing scripts reserves) (length routing.stack.devices.items) records table all
        (IsPoolOf routing scripts reserves number) (λ entry. entry.1) (no_pool routing.stack some) number (λ i lt used e. absurd (clash i e used))
        (none_is number no_pool_is)
      where
        clash : (dev : ℕ) → slip_index dev ≡ number → has_mirror_in routing dev ≡ true → ⊥
        clash dev e used =
            let half : number / 2 ≡ dev = omega (arith, e) in
            let is : has_mirror_in routing (number / 2) ≡ true = ap (has_mirror_in routing) half ∙ used in cc

    slips_entered : (number : ℕ) (odd : Bool) → (number % 2 == 1) ≡ odd → (odd && has_mirror_in routing (number / 2)) ≡ true
        → IsEntryAt records_number table records number
    slips_entered number true r is =
        let one_left = eqb-true (number % 2) 1 r in
        let whole : 2 * (number / 2) + 1 ≡ number = omega (arith, one_left) in
        subst (IsEntryAt records_number table records) whole (all.entered (number / 2) (slips_below (number / 2) is) is)
    slips_entered number false r is = absurd (cc_false is)
      where
        cc_false : false ≡ true → ⊥
        cc_false e = cc

  -- so it is with the pool of each number
  module _ (vecs : LedgerPool) (vecs_made : IsNewPool routing.stack scripts reserves FsVecs vecs)
      (bios : List (SetId × LedgerPool)) (bios_table : List ℕ) (bios_made : AreSets routing scripts reserves (suc (length routing.stack.devices.items)) bios bios_table)
      (records : List (DevId × LedgerPool)) (records_table : List ℕ)
      (records_made : AreRecords routing scripts reserves (length routing.stack.devices.items) records records_table) where
    not_odd : (number : ℕ) → (number % 2 == 0) ≡ true → (number % 2 == 1) ≡ false
    not_odd number even = grind (even, arith, nat_tests)

    odd_then : (number : ℕ) → (number % 2 == 0) ≡ false → (number % 2 == 1) ≡ true
    odd_then number not_even =
        let apart = eqb-false (number % 2) 0 not_even in
        let one : number % 2 ≡ 1 = search (apart, arith) in is_one (number % 2) one
      where
        is_one : (n : ℕ) → n ≡ 1 → (n == 1) ≡ true
        is_one n e = grind (e, arith, nat_tests)

    pool_by : (number : ℕ) (vec fs even set slips : Bool) → (number == 64) ≡ vec → (number == 65) ≡ fs → (number % 2 == 0) ≡ even
        → has_set (routing_setup routing) (number / 2) ≡ set → has_mirror_in routing (number / 2) ≡ slips
        → IsPoolOf routing scripts reserves number (if vec then vecs else if fs || even then bios_found bios number else records_found records number)
    pool_by number true fs even set slips q r s t u =
        subst (λ n. IsPoolOf routing scripts reserves n vecs) (sym (eqb-true number 64 q)) (made_is FsVecs vecs tt vecs_made)
    pool_by number false true even set slips q r s t u =
        subst (λ n. IsPoolOf routing scripts reserves n (bios_found bios n)) (sym (eqb-true number 65 r)) (set_is bios bios_table bios_made 0 (omega arith) refl tt)
    pool_by number false false true true slips q r s t u =
        let zero_left = eqb-true (number % 2) 0 s in
        device_set bios bios_table bios_made number (number / 2) (omega (arith, zero_left)) t
    pool_by number false false true false slips q r s t u =
        let odd = not_odd number s in
        unused_set bios bios_table bios_made number (eqb-false number 65 r) t (rw (q, r, s, t, odd) refl)
    pool_by number false false false set true q r s t u =
        let one_left = eqb-true (number % 2) 1 (odd_then number s) in
        device_slips records records_table records_made number (number / 2) (omega (arith, one_left)) u
    pool_by number false false false set false q r s t u =
        let odd = odd_then number s in
        unused_slips records records_table records_made number u (rw (q, r, s, odd, u) refl)

    pub pool_is : (number : ℕ) → IsPoolOf routing scripts reserves number (by_kind vecs (bios_found bios) (records_found records) number)
    pool_is number =
        pool_by number (number == 64) (number == 65) (number % 2 == 0) (has_set (routing_setup routing) (number / 2)) (has_mirror_in routing (number / 2)) refl refl refl refl refl

abbrev objects_with : (ℕ → PoolState) → (ℕ → List (Item Pad)) → (ℕ → DiskState) → (ℕ → BookState) → TallyState → Objects
objects_with pool rescue disk book tally = record { pool = pool; rescue = rescue; disk = disk; book = book; tally = tally }

-- what was opened, together
module _ (plain : Plain) (good : IsStack plain.stage.value.stack) (scripts : List (PoolId × Answers)) (reserves : List (PoolId × ℕ))
    (no_other : (number : ℕ) → has_pool plain.stage.value number ≡ false → script_at scripts number ≡ only_tail true)
    (eight : length plain.stage.value.places ≡ 8) (few : sum plain.tally.left.items < 2 ^ 32)
    (vecs : IsNewPool plain.stage.value.stack scripts reserves FsVecs plain.vecs)
    (bios : AreSets plain.stage.value scripts reserves (suc (length plain.stage.value.stack.devices.items)) plain.bios.items plain.index.bios)
    (records : AreRecords plain.stage.value scripts reserves (length plain.stage.value.stack.devices.items) plain.records.items plain.index.records)
    (lists : AreLists plain.stage.value (length plain.stage.value.stack.devices.items) plain.lists.items plain.index.lists)
    (disks : AreDisks plain.stage.value (length plain.stage.value.stack.devices.items) plain.disks.items plain.index.disks)
    (books : AreBooks plain.stage.value 8 plain.books.items plain.index.books) where
  abbrev routing : Routing
  routing = plain.stage.value

  abbrev stage : Stage
  stage = stage_of plain

  each_pool : (number : ℕ) → IsPoolOf routing scripts reserves number (pool_at plain number)
  each_pool =
      pool_is routing good scripts reserves no_other plain.vecs.ledger plain.vecs vecs plain.bios.items plain.index.bios bios plain.records.items
      plain.index.records records

  book_below : (n : ℕ) → has_book_in routing n ≡ true → n < 8
  book_below n used = by_length (cases_lt n 8)
    where
      past : (places : List ℕ) (n : ℕ) → length places ≤ n → get_or places n 0 ≡ 0
      past [] n le = refl
      past (place ∷ places) zero le = absurd (omega (arith, le))
      past (place ∷ places) (suc n) le = past places n (omega (arith, le))

      by_length : (n < 8) ⊎ (8 ≤ n) → n < 8
      by_length (inl lt) = lt
      by_length (inr le) =
          let none : get_or routing.places n 0 ≡ 0 = past routing.places n (omega (arith, le, eight)) in
          let some = ltb-true 0 (places_at routing.places n) used in
          absurd (omega (arith, none, some))

  pub objects_are : objects_of plain ≡ opened_objects routing.stack scripts (places_at routing.places) (tally_of plain.tally)
  objects_are =
      let tally = tally_of plain.tally in
      let given = objects_of plain in
      let pools : ◌≡◌ {A = ℕ → PoolState} given.pool (opened_objects routing.stack scripts (places_at routing.places) tally).pool = λ i number. (each_pool number).state i in
      ap (λ pool. objects_with pool given.rescue given.disk given.book tally) pools
      ∙ ap (λ rescue. objects_with (opened_objects routing.stack scripts (places_at routing.places) tally).pool rescue given.disk given.book tally) (lists_are routing plain.lists.items plain.index.lists lists)
      ∙ ap (λ disk. objects_with (opened_objects routing.stack scripts (places_at routing.places) tally).pool (λ dev. []) disk given.book tally) (disks_are routing plain.disks.items plain.index.disks disks)
      ∙ ap (λ book. objects_with (opened_objects routing.stack scripts (places_at routing.places) tally).pool (λ dev. []) (opened_disk routing.stack) book tally) (books_are routing plain.books.items plain.index.books books book_below)

  entered : AreEntered plain
  entered = record {
    bios = λ number is. sets_entered routing good scripts reserves no_other plain.vecs.ledger plain.bios.items plain.index.bios bios number (number == 65) (number % 2 == 0) refl refl is;
    records = λ number is. slips_entered routing good scripts reserves no_other plain.vecs.ledger plain.records.items plain.index.records records number (number % 2 == 1) refl is;
    lists = enters_made list_number (has_rescuer_in routing) IsNewList (length routing.stack.devices.items) plain.lists.items plain.index.lists lists (list_below routing);
    disks = enters_made disk_number (has_disk_in routing) (IsNewDisk routing) (length routing.stack.devices.items) plain.disks.items plain.index.disks disks (disk_below routing);
    books = enters_made book_number (has_book_in routing) (IsNewBook routing) 8 plain.books.items plain.index.books books book_below;
    order = order_made disk_number (has_disk_in routing) (IsNewDisk routing) (length routing.stack.devices.items) plain.disks.items plain.index.disks disks (disk_below routing);
  }

  new_objects : AreObjectsOf stage (opened_objects routing.stack scripts (places_at routing.places) (tally_of plain.tally))
  new_objects = record {
    rescue = λ dev. All-nil (IsServed stage);
    disk = λ dev. record {
      dev_is = refl;
      sectors = length-replicate (size (tree routing.stack dev)) zero_sector;
      bads = refl;
      pending = All-nil (λ item. IsServed stage item × (item.bio.dev ≡ device_at dev));
    };
    book = λ writer. record {
      writer_is = refl;
      nodes = All-replicate (λ (node : Option Node). IfSome node (IsNodeOf stage)) (places_at routing.places writer) None tt;
    };
    tally = record { round = plain.tally.is_round; left = few; statuses = refl };
  }

  pub are_opened : AreOpened routing scripts reserves (tally_of plain.tally) plain
  are_opened = record {
    objects = objects_are;
    holds = record {
      stack_is = good;
      numbered = λ number. (each_pool number).numbered;
      entered = entered;
      objects = subst (AreObjectsOf stage) (sym objects_are) new_objects;
    };
    routing_is = refl;
    rows = record { bios = bios; records = records; lists = lists; disks = disks; books = books };
    most = λ number has. (each_pool number).most has;
  }

-- the same by what the objects were opened of
pub opened_of : (routing : Routing) (stack : Stack) (plain : Plain) (scripts : List (PoolId × Answers)) (reserves : List (PoolId × ℕ))
    → plain.stage.value ≡ routing → routing.stack ≡ stack → IsStack stack
    → ((number : ℕ) → has_pool routing number ≡ false → script_at scripts number ≡ only_tail true) → length routing.places ≡ 8
    → sum plain.tally.left.items < 2 ^ 32 → IsNewPool stack scripts reserves FsVecs plain.vecs
    → AreSets routing scripts reserves (suc (length stack.devices.items)) plain.bios.items plain.index.bios
    → AreRecords routing scripts reserves (length stack.devices.items) plain.records.items plain.index.records
    → AreLists routing (length stack.devices.items) plain.lists.items plain.index.lists
    → AreDisks routing (length stack.devices.items) plain.disks.items plain.index.disks → AreBooks routing 8 plain.books.items plain.index.books
    → AreOpened routing scripts reserves (tally_of plain.tally) plain
opened_of routing stack plain scripts reserves is same good no_other eight few vecs bios records lists disks books =
    subst (λ (r : Routing). AreOpened r scripts reserves (tally_of plain.tally) plain) is
    (are_opened plain (subst (λ (r : Routing). IsStack r.stack) (sym is) (subst IsStack (sym same) good)) scripts reserves
    (subst (λ (r : Routing). (number : ℕ) → has_pool r number ≡ false → script_at scripts number ≡ only_tail true) (sym is) no_other)
    (subst (λ (r : Routing). length r.places ≡ 8) (sym is) eight) few
    (subst (λ (r : Routing). IsNewPool r.stack scripts reserves FsVecs plain.vecs) (sym is)
    (subst (λ (s : Stack). IsNewPool s scripts reserves FsVecs plain.vecs) (sym same) vecs))
    (subst (λ (r : Routing). AreSets r scripts reserves (suc (length r.stack.devices.items)) plain.bios.items plain.index.bios) (sym is)
    (subst (λ (s : Stack). AreSets routing scripts reserves (suc (length s.devices.items)) plain.bios.items plain.index.bios) (sym same) bios))
    (subst (λ (r : Routing). AreRecords r scripts reserves (length r.stack.devices.items) plain.records.items plain.index.records) (sym is)
    (subst (λ (s : Stack). AreRecords routing scripts reserves (length s.devices.items) plain.records.items plain.index.records) (sym same) records))
    (subst (λ (r : Routing). AreLists r (length r.stack.devices.items) plain.lists.items plain.index.lists) (sym is)
    (subst (λ (s : Stack). AreLists routing (length s.devices.items) plain.lists.items plain.index.lists) (sym same) lists))
    (subst (λ (r : Routing). AreDisks r (length r.stack.devices.items) plain.disks.items plain.index.disks) (sym is)
    (subst (λ (s : Stack). AreDisks routing (length s.devices.items) plain.disks.items plain.index.disks) (sym same) disks))
    (subst (λ (r : Routing). AreBooks r 8 plain.books.items plain.index.books) (sym is) books))
