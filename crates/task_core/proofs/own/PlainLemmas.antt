-- What one changed object makes of the objects of one thread.
use Rattle.std.proofs.Common.{◌≡◌, ℕ, [], set, get_or, refl, sym, ap, subst, ◌∙◌}
use Rattle.std.specs.Prelude.{IsTrue, slice_index_or}
use Rattle.std.specs.Vec.{with_item}
use Rattle.elem_ledger.specs.Ledger.{LedgerId}
use Rattle.stack_base.specs.declared.ids.DevId.{DevId}
use Rattle.stack_base.specs.declared.ids.SetId.{SetId}
use Rattle.stack_base.specs.Stack.{IsStack}
use Rattle.mempool_core.specs.declared.Taken.{Taken}
use Rattle.mempool_core.specs.declared.Taken.TheVariants as taken
use Rattle.mempool_core.specs.Taken.{TakeOf}
use Rattle.mempool_core.specs.Move.{PoolMove, takes_ordinary, takes_spare, misses}
use Rattle.mempool_core.specs.Pool.{LedgerPool}
use Rattle.mempool_core.specs.Pool as pool
use Rattle.bio_records.specs.Rescue.{Rescue}
use Rattle.bio_books.specs.Books.{BookState}
use Rattle.model_disks.specs.Disks.{DiskState}
use Rattle.task_core.specs.declared.plain.Plain.{Plain}
use Rattle.run_machine.specs.Maps.{upd}
use Rattle.task_core.specs.Tables.{look_up}
use Rattle.run_machine.specs.Requests.{Request, Reply}
use Rattle.run_machine.specs.Objects.{Objects, MovesPool, Serves}
use Rattle.run_machine.specs.Opened.{device_at, opened_disk}
use Rattle.task_steps.specs.Stage.{Stage, has_rescuer, has_disk, has_book, is_bios, is_slips, RequestFits, Owes}
use Rattle.task_core.specs.ObjectsOf.{AreObjectsOf, AreNumbered}
use Rattle.task_core.specs.Plains.{set_number, records_number, list_number, disk_number, book_number, no_pool, no_book, by_kind, bios_at, records_at, pool_at, objects_of, stage_of, AreEntered, Holds}
use Rattle.run_machine.proofs.Frames.{upd_same}
use Rattle.task_core.proofs.Keeping.{objects_stay, objects_owe}
use Rattle.task_core.proofs.TableLemmas.{looked, changed, places_stay, numbers_stay}
use Rattle.task_core.proofs.PoolLemmas.{bios_not_64, bios_of_set, slips_not_64, slips_of_set, stands_for_bios, stands_for_records, bios_change, records_change, vecs_change, moves_pool, stage_kept}

-- with one object in the place of another
abbrev pub with_bios : Plain → ℕ → SetId → LedgerPool → Plain
with_bios plain i set x = record plain { bios = with_item plain.bios i (set, x) }

abbrev pub with_records : Plain → ℕ → DevId → LedgerPool → Plain
with_records plain i dev x = record plain { records = with_item plain.records i (dev, x) }

abbrev pub with_vecs : Plain → LedgerPool → Plain
with_vecs plain x = record plain { vecs = x }

abbrev pub with_lists : Plain → ℕ → DevId → Rescue → Plain
with_lists plain i dev x = record plain { lists = with_item plain.lists i (dev, x) }

abbrev pub with_disks : Plain → ℕ → DiskState → Plain
with_disks plain i x = record plain { disks = with_item plain.disks i x }

abbrev pub with_books : Plain → ℕ → ℕ → BookState → Plain
with_books plain i writer x = record plain { books = with_item plain.books i (writer, x) }

-- what holds of the objects holds behind a call that is served, and what is owed for it
pub kept_by : (old new : Plain) (request : Request) (reply : Reply) → Holds old → RequestFits (stage_of old) request → stage_of new ≡ stage_of old
    → AreEntered new → Serves (stage_of old).ledger (objects_of old) request reply (objects_of new) → Holds new × (stage_of new ≡ stage_of old)
kept_by old new request reply holds fits stage entered serves = (
  record {
    stack_is = subst (λ (s : Stage). IsStack s.routing.stack) (sym stage) holds.stack_is;
    numbered = subst AreNumbered (sym stage) holds.numbered;
    entered = entered;
    objects = subst (λ s. AreObjectsOf s (objects_of new)) (sym stage)
        (objects_stay (stage_of old) (objects_of old) (objects_of new) request reply fits holds.objects serves);
  },
  stage,
)

pub owed_by : (old new : Plain) (request : Request) (reply : Reply) → Holds old → RequestFits (stage_of old) request
    → Serves (stage_of old).ledger (objects_of old) request reply (objects_of new) → Owes (stage_of old) request reply
owed_by old new request reply holds fits serves =
    objects_owe (stage_of old) (objects_of old) (objects_of new) request reply holds.numbered fits holds.objects serves

-- a take is a move
pub take_moves : {P : Type 0} (is_clear : P → Type 0) (old new : LedgerPool) (result : Taken P) → TakeOf is_clear old result new
    → (move : PoolMove) × pool.PoolMoves old move new
take_moves is_clear old new (taken.Ordinary element) takes = (takes_ordinary, takes.0)
take_moves is_clear old new (taken.Spare element) takes = (takes_spare, takes.0)
take_moves is_clear old new (taken.Miss used) takes = (misses used, takes)

-- one pool of bios
module _ (plain : Plain) (holds : Holds plain) (n i : ℕ) (is : IsTrue (is_bios (stage_of plain) n)) (place : i ≡ slice_index_or plain.index.bios n 0)
    (entry : SetId × LedgerPool) (value : entry ≡ get_or plain.bios.items i entry) where
  pub bios_there : entry.1 ≡ pool_at plain n
  bios_there =
      let none : ℕ → LedgerPool = no_pool plain.stage.value.stack plain.vecs.ledger in
      sym (
      stands_for_bios plain.vecs (bios_at plain) (records_at plain) n (bios_not_64 plain n holds is) (bios_of_set plain n is)
      ∙ looked set_number plain.index.bios plain.bios.items n i (holds.entered.bios n is) place entry value (λ e. e.1) none
      )

  module _ (x : LedgerPool) where
    bios_are : pool_at (with_bios plain i entry.0 x) ≡ upd (pool_at plain) n x
    bios_are =
        ap (λ f. by_kind plain.vecs f (records_at plain))
        (changed set_number plain.index.bios plain.bios.items n i (holds.entered.bios n is) place entry value (entry.0, x) refl (λ e. e.1)
        (no_pool plain.stage.value.stack plain.vecs.ledger))
        ∙ bios_change plain.vecs (bios_at plain) (records_at plain) n x (bios_not_64 plain n holds is) (bios_of_set plain n is)

    pub bios_entered : AreEntered (with_bios plain i entry.0 x)
    bios_entered = record {
      bios = places_stay set_number plain.index.bios plain.bios.items n i (holds.entered.bios n is) place entry value (entry.0, x) refl
          (is_bios (stage_of plain)) holds.entered.bios;
      records = holds.entered.records;
      lists = holds.entered.lists;
      disks = holds.entered.disks;
      books = holds.entered.books;
      order = holds.entered.order;
    }

    module _ (move : PoolMove) (moves : pool.PoolMoves entry.1 move x) where
      bios_moves : pool.PoolMoves (pool_at plain n) move x
      bios_moves = subst (λ p. pool.PoolMoves p move x) bios_there moves

      pub bios_move : MovesPool (objects_of plain) n move (objects_of (with_bios plain i entry.0 x))
      bios_move = moves_pool plain (with_bios plain i entry.0 x) n x bios_are refl refl move bios_moves

      pub bios_stage : stage_of (with_bios plain i entry.0 x) ≡ stage_of plain
      bios_stage = stage_kept plain (with_bios plain i entry.0 x) n x bios_are refl refl move bios_moves

-- one pool of records
module _ (plain : Plain) (holds : Holds plain) (n i : ℕ) (is : IsTrue (is_slips (stage_of plain) n)) (place : i ≡ slice_index_or plain.index.records n 0)
    (entry : DevId × LedgerPool) (value : entry ≡ get_or plain.records.items i entry) where
  pub records_there : entry.1 ≡ pool_at plain n
  records_there =
      let none : ℕ → LedgerPool = no_pool plain.stage.value.stack plain.vecs.ledger in
      sym (
      stands_for_records plain.vecs (bios_at plain) (records_at plain) n (slips_not_64 plain n is) (slips_of_set plain n holds is)
      ∙ looked records_number plain.index.records plain.records.items n i (holds.entered.records n is) place entry value (λ e. e.1) none
      )

  module _ (x : LedgerPool) where
    records_are : pool_at (with_records plain i entry.0 x) ≡ upd (pool_at plain) n x
    records_are =
        ap (by_kind plain.vecs (bios_at plain))
        (changed records_number plain.index.records plain.records.items n i (holds.entered.records n is) place entry value (entry.0, x) refl (λ e. e.1)
        (no_pool plain.stage.value.stack plain.vecs.ledger))
        ∙ records_change plain.vecs (bios_at plain) (records_at plain) n x (slips_not_64 plain n is) (slips_of_set plain n holds is)

    pub records_entered : AreEntered (with_records plain i entry.0 x)
    records_entered = record {
      bios = holds.entered.bios;
      records = places_stay records_number plain.index.records plain.records.items n i (holds.entered.records n is) place entry value (entry.0, x) refl
          (is_slips (stage_of plain)) holds.entered.records;
      lists = holds.entered.lists;
      disks = holds.entered.disks;
      books = holds.entered.books;
      order = holds.entered.order;
    }

    module _ (move : PoolMove) (moves : pool.PoolMoves entry.1 move x) where
      records_moves : pool.PoolMoves (pool_at plain n) move x
      records_moves = subst (λ p. pool.PoolMoves p move x) records_there moves

      pub records_move : MovesPool (objects_of plain) n move (objects_of (with_records plain i entry.0 x))
      records_move = moves_pool plain (with_records plain i entry.0 x) n x records_are refl refl move records_moves

      pub records_stage : stage_of (with_records plain i entry.0 x) ≡ stage_of plain
      records_stage = stage_kept plain (with_records plain i entry.0 x) n x records_are refl refl move records_moves

-- the pool of vectors
module _ (plain : Plain) (x : LedgerPool) (move : PoolMove) (moves : pool.PoolMoves plain.vecs move x) where
  vecs_are : pool_at (with_vecs plain x) ≡ upd (pool_at plain) 64 x
  vecs_are =
      ap (λ (l : LedgerId). by_kind x (look_up set_number (λ e. e.1) (no_pool plain.stage.value.stack l) plain.bios.items)
      (look_up records_number (λ e. e.1) (no_pool plain.stage.value.stack l) plain.records.items)) moves.ledger
      ∙ vecs_change plain.vecs (bios_at plain) (records_at plain) x

  pub vecs_move : MovesPool (objects_of plain) 64 move (objects_of (with_vecs plain x))
  vecs_move = moves_pool plain (with_vecs plain x) 64 x vecs_are refl refl move moves

  pub vecs_stage : stage_of (with_vecs plain x) ≡ stage_of plain
  vecs_stage = stage_kept plain (with_vecs plain x) 64 x vecs_are refl refl move moves

  pub vecs_entered : Holds plain → AreEntered (with_vecs plain x)
  vecs_entered holds = record {
    bios = holds.entered.bios;
    records = holds.entered.records;
    lists = holds.entered.lists;
    disks = holds.entered.disks;
    books = holds.entered.books;
    order = holds.entered.order;
  }

-- one list of a rescuer
module _ (plain : Plain) (holds : Holds plain) (d i : ℕ) (is : IsTrue (has_rescuer (stage_of plain) (device_at d))) (place : i ≡ slice_index_or plain.index.lists d 0)
    (entry : DevId × Rescue) (value : entry ≡ get_or plain.lists.items i entry) where
  pub list_there : (objects_of plain).rescue d ≡ entry.1.bios
  list_there = looked list_number plain.index.lists plain.lists.items d i (holds.entered.lists d is) place entry value (λ e. e.1.bios) (λ m. [])

  module _ (x : Rescue) where
    pub list_changes : objects_of (with_lists plain i entry.0 x) ≡ record (objects_of plain) { rescue = upd (objects_of plain).rescue d x.bios }
    list_changes =
        ap (λ f. record (objects_of plain) { rescue = f })
        (changed list_number plain.index.lists plain.lists.items d i (holds.entered.lists d is) place entry value (entry.0, x) refl (λ e. e.1.bios) (λ m. []))

    pub list_now : (objects_of (with_lists plain i entry.0 x)).rescue d ≡ x.bios
    list_now = ap (λ (o : Objects). o.rescue d) list_changes ∙ upd_same (objects_of plain).rescue d x.bios

    pub lists_entered : AreEntered (with_lists plain i entry.0 x)
    lists_entered = record {
      bios = holds.entered.bios;
      records = holds.entered.records;
      lists = places_stay list_number plain.index.lists plain.lists.items d i (holds.entered.lists d is) place entry value (entry.0, x) refl
          (λ m. has_rescuer (stage_of plain) (device_at m)) holds.entered.lists;
      disks = holds.entered.disks;
      books = holds.entered.books;
      order = holds.entered.order;
    }

-- one disk
module _ (plain : Plain) (holds : Holds plain) (d i : ℕ) (is : IsTrue (has_disk (stage_of plain) (device_at d))) (place : i ≡ slice_index_or plain.index.disks d 0)
    (entry : DiskState) (value : entry ≡ get_or plain.disks.items i entry) where
  pub disk_there : (objects_of plain).disk d ≡ entry
  disk_there =
      looked disk_number plain.index.disks plain.disks.items d i (holds.entered.disks d is) place entry value (λ e. e) (opened_disk plain.stage.value.stack)

  module _ (x : DiskState) (same : x.dev ≡ entry.dev) where
    pub disk_changes : objects_of (with_disks plain i x) ≡ record (objects_of plain) { disk = upd (objects_of plain).disk d x }
    disk_changes =
        ap (λ f. record (objects_of plain) { disk = f })
        (changed disk_number plain.index.disks plain.disks.items d i (holds.entered.disks d is) place entry value x (ap (λ (dev : DevId). dev.0) same) (λ e. e)
        (opened_disk plain.stage.value.stack))

    pub disk_now : (objects_of (with_disks plain i x)).disk d ≡ x
    disk_now = ap (λ (o : Objects). o.disk d) disk_changes ∙ upd_same (objects_of plain).disk d x

    pub disks_entered : AreEntered (with_disks plain i x)
    disks_entered = record {
      bios = holds.entered.bios;
      records = holds.entered.records;
      lists = holds.entered.lists;
      disks = places_stay disk_number plain.index.disks plain.disks.items d i (holds.entered.disks d is) place entry value x (ap (λ (dev : DevId). dev.0) same)
          (λ m. has_disk (stage_of plain) (device_at m)) holds.entered.disks;
      books = holds.entered.books;
      order = numbers_stay disk_number plain.index.disks plain.disks.items d i (holds.entered.disks d is) place entry value x (ap (λ (dev : DevId). dev.0) same)
          ∙ holds.entered.order;
    }

-- one book
module _ (plain : Plain) (holds : Holds plain) (w i : ℕ) (is : IsTrue (has_book (stage_of plain) w)) (place : i ≡ slice_index_or plain.index.books w 0)
    (entry : ℕ × BookState) (value : entry ≡ get_or plain.books.items i entry) where
  pub book_there : (objects_of plain).book w ≡ entry.1
  book_there = looked book_number plain.index.books plain.books.items w i (holds.entered.books w is) place entry value (λ e. e.1) no_book

  module _ (x : BookState) where
    pub book_changes : objects_of (with_books plain i entry.0 x) ≡ record (objects_of plain) { book = upd (objects_of plain).book w x }
    book_changes =
        ap (λ f. record (objects_of plain) { book = f })
        (changed book_number plain.index.books plain.books.items w i (holds.entered.books w is) place entry value (entry.0, x) refl (λ e. e.1) no_book)

    pub book_now : (objects_of (with_books plain i entry.0 x)).book w ≡ x
    book_now = ap (λ (o : Objects). o.book w) book_changes ∙ upd_same (objects_of plain).book w x

    pub books_entered : AreEntered (with_books plain i entry.0 x)
    books_entered = record {
      bios = holds.entered.bios;
      records = holds.entered.records;
      lists = holds.entered.lists;
      disks = holds.entered.disks;
      books = places_stay book_number plain.index.books plain.books.items w i (holds.entered.books w is) place entry value (entry.0, x) refl
          (has_book (stage_of plain)) holds.entered.books;
      order = holds.entered.order;
    }
