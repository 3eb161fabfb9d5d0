-- For each condition of an event a state in which it does not hold, so that the event cannot come. The states are those of the example runs, behind
-- so many events; where no run comes to such a state, one object or one task of it is another.
use Rattle.std.proofs.Common.{◌≡◌, ◌-◌, ◌^◌, ◌<◌, ℕ, zero, suc, Bool, true, false, true≢false, [], ◌∷◌, take, None, Some, inl, inr, refl, sym, arith}
use Rattle.std.proofs.lemmas.Option.{none-some}
use Rattle.elem_ledger.specs.Ledger.{LedgerId}
use Rattle.fail_script.specs.Script.{Answers, only_tail}
use Rattle.stack_base.specs.declared.ids.DevId.{DevId}
use Rattle.stack_base.specs.declared.ids.PoolId.TheVariants.{FsBios, FsVecs, Bios}
use Rattle.stack_base.specs.declared.ids.Status.TheVariants.{Ok, Io}
use Rattle.stack_base.specs.Cutting.{piece_end, next_member}
use Rattle.stack_base.specs.Mapping.{slot, among}
use Rattle.stack_base.specs.Tree.{Leaf}
use Rattle.mempool_core.specs.Move.{PoolState, CanMove, misses, opened}
use Rattle.bio_records.specs.declared.bio.Pad.{Pad}
use Rattle.bio_records.specs.Items.{Item}
use Rattle.bio_lists.specs.Submission.{no_lists}
use Rattle.bio_books.specs.Books.{BookState, top_node}
use Rattle.run_machine.specs.declared.event.TaskId.TheVariants as id
use Rattle.run_machine.specs.declared.event.Got.TheVariants.{Ordinary, Spare, Missed}
use Rattle.run_machine.specs.declared.event.How.TheVariants as how
use Rattle.run_machine.specs.declared.event.End.TheVariants as left
use Rattle.run_machine.specs.declared.event.What.TheVariants as what
use Rattle.run_machine.specs.Maps.{upd}
use Rattle.run_machine.specs.Scene.{Setup, Scene}
use Rattle.bioset_pools.specs.Sets.{waits_first}
use Rattle.run_machine.specs.Submissions.{Takes, WantsPunt, after_miss, rests}
use Rattle.run_machine.specs.Tasks.{Todo, TaskState, Writer, HasBio, Keeper, Keeps, Starts}
use Rattle.run_machine.specs.Objects.{TallyState}
use Rattle.run_machine.specs.Opened.{device_at}
use Rattle.run_machine.specs.Runs.{State, IsEnabled}
use Rattle.run_machine.proofs.Turns.{follow}
use Rattle.run_machine.proofs.Able.{not_next}
use Rattle.run_machine.proofs.cases.OneWrite as one
use Rattle.run_machine.proofs.cases.MirrorRun as mirrored
use Rattle.run_machine.proofs.cases.StuckRun as unrescued
use Rattle.run_machine.proofs.cases.SplitRun as cut
use Rattle.run_machine.proofs.cases.RoundsRun as rounds
use Rattle.run_machine.proofs.cases.OneDisk.{a}

-- a state with another pool, other books, another tally or another task
abbrev with_pool : State → ℕ → PoolState → State
with_pool state number pool = record state { objects = record state.objects { pool = upd state.objects.pool number pool } }

abbrev with_books : State → (ℕ → BookState) → State
with_books state books = record state { objects = record state.objects { book = books } }

abbrev with_tally : State → TallyState → State
with_tally state tally = record state { objects = record state.objects { tally = tally } }

abbrev with_task : State → ℕ → TaskState → State
with_task state place task = record state { task = upd state.task place task }

-- a script of one entry that lets no take have ordinary memory
abbrev entry : Answers
entry = record { entries = false ∷ []; tail = false }

-- a pool whose one element is out, and one of which as many are out as can be counted
abbrev bare : PoolState
bare = record { script = entry; facts = record { min = 1; spares = 0; out = 1; live = 0; pos = 0; ordinary = 0; spare = 1 } }

abbrev all_out : PoolState
all_out = record {
  script = only_tail true;
  facts = record { min = 2; spares = 2; out = 2 ^ 64 - 1; live = 2 ^ 64 - 1; pos = 0; ordinary = 0; spare = 0 };
}

has_spares : (pool : PoolState) (used : Bool) → 0 < pool.facts.spares → pool.facts.out < 2 ^ 64 - 1 → CanMove pool (misses used) → ⊥
has_spares pool used some few (inl none, is) = absurd (omega (arith, none, some))
has_spares pool used some few (inr many, is) = absurd (omega (arith, many, few))

-- books in which no node is open, full ones, and some whose node waits for as many ends as can be counted
abbrev empty : ℕ → BookState
empty writer = record { writer = writer; nodes = None ∷ None ∷ None ∷ None ∷ [] }

abbrev full : ℕ → BookState
full writer = record { writer = writer; nodes = Some (top_node 0 None) ∷ [] }

abbrev crowded : ℕ → BookState
crowded writer = record { writer = writer; nodes = Some (record (top_node 0 None) { count = 2 ^ 64 - 1 }) ∷ None ∷ None ∷ None ∷ [] }

module _ (some : LedgerId) where
  -- one write: a take, its node's link and a push of writer 0, and of the disk's completer an end, which closes the node, a give and the write's end
  abbrev one_write : Scene
  one_write = one.scene some

  abbrev one_at : ℕ → State
  one_at n = follow one.setup one.start (take n (one.turns some))

  -- a mirror of two: a take and a link for the write, for the record and for the first leg; an attempt that misses, and a punt; the first leg, by
  -- the rescuer and its disk's completer; then the second
  abbrev mirror : Scene
  mirror = mirrored.scene some

  abbrev mirror_at : ℕ → State
  mirror_at n = follow (mirrored.setup true) mirrored.start (take n (mirrored.turns some))

  -- a write that is cut twice: three takes, each with a link, three pushes, and then the ends
  abbrev cuts : Scene
  cuts = cut.scene some

  abbrev cut_at : ℕ → State
  cut_at n = follow cut.setup cut.start (take n (cut.turns some))

  -- a write of writer 0, with seven events, then a resize and a round of the keeper, and a write of writer 1
  abbrev two_rounds : Scene
  two_rounds = rounds.scene some

  abbrev rounds_at : ℕ → State
  rounds_at n = follow rounds.setup rounds.start (take n (rounds.turns some))

  -- Tasks. There is no such task, and a task whose writes are done asks for nothing.
  no_such_task : IsEnabled one_write (one_at 0) (record { task = id.Keeper; what = what.Round 1 }) → ⊥
  unfolding upd
  no_such_task = not_next _ _ _ 0 refl (λ can. cc)

  all_done : IsEnabled one_write (one_at 7) (one.by_writer some (what.Take FsBios Ordinary)) → ⊥
  unfolding upd
  all_done = not_next _ _ _ 0 refl (λ can. can.needs)

  -- Ordinary memory: the script allows it.
  no_memory : IsEnabled mirror (mirror_at 0) (mirrored.w some (what.Take FsBios Ordinary)) → ⊥
  unfolding upd
  no_memory = not_next _ _ _ 0 refl (λ can. true≢false (sym can.needs.1.0))

  -- Spares: there is one.
  no_spare : IsEnabled mirror (mirror_at 6) (mirrored.w some (what.Try (Bios mirrored.m) Spare)) → ⊥
  unfolding upd
  no_spare = not_next _ _ _ 0 refl (λ can. absurd (omega (arith, can.needs.1.0)))

  -- Misses: there is no spare.
  spare_is_there : IsEnabled one_write (with_pool (one_at 0) 65 (opened 2 entry)) (one.by_writer some (what.Take FsBios Missed)) → ⊥
  unfolding upd
  spare_is_there = not_next _ _ _ 0 refl (λ can. has_spares (opened 2 entry) true (omega arith) (omega arith) can.needs.1)

  -- Misses of attempts that wait: each uses up an entry of the script. One that uses none is no event, without a spare and with all out.
  no_entry : IsEnabled (unrescued.scene some) (unrescued.stuck some) (mirrored.w some (what.Take (Bios mirrored.m) Missed)) → ⊥
  unfolding upd
  no_entry = not_next _ _ _ 0 refl (λ can. true≢false can.needs.1.1)

  no_entry_for_more : IsEnabled one_write (with_pool (one_at 0) 65 all_out) (one.by_writer some (what.Take FsBios Missed)) → ⊥
  unfolding upd
  no_entry_for_more = not_next _ _ _ 0 refl (λ can. true≢false can.needs.1.1)

  -- Takes: no more elements are out than can be counted.
  no_more_ordinary : IsEnabled one_write (with_pool (one_at 0) 65 all_out) (one.by_writer some (what.Take FsBios Ordinary)) → ⊥
  unfolding upd
  no_more_ordinary = not_next _ _ _ 0 refl (λ can. absurd (omega (arith, can.needs.1.1)))

  no_more_spares : IsEnabled one_write (with_pool (one_at 0) 65 all_out) (one.by_writer some (what.Take FsBios Spare)) → ⊥
  unfolding upd
  no_more_spares = not_next _ _ _ 0 refl (λ can. absurd (omega (arith, can.needs.1.1)))

  -- Vectors: a write takes one if it has more than four segments, and before its node is linked.
  abbrev long : Todo
  long = record { number = 0; round = 0; write = record { task = 0; dev = a; start = 0; count = 33; tag = 0 } }

  no_vector : IsEnabled one_write (one_at 1) (one.by_writer some (what.Take FsVecs Ordinary)) → ⊥
  unfolding upd
  no_vector = not_next _ _ _ 0 refl (λ can. can.needs)

  vector_first : (bio : Item Pad)
      → IsEnabled one_write (with_task (one_at 1) 0 (Writer 0 (long ∷ []) (HasBio bio) rests)) (one.by_writer some (what.Link 0 how.Write 0)) → ⊥
  unfolding upd
  vector_first bio = not_next _ _ _ 0 refl (λ can. can.needs)

  -- Takes at a mirror: the record first, then a bio for each leg, of the mirror's pool.
  record_first : IsEnabled mirror (mirror_at 2) (mirrored.w some (what.Take (Bios mirrored.m) Spare)) → ⊥
  unfolding upd
  record_first = not_next _ _ _ 0 refl (λ can. cc)

  of_another_pool : IsEnabled mirror (mirror_at 4) (mirrored.w some (what.Take FsBios Spare)) → ⊥
  unfolding upd
  of_another_pool = not_next _ _ _ 0 refl (λ can. cc)

  -- Gives: something is out, and it goes to its own pool.
  nothing_is_out : IsEnabled one_write (with_pool (one_at 5) 65 (opened 2 entry)) (one.by_completer some (what.Give FsBios)) → ⊥
  unfolding upd
  nothing_is_out = not_next _ _ _ 1 refl (λ can. absurd (omega (arith, can.needs.1)))

  to_another_pool : IsEnabled one_write (one_at 5) (one.by_completer some (what.Give FsVecs)) → ⊥
  unfolding upd
  to_another_pool = not_next _ _ _ 1 refl (λ can. cc)

  -- Attempts that do not wait: the set has a rescuer, and one of the two lists has a bio.
  no_bio_waits : IsEnabled mirror (mirror_at 4) (mirrored.w some (what.Try (Bios mirrored.m) Spare)) → ⊥
  unfolding upd
  no_bio_waits = not_next _ _ _ 0 refl (λ can. can.needs)

  no_rescuer : IsEnabled (unrescued.scene some) (unrescued.stuck some) (mirrored.w some (what.Try (Bios mirrored.m) Missed)) → ⊥
  unfolding upd
  no_rescuer = not_next _ _ _ 0 refl (λ can. can.needs)

  -- Attempts that wait: where it is otherwise, only behind a missed one that did not, and behind the punt that follows.
  a_bio_waits : IsEnabled mirror (mirror_at 6) (mirrored.w some (what.Take (Bios mirrored.m) Missed)) → ⊥
  unfolding upd
  a_bio_waits = not_next _ _ _ 0 refl (λ can. can.needs)

  not_before_the_punt : IsEnabled mirror (mirror_at 7) (mirrored.w some (what.Take (Bios mirrored.m) Missed)) → ⊥
  unfolding upd
  not_before_the_punt = not_next _ _ _ 0 refl (λ can. can.needs)

  not_without_waiting_again : IsEnabled mirror (mirror_at 8) (mirrored.w some (what.Try (Bios mirrored.m) Missed)) → ⊥
  unfolding upd
  not_without_waiting_again = not_next _ _ _ 0 refl (λ can. can.needs)

  -- WantsPunt: an attempt has missed, and all bios of the set go.
  no_miss : IsEnabled mirror (mirror_at 6) (mirrored.w some (what.Punt mirrored.m 1)) → ⊥
  unfolding upd
  no_miss = not_next _ _ _ 0 refl (λ can. can.needs)

  not_two : IsEnabled mirror (mirror_at 7) (mirrored.w some (what.Punt mirrored.m 2)) → ⊥
  unfolding upd
  not_two = not_next _ _ _ 0 refl (λ can. absurd (omega (arith, can.needs.1)))

  -- Pops: the rescuer's list has a bio.
  nothing_was_punted : IsEnabled mirror (mirror_at 0) (mirrored.r some (what.Pop mirrored.m)) → ⊥
  unfolding upd
  nothing_was_punted = not_next _ _ _ 1 refl (λ can. absurd (omega (arith, can.needs.1)))

  -- Pushes: of the bio at hand, as it is. What is left of a bio that is cut comes behind its first piece.
  rest_waits : IsEnabled cuts (cut_at 6) (cut.w some (what.Push (device_at 0) 7 1 0)) → ⊥
  unfolding upd piece_end next_member slot among
  rest_waits = not_next _ _ _ 0 refl (λ can. absurd (omega (arith, can.needs.1)))

  another_sector : IsEnabled one_write (one_at 2) (one.by_writer some (what.Push a 1 1 0)) → ⊥
  unfolding upd
  another_sector = not_next _ _ _ 0 refl (λ can. absurd (omega (arith, can.needs.1)))

  -- Ends of bios: one waits in the disk at this index, and it ends as the bad ranges say.
  nothing_waits : IsEnabled one_write (one_at 0) (one.by_completer some (what.Complete a 0 Ok)) → ⊥
  unfolding upd
  nothing_waits = not_next _ _ _ 1 refl (λ can. none-some _ can.needs.1.1)

  not_at_this_index : IsEnabled one_write (one_at 3) (one.by_completer some (what.Complete a 1 Ok)) → ⊥
  unfolding upd
  not_at_this_index = not_next _ _ _ 1 refl (λ can. none-some _ can.needs.1.1)

  no_bad_range : IsEnabled one_write (one_at 3) (one.by_completer some (what.Complete a 0 Io)) → ⊥
  unfolding upd
  no_bad_range = not_next _ _ _ 1 refl (λ can. cc)

  -- Links: the place is one of the book, and vacant.
  no_such_place : IsEnabled one_write (one_at 1) (one.by_writer some (what.Link 0 how.Write 1)) → ⊥
  unfolding upd
  no_such_place = not_next _ _ _ 0 refl (λ can. none-some _ can.needs.2.1.0)

  taken_place : IsEnabled mirror (mirror_at 3) (mirrored.w some (what.Link 0 how.Master 0)) → ⊥
  unfolding upd
  taken_place = not_next _ _ _ 0 refl (λ can. cc)

  in_a_full_book : (place : ℕ) → IsEnabled one_write (with_books (one_at 1) full) (one.by_writer some (what.Link 0 how.Write place)) → ⊥
  unfolding upd
  in_a_full_book zero = not_next _ _ _ 0 refl (λ can. cc)
  in_a_full_book (suc place) = not_next _ _ _ 0 refl (λ can. none-some _ can.needs.2.1.0)

  -- Links of a child, a master and a leg: the node that they name is open.
  stray_child : IsEnabled cuts (with_books (cut_at 3) empty) (cut.w some (what.Link 0 how.Chain 1)) → ⊥
  unfolding upd piece_end next_member
  stray_child = not_next _ _ _ 0 refl (λ can. can.needs.2.1)

  stray_master : IsEnabled mirror (with_books (mirror_at 3) empty) (mirrored.w some (what.Link 0 how.Master 1)) → ⊥
  unfolding upd
  stray_master = not_next _ _ _ 0 refl (λ can. can.needs.2.1)

  stray_leg : IsEnabled mirror (with_books (mirror_at 5) empty) (mirrored.w some (what.Link 0 how.Leg 2)) → ⊥
  unfolding upd
  stray_leg = not_next _ _ _ 0 refl (λ can. can.needs.2.1)

  -- Links of a child: its parent waits for fewer ends than can be counted.
  one_end_too_many : IsEnabled cuts (with_books (cut_at 3) crowded) (cut.w some (what.Link 0 how.Chain 1)) → ⊥
  unfolding upd piece_end next_member
  one_end_too_many = not_next _ _ _ 0 refl (λ can. absurd (omega (arith, can.needs.2.1.0)))

  -- Ends that nodes are told of: the node is open.
  stray_end : IsEnabled one_write (with_books (one_at 4) empty) (one.by_completer some (what.Drop 0 0 Ok left.Left)) → ⊥
  unfolding upd
  stray_end = not_next _ _ _ 1 refl (λ can. can.needs.3.1)

  stray_close : IsEnabled one_write (with_books (one_at 4) empty) (one.by_completer some (what.Drop 0 0 Ok left.Top)) → ⊥
  unfolding upd
  stray_close = not_next _ _ _ 1 refl (λ can. can.needs.3.2)

  stray_close_of_a_child : IsEnabled mirror (with_books (mirror_at 11) empty) (mirrored.c some mirrored.a (what.Drop 0 2 Ok left.Up)) → ⊥
  unfolding upd
  stray_close_of_a_child = not_next _ _ _ 2 refl (λ can. can.needs.3.2)

  -- A node stays open while it waits for others, closes with its last end, to its parent if it has one, and with its status.
  was_its_last : IsEnabled one_write (one_at 4) (one.by_completer some (what.Drop 0 0 Ok left.Left)) → ⊥
  unfolding upd
  was_its_last = not_next _ _ _ 1 refl (λ can. absurd (omega (arith, can.needs.3.1.0)))

  waits_for_another : IsEnabled mirror (mirror_at 13) (mirrored.c some mirrored.a (what.Drop 0 1 Ok left.Up)) → ⊥
  unfolding upd
  waits_for_another = not_next _ _ _ 2 refl (λ can. absurd (omega (arith, can.needs.3.2.0)))

  has_no_parent : IsEnabled one_write (one_at 4) (one.by_completer some (what.Drop 0 0 Ok left.Up)) → ⊥
  unfolding upd
  has_no_parent = not_next _ _ _ 1 refl (λ can. true≢false (sym can.needs.3.2.1))

  has_a_parent : IsEnabled mirror (mirror_at 11) (mirrored.c some mirrored.a (what.Drop 0 2 Ok left.Top)) → ⊥
  unfolding upd
  has_a_parent = not_next _ _ _ 2 refl (λ can. none-some _ (sym can.needs.3.2.1))

  ended_otherwise : IsEnabled one_write (one_at 4) (one.by_completer some (what.Drop 0 0 Io left.Top)) → ⊥
  unfolding upd
  ended_otherwise = not_next _ _ _ 1 refl (λ can. cc)

  -- Ends of writes: what the closed node held is back, and the write ends as its node did.
  gives_first : IsEnabled one_write (one_at 5) (one.by_completer some (what.Done 0 Ok)) → ⊥
  unfolding upd
  gives_first = not_next _ _ _ 1 refl (λ can. can.needs)

  done_otherwise : IsEnabled one_write (one_at 6) (one.by_completer some (what.Done 0 Io)) → ⊥
  unfolding upd
  done_otherwise = not_next _ _ _ 1 refl (λ can. cc)

  -- Writes: their round has come.
  before_its_round : IsEnabled two_rounds (rounds_at 0) (rounds.w some 1 (what.Take FsBios Spare)) → ⊥
  unfolding upd
  before_its_round = not_next _ _ _ 1 refl (λ can. true≢false (sym can.sees))

  -- Resizes: every write before the round is done, and nothing is out.
  unfinished_at_a_resize : IsEnabled two_rounds (rounds_at 0) (rounds.k some (what.Resize FsBios 3)) → ⊥
  unfolding upd
  unfinished_at_a_resize = not_next _ _ _ 3 refl (λ can. true≢false (sym can.sees))

  one_is_out : IsEnabled two_rounds (with_pool (rounds_at 7) 65 bare) (rounds.k some (what.Resize FsBios 3)) → ⊥
  unfolding upd
  one_is_out = not_next _ _ _ 3 refl (λ can. absurd (omega (arith, can.needs.2)))

  -- Rounds: the resizes before it are made, every write before it is done, and it is the next one, which is there.
  resize_is_open : IsEnabled two_rounds (rounds_at 7) (rounds.k some (what.Round 1)) → ⊥
  unfolding upd
  resize_is_open = not_next _ _ _ 3 refl (λ can. can.needs)

  unfinished_at_a_round : IsEnabled two_rounds (with_task (rounds_at 0) 3 (Keeper (Keeps (Starts 1 1 ∷ [])))) (rounds.k some (what.Round 1)) → ⊥
  unfolding upd
  unfinished_at_a_round = not_next _ _ _ 3 refl (λ can. true≢false (sym can.sees))

  not_the_next : IsEnabled two_rounds (rounds_at 8) (rounds.k some (what.Round 2)) → ⊥
  unfolding upd
  not_the_next = not_next _ _ _ 3 refl (λ can. absurd (omega (arith, can.needs.0)))

  was_the_last : IsEnabled two_rounds (with_tally (rounds_at 8) (record { round = 0; left = 1 ∷ []; statuses = [] })) (rounds.k some (what.Round 1)) → ⊥
  unfolding upd
  was_the_last = not_next _ _ _ 3 refl (λ can. absurd (omega (arith, can.needs.1)))

-- Whether an attempt waits goes by both lists.
abbrev rescued : Setup
rescued = record { count = 1; tree = λ dev. Leaf dev 8; rescuer = λ dev. true; places = λ writer. 0 }

module _ (item : Item Pad) where
  abbrev dev : DevId
  dev = record { 0 = 0 }

  without_bios : waits_first (rescued.rescuer dev.0) no_lists ≡ true
  without_bios = refl

  with_list0 : waits_first (rescued.rescuer dev.0) (record { list0 = item ∷ []; list1 = [] }) ≡ false
  with_list0 = refl

  with_list1 : waits_first (rescued.rescuer dev.0) (record { list0 = []; list1 = item ∷ [] }) ≡ false
  with_list1 = refl

  without_rescuer : waits_first ((record rescued { rescuer = λ dev. false }).rescuer dev.0) (record { list0 = item ∷ []; list1 = item ∷ [] }) ≡ true
  without_rescuer = refl

-- behind a miss, an attempt that waits is made again, and one that does not is followed by a punt
again : after_miss true ≡ Takes true
again = refl

punts : after_miss false ≡ WantsPunt
punts = refl
