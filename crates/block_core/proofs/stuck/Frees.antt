-- A task that does not stand still has an event that needs no ordinary memory.
use Rattle.std.proofs.Common.{◌≡◌, ◌*◌, ◌<◌, ◌≤◌, ◌⊎◌, ℕ, Bool, true, false, IsTrue, List, [], ◌∷◌, Option, None, Some, inl, inr, refl, sym, ◌∙◌, ap, subst, arith}
use Rattle.stack_base.specs.declared.ids.DevId.{DevId}
use Rattle.stack_base.proofs.NumberLemmas.{zero_or}
use Rattle.mempool_core.specs.Move.{takes_spare}
use Rattle.bio_records.specs.declared.bio.Pad.{Pad}
use Rattle.bio_records.specs.declared.tasks.TaskLists.{TaskLists}
use Rattle.bio_records.specs.Items.{Item}
use Rattle.bio_lists.specs.Submission.{no_lists}
use Rattle.bio_books.specs.Books.{VectorItem, with_node, top_node}
use Rattle.run_machine.specs.Maps.{upd}
use Rattle.run_machine.specs.Scene.{Setup, Scene}
use Rattle.run_machine.specs.Submissions.{Doing, Rests, Drives, Copies, Breaks, Submission, rests}
use Rattle.run_machine.specs.Tasks.{TaskState, Writer, Rescuer, Completer, Keeper, Todo, Gathered, NoBio, HasBio, HasBoth, Empty, Brings, Carries, Fails, filled_vector}
use Rattle.run_machine.specs.Objects.{clear_bio, clear_vector}
use Rattle.run_machine.specs.Runs.{State}
use Rattle.block_core.specs.Weights.{one_if_same}
use Rattle.block_core.proofs.moves.References.{references}
use Rattle.block_core.proofs.moves.Moves.{with_pool, with_book}
use Rattle.block_core.proofs.moves.Totals.{task_part}
use Rattle.block_core.proofs.moves.Sums.{upd-same, one-same, below_or}
use Rattle.block_core.proofs.sound.Invariant.{DoingFits, SubmissionFits, TaskIsSound, Invariant}
use Rattle.block_core.proofs.sound.TaskSubmissions.{IsBusy, rests_or_busy}
use Rattle.block_core.proofs.sound.Orders.{TaskPlaced, Placed}
use Rattle.std.specs.Prelude.{nat_le, sum_by}
use Rattle.std.proofs.lemmas.List.Sums.{sum_by-cons}
use Rattle.std.proofs.lemmas.Bool.Decides.{nat_tests}
use Rattle.bio_books.specs.Links.{Made}
use Rattle.run_machine.specs.declared.event.TaskId.{TaskId}
use Rattle.run_machine.specs.declared.event.Got.TheVariants as got
use Rattle.run_machine.specs.Requests as requests
use Rattle.run_machine.specs.Objects.{Serves}
use Rattle.run_machine.specs.Events.{what_of}
use Rattle.run_machine.specs.Tasks.{request, look_of, needs_vector, with_bio}
use Rattle.run_machine.specs.Runs.{IsLet, HasFree}
use Rattle.block_core.specs.Rooms.{todo_need, HasRoomInBooks}
use Rattle.block_core.proofs.unrefused.NodeNeeds.{Needs}
use Rattle.block_core.proofs.unrefused.VacantPlaces.{has_vacant}
use Rattle.block_core.proofs.sound.TaskPosts.{TakenFits, AtPost, Posted}
use Rattle.block_core.proofs.stuck.NothingWaits.{spares, StillDoing, StillTaken, StillWriter, StillRescuer, IsStill}
use Rattle.block_core.proofs.stuck.FreeEvents.{HasNumbers, some_needs, free_of, link_serves}
use Rattle.block_core.proofs.stuck.SubmissionsFree.{submission_free}
use Rattle.block_core.proofs.stuck.CompletersFree.{complete_free, drop_free, carries_free}

module _ (scene : Scene) (s : State) (n : Needs scene.setup) (k : Invariant scene s) (p : Placed scene.setup s) (r : HasRoomInBooks scene s) (numbers : HasNumbers s) where
  abbrev setup : Setup
  setup = scene.setup

  -- a writer that has nothing submitted
  abbrev At_rest : ℕ → List Todo → Gathered → TaskState
  At_rest number todo taken = Writer number todo taken rests

  opens_free : (place : ℕ) → place < scene.tasks → (number : ℕ) (todo : Todo) (later : List Todo) (taken : Gathered) → s.task place ≡ At_rest number (todo ∷ later) taken → number < scene.books
      → look_of (At_rest number (todo ∷ later) taken) ≡ None → (vector : Option VectorItem) → request setup (At_rest number (todo ∷ later) taken) ≡ requests.Link number (requests.Write todo.number vector) → HasFree scene s
  opens_free place here number todo later taken at lt look vector asks =
      let all = sum_by-cons (todo_need setup) todo later in
      let need = some_needs (one_if_same number number) (sum_by (todo_need setup) (todo ∷ later)) (one-same number) (omega (arith, all)) in
      let v = has_vacant scene s r place (At_rest number (todo ∷ later) taken) number here at lt (omega (arith, need)) in
      let book = with_node (s.objects.book number) v.0 (Some (top_node todo.number vector)) in
      free_of scene s place here (At_rest number (todo ∷ later) taken) at (requests.LinkedTo (Made v.0)) _ (subst (IsLet scene.ledger s.objects (At_rest number (todo ∷ later) taken)) (sym look) tt)
      (ap (λ r. what_of r (requests.LinkedTo (Made v.0))) asks) refl (with_book s.objects number book)
      (subst (λ r. Serves scene.ledger s.objects r (requests.LinkedTo (Made v.0)) (with_book s.objects number book)) (sym asks)
      (link_serves scene s number (requests.Write todo.number vector) (Made v.0) book (v.1, refl)))

  writer_free : (place : ℕ) → place < scene.tasks → (number : ℕ) (todo : List Todo) (taken : Gathered) → s.task place ≡ At_rest number todo taken → number < scene.books → TakenFits todo taken
      → HasFree scene s ⊎ StillTaken s todo taken
  writer_free place here number [] NoBio at lt fits = inr tt
  writer_free place here number (todo ∷ later) NoBio at lt fits = by_round (below_or s.objects.tally.round todo.round) (zero_or (spares s 65))
    where
      by_round : (s.objects.tally.round < todo.round) ⊎ (todo.round ≤ s.objects.tally.round) → (spares s 65 ≡ 0) ⊎ (1 ≤ spares s 65) → HasFree scene s ⊎ StillTaken s (todo ∷ later) NoBio
      by_round (inl held) spare = inr (inl held)
      by_round (inr come) (inl none) = inr (inr none)
      by_round (inr come) (inr some) =
          let open_round : IsTrue (nat_le todo.round s.objects.tally.round) = grind (arith, nat_tests, come) in
          inl (free_of scene s place here (At_rest number (todo ∷ later) NoBio) at (requests.HadBio got.Spare (clear_bio (scene.ledger 65))) _
          (requests.Present s.objects.tally.round, (refl, refl), open_round) refl refl (with_pool s.objects 65 takes_spare) (((omega (arith, some), numbers.outs 65), refl), refl))
  writer_free place here number [] (HasBio item) at lt fits = absurd fits
  writer_free place here number (todo ∷ later) (HasBio item) at lt fits = by_need (needs_vector todo.write) refl (zero_or (spares s 64))
    where
      by_need : (b : Bool) → needs_vector todo.write ≡ b → (spares s 64 ≡ 0) ⊎ (1 ≤ spares s 64) → HasFree scene s ⊎ StillTaken s (todo ∷ later) (HasBio item)
      by_need false is spare = inl (opens_free place here number todo later (HasBio item) at lt refl None (ap (λ b. with_bio number b todo) is))
      by_need true is (inl none) = inr none
      by_need true is (inr some) =
          let asks : request setup (At_rest number (todo ∷ later) (HasBio item)) ≡ requests.TakeVec = ap (λ b. with_bio number b todo) is in
          inl (free_of scene s place here (At_rest number (todo ∷ later) (HasBio item)) at (requests.HadVec got.Spare (clear_vector (scene.ledger 64))) _ tt
          (ap (λ r. what_of r (requests.HadVec got.Spare (clear_vector (scene.ledger 64)))) asks) refl (with_pool s.objects 64 takes_spare)
          (subst (λ r. Serves scene.ledger s.objects r (requests.HadVec got.Spare (clear_vector (scene.ledger 64))) (with_pool s.objects 64 takes_spare)) (sym asks)
          (((omega (arith, some), numbers.outs 64), refl), refl)))
  writer_free place here number [] (HasBoth item vector) at lt fits = absurd fits
  writer_free place here number (todo ∷ later) (HasBoth item vector) at lt fits =
      inl (opens_free place here number todo later (HasBoth item vector) at lt refl (Some (filled_vector todo vector)) refl)

  -- a rescuer at rest
  pop_free : (place : ℕ) → place < scene.tasks → (dev : DevId) → s.task place ≡ Rescuer dev rests → HasFree scene s ⊎ (s.objects.rescue dev.0 ≡ [])
  pop_free place here dev at = by_list (s.objects.rescue dev.0) refl
    where
      by_list : (bios : List (Item Pad)) → s.objects.rescue dev.0 ≡ bios → HasFree scene s ⊎ (s.objects.rescue dev.0 ≡ [])
      by_list [] is = inr is
      by_list (bio ∷ bios) is =
          let same = upd-same s.objects.rescue dev.0 bios in
          inl (free_of scene s place here (Rescuer dev rests) at (requests.Popped bio) _ tt refl refl (record s.objects { rescue = upd s.objects.rescue dev.0 bios })
          (is ∙ ap (λ l. bio ∷ l) (sym same), ap (λ l. record s.objects { rescue = upd s.objects.rescue dev.0 l }) (sym same)))

  -- a submission that rests, and one that is busy
  at_rest : (submission : Submission) → submission.doing ≡ Rests → SubmissionFits setup submission → submission ≡ rests
  at_rest submission is fits =
      let none : submission.lists ≡ no_lists = subst (λ (d : Doing). DoingFits setup d submission.lists) is fits in
      ap (λ (d : Doing). record { doing = d; lists = submission.lists }) is ∙ ap (λ (l : TaskLists). record { doing = Rests; lists = l }) none

  busy_writer : (todo : List Todo) (taken : Gathered) (doing : Doing) → IsBusy doing → StillDoing s doing → StillWriter s todo taken doing
  busy_writer todo taken Rests busy still = absurd busy
  busy_writer todo taken (Drives bio ask) busy still = still
  busy_writer todo taken (Copies bio master leg want) busy still = still
  busy_writer todo taken (Breaks breach kept) busy still = still

  busy_rescuer : (dev : ℕ) (doing : Doing) → IsBusy doing → StillDoing s doing → StillRescuer s dev doing
  busy_rescuer dev Rests busy still = absurd busy
  busy_rescuer dev (Drives bio ask) busy still = still
  busy_rescuer dev (Copies bio master leg want) busy still = still
  busy_rescuer dev (Breaks breach kept) busy still = still

  or_map : {X Y Z : Type 0} → (Y → Z) → X ⊎ Y → X ⊎ Z
  or_map more (inl x) = inl x
  or_map more (inr y) = inr (more y)

  -- each task has an event without ordinary memory, or stands still
  pub task_free : (ids : ℕ → TaskId) (keeper : ℕ) → Posted ids keeper scene s → (place : ℕ) → place < scene.tasks → HasFree scene s ⊎ IsStill s (s.task place)
  task_free ids keeper posted place here = by_task (s.task place) refl (k.tasks place) (p.tasks place) (posted.tasks place)
    where
      by_task : (x : TaskState) → s.task place ≡ x → TaskIsSound scene x → TaskPlaced setup x → AtPost ids keeper scene s.objects.tally place x → HasFree scene s ⊎ IsStill s x
      by_task (Writer number todo taken submission) at fits t post = by_submission (rests_or_busy submission.doing)
        where
          by_submission : (submission.doing ≡ Rests) ⊎ IsBusy submission.doing → HasFree scene s ⊎ StillWriter s todo taken submission.doing
          by_submission (inl is) =
              or_map (subst (StillWriter s todo taken) (sym is)) (writer_free place here number todo taken (at ∙ ap (Writer number todo taken) (at_rest submission is fits.1)) fits.0 post.1.1)
          by_submission (inr busy) =
              or_map (busy_writer todo taken submission.doing busy) (submission_free scene s n k r numbers place here (Writer number todo taken submission) at submission.doing submission.lists refl busy fits.1 t.1)
      by_task (Rescuer dev submission) at fits t post = by_submission (rests_or_busy submission.doing)
        where
          by_submission : (submission.doing ≡ Rests) ⊎ IsBusy submission.doing → HasFree scene s ⊎ StillRescuer s dev.0 submission.doing
          by_submission (inl is) = or_map (subst (StillRescuer s dev.0) (sym is)) (pop_free place here dev (at ∙ ap (Rescuer dev) (at_rest submission is fits.1)))
          by_submission (inr busy) = or_map (busy_rescuer dev.0 submission.doing busy) (submission_free scene s n k r numbers place here (Rescuer dev submission) at submission.doing submission.lists refl busy fits.1 t)
      by_task (Completer disk Empty) at fits t post = complete_free scene s k place here disk at
      by_task (Completer disk (Brings bio status)) at fits t post =
          let part = task_part scene (references setup bio.bio.writer bio.bio.node) s place (Completer disk (Brings bio status)) here at in
          let both_one : one_if_same bio.bio.writer bio.bio.writer * one_if_same bio.bio.node bio.bio.node ≡ 1 = rw (one-same bio.bio.writer, one-same bio.bio.node) refl in
          inl (drop_free scene s k place here disk (Brings bio status) at bio.bio.writer bio.bio.node status (Some bio) refl (omega (arith, part, both_one)))
      by_task (Completer disk (Carries w closed)) at fits t post =
          inl (carries_free scene s k place here disk w closed.held.vector closed.held.bio closed.held.slip closed.parent closed.write closed.status at)
      by_task (Completer disk (Fails breach kept)) at fits t post = absurd post.1
      by_task (Keeper keeping) at fits t post = inr tt
