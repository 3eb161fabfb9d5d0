-- Marks are how the runs of the bios may end that nodes were opened for.
use Rattle.std.proofs.Common.{◌≡◌, ℕ, true, false, inl, inr, refl, sym, ◌∙◌, ap, subst}
use Rattle.stack_base.specs.declared.ids.Status.{Status}
use Rattle.layout_model.specs.declared.fragment.Fragment.{Fragment}
use Rattle.bio_records.specs.declared.bio.Bio.{Bio}
use Rattle.bio_records.specs.declared.tasks.TaskLists.{TaskLists}
use Rattle.run_machine.specs.Scene.{Setup, Scene, tree_at}
use Rattle.run_machine.specs.Submissions.{Links, ToCut, ToMaster, Doing, Rests, Drives, Copies, Breaks, first_length, leg_at}
use Rattle.run_machine.specs.Tasks.{Todo, TaskState, Writer, Rescuer, Completer, Keeper, first_bio}
use Rattle.run_machine.specs.Runs.{State}
use Rattle.block_core.specs.NodeBios.{first_piece, submission_opens, writer_opens, opened_for, bios_after}
use Rattle.block_core.proofs.moves.VacantMarks.{with_mark, mark_here, mark_other}
use Rattle.block_core.proofs.moves.Moves.{Move, place_of, touch_by, Can, HasSubmission, piece}
use Rattle.block_core.proofs.moves.Moves as moves
use Rattle.block_core.proofs.sound.TaskSubmissions.{IsBusy}
use Rattle.block_core.proofs.status.Marks.{Mark, bio_may, todo_may}
use Rattle.block_core.proofs.status.AtOneNode.{here_or}
use Rattle.block_core.proofs.status.MarksBehind.{new_mark, marks_by}

abbrev pub AreOfBios : Setup → (Fragment → Status) → (ℕ → ℕ → Mark) → (ℕ → ℕ → Bio) → Type 0
AreOfBios setup ends mark bios = (w k : ℕ) → (mark w k).ends ≡ bio_may setup ends (bios w k)

-- a task that submits opens a node for what its submission does
opens_submission : (setup : Setup) (x : TaskState) (doing : Doing) (lists : TaskLists) (key : ℕ) → HasSubmission x doing lists → IsBusy doing → opened_for setup x key ≡ submission_opens setup doing key
opens_submission setup (Writer number todo taken submission) doing lists key h busy = ap (λ l. opened_for setup (Writer number todo taken l) key) h ∙ by_doing doing busy
  where
    by_doing : (doing : Doing) → IsBusy doing → writer_opens setup number doing todo key ≡ submission_opens setup doing key
    by_doing Rests busy = absurd busy
    by_doing (Drives bio ask) busy = refl
    by_doing (Copies bio master leg want) busy = refl
    by_doing (Breaks breach kept) busy = refl
opens_submission setup (Rescuer dev submission) doing lists key h busy = ap (λ l. opened_for setup (Rescuer dev l) key) h
opens_submission setup (Completer disk carried) doing lists key h busy = absurd h
opens_submission setup (Keeper keeping) doing lists key h busy = absurd h

module _ (scene : Scene) (ends : Fragment → Status) (s : State) (mark : ℕ → ℕ → Mark) (bios : ℕ → ℕ → Bio) (tied : AreOfBios scene.setup ends mark bios) where
  abbrev setup : Setup
  setup = scene.setup

  with_one : (writer key : ℕ) (new : Mark) (bio : Bio) → new.ends ≡ bio_may setup ends bio → AreOfBios setup ends (with_mark mark writer key new) (with_mark bios writer key bio)
  with_one writer key new bio is w k = elim (here_or writer w key k) [
    | inl same ↦
        let P : ℕ → ℕ → Type 0 = λ w k. (with_mark mark writer key new w k).ends ≡ bio_may setup ends (with_mark bios writer key bio w k) in
        let here : P writer key = ap (λ (m : Mark). m.ends) (mark_here mark writer key new) ∙ is ∙ sym (ap (bio_may setup ends) (mark_here bios writer key bio)) in
        subst (λ x. P x k) (sym same.0) (subst (P writer) (sym same.1) here)
    | inr other ↦
        ap (λ (m : Mark). m.ends) (mark_other mark writer key new w k other) ∙ tied w k ∙ sym (ap (bio_may setup ends) (mark_other bios writer key bio w k other))
  ]

  -- a write's bio is all of it
  first_may : (writer : ℕ) (todo : Todo) (key : ℕ) → todo_may setup ends todo ≡ bio_may setup ends (first_bio writer todo key)
  first_may writer todo key = refl

  abbrev After : Move → Type 0
  After m = AreOfBios setup ends (marks_by setup ends mark m) (bios_after setup (s.task (place_of m)) (touch_by m) bios)

  pub stays_of_bios : (m : Move) → Can scene s m → After m
  -- links of writes: the top node is opened for all of the write
  stays_of_bios (moves.Begins place writer todo later item vector key) c =
      let at : opened_for setup (s.task place) key ≡ first_bio writer todo key = ap (λ x. opened_for setup x key) c.1 in
      with_one writer key (new_mark false (todo_may setup ends todo)) (opened_for setup (s.task place) key) (first_may writer todo key ∙ sym (ap (bio_may setup ends) at))
  -- links of pieces: the new node is opened for the first piece of the bio
  stays_of_bios (moves.Chained place x bio lists hand number kind sizes members key node) c =
      let child : Bio = (piece bio hand (first_length kind sizes bio.bio.range) key kind sizes members).bio in
      let at : opened_for setup (s.task place) key ≡ child =
      ap (λ x. opened_for setup x key) c.1 ∙ opens_submission setup x (Drives bio (ToCut (Links hand))) lists key c.2 tt ∙ ap (first_piece bio hand key) c.3 in
      with_one bio.bio.writer key (new_mark false (bio_may setup ends child)) (opened_for setup (s.task place) key) (sym (ap (bio_may setup ends) at))
  -- links of masters: the master is opened for the bio that is copied
  stays_of_bios (moves.Mastered place x bio lists slip key node) c =
      let at : opened_for setup (s.task place) key ≡ bio.bio = ap (λ x. opened_for setup x key) c.1 ∙ opens_submission setup x (Drives bio (ToMaster slip)) lists key c.2 tt in
      with_one bio.bio.writer key (new_mark true (bio_may setup ends bio.bio)) (opened_for setup (s.task place) key) (sym (ap (bio_may setup ends) at))
  -- links of legs: the new node is opened for the bio of the leg
  stays_of_bios (moves.Legged place x bio lists master leg hand key node) c =
      let item : Bio = (leg_at bio hand leg key (tree_at setup bio.dev)).bio in
      let at : opened_for setup (s.task place) key ≡ item = ap (λ x. opened_for setup x key) c.1 ∙ opens_submission setup x (Copies bio master leg (Links hand)) lists key c.2 tt in
      with_one bio.writer key (new_mark false (bio_may setup ends item)) (opened_for setup (s.task place) key) (sym (ap (bio_may setup ends) at))
  -- all others: no node is opened
  stays_of_bios _ c = tied
