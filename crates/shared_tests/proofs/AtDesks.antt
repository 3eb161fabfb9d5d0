-- A task that is taken apart, steps at a desk, and is put together again.
use Rattle.std.proofs.Common.{◌≡◌, ◌∙◌, ℕ, ap, subst, sym}
use Rattle.task_steps.specs.declared.step.Step.{Step}
use Rattle.task_steps.specs.TaskViews.{TaskOf}
use Rattle.shared_objects.specs.Holding.{DeskHolds}
use Rattle.shared_objects.specs.Logs.{seen_by}
use Rattle.shared_objects.specs.Rans.{StepsProgress, ProgressState, RanHolds, RanState, StepsKeepTasks, TurnsWith, progress_of, ran_key, ran_of}
use Rattle.shared_objects.specs.declared.locks.Locks.{Locks}
use Rattle.shared_objects.specs.declared.seats.TaskSeats.{TaskSeats}

module _ (law : StepsKeepTasks) (ran : RanState) (holds : RanHolds ran) (locks : Locks) (home : ran.home ≡ locks) (task next : TaskOf) (task_is : task ≡ ran.task)
    (seats left back : TaskSeats) (seats_is : seats ≡ ran.seats) (back_is : back ≡ left) (step : Step) where
  turns_home : TurnsWith locks task seats next left step → TurnsWith ran.home ran.task ran.seats next back step
  turns_home turns =
      subst (λ (l : Locks). TurnsWith l ran.task ran.seats next back step) (sym home)
      (subst (λ (t : TaskOf). TurnsWith locks t ran.seats next back step) task_is
      (subst (λ (s : TaskSeats). TurnsWith locks task s next back step) seats_is
      (subst (λ (s : TaskSeats). TurnsWith locks task seats next s step) (sym back_is) turns)))

  goes_home : (seen : ℕ) (old new : ProgressState) → seen ≡ seen_by left.pass → old ≡ progress_of ran → StepsProgress step seen old new
      → StepsProgress step (seen_by back.pass) (progress_of ran) new
  goes_home seen old new seen_is old_is goes =
      subst (λ (p : ProgressState). StepsProgress step (seen_by back.pass) p new) old_is
      (subst (λ (n : ℕ). StepsProgress step n old new) (seen_is ∙ ap (λ (s : TaskSeats). seen_by s.pass) (sym back_is)) goes)

  -- what holds of it holds again, and it is the same task
  pub stands_again : TurnsWith locks task seats next left step → DeskHolds locks left → next.routing ≡ task.routing
      → (seen : ℕ) (old new : ProgressState) → seen ≡ seen_by left.pass → old ≡ progress_of ran → StepsProgress step seen old new
      → RanHolds (ran_of next back new) × (ran_key (ran_of next back new) ≡ ran_key ran)
  stands_again turns desk same seen old new seen_is old_is goes =
      law ran next back step new holds (turns_home turns)
      (subst (λ (l : Locks). DeskHolds l back) (sym home) (subst (λ (s : TaskSeats). DeskHolds locks s) (sym back_is) desk))
      (same ∙ ap (λ (t : TaskOf). t.routing) task_is) (goes_home seen old new seen_is old_is goes)
