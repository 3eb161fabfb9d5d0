-- What tasks have in hand: something for the first of a writer's writes, and no completer fails.
use Rattle.std.proofs.Common.{◌≡◌, ℕ, false, List, [], ◌∷◌, refl, sym, ap, subst}
use Rattle.bio_records.specs.declared.tasks.TaskLists.{TaskLists}
use Rattle.run_machine.specs.declared.event.Event.{Event}
use Rattle.run_machine.specs.Maps.{upd}
use Rattle.run_machine.specs.Scene.{Scene}
use Rattle.run_machine.specs.Submissions.{Doing, Submission}
use Rattle.run_machine.specs.Tasks.{TaskState, Writer, Rescuer, Completer, Keeper, Todo, Gathered, NoBio, HasBio, HasBoth, is_broken}
use Rattle.run_machine.specs.Opened.{scene, todos, duties}
use Rattle.run_machine.specs.Runs.{State, IsRun}
use Rattle.block_core.proofs.moves.Moves.{Move, Can, after, HasSubmission, with_submission}
use Rattle.block_core.proofs.moves.Moves as moves
use Rattle.block_core.proofs.sound.Invariant.{LedgersAreNumbered}
use Rattle.block_core.proofs.sound.Orders.{DeviceGeometry}
use Rattle.block_core.proofs.sound.TaskSubmissions.{all-upd}
use Rattle.block_core.proofs.moves.StepMoves.{step_is_move}
use Rattle.block_core.proofs.start.InvariantAtStart.{Begins}
use Rattle.block_core.proofs.sound.EveryRun.{IsReachedWhole, runs_whole}

-- something is taken for a write alone
abbrev pub IsForOne : List Todo → Gathered → Type 0
IsForOne todos NoBio = Unit {0}
IsForOne [] (HasBio item) = ⊥
IsForOne (todo ∷ later) (HasBio item) = Unit {0}
IsForOne [] (HasBoth item vector) = ⊥
IsForOne (todo ∷ later) (HasBoth item vector) = Unit {0}

-- and a completer never fails
abbrev pub GoesOnCarrying : TaskState → Type 0
GoesOnCarrying (Writer number todo taken submission) = IsForOne todo taken
GoesOnCarrying (Rescuer dev submission) = Unit {0}
GoesOnCarrying (Completer disk carried) = is_broken (Completer disk carried) ≡ false
GoesOnCarrying (Keeper keeping) = Unit {0}

lined : (x : TaskState) (doing : Doing) (lists : TaskLists) (submission : Submission) → HasSubmission x doing lists → GoesOnCarrying x
    → GoesOnCarrying (with_submission x submission)
lined (Writer number todo taken old) doing lists submission h on = on
lined (Rescuer dev old) doing lists submission h on = tt
lined (Completer disk carried) doing lists submission h on = absurd h
lined (Keeper keeping) doing lists submission h on = tt

module _ (scene : Scene) (s : State) (all : (place : ℕ) → GoesOnCarrying (s.task place)) where
  goes : (place : ℕ) (y : TaskState) → GoesOnCarrying y → (other : ℕ) → GoesOnCarrying (upd s.task place y other)
  goes place y on = all-upd GoesOnCarrying s.task place y all on

  carries_on : (m : Move) → Can scene s m → (other : ℕ) → GoesOnCarrying ((after scene s m).task other)
  -- takes and misses
  carries_on (moves.TakesFirst place writer todo later move) c = goes place _ tt
  carries_on (moves.TakesVector place writer todo later item move) c = goes place _ tt
  carries_on (moves.TakesSub place x doing lists dev waits move) c = goes place _ (lined x doing lists _ c.2 (subst GoesOnCarrying c.1 (all place)))
  carries_on (moves.TakesSlip place x bio lists move) c = goes place _ (lined x _ lists _ c.2 (subst GoesOnCarrying c.1 (all place)))
  carries_on (moves.MissesOne place x number used) c = goes place x (subst GoesOnCarrying c.1 (all place))
  carries_on (moves.MissesTry place x doing lists dev used) c = goes place _ (lined x doing lists _ c.2 (subst GoesOnCarrying c.1 (all place)))
  -- rescuers
  carries_on (moves.Punts place x doing lists dev) c = goes place _ (lined x doing lists _ c.2 (subst GoesOnCarrying c.1 (all place)))
  carries_on (moves.Pops place dev bio bios) c = goes place _ tt
  -- disks
  carries_on (moves.Pushes place x bio lists) c = goes place _ (lined x _ lists _ c.2 (subst GoesOnCarrying c.1 (all place)))
  carries_on (moves.Completed place disk index bio status new) c = goes place _ refl
  -- nodes that are opened
  carries_on (moves.Begins place writer todo later item vector key) c = goes place _ tt
  carries_on (moves.Chained place x bio lists hand number kind sizes members key node) c = goes place _ (lined x _ lists _ c.2 (subst GoesOnCarrying c.1 (all place)))
  carries_on (moves.Mastered place x bio lists slip key node) c = goes place _ (lined x _ lists _ c.2 (subst GoesOnCarrying c.1 (all place)))
  carries_on (moves.Legged place x bio lists master leg hand key node) c = goes place _ (lined x _ lists _ c.2 (subst GoesOnCarrying c.1 (all place)))
  -- nodes that are left, and what they held
  carries_on (moves.Told place disk carried writer key status part node) c = goes place _ refl
  carries_on (moves.Closes place disk carried writer key status part node) c = goes place _ refl
  carries_on (moves.Gives place disk writer number closed held) c = goes place _ refl
  carries_on (moves.Ends place disk writer closed) c = goes place _ refl
  -- the keeper
  carries_on (moves.Resized place pool min later duties) c = goes place _ tt
  carries_on (moves.Started place round later duties) c = goes place _ tt

module _ (scene : Scene) (f : LedgersAreNumbered scene) (g : DeviceGeometry scene.setup) where
  pub runs_on : (s : State) (events : List Event) (new : State) → IsReachedWhole scene s → ((place : ℕ) → GoesOnCarrying (s.task place)) → IsRun scene s events new
      → (place : ℕ) → GoesOnCarrying (new.task place)
  runs_on s [] new i all run = subst (λ (x : State). (place : ℕ) → GoesOnCarrying (x.task place)) (sym run) all
  runs_on s (event ∷ events) new i all (next, (place, steps), run) =
      let j = runs_whole scene f g s (event ∷ []) next i (next, (place, steps), refl) in
      let moved = step_is_move scene s f i.kept place event next steps in
      runs_on next events new j
      (subst (λ (x : State). (place : ℕ) → GoesOnCarrying (x.task place)) (sym moved.is) (carries_on scene s all moved.move moved.can)) run

pub begins_on : (scene : Scene) (x : TaskState) → Begins scene x → GoesOnCarrying x
begins_on scene (Writer number todo taken submission) b = subst (IsForOne todo) (sym b.1) tt
begins_on scene (Rescuer dev submission) b = tt
begins_on scene (Completer disk carried) b = ap (λ c. is_broken (Completer disk c)) b.1
begins_on scene (Keeper keeping) b = tt
