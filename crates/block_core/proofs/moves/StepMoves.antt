-- Each step of a run is one of the events.
use Rattle.std.proofs.Common.{◌≡◌, ◌<◌, ◌==◌, ℕ, Bool, true, false, List, [], ◌∷◌, Some, refl, sym, ◌∙◌, ap, subst, arith, cond}
use Rattle.std.specs.Prelude.{sum}
use Rattle.std.proofs.lemmas.Option.{none-some}
use Rattle.stack_base.specs.declared.ids.DevId.{DevId}
use Rattle.stack_base.specs.declared.ids.PoolId.{PoolId}
use Rattle.stack_base.specs.PoolId.{pool_number}
use Rattle.mempool_core.specs.Move.{after_move, resizes}
use Rattle.bio_records.specs.declared.tasks.TaskLists.{TaskLists}
use Rattle.bio_lists.specs.Submission.{no_lists}
use Rattle.bio_books.specs.Books.{told}
use Rattle.run_machine.specs.Maps.{upd}
use Rattle.run_machine.specs.Scene.{Scene}
use Rattle.run_machine.specs.Submissions.{Doing, Rests, Drives, Copies, Breaks, rests}
use Rattle.run_machine.specs.Tasks.{TaskState, Writer, Rescuer, Completer, Keeper, Keeping, Keeps, Stops, Duty, Resizes, Starts, Empty, Brings, Carries, Fails}
use Rattle.run_machine.specs.Runs.{State}
use Rattle.block_core.proofs.moves.Moves as moves
use Rattle.block_core.proofs.sound.Invariant.{TaskIsSound, LedgersAreNumbered, Invariant}
use Rattle.run_machine.specs.declared.event.Event.{Event}
use Rattle.run_machine.specs.declared.event.What.{What}
use Rattle.run_machine.specs.Events.{resize_of}
use Rattle.run_machine.specs.Requests as requests
use Rattle.run_machine.specs.Requests.{Reply}
use Rattle.run_machine.specs.Tasks.{answered, look_of, later_of, after_resize}
use Rattle.run_machine.specs.Runs.{IsLet, Steps}
use Rattle.block_core.proofs.moves.StepsTold.{IsMove, touch_in, paid_in, state_is, its_end, Goes, Moved}
use Rattle.block_core.proofs.moves.SubmissionSteps.{submits}
use Rattle.block_core.proofs.moves.WriterSteps.{writes}
use Rattle.block_core.proofs.moves.CompleterSteps.{completes, ends_bio, carries}

module _ (scene : Scene) (s : State) (f : LedgersAreNumbered scene) (i : Invariant scene s) (place : ℕ) (here : place < scene.tasks) (what : What) (new : State) where
  pops : (dev : DevId) → s.task place ≡ Rescuer dev rests → dev.0 < scene.setup.count → (reply : Reply) → Moved scene s place what new (Rescuer dev rests) reply
  pops dev is lt (requests.Popped bio) told serves goes =
      record { move = moves.Pops place dev bio (new.objects.rescue dev.0); can = (here, is, lt, serves.0); is = state_is new _ _ serves.1 goes; at = refl; touches = sym (ap touch_in told); pays = λ was_master. sym (ap (paid_in (its_end s place was_master)) told) }
  pops dev is lt requests.Nothing told serves goes = absurd (none-some what told)
  pops dev is lt _ told serves goes = absurd serves

  rescues : (dev : DevId) (doing : Doing) (lists : TaskLists) → s.task place ≡ Rescuer dev (record { doing = doing; lists = lists })
      → TaskIsSound scene (Rescuer dev (record { doing = doing; lists = lists })) → (reply : Reply) → Moved scene s place what new (Rescuer dev (record { doing = doing; lists = lists })) reply
  rescues dev Rests lists is fits reply told serves goes =
      let same : lists ≡ no_lists = fits.1 in
      let Q : TaskLists → Type 0 = λ l. Goes s place new (answered scene.setup (Rescuer dev (record { doing = Rests; lists = l })) reply) in
      pops dev (is ∙ ap (λ l. Rescuer dev (record { doing = Rests; lists = l })) same) fits.0 reply told serves (subst Q same goes)
  rescues dev (Drives bio ask) lists is fits reply told serves goes =
      submits scene s f i place here what new (Rescuer dev (record { doing = Drives bio ask; lists = lists })) (Drives bio ask) lists is refl fits reply told serves goes
  rescues dev (Copies bio master leg want) lists is fits reply told serves goes =
      submits scene s f i place here what new (Rescuer dev (record { doing = Copies bio master leg want; lists = lists })) (Copies bio master leg want) lists is refl fits reply told serves goes
  rescues dev (Breaks breach kept) lists is fits reply told serves goes = absurd fits.1

  seen_left : (duty : Duty) (duties : List Duty) → IsLet scene.ledger s.objects (Keeper (Keeps (duty ∷ duties))) (Some requests.LookLeft) → sum s.objects.tally.left ≡ later_of duty
  seen_left duty duties (requests.LeftOver count, served, lets_it) = let a = lets_it in let same = served.0 in search (a, same, arith)
  seen_left duty duties (_, served, lets_it) = absurd served

  keeps_pool : (pool : PoolId) (min later : ℕ) (duties : List Duty) → s.task place ≡ Keeper (Keeps (Resizes pool min later ∷ duties)) → sum s.objects.tally.left ≡ later → (out : ℕ) (none : Bool) → (out == 0) ≡ none
      → resize_of none pool min ≡ Some what → out ≡ (s.objects.pool (pool_number pool)).facts.out
      → new.objects ≡ cond none (record s.objects { pool = upd s.objects.pool (pool_number pool) (after_move (s.objects.pool (pool_number pool)) (resizes min)) }) s.objects
      → Goes s place new (Keeper (after_resize none pool out duties)) → IsMove scene s place what new
  keeps_pool pool min later duties is done out true zero_out told out_is objects goes =
      let z : out ≡ 0 = search (zero_out, arith) in
      record { move = moves.Resized place pool min later duties; can = (here, is, sym out_is ∙ z, done); is = state_is new _ _ objects goes; at = refl; touches = sym (ap touch_in told); pays = λ was_master. sym (ap (paid_in (its_end s place was_master)) told) }
  keeps_pool pool min later duties is done out false some told out_is objects goes = absurd (none-some what told)

  keeps_on : (keeping : Keeping) → s.task place ≡ Keeper keeping → TaskIsSound scene (Keeper keeping) → IsLet scene.ledger s.objects (Keeper keeping) (look_of (Keeper keeping)) → (reply : Reply) → Moved scene s place what new (Keeper keeping) reply
  keeps_on (Keeps []) is fits see reply told serves goes = absurd serves
  keeps_on (Keeps (Resizes pool min later ∷ duties)) is fits see (requests.OutIs out) told serves goes =
      keeps_pool pool min later duties is (seen_left (Resizes pool min later) duties see) out (out == 0) refl told serves.0 serves.1 goes
  keeps_on (Keeps (Resizes pool min later ∷ duties)) is fits see _ told serves goes = absurd serves
  keeps_on (Keeps (Starts round later ∷ duties)) is fits see requests.Did told serves goes =
      record { move = moves.Started place round later duties; can = (here, is, serves.0, seen_left (Starts round later) duties see); is = state_is new _ _ serves.1 goes; at = refl; touches = sym (ap touch_in told); pays = λ was_master. sym (ap (paid_in (its_end s place was_master)) told) }
  keeps_on (Keeps (Starts round later ∷ duties)) is fits see _ told serves goes = absurd serves
  keeps_on (Stops breach) is fits see reply told serves goes = absurd fits

  moved : (x : TaskState) → s.task place ≡ x → TaskIsSound scene x → IsLet scene.ledger s.objects x (look_of x) → (reply : Reply) → Moved scene s place what new x reply
  moved (Writer number todo taken submission) is fits see reply told serves goes = writes scene s f i place here what new number todo taken submission.doing submission.lists is fits see reply told serves goes
  moved (Rescuer dev submission) is fits see reply told serves goes = rescues dev submission.doing submission.lists is fits reply told serves goes
  moved (Completer disk Empty) is fits see reply told serves goes = completes scene s f i place here what new disk is fits reply told serves goes
  moved (Completer disk (Brings bio status)) is fits see reply told serves goes = ends_bio scene s f i place here what new disk bio status is reply told serves goes
  moved (Completer disk (Carries writer closed)) is fits see reply told serves goes =
      carries scene s f i place here what new disk writer closed.held.vector closed.held.bio closed.held.slip closed.parent closed.write closed.status is reply told serves goes
  moved (Completer disk (Fails breach kept)) is fits see reply told serves goes = absurd serves
  moved (Keeper keeping) is fits see reply told serves goes = keeps_on keeping is fits see reply told serves goes

pub step_is_move : (scene : Scene) (s : State) → LedgersAreNumbered scene → Invariant scene s → (place : ℕ) (event : Event) (new : State)
    → Steps scene s place event new → IsMove scene s place event.what new
step_is_move scene s f i place event new steps =
    moved scene s f i place steps.here event.what new (s.task place) refl (i.tasks place) steps.is_let steps.reply steps.told steps.serves steps.goes_on
