-- A task that found nothing is as before.
use Rattle.std.proofs.Common.{◌≡◌, ℕ, List, [], ◌∷◌, refl, sym, ◌∙◌, ap}
use Rattle.stack_base.specs.declared.ids.DevId.{DevId}
use Rattle.run_machine.specs.Submissions.{Doing, Rests, Drives, Copies, Breaks, Driving, ToPush, ToCut, ToRecord, ToMaster, Want, Takes, WantsPunt, Links, Submission, submission_answered}
use Rattle.run_machine.specs.Requests.{Nothing}
use Rattle.run_machine.specs.Scene.{Setup}
use Rattle.run_machine.specs.Tasks.{Todo, Gathered, NoBio, HasBio, HasBoth, Carried, Empty, Brings, Carries, Fails, Duty, Resizes, Starts, Keeping, Keeps, Stops, TaskState, Writer, Rescuer, Completer, Keeper, answered, carried_answered, keeper_answered, writer_answered, write_answered, rescuer_answered}

submission_idle : (setup : Setup) (doing : Doing) (submission : Submission) → submission_answered setup doing submission.lists Nothing ≡ record { doing = doing; lists = submission.lists }
-- no submission
submission_idle setup Rests submission = refl
-- a bio that is driven
submission_idle setup (Drives bio ToPush) submission = refl
submission_idle setup (Drives bio (ToCut (Takes waits))) submission = refl
submission_idle setup (Drives bio (ToCut WantsPunt)) submission = refl
submission_idle setup (Drives bio (ToCut (Links hand))) submission = refl
submission_idle setup (Drives bio ToRecord) submission = refl
submission_idle setup (Drives bio (ToMaster slip)) submission = refl
-- copies for the legs of a mirror
submission_idle setup (Copies bio master leg (Takes waits)) submission = refl
submission_idle setup (Copies bio master leg WantsPunt) submission = refl
submission_idle setup (Copies bio master leg (Links hand)) submission = refl
-- a submission that broke off
submission_idle setup (Breaks breach kept) submission = refl

write_idle : (setup : Setup) (writer : ℕ) (todo : List Todo) (taken : Gathered) (submission : Submission) → write_answered setup writer todo taken submission Nothing ≡ Writer writer todo taken submission
write_idle setup writer [] taken submission = refl
write_idle setup writer (todo ∷ later) NoBio submission = refl
write_idle setup writer (todo ∷ later) (HasBio bio) submission = refl
write_idle setup writer (todo ∷ later) (HasBoth bio vector) submission = refl

writer_idle : (setup : Setup) (writer : ℕ) (todo : List Todo) (taken : Gathered) (doing : Doing) (submission : Submission) → submission.doing ≡ doing
    → writer_answered setup writer todo taken doing submission Nothing ≡ Writer writer todo taken submission
writer_idle setup writer todo taken Rests submission e = write_idle setup writer todo taken submission
writer_idle setup writer todo taken doing submission e = ap (Writer writer todo taken) (submission_idle setup doing submission ∙ ap (λ d. record { doing = d; lists = submission.lists }) (sym e))

rescuer_idle : (setup : Setup) (dev : DevId) (doing : Doing) (submission : Submission) → submission.doing ≡ doing → rescuer_answered setup dev doing submission Nothing ≡ Rescuer dev submission
rescuer_idle setup dev Rests submission e = refl
rescuer_idle setup dev doing submission e = ap (Rescuer dev) (submission_idle setup doing submission ∙ ap (λ d. record { doing = d; lists = submission.lists }) (sym e))

carried_idle : (carried : Carried) → carried_answered carried Nothing ≡ carried
carried_idle Empty = refl
carried_idle (Brings bio status) = refl
carried_idle (Carries writer closed) = refl
carried_idle (Fails breach kept) = refl

keeper_idle : (keeping : Keeping) → keeper_answered keeping Nothing ≡ keeping
keeper_idle (Keeps []) = refl
keeper_idle (Keeps (Resizes pool min later ∷ duties)) = refl
keeper_idle (Keeps (Starts round later ∷ duties)) = refl
keeper_idle (Stops breach) = refl

pub idle : (setup : Setup) (task : TaskState) → answered setup task Nothing ≡ task
idle setup (Writer number todo taken submission) = writer_idle setup number todo taken submission.doing submission refl
idle setup (Rescuer dev submission) = rescuer_idle setup dev submission.doing submission refl
idle setup (Completer disk carried) = ap (Completer disk) (carried_idle carried)
idle setup (Keeper keeping) = ap Keeper (keeper_idle keeping)
