-- What a task looks at: the present round, or how many writes are left.
use Rattle.std.proofs.Common.{◌≡◌, ◌⊎◌, inl, inr, List, ◌∷◌, Some}
use Rattle.run_machine.specs.Requests.{Request, LookRound, LookLeft}
use Rattle.run_machine.specs.Submissions.{Doing, Rests}
use Rattle.run_machine.specs.Tasks.{Todo, Gathered, NoBio, TaskState, Writer, Keeper, Keeps, writer_look, look_of}

writer_looks : (todo : List Todo) (taken : Gathered) (doing : Doing) (look : Request) → writer_look todo taken doing ≡ Some look → (look ≡ LookRound) ⊎ (look ≡ LookLeft)
writer_looks (todo ∷ later) NoBio Rests look e = inl (cc e)
writer_looks todo taken doing look e = absurd (cc e)

pub task_looks : (task : TaskState) (look : Request) → look_of task ≡ Some look → (look ≡ LookRound) ⊎ (look ≡ LookLeft)
task_looks (Writer number todo taken submission) look e = writer_looks todo taken submission.doing look e
task_looks (Keeper (Keeps (duty ∷ duties))) look e = inr (cc e)
task_looks task look e = absurd (cc e)
