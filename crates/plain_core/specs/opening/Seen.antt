-- Tasks that have not begun, in the order of their slots.
use Rattle.std.specs.Prelude.{◌≡◌, ◌+◌, ◌≤◌, ℕ, All, List, [], ◌∷◌}
use Rattle.run_machine.specs.Events.{id_of}
use Rattle.run_machine.specs.Submissions.{rests}
use Rattle.run_machine.specs.Tasks.{TaskState, NoBio, Empty, Keeps, Stops, Writer, Rescuer, Completer, Keeper}
use Rattle.plain_core.specs.Cores.{slot_of}
use Rattle.plain_core.specs.steps.Duties.{NamesStackPool}

-- It has nothing at hand, no element and no submission, as each task that has not begun. Of the keeper, which never has an element, this says that
-- it has not broken off, and that its changes of reserves name pools that a stack can have.
abbrev pub HasNotBegun : TaskState → Type 0
HasNotBegun (Writer number todo taken submission) = (taken ≡ NoBio) × (submission ≡ rests)
HasNotBegun (Rescuer dev submission) = submission ≡ rests
HasNotBegun (Completer disk carried) = carried ≡ Empty
HasNotBegun (Keeper (Keeps duties)) = All NamesStackPool duties
HasNotBegun (Keeper (Stops breach)) = ⊥

-- the slots of tasks rise from one number up to below another
abbrev pub Rises : ℕ → List TaskState → ℕ → Type 0
Rises low [] high = low ≤ high
Rises low (task ∷ tasks) high = (low ≤ slot_of (id_of task)) × Rises (slot_of (id_of task) + 1) tasks high
