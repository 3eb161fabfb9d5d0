use Rattle.task_steps.proofs.keeper.Duty.attend.Goals as goal

-- what a duty asks is what it is
pub returns-in-Resizes : goal.returns-in-Resizes
returns-in-Resizes g c = record { does = rw c.in-Resizes.is (c.resize.ensures.does c.in-Resizes.later) }

pub returns-in-Starts : goal.returns-in-Starts
returns-in-Starts g c = record { does = rw c.in-Starts.is (c.start.ensures.does c.in-Starts.later) }
