-- Duties that the keeper of a plain state has.
use Rattle.std.specs.Prelude.{◌≡◌, List, ◌∷◌, drop}
use Rattle.stack_base.specs.PoolId.{IsOfStack}
use Rattle.run_machine.specs.Tasks.{Duty, Resizes, Starts}
use Rattle.task_steps.specs.declared.keeper.Duty as real
use Rattle.task_steps.specs.KeeperViews.{duty_of}

-- a change of reserves names a pool that a stack can have
abbrev pub NamesStackPool : Duty → Type 0
NamesStackPool (Resizes pool min later) = IsOfStack pool
NamesStackPool (Starts round later) = Unit {0}

-- the first duty of all, which is such a one
abbrev pub IsNextDuty : List Duty → real.Duty → Type 0
IsNextDuty all next = NamesStackPool (duty_of next) × (all ≡ duty_of next ∷ drop 1 all)
