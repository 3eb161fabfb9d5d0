use Rattle.std.proofs.Common.{◌≡◌, ◌-◌, ◌^◌}
use Rattle.std.specs.Prelude.{min, sum_by, take}
use Rattle.run_merge.proofs.left.events_of.Given as goal

abbrev pub invariant-adding : goal.invariant-adding
invariant-adding l = l.sum ≡ min (sum_by (λ task. task.events) (take l.place l.fn.tasks)) (2 ^ 64 - 1)
