use Rattle.std.proofs.Common.{◌≡◌, ◌-◌, ◌<◌, ◌≤◌, ℕ, false, length}
use Rattle.model_disks.specs.Runs.{flag}
use Rattle.model_disks.proofs.flags.behind_unwritten.Given as goal

abbrev pub invariant-passing : goal.invariant-passing
invariant-passing l = record {
  behind : l.from ≤ l.place;
  within : l.place ≤ length l.flags;
  none : (x : ℕ) → l.from ≤ x → x < l.place → flag l.flags x ≡ false;
}

abbrev pub decreases-passing : goal.decreases-passing
decreases-passing l = length l.flags - l.place
