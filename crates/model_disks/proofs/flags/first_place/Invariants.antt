use Rattle.std.proofs.Common.{◌≡◌, ℕ, ◌<◌, ◌≤◌, not}
use Rattle.model_disks.specs.Runs.{flag}
use Rattle.model_disks.proofs.flags.first_place.Given as goal

abbrev pub invariant-looking : goal.invariant-looking
invariant-looking l = (x : ℕ) → l.from ≤ x → x < l.place → flag l.flags x ≡ not l.written
