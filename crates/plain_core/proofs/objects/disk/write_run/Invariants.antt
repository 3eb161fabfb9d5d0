use Rattle.std.proofs.Common.{◌≡◌, ◌+◌, ◌*◌, ◌%◌, ◌^◌, ℕ, ◌<◌, get_or, Option, Some}
use Rattle.plain_core.proofs.objects.disk.write_run.Given as goal

-- the sectors before this place are written
abbrev pub invariant-loop-place : goal.invariant-loop-place
invariant-loop-place l = (k : ℕ) (d : Option ℕ) → k < l.place → get_or l.firsts k d ≡ Some ((l.word + 64 * k) % 2 ^ 64)
