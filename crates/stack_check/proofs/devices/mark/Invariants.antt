use Rattle.std.proofs.Common.{◌≡◌, ◌||◌, ℕ, map, take}
use Rattle.stack_base.specs.declared.ids.DevId.{DevId}
use Rattle.decl_text.specs.Checks.{is_among}
use Rattle.stack_check.proofs.Flags.{flag}
use Rattle.stack_check.proofs.devices.mark.Given as goal

abbrev pub invariant-loop-member : goal.invariant-loop-member
invariant-loop-member l =
    (k : ℕ) → flag l.flags k ≡ (flag l.initial.flags k || is_among (map (λ (m : DevId). m.0) (take l.member-index l.members)) k)
