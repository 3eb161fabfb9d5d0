use Rattle.std.proofs.Common.{◌<◌, ℕ}
use Rattle.plain_core.specs.steps.Free.{IsFreeAt}
use Rattle.plain_core.proofs.state.Core.free.Given as goal

-- no task before this one can
abbrev pub invariant-asking : goal.invariant-asking
invariant-asking l = (earlier : ℕ) → earlier < l.place → IsFreeAt l.self earlier → ⊥
