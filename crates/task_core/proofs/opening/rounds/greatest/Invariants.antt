use Rattle.std.proofs.Common.{◌≡◌, drop, max}
use Rattle.std.specs.Prelude.{fold}
use Rattle.task_core.proofs.opening.rounds.greatest.Given as goal

abbrev pub invariant-looking : goal.invariant-looking
invariant-looking l = fold max l.last (drop l.i l.rounds) ≡ fold max 0 l.rounds
