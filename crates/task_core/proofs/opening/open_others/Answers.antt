use Rattle.std.proofs.Common.{◌<◌, ◌^◌, ℕ, List, length, subst, sym}
use Rattle.task_core.proofs.opening.open_others.Goals as goal

pub open_keeper-requires-clause-few : goal.open_keeper-requires-clause-few
open_keeper-requires-clause-few c = subst (λ (rounds : List ℕ). length rounds < 2 ^ 32) (sym c.deref.ensures.value) c.requires.few
