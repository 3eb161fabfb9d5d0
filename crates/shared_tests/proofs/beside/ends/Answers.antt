use Rattle.std.proofs.Common.{ap, ◌∙◌}
use Rattle.shared_objects.specs.Rans.{RanKey}
use Rattle.shared_tests.proofs.beside.ends.Goals as goal

pub stepping-preserved : goal.stepping-preserved
stepping-preserved g c = ap (λ (key : RanKey). key.home) c.stepped-ran.ensures ∙ c.stepping.invariant
