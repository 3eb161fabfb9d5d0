-- Both sectors are in their disks.
use Rattle.std.proofs.Common.{not, ap, ◌∙◌, arith}
use Rattle.image_lanes.specs.Lanes.{equal_words}
use Rattle.image_lanes.proofs.SectorLemmas.{tells_same}
use Rattle.mirror_scrub.proofs.stretch.Stretch.differ_at.Goals as goal

pub overflow_add-self : goal.overflow_add-self
overflow_add-self c = omega (arith, c.requires.within.low, c.requires.here)

pub overflow_add-self-2 : goal.overflow_add-self-2
overflow_add-self-2 c = omega (arith, c.requires.within.also, c.requires.here)

pub returns : goal.returns
returns c = ap not (tells_same c.same.result _ _ c.same.ensures ∙ (λ k. equal_words (c.sector.ensures k) (c.sector-2.ensures k)))
