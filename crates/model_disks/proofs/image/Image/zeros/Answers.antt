-- No page has words yet, and no sector has a flag.
use Rattle.std.proofs.Common.{arith}
use Rattle.model_disks.proofs.ImageLemmas.{zeros_kept, zeros_are}
use Rattle.model_disks.proofs.image.Image.zeros.Goals as goal

pub invariant_of-result : goal.invariant_of-result
invariant_of-result c =
    zeros_kept c.args.sectors _ _ _ _ _ _ c.in_ok-zeros.ensures.paged c.in_ok-zeros.ensures.none c.in_ok-with_capacity.ensures.items
    c.in_ok-zeros.ensures.all (omega (arith, c.in_ok-with_capacity.ensures.exact))

pub returns : goal.returns
returns c = zeros_are c.args.sectors _ _ c.in_ok-zeros.ensures.none
