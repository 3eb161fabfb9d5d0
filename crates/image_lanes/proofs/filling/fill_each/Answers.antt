-- Each word that was written counts from the first.
use Rattle.std.proofs.Common.{length, arith}
use Rattle.image_lanes.proofs.CountingLemmas.{is_counting}
use Rattle.image_lanes.proofs.filling.fill_each.Goals as goal

pub returns : goal.returns
returns c = is_counting c.filling.words c.args.first (length c.args.words.now) c.filling.auto.words (λ k below. c.filling.invariant.1 k (omega arith))
