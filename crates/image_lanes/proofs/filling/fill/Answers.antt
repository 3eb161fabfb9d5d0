-- A front of the words is filled, group by group.
use Rattle.std.proofs.Common.{refl, ap, ◌∙◌, ◌+◌, length, take, arith}
use Rattle.std.proofs.lemmas.Simd.{length-put_chunk}
use Rattle.image_lanes.specs.Lanes.{counting}
use Rattle.image_lanes.proofs.LaneLemmas.{more_filled}
use Rattle.image_lanes.proofs.WholeLemmas.{filled}
use Rattle.image_lanes.proofs.filling.fill.Goals as goal

pub filling-init : goal.filling-init
unfolding counting
filling-init c = record { size = refl; within = omega arith; front = refl; lanes = c.first_group-lanes.ensures ∙ ap (λ first. counting first 8) (omega arith) }

pub filling-preserved : goal.filling-preserved
filling-preserved c =
    let kept = c.filling.invariant in
    let size = ap length c.put_group.ensures ∙ length-put_chunk c.filling.at c.filling.words c.filling.lanes in
    record {
      size = size ∙ kept.size;
      within = omega (arith, size);
      front = ap (take (c.filling.at + 8)) c.put_group.ensures
          ∙ more_filled c.filling.words c.filling.lanes c.args.first c.filling.at (omega arith) kept.front kept.lanes;
      lanes = c.next_group-lanes.ensures (c.args.first + c.filling.at) kept.lanes ∙ ap (λ first. counting first 8) (omega arith);
    }

pub returns : goal.returns
returns c =
    let kept = c.filling.invariant in
    filled c.filling.words c.fill_each.new.words c.args.first c.filling.at _ kept.within refl kept.front c.fill_each.ensures ∙ ap (counting c.args.first) kept.size
