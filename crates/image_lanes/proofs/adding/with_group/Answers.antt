use Rattle.std.proofs.Common.{◌∙◌, sym}
use Rattle.std.proofs.lemmas.Simd.{length-zip2}
use Rattle.image_lanes.proofs.LaneLemmas.{add_mod, sum_added}
use Rattle.image_lanes.proofs.adding.with_group.Goals as goal

pub returns : goal.returns
returns c =
    let same = c.requires.0 ∙ sym c.requires.1 in
    record {
      sum = sum_added c.args.lanes c.args.more same;
      length = length-zip2 add_mod c.args.lanes c.args.more same ∙ c.requires.0;
    }
