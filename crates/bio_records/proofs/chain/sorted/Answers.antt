use Rattle.std.proofs.Common.{rules, ◌∙◌}
use Rattle.bio_records.specs.Items.{items}
use Rattle.bio_records.specs.Sorting.{is_lower, is_for_device}
use Rattle.bio_records.proofs.Sorted.{sorted_before}
use Rattle.bio_records.proofs.chain.sorted.Goals as goal

pub returns : goal.returns
returns c =
    search rules ∙ sorted_before (is_lower c.args.dev) (is_for_device c.args.dev) (items c.args.front) (items c.args.back) (items c.args.own) (items c.part-lower-2.result.0) (items c.part-lower-2.result.1) (search rules) (search rules)
