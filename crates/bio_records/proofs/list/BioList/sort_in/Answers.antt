use Rattle.std.proofs.Common.{rules, ◌++◌, ◌-◌, ◌^◌, reverse, refl}
use Rattle.bio_records.specs.Items.{items}
use Rattle.bio_records.specs.Sorting.{is_lower, is_for_device}
use Rattle.bio_records.proofs.Sorted.{sorted_counted}
use Rattle.bio_records.proofs.list.BioList.sort_in.Goals as goal

pub invariant_of-self : goal.invariant_of-self
invariant_of-self c =
    sorted_counted (is_for_device c.args.dev) (is_lower c.args.dev) (λ x. refl) (items c.other.inside.front ++ reverse (items c.other.inside.back))
    (items c.take-own.result) (reverse (items c.self.inside.back)) (items c.put.new.place) c.self.inside.count c.other.inside.count c.saturating_add-self-inside.result (2 ^ 64 - 1)
    (search rules) (search rules) (search rules) (search rules)
