use Rattle.std.proofs.Common.{◌++◌, filter, reverse, refl, ap, ◌∙◌}
use Rattle.bio_records.specs.Items.{items}
use Rattle.bio_records.specs.Sorting.{is_of, is_of_other}
use Rattle.bio_records.proofs.Sorted.{parted_count}
use Rattle.bio_records.proofs.list.BioList.take_set.Goals as goal

pub counts_apart-count-requires : goal.counts_apart-count-requires
counts_apart-count-requires c =
    let front = items c.self.inside.front in
    let back = items c.self.inside.back in
    let fronts = c.take.ensures.value in
    let backs = c.take-2.ensures.value in
    parted_count (is_of c.args.set) (is_of_other c.args.set) (λ item. refl) (front ++ reverse back) (items c.set_apart-chosen.result.0) (items c.set_apart-chosen.result.1)
    c.self.inside.count c.self.invariant
    (c.set_apart-chosen.ensures.chosen ∙ ap (λ l. filter (is_of c.args.set) (items l ++ reverse (items c.take-2.result))) fronts ∙ ap (λ l. filter (is_of c.args.set) (front ++ reverse (items l))) backs)
    (c.set_apart-chosen.ensures.others ∙ ap (λ l. filter (is_of_other c.args.set) (items l ++ reverse (items c.take-2.result))) fronts ∙ ap (λ l. filter (is_of_other c.args.set) (front ++ reverse (items l))) backs)
