use Rattle.std.proofs.Common.{◌≡◌, length, drop, sym, ap, ◌∙◌, subst}
use Rattle.std.specs.List.{refill}
use Rattle.std.specs.List.Sorted.{IsNonDecreasing}
use Rattle.std.proofs.lemmas.List.{take_at}
use Rattle.std.proofs.lemmas.List.Sorted.{IsNonDecreasingBy-from_sort}
use Rattle.zoned_map.proofs.zone.sorted.Goals as goal

pub returns-clause-rising : goal.returns-clause-rising
returns-clause-rising c =
    let items = c.loop-count.rising.items in
    let new = c.sort_unstable.new.self in
    let many : length new ≡ length items = c.sort_unstable.ensures.len ∙ ap length c.deref_mut.ensures.value in
    let same : refill (length items) items new ≡ new = take_at new (drop (length new) items) (length items) many in
    subst IsNonDecreasing (sym same) (IsNonDecreasingBy-from_sort (λ x. x) new c.sort_unstable.ensures.sorted)
