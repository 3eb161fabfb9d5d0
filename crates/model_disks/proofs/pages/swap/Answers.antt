-- The parts of the list, of which two have changed places.
use Rattle.std.proofs.Common.{◌*◌, take, drop, ap, ◌∙◌}
use Rattle.model_disks.proofs.SwapLemmas.{swapped}
use Rattle.model_disks.proofs.pages.swap.Goals as goal

pub returns : goal.returns
returns c =
    let words = c.args.words.now in
    let front = c.split_at_mut-front.ensures.front in
    let behind = c.split_at_mut-front.ensures.back in
    let from_low = c.split_at_mut-before.ensures.back ∙ ap (drop (1024 * c.args.low)) front in
    swapped words c.args.low c.args.high c.requires.order c.requires.within _ _ _ _ _
    (c.split_at_mut-before.ensures.front ∙ ap (take (1024 * c.args.low)) front)
    (c.swap_with_slice.ensures.after ∙ c.split_at_mut-other.ensures.front ∙ ap (take 1024) behind)
    (c.split_at_mut-one.ensures.back ∙ ap (drop 1024) from_low)
    (c.swap_with_slice.ensures.other_after ∙ c.split_at_mut-one.ensures.front ∙ ap (take 1024) from_low)
    (c.split_at_mut-other.ensures.back ∙ ap (drop 1024) behind)
