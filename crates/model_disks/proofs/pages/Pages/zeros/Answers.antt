-- No page has words, and each is in the slot of its own number.
use Rattle.std.proofs.Common.{length, ap, ◌∙◌, arith}
use Rattle.std.proofs.lemmas.List.FromFn.{length-range_with_len}
use Rattle.model_disks.proofs.PageLemmas.{inverse_in_turn}
use Rattle.model_disks.proofs.pages.Pages.zeros.Goals as goal

pub returns-clause-paged : goal.returns-clause-paged
returns-clause-paged c =
    let count = c.in-Ok.count in
    let none = ap length c.in_ok-with_capacity.ensures.items in
    let slots = ap length c.in_ok-in_turn.ensures ∙ length-range_with_len 0 count in
    record {
      inverse = inverse_in_turn _ _ count c.in_ok-in_turn.ensures c.in_ok-in_turn-2.ensures;
      whole = omega (arith, none);
      within = omega (arith, none);
      fits = omega (arith, slots, c.in_ok-with_capacity.ensures.exact);
    }

pub returns-clause-all : goal.returns-clause-all
returns-clause-all c =
    let slots = ap length c.in_ok-in_turn.ensures ∙ length-range_with_len 0 c.in-Ok.count in
    omega (arith, slots, c.div_ceil.ensures, c.in-Ok.ensures)
