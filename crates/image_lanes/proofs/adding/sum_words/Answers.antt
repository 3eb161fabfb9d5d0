-- A front of the words is added, group by group.
use Rattle.std.proofs.Common.{refl, sym, ap, ◌∙◌, ◌+◌, ◌%◌, ◌^◌, take, arith}
use Rattle.image_lanes.specs.Lanes.{sum_mod}
use Rattle.image_lanes.proofs.WholeLemmas.{more_summed, all_summed}
use Rattle.image_lanes.proofs.adding.sum_words.Goals as goal

pub adding-preserved : goal.adding-preserved
adding-preserved c =
    let kept = c.adding.invariant in
    record {
      within = omega arith;
      lanes = c.with_group-lanes.ensures.length;
      sum = c.with_group-lanes.ensures.sum
          ∙ ap (λ s. (s + sum_mod c.group.result) % 2 ^ 64) kept.sum
          ∙ ap (λ lanes. (sum_mod (take c.adding.at c.args.words.now) + sum_mod lanes) % 2 ^ 64) c.group.ensures
          ∙ sym (more_summed c.args.words.now c.adding.at);
    }

pub returns : goal.returns
returns c =
    ap (λ s. (s + c.sum_each.result) % 2 ^ 64) (c.sum_of_lanes.ensures ∙ c.adding.invariant.sum)
    ∙ ap (λ s. (sum_mod (take c.adding.at c.args.words.now) + s) % 2 ^ 64) c.sum_each.ensures
    ∙ all_summed c.args.words.now c.adding.at _ refl
