-- One more member is alike.
use Rattle.std.proofs.Common.{◌==◌, ◌<◌, sym, ◌∙◌, arith}
use Rattle.stack_base.specs.Tree.{tree, legs_of}
use Rattle.mirror_scrub.specs.Seen.{held, unlike_count}
use Rattle.mirror_scrub.proofs.CountLemmas.{all_rest}
use Rattle.mirror_scrub.proofs.mirror.mirror_alike.Goals as goal

pub legs-preserved : goal.legs-preserved
legs-preserved c =
    let t = tree c.args.stack.now c.args.mirror.0 in
    let inside : c.legs.leg < legs_of t = omega (arith, c.legs-test.true, c.legs-leg-end.ensures) in
    record {
      some = omega arith;
      rest = c.legs.invariant.rest
          ∙ all_rest (λ leg. unlike_count (held c.args.disks.now) t leg == 0) c.legs.leg (legs_of t) inside (sym c.leg_alike.ensures ∙ c.if-not-leg_alike.false);
    }
