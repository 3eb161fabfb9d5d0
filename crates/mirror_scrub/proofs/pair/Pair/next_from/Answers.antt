-- From the first sector that differs to the first that does not.
use Rattle.std.proofs.Common.{◌≡◌, ◌+◌, ◌-◌, true, false, sym, subst, ◌∙◌, arith}
use Rattle.model_disks.specs.Runs.{IsFirst}
use Rattle.mirror_scrub.specs.Stretches.{flags_in}
use Rattle.mirror_scrub.proofs.PairLemmas.{flags_long}
use Rattle.mirror_scrub.proofs.pair.Pair.next_from.Goals as goal

pub returns-then-start-self : goal.returns-then-start-self
returns-then-start-self c =
    let p = c.args.self.now in
    subst (λ n. IsFirst (flags_in p) c.args.from true n) (c.if-start-self.true ∙ sym (flags_long p)) c.first-start.ensures

pub first-end-requires-clause-from : goal.first-end-requires-clause-from
first-end-requires-clause-from c = omega (arith, c.first-start.ensures.within, flags_long c.args.self.now)

pub returns : goal.returns
returns c =
    let p = c.args.self.now in
    let start = c.first-start.result in
    let stop = c.first-end.result in
    let whole : stop ≡ start + (stop - start) = omega (arith, c.first-end.ensures.behind) in
    record {
      start = c.first-start.ensures;
      inside = omega (arith, c.first-start.ensures.within, c.if-start-self.false, flags_long p);
      end = subst (λ n. IsFirst (flags_in p) start false n) whole c.first-end.ensures;
    }
