-- A write more, and the end.
use Rattle.std.proofs.Common.{◌≡◌, ◌∙◌, ◌+◌, ◌-◌, ◌++◌, ◌∷◌, suc, ap, ap₂, arith}
use Rattle.work_text.specs.Generated.{counts, runs, text_of, words_of_runs}
use Rattle.work_text.proofs.GeneratorLemmas.{no_write, one_write}
use Rattle.work_text.proofs.generator.add_writes.Goals as goal

pub loop-start-preserved : goal.loop-start-preserved
loop-start-preserved c = record {
  some = omega arith;
  few = omega (arith, c.pick-count-in-loop-start.ensures.within);
  within = c.loop-start-test.true;
  numbered = omega (arith, c.loop-start.invariant.numbered, c.loop-start.invariant.some);
  whole = λ left is.
      let at : c.loop-start.number + suc left ≡ c.args.sectors = omega (arith, is) in
      let next = one_write c.loop-start.text.items c.add_write.new.text.items _ c.args.sectors c.loop-start.number c.loop-start.start c.loop-start.count left c.loop-start.words
      c.loop-start-test.true c.in_ok-add_write.ensures (c.loop-start.invariant.whole (suc left) at) in
      let picks = ap₂ (λ p g. (1 + p) ∷ counts left g) c.pick-count-in-loop-start.ensures.picked c.pick-count-in-loop-start.ensures.behind in
      ap (λ more. c.add_write.new.text.items ++ text_of (words_of_runs (c.loop-start.number + 1) (runs c.args.sectors (c.loop-start.start + c.loop-start.count) more))) picks ∙ next;
}

pub returns : goal.returns
returns c =
    no_write c.loop-start.text.items _ c.args.sectors c.loop-start.number c.loop-start.start c.loop-start.count _ c.loop-start-test.false
    (c.loop-start.invariant.whole (c.args.sectors - c.loop-start.number) (omega (arith, c.loop-start.invariant.numbered, c.loop-start.invariant.within)))
