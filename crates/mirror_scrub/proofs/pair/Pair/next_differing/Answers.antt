-- Behind a sector that differs, the next is not inside a run, and so does not differ.
use Rattle.std.proofs.Common.{◌≡◌, ◌+◌, ◌-◌, ◌<◌, true, sym, ap, ◌∙◌, arith}
use Rattle.model_disks.specs.Runs.{flag}
use Rattle.mirror_scrub.specs.Stretches.{differ_in, flags_in}
use Rattle.mirror_scrub.proofs.PairLemmas.{flag_in, run_after, unset_behind}
use Rattle.mirror_scrub.proofs.pair.Pair.next_differing.Goals as goal

pub returns-then-differ_at : goal.returns-then-differ_at
returns-then-differ_at c =
    let p = c.args.self.now in
    let flags = flags_in p in
    let from = c.args.from in
    let some : 0 < from = omega (arith, c.if-from-gt0.true) in
    let before : c.saturating_sub-at.result ≡ from - 1 = omega (arith, c.saturating_sub-at.ensures) in
    let differs = sym (c.stretch-stretch.ensures.same 0 (omega (arith, c.if-stretch-gt1.true))) ∙ sym c.differ_at.ensures ∙ c.if-differ_at.true in
    let set : flag flags (from - 1) ≡ true =
    flag_in p (from - 1) (omega (arith, some, c.requires.from)) ∙ ap (differ_in p) (omega (arith, before)) ∙ differs in
    run_after flags from (from + 1) c.next_on.result (omega arith)
    (λ x le lt. ap (flag flags) (omega (arith, le, lt)) ∙ unset_behind flags from c.requires.apart some set) c.next_on.ensures
