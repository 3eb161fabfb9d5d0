use Rattle.std.proofs.Common.{ap, arith}
use Rattle.stack_base.specs.Mapping.{Slot, head}
use Rattle.stack_base.proofs.Members.{among_at_le}
use Rattle.biostack_tests.proofs.SlowAmong.{head_of_limit}
use Rattle.biostack_tests.proofs.slow.head.Goals as goal
use Rattle.biostack_tests.proofs.slow.head.Goals.{then-chunk-eq0, else-chunk-eq0}

pub overflow_sub-sector : goal.overflow_sub-sector
overflow_sub-sector c = omega (arith, ap (λ (to : Slot). to.at) c.among.ensures, among_at_le c.args.sizes.now c.args.sector)

pub returns-in-Linear : goal.returns-in-Linear
unfolding head
returns-in-Linear c = rw (c.in-Linear.is, c.among.ensures) c.max.ensures

pub returns-after-chunk-eq0 : goal.returns-after-chunk-eq0
returns-after-chunk-eq0 c =
    rw c.in-Limit.is (
    head_of_limit c.in-Limit.max c.in-Limit.chunk c.args.sizes.now c.args.start c.args.sector c.if-chunk-eq0.block c.max-first.result c.max-first.ensures
    (elim c.if-chunk-eq0.branch [ then-chunk-eq0 w ↦ (λ none. omega (arith, w.block-is), λ pos. absurd (omega arith)) | else-chunk-eq0 w ↦ (λ none. absurd (omega arith), λ pos. omega (arith, w.block-is)) ]))
