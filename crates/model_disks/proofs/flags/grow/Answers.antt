-- Flags that are enough stay; there is room for more.
use Rattle.std.proofs.Common.{false, arith}
use Rattle.model_disks.proofs.GrownLemmas.{grown_enough, grown_from}
use Rattle.model_disks.proofs.flags.grow.Goals as goal

pub returns-then-len-count-clause-flags : goal.returns-then-len-count-clause-flags
returns-then-len-count-clause-flags c =
    grown_enough false c.args.count c.args.flags.now.items (omega (arith, c.if-len-count.true, c.len.ensures, c.args.flags.now.ok.0))

pub returns-clause-flags : goal.returns-clause-flags
returns-clause-flags c =
    grown_from false c.args.count _ c.args.flags.now.items c.resize.new.self.items c.args.flags.now.ok.0
    (omega (arith, c.if-len-count.false, c.len.ensures)) c.in-Ok.ensures.items
