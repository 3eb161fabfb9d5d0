-- Words that are enough stay; there is room for more.
use Rattle.std.proofs.Common.{arith}
use Rattle.model_disks.proofs.GrownLemmas.{grown_enough, grown_from}
use Rattle.model_disks.proofs.pages.grow.Goals as goal

pub returns-then-len-size-clause-words : goal.returns-then-len-size-clause-words
returns-then-len-size-clause-words c =
    grown_enough 0 c.args.size c.args.words.now.items (omega (arith, c.if-len-size.true, c.len.ensures, c.args.words.now.ok.0))

pub returns-clause-words : goal.returns-clause-words
returns-clause-words c =
    grown_from 0 c.args.size _ c.args.words.now.items c.resize.new.self.items c.args.words.now.ok.0
    (omega (arith, c.if-len-size.false, c.len.ensures)) c.in-Ok.ensures.items
