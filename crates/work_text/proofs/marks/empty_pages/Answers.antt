use Rattle.std.proofs.Common.{◌≡◌, arith}
use Rattle.std.proofs.lemmas.Grind.{div_ceil_times}
use Rattle.work_text.proofs.marks.empty_pages.Goals as goal

pub returns : goal.returns
returns c = (c.loop.invariant.empty, omega (arith, c.loop.invariant.long, c.loop-test.false, c.div_ceil-end.ensures, (div_ceil_times c.args.sectors 4096 (omega arith)).0))
