use Rattle.std.proofs.Common.{◌≤◌, Bool, true, false, ltb, arith}
use Rattle.std.specs.Int.{from_bool}
use Rattle.layout_model.proofs.SmallCounts.{needed_small}
use Rattle.layout_model.proofs.counts.need.Goals as goal

-- a test counts as no more than one
at_most_one : (b : Bool) → from_bool b ≤ 1
at_most_one true = omega arith
at_most_one false = omega arith

-- what the run needs is small
pub overflow_add-result-2 : goal.overflow_add-result-2
overflow_add-result-2 c =
    let write = c.args.write.now in
    omega (
      arith,
      at_most_one (ltb 4 c.div_ceil.result),
      c.from-vectors.ensures,
      needed_small c.args.stack.now c.requires.stack write.dev.0 write.start write.count c.requires.write.known c.requires.write.within,
      c.count-below.ensures.needed,
    )

pub overflow_add-result-3 : goal.overflow_add-result-3
overflow_add-result-3 c =
    let write = c.args.write.now in
    omega (
      arith,
      needed_small c.args.stack.now c.requires.stack write.dev.0 write.start write.count c.requires.write.known c.requires.write.within,
      c.count-below.ensures.needed,
    )
