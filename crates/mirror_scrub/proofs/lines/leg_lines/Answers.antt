-- The line of the count is said, and then those of the stretches; where the count is 0 there are none.
use Rattle.std.proofs.Common.{List, ℕ, subst, arith}
use Rattle.stack_base.specs.Tree.{tree}
use Rattle.stack_base.specs.Names.{name_of_device}
use Rattle.outside_io.specs.Saying.{Says}
use Rattle.outside_io.proofs.SaysLemmas.{says_then}
use Rattle.mirror_scrub.specs.Seen.{held, stretches_from, unlikes}
use Rattle.mirror_scrub.specs.Text.{leg_line}
use Rattle.mirror_scrub.proofs.CountLemmas.{none_counted}
use Rattle.mirror_scrub.proofs.LineLemmas.{stretches_end}
use Rattle.mirror_scrub.proofs.lines.leg_lines.Goals as goal

pub returns-then-count-gt0 : goal.returns-then-count-gt0
returns-then-count-gt0 g c =
    let line = λ (name : List ℕ) (count : ℕ). Says g.K.Sink c.args.out.now c.args.pen.now c.leg_line.new.out c.leg_line.new.pen (leg_line name c.args.leg count) in
    let named = subst (λ name. line name c.unlike-count.result) c.name_of.ensures c.leg_line.ensures in
    says_then (subst (line (name_of_device c.args.stack.now c.args.mirror.0)) c.unlike-count.ensures named) c.differ_lines.ensures

pub returns-else-count-gt0 : goal.returns-else-count-gt0
returns-else-count-gt0 g c =
    let images = held c.args.disks.now in
    let mirror = tree c.args.stack.now c.args.mirror.0 in
    let line = λ (name : List ℕ) (count : ℕ). Says g.K.Sink c.args.out.now c.args.pen.now c.leg_line.new.out c.leg_line.new.pen (leg_line name c.args.leg count) in
    let named = subst (λ name. line name c.unlike-count.result) c.name_of.ensures c.leg_line.ensures in
    let none = none_counted (unlikes images mirror c.args.leg) (omega (arith, c.unlike-count.ensures, c.if-count-gt0.false)) in
    says_then (subst (line (name_of_device c.args.stack.now c.args.mirror.0)) c.unlike-count.ensures named)
    (stretches_end g.K.Sink c.leg_line.new.out c.leg_line.new.pen (name_of_device c.args.stack.now c.args.mirror.0) c.args.leg
    (stretches_from images mirror c.args.leg 0) none)
