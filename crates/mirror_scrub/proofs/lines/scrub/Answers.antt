-- What says the lines of the other devices completes all of them.
use Rattle.std.proofs.Common.{◌≡◌, ◌<◌, ◌≤◌, ◌-◌, ℕ, length, subst, arith}
use Rattle.std.specs.List.{flat_map, range_with_len}
use Rattle.outside_io.specs.Saying.{Says}
use Rattle.outside_io.proofs.SaysLemmas.{finished}
use Rattle.mirror_scrub.specs.Seen.{held}
use Rattle.mirror_scrub.specs.Text.{mirror_lines, scrub_text}
use Rattle.mirror_scrub.proofs.LineLemmas.{numbers_end, numbers_on}
use Rattle.mirror_scrub.proofs.lines.scrub.Goals as goal

pub devices-init : goal.devices-init
unfolding scrub_text
devices-init g c = λ end pen said.
    let n = length c.args.stack.now.devices.items in
    let whole : n - 0 ≡ n = omega arith in
    subst
    (λ (k : ℕ). Says g.K.Sink c.args.out.now c.new-pen.result end pen
    (flat_map (mirror_lines c.args.stack.now (held c.args.disks.now)) (range_with_len 0 k)))
    whole said

pub devices-preserved : goal.devices-preserved
devices-preserved g c =
    let n = length c.args.stack.now.devices.items in
    let inside : c.devices.number < n = omega (arith, c.devices-test.true, c.len-number-end.ensures) in
    λ end pen said.
    c.devices.invariant end pen
    (numbers_on (mirror_lines c.args.stack.now (held c.args.disks.now)) c.devices.number n inside c.mirror_lines.ensures said)

pub returns : goal.returns
returns g c =
    let n = length c.args.stack.now.devices.items in
    let past : n ≤ c.devices.number = omega (arith, c.devices-test.false, c.len-number-end.ensures) in
    let said = c.devices.invariant _ _
    (numbers_end g.K.Sink c.devices.out c.devices.pen (mirror_lines c.args.stack.now (held c.args.disks.now))
    c.devices.number n past) in
    finished c.finish.result c.new-pen.ensures said c.finish.ensures.says c.finish.ensures.handed c.finish.ensures.failed
