-- One more device is alike.
use Rattle.std.proofs.Common.{◌<◌, length, sym, ◌∙◌, arith}
use Rattle.mirror_scrub.specs.Seen.{held}
use Rattle.mirror_scrub.specs.Text.{mirror_alike}
use Rattle.mirror_scrub.proofs.CountLemmas.{all_rest}
use Rattle.mirror_scrub.proofs.mirror.all_alike.Goals as goal

pub devices-preserved : goal.devices-preserved
devices-preserved c =
    let n = length c.args.stack.now.devices.items in
    let inside : c.devices.number < n = omega (arith, c.devices-test.true, c.len-number-end.ensures) in
    c.devices.invariant
    ∙ all_rest (mirror_alike c.args.stack.now (held c.args.disks.now)) c.devices.number n inside (sym c.mirror_alike.ensures ∙ c.if-not-mirror_alike.false)
