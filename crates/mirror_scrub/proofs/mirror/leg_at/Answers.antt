-- The mirror has such a member.
use Rattle.std.proofs.Common.{length, ap, arith}
use Rattle.mirror_scrub.proofs.LegLemmas.{leg_is}
use Rattle.mirror_scrub.proofs.mirror.leg_at.Goals as goal

pub bounds-deref-place : goal.bounds-deref-place
bounds-deref-place c =
    let leg = leg_is c.args.stack.now c.requires.stack c.args.mirror.0 c.device.result.now c.device.ensures.found c.args.place c.requires.place in
    omega (arith, ap length c.deref.ensures.0, leg.0)

pub returns-clause-known : goal.returns-clause-known
returns-clause-known c =
    let leg = leg_is c.args.stack.now c.requires.stack c.args.mirror.0 c.device.result.now c.device.ensures.found c.args.place c.requires.place in
    rw c.deref.ensures.0 leg.1.known

pub returns-clause-inside : goal.returns-clause-inside
returns-clause-inside c =
    let leg = leg_is c.args.stack.now c.requires.stack c.args.mirror.0 c.device.result.now c.device.ensures.found c.args.place c.requires.place in
    rw c.deref.ensures.0 leg.1.inside

pub returns-clause-leg : goal.returns-clause-leg
returns-clause-leg c =
    let leg = leg_is c.args.stack.now c.requires.stack c.args.mirror.0 c.device.result.now c.device.ensures.found c.args.place c.requires.place in
    rw c.deref.ensures.0 leg.1.leg
