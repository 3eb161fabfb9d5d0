use Rattle.std.proofs.Common.{◌||◌, map, ap, subst, sym, ◌∙◌, length-set, arith}
use Rattle.decl_text.specs.Known.{all_members, number_in}
use Rattle.decl_text.specs.Checks.{is_among, repeats}
use Rattle.stack_check.specs.Sound.{AreTalliedDevices}
use Rattle.stack_check.proofs.Flags.{flag, any_agree_map, clash_more, clash_found, clash_none}
use Rattle.stack_check.proofs.DeviceLemmas.{number_in_small}
use Rattle.stack_check.proofs.devices.Devices.has_taken.Goals as goal

pub loop-name-init : goal.loop-name-init
loop-name-init c =
    let devices = c.args.self.now in
    let names = c.args.names.now in
    let inside = c.self.inside in
    let kept = subst (AreTalliedDevices inside.sizes.items inside.taken inside.disks inside.sectors) c.self.view_is c.self.invariant in
    record {
      room = kept.1.room;
      rest = ap (λ b. b || repeats (map (number_in devices) names))
          (any_agree_map (number_in devices) (flag c.self.inside.taken) (is_among (all_members devices)) names (λ name.
          kept.1.taken (number_in devices name) (number_in_small devices name 32 kept.0.few (omega arith))));
    }

pub loop-name-preserved : goal.loop-name-preserved
loop-name-preserved c =
    let n = c.number_or_0-number.result in
    record {
      room = length-set c.loop-name.taken n _ ∙ c.loop-name.invariant.room;
      rest =
          clash_more (number_in c.args.self.now) c.args.names.now c.loop-name.taken c.loop-name.name-index n c.name-item.result
          c.loop-name-test.true c.name-item.is c.number_or_0-number.ensures.number
          (omega (arith, c.loop-name.invariant.room, c.number_or_0-number.ensures.small)) c.if-taken-number.false
          ∙ c.loop-name.invariant.rest;
    }

pub returns-then-taken-number : goal.returns-then-taken-number
returns-then-taken-number c =
    sym (clash_found (number_in c.args.self.now) c.args.names.now c.loop-name.taken c.loop-name.name-index c.number_or_0-number.result c.name-item.result
    c.loop-name-test.true c.name-item.is c.number_or_0-number.ensures.number c.if-taken-number.true)
    ∙ c.loop-name.invariant.rest

pub returns : goal.returns
returns c =
    sym (clash_none (number_in c.args.self.now) c.args.names.now c.loop-name.taken c.loop-name.name-index (omega arith))
    ∙ c.loop-name.invariant.rest
