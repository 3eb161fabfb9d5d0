use Rattle.std.proofs.Common.{ap, refl, sym, ◌∙◌, false, Some, option_map}
use Rattle.std.proofs.Math.ListN.{length-set}
use Rattle.std.proofs.lemmas.Option.{slice_get-get_or}
use Rattle.stack_base.specs.declared.stack.Device.{Device}
use Rattle.core_tests.proofs.Rescuers.{alike_set, bare, stays_stack}
use Rattle.core_tests.proofs.cases.without_rescuer.Goals as goal

pub returns : goal.returns
returns c =
    let devices = c.args.stack.devices.items in
    let before = c.index_mut.result.now in
    let after : Device = record before { rescuer = false } in
    let found = slice_get-get_or devices 2 before c.requires.third ∙ ap Some (sym c.index_mut.ensures.value) in
    stays_stack c.args.stack _ (length-set devices 2 after) refl (alike_set devices 2 after (ap (option_map bare) found)) c.requires.stack
