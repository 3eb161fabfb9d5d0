use Rattle.std.proofs.Common.{◌<◌, length, map, ap, subst, sym, ◌∙◌}
use Rattle.std.specs.Prelude.{All}
use Rattle.stack_base.specs.declared.ids.DevId.{DevId}
use Rattle.stack_check.proofs.DeviceLemmas.{names_known}
use Rattle.stack_check.proofs.devices.Devices.reason.Goals as goal

pub size_over-requires-clause-known : goal.size_over-requires-clause-known
size_over-requires-clause-known c =
    subst (All (λ n. n < length c.args.self.now))
    (sym (ap (map (λ (m : DevId). m.0)) c.deref.ensures.0 ∙ c.numbers.ensures))
    (names_known c.args.self.now c.args.names.now (sym c.lacks_one.ensures ∙ c.if-lacks_one.false))
