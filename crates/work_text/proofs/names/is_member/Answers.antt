-- The devices up to this one do not have it as a member.
use Rattle.std.proofs.Common.{List, ap, ◌∙◌, ◌==◌, ◌+◌, drop}
use Rattle.std.specs.List.{list_any}
use Rattle.stack_base.specs.declared.ids.DevId.{DevId}
use Rattle.stack_base.specs.declared.stack.Device.{Device}
use Rattle.work_text.proofs.NameLemmas.{among_members, members_behind}
use Rattle.work_text.proofs.names.is_member.Goals as goal

pub returns : goal.returns
returns c =
    c.holds.ensures
    ∙ ap (λ (devices : List Device). list_any (λ (device : Device). list_any (λ (m : DevId). m.0 == c.args.dev.0) device.members.items) devices)
    (c.split_at.ensures.back ∙ ap (drop (c.args.dev.0 + 1)) c.deref.ensures.value)
    ∙ members_behind c.args.stack.now c.requires.stack c.args.dev.0 c.requires.known
    ∙ among_members c.args.stack.now c.args.dev.0
