use Rattle.std.proofs.Common.{◌++◌, List, ap, ◌∙◌}
use Rattle.std.specs.List.{position}
use Rattle.std.specs.Str.{bytes_eq}
use Rattle.stack_base.specs.declared.stack.Device.{Device}
use Rattle.work_text.proofs.PoolLemmas.{shown_before}
use Rattle.work_text.proofs.pools.number_before.Goals as goal

pub returns : goal.returns
returns c =
    c.place_before.ensures
    ∙ ap (λ (devices : List Device). position (λ (device : Device). bytes_eq (device.name.bytes ++ c.args.suffix.now) c.args.word.now) devices) c.deref.ensures.value
    ∙ shown_before c.args.stack.now c.args.suffix.now c.args.word.now
