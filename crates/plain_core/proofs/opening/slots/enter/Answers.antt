use Rattle.std.proofs.Common.{◌≡◌, ap, set, length, ◌∙◌, arith}
use Rattle.plain_core.specs.Cores.{slot_of}
use Rattle.plain_core.proofs.opening_lemmas.TasksByName.{enters_one}
use Rattle.plain_core.proofs.opening.slots.enter.Goals as goal

pub returns : goal.returns
returns c =
    let long : c.len.result ≡ length c.args.tasks.now.items = omega (arith, c.len.ensures, c.args.tasks.now.ok.0) in
    enters_one c.args.tasks.now.items c.push.new.self.items c.args.task c.args.places.now.items _ c.requires.entered c.requires.small c.in_ok-push.ensures.items
    (λ k. set c.args.places.now.items ((c.slot_of-slot.ensures ∙ ap slot_of c.id.ensures) k) (long k))
