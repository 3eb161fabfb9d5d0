use Rattle.std.proofs.Common.{◌≡◌, ap, ◌∙◌, length, replicate, [], subst, sym, arith}
use Rattle.stack_base.specs.declared.stack.Stack.{Stack}
use Rattle.plain_core.specs.objects.Plain.{HasPlacesForStack}
use Rattle.plain_core.proofs.opening_lemmas.Opened.{has_places}
use Rattle.plain_core.proofs.opening.objects.open_objects.Goals as goal

pub new-requires : goal.new-requires
new-requires c =
    let long : c.len.result ≡ length c.args.stack.now.devices.items = omega (arith, c.len.ensures, c.args.stack.now.devices.ok.0) in
    subst (λ (s : Stack). HasPlacesForStack s c.in_ok-pools.pools.items c.in_ok-rescues.rescues.items c.in_ok-disks.disks.items) (sym c.requires.same)
    (has_places c.args.stack.now c.args.scripts.now c.in_ok-pools.pools.items c.in_ok-rescues.rescues.items c.in_ok-disks.disks.items
    c.in_ok-pools.ensures (c.in_ok-rescues.ensures ∙ ap (λ n. replicate n []) long) c.in_ok-disks.ensures)
