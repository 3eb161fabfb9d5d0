use Rattle.std.proofs.Common.{◌≡◌, ap, sym, ◌∙◌, length, replicate, [], subst}
use Rattle.stack_base.specs.declared.stack.Stack.{Stack}
use Rattle.task_core.specs.opened.OfOne.{scenario_in}
use Rattle.plain_core.specs.objects.Plain.{HasPlacesForStack}
use Rattle.plain_core.proofs.opening_lemmas.Opened.{has_places}
use Rattle.plain_core.proofs.opening_lemmas.Seen.{stack_there}
use Rattle.plain_core.proofs.opening.seen_objects.objects_seen.Goals as goal

pub new-requires : goal.new-requires
new-requires c =
    let s = scenario_in c.args.opened.now in
    let same = stack_there c.args.opened.now c.requires.opened c.args.routes.now c.requires.routes in
    let long : c.count.result ≡ length s.stack.devices.items = c.count.ensures ∙ ap (λ (st : Stack). length st.devices.items) same in
    subst (λ (st : Stack). HasPlacesForStack st c.in_ok-pools.pools.items c.in_ok-rescues.rescues.items c.in_ok-disks.disks.items) (sym same)
    (has_places s.stack s.scripts c.in_ok-pools.pools.items c.in_ok-rescues.rescues.items c.in_ok-disks.disks.items c.in_ok-pools.ensures
    (c.in_ok-rescues.ensures ∙ ap (λ n. replicate n []) long) c.in_ok-disks.ensures)
