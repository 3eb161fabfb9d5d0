use Rattle.std.proofs.Common.{◌≡◌, ◌∙◌, [], map, ap, sym, subst, not}
use Rattle.stack_base.specs.declared.stack.Stack.{Stack}
use Rattle.stack_base.specs.Tree.{size}
use Rattle.decl_text.specs.Known.{Declarations, Reserves, trees}
use Rattle.decl_text.specs.Accepting.{MeansStack, shown_devices}
use Rattle.stack_check.specs.Finish.{shared_scripts}
use Rattle.stack_check.specs.Sound.{AreSound}
use Rattle.stack_check.proofs.FinishLemmas.{means_from}
use Rattle.stack_check.proofs.StackLemmas.{is_stack}
use Rattle.stack_check.proofs.finish.meaning.Goals as goal

pub returns : goal.returns
returns c =
    let inside = c.draft.inside in
    let known : Declarations = record { devices = inside.devices; fs = inside.fs; bad = inside.bad.items; scripts = inside.scripts; no_memory = inside.no_memory; writes = []; rounds = []; syncs = 0; resizes = [] } in
    let stack : Stack = record { devices = c.in_ok-devices.devices; sizes = c.into_placed-placed.result.1; fs_bios = c.fs.inside.bios; fs_vecs = c.fs.inside.vecs } in
    let scripts = c.in_ok-scripts.scripts.items in
    let given = c.into_given.result.items in
    let means : MeansStack known stack scripts =
    means_from known stack scripts c.into_placed-placed.result.0.items c.deref-2.result.now given c.reserves_of-fs.result
    c.into_placed-placed.ensures.devices c.deref-2.ensures.value c.into_given.ensures.scripts c.reserves_of-fs.ensures c.in_ok-devices.ensures
    (ap (λ (r : Reserves). r.bios) c.fs.view_is) (ap (λ (r : Reserves). r.vecs) c.fs.view_is)
    (c.in_ok-scripts.ensures ∙ ap (λ ds. shared_scripts ds given (not inside.no_memory)) c.deref.ensures.value) in
    let sound : AreSound (shown_devices stack) = subst AreSound (sym c.in_ok-devices.ensures.shown) c.into_placed-placed.ensures.sound in
    let sizes : stack.sizes.items ≡ map size (trees (shown_devices stack)) =
    c.into_placed-placed.ensures.sizes ∙ ap (λ ds. map size (trees ds)) (sym c.in_ok-devices.ensures.shown) in
    (subst (λ (k : Declarations). MeansStack k stack scripts) c.draft.view_is means, is_stack stack sound sizes)
