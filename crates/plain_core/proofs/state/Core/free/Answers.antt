use Rattle.std.proofs.Common.{◌≡◌, ◌<◌, ◌∙◌, ℕ, ap, sym, subst, length, refl, arith}
use Rattle.run_machine.specs.Events.{id_of}
use Rattle.std.proofs.lemmas.List.{length-map}
use Rattle.std.proofs.lemmas.Option.{same_Some, slice_get_read}
use Rattle.plain_core.specs.Cores.{CoreState}
use Rattle.plain_core.specs.objects.Questions.{IsDecisionOf}
use Rattle.plain_core.specs.steps.Free.{IsFirstFree, IsFreeAt, TaskIsFree}
use Rattle.plain_core.specs.steps.Views.{task_of_plain}
use Rattle.plain_core.proofs.step_lemmas.FirstFree.{found_free, found_not, next_is_not, none_is_free}
use Rattle.plain_core.proofs.state.Core.free.Goals as goal

pub returns-then-task_is_free : goal.returns-then-task_is_free
returns-then-task_is_free c =
    let i = c.self.inside in
    let here : c.asking.place < length i.tasks.items = omega (arith, c.asking-test.true, c.len-place-end.ensures) in
    let x = c.index.result.now in
    let at = slice_get_read i.tasks.items (length i.tasks.items) c.asking.place x refl here c.index.ensures in
    let y = c.index-then-task_is_free.result.now in
    let again = slice_get_read i.tasks.items (length i.tasks.items) c.asking.place y refl here c.index-then-task_is_free.ensures in
    let free = subst (λ b. IsDecisionOf b (TaskIsFree i.routes.value i.objects (task_of_plain x))) c.if-task_is_free.true (c.task_is_free.ensures i.routes.value) in
    let before = subst (λ (o : CoreState). (k : ℕ) → k < c.asking.place → IsFreeAt o k → ⊥) (sym c.self.view_is) c.asking.invariant in
    subst (λ (o : CoreState). IsFirstFree o c.id.result) c.self.view_is
    (found_free i.routes.value i.objects i.tasks.items c.asking.place x c.id.result at here
    (c.id.ensures ∙ ap (λ t. id_of (task_of_plain t)) (same_Some y x (sym again ∙ at))) free before)

pub asking-preserved : goal.asking-preserved
asking-preserved c =
    let i = c.self.inside in
    let here : c.asking.place < length i.tasks.items = omega (arith, c.asking-test.true, c.len-place-end.ensures) in
    let x = c.index.result.now in
    let at = slice_get_read i.tasks.items (length i.tasks.items) c.asking.place x refl here c.index.ensures in
    let never = subst (λ b. IsDecisionOf b (TaskIsFree i.routes.value i.objects (task_of_plain x))) c.if-task_is_free.false (c.task_is_free.ensures i.routes.value) in
    let not_here = subst (λ (o : CoreState). IsFreeAt o c.asking.place → ⊥) c.self.view_is (found_not i.routes.value i.objects i.tasks.items c.asking.place x at never) in
    next_is_not c.args.self.now c.asking.place c.asking.invariant not_here

pub returns : goal.returns
returns c =
    let long : length c.args.self.now.tasks ≡ length c.self.inside.tasks.items =
    ap (λ (o : CoreState). length o.tasks) (sym c.self.view_is) ∙ length-map c.self.inside.tasks.items task_of_plain in
    none_is_free c.args.self.now
    (λ place lt f. c.asking.invariant place (omega (arith, lt, long, c.asking-test.false, c.len-place-end.ensures)) f)
