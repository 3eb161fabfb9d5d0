use Rattle.std.proofs.Common.{◌≡◌, ◌<◌, ◌≤◌, ◌^◌, ◌∙◌, ℕ, suc, true, false, List, ap, arith, length, subst, sym}
use Rattle.std.specs.Prelude.{All}
use Rattle.std.proofs.lemmas.List.FromFn.{length-map-range_with_len}
use Rattle.fail_script.specs.Script.{Answers, only_tail}
use Rattle.stack_base.specs.declared.ids.PoolId.{PoolId}
use Rattle.stack_base.specs.declared.ids.PoolId.TheVariants.{Bios, Records}
use Rattle.stack_base.specs.declared.stack.Stack.{Stack}
use Rattle.stack_base.specs.PoolId.{pool_number}
use Rattle.stack_base.specs.Stack.{IsStack}
use Rattle.decl_text.specs.Accepting.{IsDeclaredSo}
use Rattle.decl_text.specs.Fit.{IsFitStack}
use Rattle.decl_text.proofs.DeclarationsFit.{accepted_fit}
use Rattle.task_core.specs.opened.NewTasks.{reserves_in}
use Rattle.run_machine.specs.Opened.{device_at, reserve_of, script_at, in_round, rounds_in}
use Rattle.task_core.specs.opened.Openings.{has_pool, has_set_at}
use Rattle.task_steps.specs.Stage.{has_mirror_in}
use Rattle.task_core.proofs.opened.MeantAsAsked.{bads_are, reserves_small, rounds_few, sets_kept, slips_are_kept}
use Rattle.task_core.proofs.opened.ScriptsBehind.{scripts_alone, scripts_small}
use Rattle.task_core.proofs.opening.open_plain.Goals as goal

pub open_tally-requires-clause-few : goal.open_tally-requires-clause-few
open_tally-requires-clause-few c =
    let rounds = c.args.work.now.rounds.items in
    let long = ap length c.requires.left ∙ length-map-range_with_len (in_round rounds) 0 (rounds_in rounds) in
    let short = c.requires.short in
    omega (arith, long, short)

pub open_tally-requires-clause-unfinished : goal.open_tally-requires-clause-unfinished
open_tally-requires-clause-unfinished c =
    let few = rounds_few c.args.accepted.now c.args.work.now c.requires.read in
    let all = c.requires.all in
    omega (arith, few, all)

pub open_objects-requires-clause-bios : goal.open_objects-requires-clause-bios
open_objects-requires-clause-bios c = (accepted_fit c.args.accepted.now).fs_bios.0

pub open_objects-requires-clause-vecs : goal.open_objects-requires-clause-vecs
open_objects-requires-clause-vecs c = (accepted_fit c.args.accepted.now).fs_vecs.0

pub open_objects-requires-clause-sets : goal.open_objects-requires-clause-sets
open_objects-requires-clause-sets c =
    let routing = c.args.routes.now in
    let same = c.requires.same in
    subst (λ (s : Stack). (dev : ℕ) → has_set_at routing (suc dev) ≡ true → 1 ≤ reserve_of s (Bios (device_at dev))) same
    (sets_kept routing (subst IsStack (sym same) c.args.accepted.now.is_stack) (subst IsFitStack (sym same) (accepted_fit c.args.accepted.now)))

pub open_objects-requires-clause-records : goal.open_objects-requires-clause-records
open_objects-requires-clause-records c =
    let routing = c.args.routes.now in
    let same = c.requires.same in
    subst (λ (s : Stack). (dev : ℕ) → has_mirror_in routing dev ≡ true → 1 ≤ reserve_of s (Records (device_at dev))) same
    (slips_are_kept routing (subst IsStack (sym same) c.args.accepted.now.is_stack) (subst IsFitStack (sym same) (accepted_fit c.args.accepted.now)))

pub open_objects-requires-clause-bads : goal.open_objects-requires-clause-bads
open_objects-requires-clause-bads c = bads_are c.args.accepted.now.stack c.args.accepted.now.is_stack (accepted_fit c.args.accepted.now)

pub open_objects-requires-clause-scripts : goal.open_objects-requires-clause-scripts
open_objects-requires-clause-scripts c =
    subst (All (λ (script : PoolId × Answers). pool_number script.0 < 2 ^ 32)) (sym c.deref-2.ensures.value)
    (scripts_small c.args.accepted.now.stack c.args.accepted.now.scripts.items c.args.accepted.now.is_stack c.args.accepted.now.declared)

pub open_objects-requires-clause-reserves : goal.open_objects-requires-clause-reserves
open_objects-requires-clause-reserves c =
    subst (All (λ (reserve : PoolId × ℕ). pool_number reserve.0 < 2 ^ 32)) (sym (c.deref-3.ensures.value ∙ c.in_ok-reserves.ensures ∙ ap reserves_in c.deref.ensures.value))
    (reserves_small c.args.accepted.now c.args.work.now c.requires.read)

pub open_objects-requires-clause-no_other : goal.open_objects-requires-clause-no_other
open_objects-requires-clause-no_other c =
    let routing = c.args.routes.now in
    let same = c.requires.same in
    let accepted = c.args.accepted.now in
    subst (λ (scripts : List (PoolId × Answers)). (number : ℕ) → has_pool routing number ≡ false → script_at scripts number ≡ only_tail true) (sym c.deref-2.ensures.value)
    (scripts_alone routing accepted.scripts.items (subst IsStack (sym same) accepted.is_stack)
    (subst (λ (s : Stack). ∥ IsDeclaredSo s accepted.scripts.items ∥₁) (sym same) accepted.declared))
