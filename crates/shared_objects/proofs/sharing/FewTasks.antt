-- What was opened has few tasks: eight writers, a rescuer or a completer for each device, and a keeper.
use Rattle.std.proofs.Common.{◌≡◌, ◌+◌, ◌≤◌, ◌++◌, cond, ℕ, Bool, true, false, true≢false, List, [], ◌∷◌, length, filter, Option, Some, None, arith, refl, sym, ap}
use Rattle.std.specs.Prelude.{map, slice_get}
use Rattle.std.specs.List.{range_with_len, list_any}
use Rattle.std.proofs.lemmas.List.{length-map, length-append}
use Rattle.std.proofs.lemmas.List.FromFn.{length-range_with_len}
use Rattle.stack_base.specs.declared.stack.Device.{Device}
use Rattle.stack_base.specs.declared.stack.Kind.{Kind}
use Rattle.stack_base.specs.declared.stack.Kind.TheVariants.{Disk, Linear, Stripe, Zoned, Limit, Mirror}
use Rattle.stack_base.specs.declared.stack.Stack.{Stack}
use Rattle.stack_base.specs.Stack.{IsStack}
use Rattle.stack_base.specs.Tree.{shape_of, tree}
use Rattle.layout_model.proofs.ByShape.{cuts_is, copies_is}
use Rattle.decl_text.specs.Accepting.{what_of_kind}
use Rattle.decl_text.specs.Fit.{HasReserves, IsFitStack}
use Rattle.decl_text.proofs.DeclarationsFit.{accepted_fit}
use Rattle.run_machine.specs.Submissions.{rests}
use Rattle.run_machine.specs.Opened.{Scenario, device_at, duties, is_by, keepers, most_writers, setup_in, opened_tasks, todos, todos_of, writers}
use Rattle.run_machine.specs.Scene.{is_device, is_disk, keeps_data, rescuer_at}
use Rattle.run_machine.specs.Tasks.{NoBio, Empty, Writer, Rescuer, Completer}
use Rattle.run_machine.proofs.Apart.{one_keeper}
use Rattle.task_steps.specs.TaskViews.{TaskOf}
use Rattle.task_core.specs.declared.opening.Opened.{Opened}
use Rattle.task_core.specs.opened.OfOne.{IsOpened, scenario_in}
use Rattle.shared_objects.specs.Rans.{most_tasks}
use Rattle.std.proofs.lemmas.Bool.{and_parts, both_ways}
use Rattle.shared_objects.proofs.row_lemmas.SeatNumbers.{few_of}

-- two tests that never both pass
few_of_both : {X : Type 0} (p q : X → Bool) → ((x : X) → p x ≡ true → q x ≡ true → ⊥) → (xs : List X) → length (filter p xs) + length (filter q xs) ≤ length xs
few_of_both p q apart [] = omega arith
few_of_both p q apart (x ∷ xs) = by_test (p x) (q x) refl refl (few_of_both p q apart xs)
  where
    by_test : (a b : Bool) → p x ≡ a → q x ≡ b → length (filter p xs) + length (filter q xs) ≤ length xs
        → length (cond a (x ∷ filter p xs) (filter p xs)) + length (cond b (x ∷ filter q xs) (filter q xs)) ≤ length (x ∷ xs)
    by_test true true e f le = absurd (apart x e f)
    by_test true false e f le = omega (arith, le)
    by_test false true e f le = omega (arith, le)
    by_test false false e f le = omega (arith, le)

-- a disk has no rescuer
module _ (stack : Stack) (good : IsStack stack) (fit : IsFitStack stack) (number : ℕ) where
  by_kind : (device : Device) → slice_get stack.devices.items number ≡ Some device → (kind : Kind) → device.kind ≡ kind → HasReserves (what_of_kind kind) device.reserve device.rescuer
      → device.rescuer ≡ true → keeps_data (tree stack number) ≡ true → ⊥
  by_kind device found (Disk sectors bad) e has rescuer keeps = both_ways device.rescuer has.1 rescuer
  by_kind device found Linear e has rescuer keeps = both_ways (keeps_data (tree stack number)) (ap keeps_data (cuts_is stack good number device found (ap shape_of e))) keeps
  by_kind device found (Stripe chunk) e has rescuer keeps = both_ways (keeps_data (tree stack number)) (ap keeps_data (cuts_is stack good number device found (ap shape_of e))) keeps
  by_kind device found (Zoned chunk) e has rescuer keeps = both_ways (keeps_data (tree stack number)) (ap keeps_data (cuts_is stack good number device found (ap shape_of e))) keeps
  by_kind device found (Limit longest chunk) e has rescuer keeps = both_ways (keeps_data (tree stack number)) (ap keeps_data (cuts_is stack good number device found (ap shape_of e))) keeps
  by_kind device found (Mirror records) e has rescuer keeps = both_ways (keeps_data (tree stack number)) (ap keeps_data (copies_is stack good number device found (ap shape_of e))) keeps

  by_found : (o : Option Device) → slice_get stack.devices.items number ≡ o → rescuer_at o ≡ true → keeps_data (tree stack number) ≡ true → ⊥
  by_found None found rescuer keeps = true≢false (sym rescuer)
  by_found (Some device) found rescuer keeps = by_kind device found device.kind refl (fit.devices number device found).reserves rescuer keeps

  disks_have_none : rescuer_at (slice_get stack.devices.items number) ≡ true → keeps_data (tree stack number) ≡ true → ⊥
  disks_have_none = by_found (slice_get stack.devices.items number) refl

-- the tasks of a scenario by their kinds
pub tasks_counted : (s : Scenario) → let all = range_with_len 0 (setup_in s).count in
    length (opened_tasks s) ≤ most_writers + length (filter (setup_in s).rescuer all) + length (filter (is_disk (setup_in s)) all) + 1
tasks_counted s =
    let all = range_with_len 0 (setup_in s).count in
    let ws = map (λ writer. Writer writer (todos_of s writer) NoBio rests) (writers s) in
    let rs = map (λ dev. Rescuer (device_at dev) rests) (filter (setup_in s).rescuer all) in
    let cs = map (λ dev. Completer (device_at dev) Empty) (filter (is_disk (setup_in s)) all) in
    omega (
      arith,
      length-append ws (rs ++ (cs ++ keepers (duties s))),
      length-append rs (cs ++ keepers (duties s)),
      length-append cs (keepers (duties s)),
      length-map (writers s) (λ writer. Writer writer (todos_of s writer) NoBio rests),
      length-map (filter (setup_in s).rescuer all) (λ dev. Rescuer (device_at dev) rests),
      length-map (filter (is_disk (setup_in s)) all) (λ dev. Completer (device_at dev) Empty),
      few_of (λ writer. list_any (is_by writer) (todos s)) (range_with_len 0 most_writers),
      length-range_with_len 0 most_writers,
      one_keeper (duties s),
    )

few_in : (s : Scenario) → IsStack s.stack → IsFitStack s.stack → length (opened_tasks s) ≤ most_tasks
few_in s good fit =
    let all = range_with_len 0 (setup_in s).count in
    let apart = few_of_both (setup_in s).rescuer (is_disk (setup_in s))
    (λ dev rescuer is. disks_have_none s.stack good fit dev rescuer (and_parts (is_device (setup_in s) dev) (keeps_data (tree s.stack dev)) is).1) all in
    let devices = good.few in
    omega (arith, tasks_counted s, apart, length-range_with_len 0 (setup_in s).count, devices)

pub few_tasks : (o : Opened) → IsOpened o → length o.tasks.items ≤ most_tasks
few_tasks o opened =
    let few = few_in (scenario_in o) o.accepted.value.is_stack (accepted_fit o.accepted.value) in
    let same = ap length opened.tasks in
    let mapped = length-map o.tasks.items (λ (task : TaskOf). task.state) in
    omega (arith, few, same, mapped)
