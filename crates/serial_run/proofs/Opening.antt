-- What was opened is the state in which the runs of its scenario begin, and it has a task where the stack has a device.
use Rattle.std.proofs.Common.{◌≡◌, ◌<◌, ◌≤◌, ◌&&◌, ℕ, true, List, [], ◌∷◌, length, map, Some, refl, sym, ap, ◌∙◌, subst, arith}
use Rattle.std.specs.Prelude.{slice_get, slice_index_or}
use Rattle.std.proofs.lemmas.Bool.{lt-ltb}
use Rattle.std.proofs.lemmas.List.{length-map}
use Rattle.elem_ledger.specs.Ledger.{LedgerId}
use Rattle.stack_base.specs.declared.ids.DevId.{DevId}
use Rattle.stack_base.specs.declared.stack.Device.{Device}
use Rattle.stack_base.specs.declared.stack.Kind.{Kind}
use Rattle.stack_base.specs.declared.stack.Kind.TheVariants as kind
use Rattle.stack_base.specs.declared.stack.Stack.{Stack}
use Rattle.stack_base.specs.Stack.{IsStack, HasShape}
use Rattle.stack_base.specs.Tree.{tree}
use Rattle.stack_base.proofs.Unfolded.{tree_is}
use Rattle.task_core.specs.declared.opening.Opened.{Opened}
use Rattle.task_core.specs.opened.OfOne.{tasks_at, run_state, scenario_in, IsOpened}
use Rattle.run_machine.specs.Objects.{Objects}
use Rattle.run_machine.specs.Opened.{Scenario, most_writers, no_task, objects, scene, setup_in, start, opened_tasks}
use Rattle.task_core.specs.Plains.{stage_of}
use Rattle.task_core.specs.PlainSteps.{scene_of_objects}
use Rattle.run_machine.specs.Runs.{State}
use Rattle.run_machine.specs.Scene.{Scene, Setup, is_disk, keeps_data}
use Rattle.task_steps.specs.TaskViews.{TaskOf}
use Rattle.run_machine.specs.Tasks.{TaskState}
use Rattle.block_core.specs.Scenarios.{IsScenario, EveryPoolKeepsSome, AreSorted}
use Rattle.block_core.proofs.start.PostsAtStart.{start_crew}
use Rattle.run_machine.specs.Named.{is_disk_kind}
use Rattle.task_core.proofs.DisksOfKinds.{keeps_by}

module _ (o : Opened) (is : IsOpened o) where
  abbrev s : Scenario
  s = scenario_in o

  abbrev ledger : ℕ → LedgerId
  ledger = (stage_of o.objects).ledger

  pub count_is : length o.tasks.items ≡ length (opened_tasks s)
  count_is = sym (length-map o.tasks.items (λ (task : TaskOf). task.state)) ∙ ap length is.tasks

  pub begins_at : run_state o.objects o.tasks.items ≡ start s
  begins_at =
      let with_objects : Objects → State = λ objects. record { objects = objects; task = tasks_at o.tasks.items } in
      let with_tasks : List TaskState → State = λ list. record { objects = objects s; task = λ place. slice_index_or list place no_task } in
      ap with_objects is.objects ∙ ap with_tasks is.tasks

  pub scene_is : scene_of_objects o.objects (length o.tasks.items) ≡ scene s ledger
  scene_is =
      let with_setup : Setup → Scene = λ setup. record {
        setup = setup;
        tasks = length o.tasks.items;
        books = most_writers;
        writes = (stage_of o.objects).writes;
        ledger = ledger;
      } in
      let with_tasks : ℕ → Scene = λ count. record {
        setup = setup_in s;
        tasks = count;
        books = most_writers;
        writes = (stage_of o.objects).writes;
        ledger = ledger;
      } in
      let with_writes : ℕ → Scene = λ writes. record {
        setup = setup_in s;
        tasks = length (opened_tasks s);
        books = most_writers;
        writes = writes;
        ledger = ledger;
      } in
      ap with_setup is.setup ∙ ap with_tasks count_is ∙ ap with_writes is.writes

-- the first device of a stack is a disk, since its members would be before it
no_members : (stack : Stack) → IsStack stack → (device : Device) → slice_get stack.devices.items 0 ≡ Some device → length device.members.items ≡ 0
no_members stack good device found = by_members device.members.items (good.each 0 device found).below
  where
    by_members : (members : List DevId) → ((i : ℕ) (m : DevId) → slice_get members i ≡ Some m → m.0 < 0) → length members ≡ 0
    by_members [] below = refl
    by_members (member ∷ more) below = absurd (let lt = below 0 member refl in omega (arith, lt))

disk_alone : (k : Kind) → HasShape k 0 → is_disk_kind k ≡ true
disk_alone (kind.Disk sectors bad) shape = refl
disk_alone kind.Linear shape = absurd (let some = shape.0 in omega (arith, some))
disk_alone (kind.Stripe chunk) shape = absurd (let some = shape.1 in omega (arith, some))
disk_alone (kind.Zoned chunk) shape = absurd (let some = shape.1 in omega (arith, some))
disk_alone (kind.Limit longest chunk) shape = absurd (let one = shape.1 in omega (arith, one))
disk_alone (kind.Mirror records) shape = absurd (let some = shape.0 in omega (arith, some))

first_is_disk : (s : Scenario) → IsStack s.stack → 1 ≤ length s.stack.devices.items → is_disk (setup_in s) 0 ≡ true
first_is_disk s good some = by_devices s.stack.devices.items refl
  where
    by_devices : (devices : List Device) → s.stack.devices.items ≡ devices → is_disk (setup_in s) 0 ≡ true
    by_devices [] is = absurd (let none : length s.stack.devices.items ≡ 0 = ap length is in omega (arith, some, none))
    by_devices (device ∷ more) is =
        let found : slice_get s.stack.devices.items 0 ≡ Some device = ap (λ (list : List Device). slice_get list 0) is in
        let alone : is_disk_kind device.kind ≡ true =
        disk_alone device.kind (subst (HasShape device.kind) (no_members s.stack good device found) (good.each 0 device found).shape) in
        ap (λ b. b && keeps_data (tree s.stack 0)) (lt-ltb 0 (length s.stack.devices.items) (omega (arith, some)))
        ∙ ap keeps_data (tree_is s.stack good 0 device found) ∙ keeps_by 0 device.kind (map (λ (m : DevId). tree s.stack m.0) device.members.items) ∙ alone

-- so where there is a device there is a task
pub has_task : (s : Scenario) (ledger : ℕ → LedgerId) → IsScenario s → EveryPoolKeepsSome s → AreSorted s.rounds → 1 ≤ length s.stack.devices.items → 1 ≤ length (opened_tasks s)
has_task s ledger good reserves ordered some =
    let manned = (start_crew s good ledger reserves ordered).disks 0 (first_is_disk s good.stack some) in
    let there = manned.1 in
    omega (arith, there)
