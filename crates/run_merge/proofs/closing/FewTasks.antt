-- A scenario has few tasks: eight writers, a rescuer and a completer for each device, and a keeper.
use Rattle.std.proofs.Common.{◌^◌, ◌≤◌, length, arith}
use Rattle.std.specs.List.{range_with_len}
use Rattle.std.proofs.lemmas.List.FromFn.{length-range_with_len}
use Rattle.run_machine.specs.Opened.{Scenario, setup_in, opened_tasks}
use Rattle.run_machine.specs.Scene.{is_disk}
use Rattle.block_core.specs.Scenarios.{IsScenario}
use Rattle.shared_objects.proofs.row_lemmas.SeatNumbers.{few_of}
use Rattle.shared_objects.proofs.sharing.FewTasks.{tasks_counted}

pub few_tasks : (s : Scenario) → IsScenario s → length (opened_tasks s) ≤ 2 ^ 24
few_tasks s good =
    let all = range_with_len 0 (setup_in s).count in
    let devices = good.stack.few in
    omega (arith, tasks_counted s, few_of (setup_in s).rescuer all, few_of (is_disk (setup_in s)) all, length-range_with_len 0 (setup_in s).count, devices)
