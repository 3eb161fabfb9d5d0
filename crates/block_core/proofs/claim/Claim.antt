-- Every run of a scenario that can be run is as claimed: the laws together.
use Rattle.std.proofs.Common.{arith}
use Rattle.run_machine.specs.Scenario.{scenario_of}
use Rattle.block_core.specs.Claim.{EveryRunIsAsClaimed, AcceptedTextsRunAsClaimed}
use Rattle.block_core.proofs.bound.Bounded.{runs_are_bounded}
use Rattle.block_core.proofs.bound.ExactSteps.{steps_without_misses}
use Rattle.block_core.proofs.images.DoneWrites.{done_is_completed}
use Rattle.block_core.proofs.sound.WritesToldDone.{unfinished_until_done, tally_has_statuses, none_left_undone}
use Rattle.block_core.proofs.stuck.RunsEnd.{runs_end_with_their_writes}
use Rattle.block_core.proofs.unrefused.Unbroken.{no_task_breaks}
use Rattle.block_core.proofs.status.Statuses.{statuses_are_given, ended_statuses_are_given}
use Rattle.block_core.proofs.images.ImagesLaid.{images_are_laid_out}
use Rattle.block_core.proofs.stuck.NeverStuck.{no_allowed_state_is_stuck}
use Rattle.block_core.proofs.claim.Runnable.{accepted_texts_are_runnable, steps_fit_in_24_bits}
use Rattle.block_core.proofs.sound.EveryRun.{each_is_done_once}
use Rattle.block_core.proofs.sound.Soundness.{every_run_is_sound}

pub every_run_is_as_claimed : EveryRunIsAsClaimed
every_run_is_as_claimed s ledger events state runnable rescuers naming run =
    let good = runnable.scenario in
    let few = runs_are_bounded s ledger events state good naming run in
    let most = steps_fit_in_24_bits s runnable in
    let sound = every_run_is_sound s ledger events state good naming run in
    record {
      sound = sound;
      pools = sound.pools;
      once = λ write. each_is_done_once s ledger events state good naming run write;
      until_done = unfinished_until_done s ledger events state good naming run;
      tells = tally_has_statuses s ledger events state good naming run;
      waits = sound.waits rescuers;
      unrefused = no_task_breaks s ledger events state good runnable.allowed naming run;
      ends = λ none. runs_end_with_their_writes s ledger events state good naming run none;
      all_done = λ none. none_left_undone s ledger events state good naming run none;
      done = done_is_completed s ledger events state good naming run;
      given = statuses_are_given s ledger events state good naming run;
      statuses = ended_statuses_are_given s ledger events state good naming run;
      images = λ ended. images_are_laid_out s ledger events state good runnable.apart naming run ended;
      exact = λ ended all. steps_without_misses s ledger events state good naming run ended all;
      free = λ some. no_allowed_state_is_stuck s ledger events state good runnable.allowed rescuers runnable.reserves runnable.ordered naming run some;
      bounded = few;
      tickets = omega (arith, few, most);
    }

pub accepted_texts_run_as_claimed : AcceptedTextsRunAsClaimed
accepted_texts_run_as_claimed accepted work read rescuers ledger events state naming run =
    let runnable = accepted_texts_are_runnable accepted work read in
    let all = every_run_is_as_claimed (scenario_of accepted work) ledger events state runnable.0 rescuers naming run in
    (all, omega (arith, all.bounded, runnable.1))
