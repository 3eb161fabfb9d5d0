-- What the run of a text leaves, as its report tells it.
use Rattle.std.proofs.Common.{◌≡◌, ◌<◌, ◌^◌, length, arith, ap, subst, ◌∙◌}
use Rattle.std.specs.Prelude.{Result, Ok, Err, IfOk}
use Rattle.decl_text.specs.declared.accepted.Accepted.{Accepted}
use Rattle.work_text.specs.declared.Work.{Work}
use Rattle.run_machine.specs.ReadBehind.{IsReadBehind}
use Rattle.run_machine.specs.Opened.{Scenario}
use Rattle.run_machine.specs.Scenario.{scenario_of}
use Rattle.block_core.proofs.claim.Runnable.{accepted_texts_are_runnable, steps_fit_in_24_bits}
use Rattle.task_core.specs.declared.opening.Opened.{Opened}
use Rattle.task_core.specs.opened.OfOne.{scenario_in}
use Rattle.report_text.specs.CheckText.{steps_bound}
use Rattle.report_text.specs.Views.{IsEndedOfStack}
use Rattle.report_text.proofs.LeftLemmas.{left_of}
use Rattle.shared_objects.specs.declared.closed.Closed.{Closed}
use Rattle.shared_objects.specs.declared.shared.Shared.{Shared}
use Rattle.run_merge.specs.Outcomes.{IsOutcomeOf, shared_scenario, state_in}
use Rattle.run_merge.specs.declared.outcome.Outcome.{Outcome}

-- its bound is small
pub few_steps : (accepted : Accepted) (work : Work) → IsReadBehind accepted work → steps_bound work.bound < 2 ^ 64
few_steps accepted work read =
    let by = accepted_texts_are_runnable accepted work read in
    omega (arith, by.1, steps_fit_in_24_bits (scenario_of accepted work) by.0)

-- what was shared is of the text
pub shared_of_it : {E : Type 0} (result : Result Shared E) (opened : Opened) (s : Scenario) → IfOk result (λ (shared : Shared). shared.told.value ≡ opened)
    → scenario_in opened ≡ s → IfOk result (λ (shared : Shared). scenario_in shared.told.value ≡ s)
shared_of_it (Ok shared) opened s told of = ap scenario_in told ∙ of
shared_of_it (Err e) opened s told of = tt

-- what is left is of its stack
pub is_of : (closed : Closed) (outcome : Outcome) (accepted : Accepted) (work : Work) (told : Opened) → IsOutcomeOf closed outcome → closed.told.value ≡ told
    → scenario_in told ≡ scenario_of accepted work → IsEndedOfStack accepted.stack outcome.ended
is_of closed outcome accepted work told is same of =
    subst (λ (s : Scenario). IsEndedOfStack s.stack outcome.ended) (ap scenario_in same ∙ of)
    (left_of (state_in closed).objects is.disks (shared_scenario closed).stack (length is.events) outcome.ended is.left)
