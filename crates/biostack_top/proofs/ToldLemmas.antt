-- What is told of the run of a text.
use Rattle.std.proofs.Common.{◌≡◌, ◌++◌, ℕ, Bool, true, false, List, All, length, refl}
use Rattle.biostack_words.specs.declared.order.Order.TheVariants.{Gen}
use Rattle.decl_text.specs.declared.accepted.Accepted.{Accepted}
use Rattle.work_text.specs.declared.Work.{Work}
use Rattle.task_core.specs.declared.ended.Ended.{Ended}
use Rattle.run_machine.specs.declared.event.Event.{Event}
use Rattle.run_machine.specs.Named.{FitsEvent}
use Rattle.run_machine.specs.Scenario.{scenario_of}
use Rattle.report_text.specs.CheckText.{steps_bound}
use Rattle.report_text.specs.Report.{gen_text, report}
use Rattle.report_text.specs.Views.{told_of}
use Rattle.biostack_top.specs.Scene.{TextSays}
use Rattle.biostack_top.specs.Running.{ByNumber, HasRun, Maker, sectors_of_writes}
use Rattle.biostack_top.specs.Tracing.{traced}
use Rattle.biostack_top.specs.Ending.{IsOutputOf, TellsRun, all_well}
use Rattle.biostack_top.proofs.RunningLemmas.{every_run, is_told}

module _ (text : List ℕ) (accepted : Accepted) (work : Work) (says : TextSays text accepted work) where
  pub tells_run : (maker : Maker) (events : List Event) (ended : Ended) → HasRun (scenario_of accepted work) maker events ended
      → (trace : Bool) → (trace ≡ true → All FitsEvent events)
      → TellsRun maker trace text (traced trace accepted.stack events ++ report accepted.stack (told_of ended (steps_bound work.bound))) (all_well ended.statuses.items)
  tells_run maker events ended has trace fits = (
    accepted,
    work,
    events,
    told_of ended (steps_bound work.bound),
    says,
    every_run text accepted work says,
    is_told text accepted work says maker events ended has,
    fits,
    refl,
    refl,
  )

  pub tells_made : (number : ℕ) (events : List Event) (ended : Ended) → HasRun (scenario_of accepted work) (ByNumber number) events ended
      → (count total : ℕ) → count ≡ length work.writes.items → total ≡ sectors_of_writes work.writes.items
      → IsOutputOf (Gen number false) text (gen_text number count total accepted.stack (told_of ended (steps_bound work.bound))) true
  tells_made number events ended has count total counted summed = (
    accepted,
    work,
    events,
    told_of ended (steps_bound work.bound),
    says,
    every_run text accepted work says,
    is_told text accepted work says (ByNumber number) events ended has,
    (λ k. gen_text number (counted k) (summed k) accepted.stack (told_of ended (steps_bound work.bound))),
    refl,
  )
