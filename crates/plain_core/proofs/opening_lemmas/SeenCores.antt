-- The plain state of what was opened is that in which the runs of its text begin.
use Rattle.std.proofs.Common.{◌≡◌, ℕ, List, sym, ap, subst, ◌∙◌}
use Rattle.std.specs.Prelude.{All}
use Rattle.work_text.specs.declared.Work.{Work}
use Rattle.task_core.specs.declared.opening.Opened.{Opened}
use Rattle.task_core.specs.opened.OfOne.{IsOpened, scenario_in, states}
use Rattle.run_machine.specs.Opened.{Scenario, places_of}
use Rattle.task_core.specs.Plains.{stage_of}
use Rattle.task_steps.specs.Routed.{Routing, places_at}
use Rattle.run_machine.specs.Scene.{Setup}
use Rattle.run_machine.specs.Tasks.{TaskState}
use Rattle.plain_core.specs.Cores.{CoreState, AreFound, IsCore}
use Rattle.plain_core.specs.opening.Opening.{core_objects_of, IsOpenedCore}
use Rattle.plain_core.specs.opening.Seen.{HasNotBegun, Rises}
use Rattle.plain_core.specs.objects.Plain.{CoreObjects}
use Rattle.plain_core.proofs.opening_lemmas.Opened.{is_core, opened_so}
use Rattle.plain_core.proofs.opening_lemmas.SlotsRise.{firsts, risen}
use Rattle.plain_core.proofs.opening_lemmas.Seen.{can, same}

module _ (o : Opened) (is : IsOpened o) where
  abbrev s : Scenario
  s = scenario_in o

  abbrev work : Work
  work = o.work.value

  abbrev routing : Routing
  routing = (stage_of o.objects).routing

  placed : (writer : ℕ) → places_at routing.places writer ≡ places_of s writer
  placed writer = ap (λ (su : Setup). su.places writer) is.setup

  pub seen_first : All HasNotBegun (states o.tasks.items)
  seen_first = subst (All HasNotBegun) (sym is.tasks) (firsts s.stack s.scripts work (can o is))

  pub seen_rises : Rises 0 (states o.tasks.items) 73
  seen_rises = subst (λ ts. Rises 0 ts 73) (sym is.tasks) (risen s.stack s.scripts work (can o is))

  pub seen_so : (core : CoreState) → core.routing ≡ routing → core.objects ≡ core_objects_of s core.routing.places → core.tasks ≡ states o.tasks.items → IsOpenedCore s core
  seen_so core is_routing is_objects is_tasks =
      opened_so s.stack s.scripts work (can o is) routing.places placed core (is_routing ∙ same o is)
      (is_objects ∙ ap (λ (r : Routing). core_objects_of s r.places) is_routing) (is_tasks ∙ is.tasks)

  pub seen_is_core : (own : Routing) (plain : CoreObjects) (all : List TaskState) (places : List ℕ) → own ≡ routing → plain ≡ core_objects_of s own.places
      → all ≡ states o.tasks.items → AreFound places all → IsCore own plain all places
  seen_is_core own plain all places is_own is_plain is_all found =
      is_core s.stack s.scripts work (can o is) own plain all places
      (ap (λ (r : Routing). r.stack) is_own ∙ is.stack) (ap (λ (p : CoreObjects). p.stack) is_plain) (is_all ∙ is.tasks) found
