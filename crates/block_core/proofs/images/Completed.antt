-- In every run what is completed and what is still to come are together what was planned.
use Rattle.std.proofs.Common.{◌≡◌, ◌+◌, ◌-◌, ◌^◌, ◌%◌, ◌≤◌, ℕ, List, [], ◌∷◌, inl, inr, refl, sym, ◌∙◌, ap, arith}
use Rattle.std.specs.Prelude.{sum_by}
use Rattle.std.proofs.lemmas.List.Sums.{sum_by-append}
use Rattle.std.proofs.lemmas.Option.{slice_get_cases}
use Rattle.elem_ledger.specs.Ledger.{LedgerId}
use Rattle.layout_model.specs.declared.fragment.Fragment.{Fragment}
use Rattle.layout_model.specs.Writes.{IsWrite}
use Rattle.layout_model.proofs.RangeSums.{sum_of_zero}
use Rattle.bio_records.specs.Runs.{place_number, place_at}
use Rattle.bio_records.proofs.RunLemmas.{number_of_place}
use Rattle.run_machine.specs.declared.event.Event.{Event}
use Rattle.run_machine.specs.Scene.{Scene}
use Rattle.run_machine.specs.Tasks.{Todo, first_bio}
use Rattle.run_machine.specs.Opened.{Scenario, scene, start, todos, setup_in}
use Rattle.run_machine.specs.Runs.{State, IsRun}
use Rattle.block_core.specs.Weights.{total_weight}
use Rattle.block_core.specs.Scenarios.{IsScenario}
use Rattle.block_core.specs.Fragments.{todo_fragments, to_come, completed_by, completed, planned, FragmentsAddUp}
use Rattle.block_core.proofs.sound.Invariant.{LedgersAreNumbered}
use Rattle.block_core.proofs.sound.Orders.{DeviceGeometry}
use Rattle.block_core.proofs.moves.Devices.{ground}
use Rattle.block_core.proofs.start.InvariantAtStart.{todos_all}
use Rattle.block_core.proofs.start.StartTotals.{flat_sum, all_sum, opened_total}
use Rattle.block_core.proofs.moves.StepMoves.{step_is_move}
use Rattle.block_core.proofs.sound.EveryRun.{IsReachedWhole, runs_whole, start_whole}
use Rattle.block_core.proofs.images.FragmentCounts.{Divided, divided}
use Rattle.block_core.proofs.moves.Misfits.{Follows, misfits, no_misfits}
use Rattle.block_core.proofs.images.StillToCome.{over, comes}
use Rattle.block_core.proofs.images.Completions.{step_sum}

-- the parts of a bio do not end behind it
rest_over : (p len n : ℕ) → n ≤ len → p + len + 1 - 2 ^ 35 ≡ 0 → place_number (place_at ((p + n) % 2 ^ 35)) + (len - n) + 1 - 2 ^ 35 ≡ 0
rest_over p len n le none = omega (arith, le, none, number_of_place ((p + n) % 2 ^ 35))

pub over_follows : Follows over
over_follows = record {
  maps = λ to members bio. refl;
  fronts = λ whole into n node le none. omega (arith, le, none);
  rests = λ whole n le none. rest_over (place_number whole.bio.at) whole.bio.range.len n le none;
  legs = λ bio hand leg node number sizes members. refl;
  begins = λ writer todo node. refl;
}

module _ (s : Scenario) (good : IsScenario s) (ledger : ℕ → LedgerId) where
  pub small : (todo : Todo) → IsWrite s.stack todo.write → over (first_bio 0 todo 0) ≡ 0
  small todo is = elim ((slice_get_cases s.stack.devices.items todo.write.dev.0).1) [
    | inl x ↦ let few = (good.stack.each todo.write.dev.0 x.0 x.2).small in let within = is.within in omega arith
    | inr past ↦ absurd (let h = past.0 in let known = is.known in omega arith)
  ]

  pub start_counted : total_weight (scene s ledger) (misfits over) (start s) ≡ 0
  start_counted =
      opened_total s good ledger (misfits over) (λ todo. over (first_bio 0 todo 0)) (λ n ts. refl)
      ∙ (all_sum (λ (todo : Todo). IsWrite s.stack todo.write) (λ todo. over (first_bio 0 todo 0)) (λ todo. 0) (todos s) (λ todo is. small todo is) (todos_all s (IsWrite s.stack) good.writes)
      ∙ sum_of_zero (todos s))

  start_comes : (value : Fragment → ℕ) → total_weight (scene s ledger) (to_come (setup_in s) value) (start s) ≡ sum_by value (planned s)
  start_comes value =
      opened_total s good ledger (to_come (setup_in s) value) (λ todo. sum_by value (todo_fragments (setup_in s) todo)) (λ n ts. refl)
      ∙ sym (flat_sum value (todo_fragments (setup_in s)) (todos s))

module _ (scene : Scene) (f : LedgersAreNumbered scene) (g : DeviceGeometry scene.setup) (value : Fragment → ℕ) (v : Divided scene.setup value) where
  pub runs_come : (s : State) (events : List Event) (new : State) → IsReachedWhole scene s → total_weight scene (misfits over) s ≡ 0 → (run : IsRun scene s events new)
      → sum_by value (completed scene s events new run) + total_weight scene (to_come scene.setup value) new ≡ total_weight scene (to_come scene.setup value) s
  runs_come s [] new i counted run = let same = ap (total_weight scene (to_come scene.setup value)) run in omega (arith, same)
  runs_come s (event ∷ events) new i counted (next, (place, steps), run) =
      let moved = step_is_move scene s f i.kept place event next steps in
      let j = runs_whole scene f g s (event ∷ []) next i (next, (place, steps), refl) in
      let stays : total_weight scene (misfits over) next ≡ 0 = ap (total_weight scene (misfits over)) moved.is ∙ no_misfits over over_follows scene s i.kept counted moved.move moved.can in
      let same = ap (total_weight scene (to_come scene.setup value)) moved.is in
      omega (
        arith,
        sum_by-append value (completed_by steps.reply) (completed scene next events new run),
        step_sum scene s value place event next steps moved,
        comes scene s value g v i.kept i.placed counted moved.move moved.can,
        same,
        runs_come next events new j stays run,
      )

pub fragments_add_up : FragmentsAddUp
fragments_add_up s ledger events state good naming run value =
    let f : LedgersAreNumbered (scene s ledger) = record { named = naming } in
    let places = (setup_in s).places in
    runs_come (scene s ledger) f (ground s.stack good.stack places) value (divided s.stack good.stack places value) (start s) events state (start_whole s ledger good naming) (start_counted s good ledger) run
    ∙ start_comes s good ledger value
