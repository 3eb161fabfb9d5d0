-- Fragments are completed round by round, since what waits in disks is of the present round.
use Rattle.std.proofs.Common.{◌≡◌, ◌<◌, ◌≤◌, ℕ, List, [], ◌∷◌, refl, sym, subst, arith}
use Rattle.std.specs.Prelude.{All}
use Rattle.std.specs.List.{AllPairs}
use Rattle.std.proofs.lemmas.List.Elements.{All-nil, All-cons, All-append, All-contains, All-get_or}
use Rattle.std.proofs.lemmas.Option.{get_or_from_slice_get, slice_get_within}
use Rattle.elem_ledger.specs.Ledger.{LedgerId}
use Rattle.layout_model.specs.declared.fragment.Fragment.{Fragment}
use Rattle.layout_model.specs.Laid.{round_of}
use Rattle.layout_model.proofs.Lists.{all_pairs_append}
use Rattle.bio_records.specs.declared.bio.Pad.{Pad}
use Rattle.bio_records.specs.Items.{Item}
use Rattle.run_machine.specs.declared.event.Event.{Event}
use Rattle.run_machine.specs.Scene.{Scene}
use Rattle.run_machine.specs.Opened.{Scenario, scene, start, setup_in}
use Rattle.run_machine.specs.Runs.{State, IsRun}
use Rattle.block_core.specs.Fragments.{fragment_of, completed_by, completed}
use Rattle.block_core.specs.Images.{round_at, RoundsComeInOrder}
use Rattle.block_core.specs.Present.{IsOfPresent}
use Rattle.block_core.proofs.moves.Moves.{Move, Can, after}
use Rattle.block_core.proofs.moves.Moves as moves
use Rattle.block_core.proofs.sound.Invariant.{LedgersAreNumbered}
use Rattle.block_core.proofs.sound.Orders.{DeviceGeometry}
use Rattle.block_core.proofs.moves.Devices.{ground}
use Rattle.block_core.proofs.start.InvariantAtStart.{all_map}
use Rattle.block_core.proofs.moves.StepMoves.{step_is_move}
use Rattle.block_core.proofs.sound.EveryRun.{IsReachedWhole, runs_whole, start_whole}
use Rattle.block_core.proofs.images.StillToCome.{ended}
use Rattle.block_core.proofs.images.Completions.{step_completes}
use Rattle.block_core.proofs.images.Present.{work_is_present}

-- no event goes back to an earlier round
round_on : (scene : Scene) (s : State) (m : Move) → s.objects.tally.round ≤ (after scene s m).objects.tally.round
-- rounds: the next round
round_on scene s (moves.Started place round later duties) = omega arith
-- all others: the same round
round_on scene s _ = omega arith

no_pairs : (R : Fragment → Fragment → Type 0) → AllPairs R []
no_pairs R i j d lt within = absurd (omega (arith, within))

one_pairs : (R : Fragment → Fragment → Type 0) (f : Fragment) → AllPairs R (f ∷ [])
one_pairs R f i j d lt within = absurd (omega (arith, lt, within))

module _ (s : Scenario) (ledger : ℕ → LedgerId) (f : LedgersAreNumbered (scene s ledger)) (g : DeviceGeometry (setup_in s)) where
  abbrev here : Scene
  here = scene s ledger

  -- what waits in disks is of the present round
  abbrev IsPresent : State → Type 0
  IsPresent st = (dev : ℕ) → dev < here.setup.count → All (λ (item : Item Pad). IsOfPresent s st item.bio.write) (st.objects.disk dev).pending

  abbrev Below : Fragment → Fragment → Type 0
  Below a b = round_at s a ≤ round_at s b

  -- what an event completes is of the present round
  ended_present : (st : State) (m : Move) → Can here st m → IsPresent st → All (λ a. round_at s a ≡ st.objects.tally.round) (ended m) × AllPairs Below (ended m)
  ended_present st (moves.Completed place disk index bio status new) c present =
      let P : Item Pad → Type 0 = λ item. round_of s.rounds item.bio.write ≡ st.objects.tally.round in
      let xs = (st.objects.disk disk.0).pending in
      let at = All-get_or P xs index bio (slice_get_within xs index bio c.3.taken) (present disk.0 c.2) in
      let mine : P bio = subst P (get_or_from_slice_get xs index bio bio c.3.taken) at in
      (All-cons (λ a. round_at s a ≡ st.objects.tally.round) (fragment_of bio.bio) [] mine (All-nil (λ a. round_at s a ≡ st.objects.tally.round)), one_pairs Below (fragment_of bio.bio))
  ended_present st _ c present = (All-nil (λ a. round_at s a ≡ st.objects.tally.round), no_pairs Below)

  runs_rise : (st : State) (events : List Event) (new : State) → IsReachedWhole here st → (run : IsRun here st events new)
      → ((before : List Event) (between : State) → IsRun here st before between → IsPresent between)
      → All (λ a. st.objects.tally.round ≤ round_at s a) (completed here st events new run) × AllPairs Below (completed here st events new run)
  runs_rise st [] new i run present = (All-nil (λ a. st.objects.tally.round ≤ round_at s a), no_pairs Below)
  runs_rise st (event ∷ events) new i (next, (place, steps), run) present =
      let moved = step_is_move here st f i.kept place event next steps in
      let j = runs_whole here f g st (event ∷ []) next i (next, (place, steps), refl) in
      let rest = runs_rise next events new j run (λ before between r. present (event ∷ before) between (next, (place, steps), r)) in
      let now = ended_present st moved.move moved.can (present [] st refl) in
      let same = step_completes here st place event next steps moved in
      let first : All (λ a. round_at s a ≡ st.objects.tally.round) (completed_by steps.reply) = subst (All (λ a. round_at s a ≡ st.objects.tally.round)) (sym same) now.0 in
      let pairs : AllPairs Below (completed_by steps.reply) = subst (AllPairs Below) (sym same) now.1 in
      let on : st.objects.tally.round ≤ next.objects.tally.round =
      subst (λ (t : State). st.objects.tally.round ≤ t.objects.tally.round) (sym moved.is) (round_on here st moved.move) in
      let later = completed here next events new run in (
        All-append (λ a. st.objects.tally.round ≤ round_at s a) (completed_by steps.reply) later
            (all_map (λ a. round_at s a ≡ st.objects.tally.round) (λ a. st.objects.tally.round ≤ round_at s a) (λ a is. omega (arith, is)) (completed_by steps.reply) first)
            (all_map (λ a. next.objects.tally.round ≤ round_at s a) (λ a. st.objects.tally.round ≤ round_at s a) (λ a le. omega (arith, le, on)) later rest.0),
        all_pairs_append Below (completed_by steps.reply) later pairs rest.1 (λ a b a_in b_in.
            let of_a = All-contains (λ a. round_at s a ≡ st.objects.tally.round) (completed_by steps.reply) a first a_in in
            let of_b = All-contains (λ a. next.objects.tally.round ≤ round_at s a) later b rest.0 b_in in
            omega (arith, of_a, of_b, on)),
      )

pub rounds_come_in_order : RoundsComeInOrder
rounds_come_in_order s ledger events state good naming run =
    let f : LedgersAreNumbered (scene s ledger) = record { named = naming } in
    let g = ground s.stack good.stack (setup_in s).places in
    (runs_rise s ledger f g (start s) events state (start_whole s ledger good naming) run
    (λ before between r. (work_is_present s ledger before between good naming r).bios.pending)).1
