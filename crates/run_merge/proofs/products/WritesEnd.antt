-- Entries end writes just as often as events tell them done.
use Rattle.std.proofs.Common.{◌≡◌, ◌+◌, ◌≤◌, ◌||◌, if◌then◌else◌, ℕ, Bool, true, false, List, [], ◌∷◌, refl, sym, ◌∙◌, ap, arith}
use Rattle.std.specs.List.{list_any}
use Rattle.std.proofs.lemmas.Bool.{true≢false}
use Rattle.run_machine.specs.declared.event.Event.{Event}
use Rattle.run_machine.specs.Scene.{Scene}
use Rattle.run_machine.specs.Requests.{Request, GiveBio, GiveVec, GiveSlip, Done, NextRound}
use Rattle.run_machine.specs.Tasks.{request}
use Rattle.run_machine.specs.Runs.{State, Steps, IsRun}
use Rattle.block_core.specs.Dones.{done_in, times_done}
use Rattle.block_core.specs.Weights.{one_if_same}
use Rattle.block_core.proofs.sound.DoneOnce.{asked, done_of, told_done}
use Rattle.shared_objects.specs.Calls.{struck}
use Rattle.run_merge.specs.Entries.{Entry, entries_in}
use Rattle.run_merge.specs.Products.{ends_write}

abbrev pub ends : ℕ → Entry → Bool
ends write e = ends_write write e.asked

asked_is : (w : ℕ) (request : Request) → asked w request ≡ (if ends_write w (struck request) then 1 else 0)
unfolding one_if_same
asked_is w (Done write status) = refl
asked_is w (GiveBio bio) = refl
asked_is w (GiveVec vector) = refl
asked_is w (GiveSlip slip) = refl
asked_is w (NextRound round) = refl
asked_is w request = refl

step_is : (scene : Scene) (old : State) (place : ℕ) (event : Event) (new : State) (steps : Steps scene old place event new) (w : ℕ)
    → done_in w event.what ≡ (if ends_write w (struck (request scene.setup (old.task place))) then 1 else 0)
step_is scene old place event new steps w =
    sym (ap (done_of w) steps.told) ∙ told_done w (request scene.setup (old.task place)) steps.reply event.what steps.told
    ∙ asked_is w (request scene.setup (old.task place))

pub ended_is_told : (scene : Scene) (w : ℕ) (old : State) (events : List Event) (new : State) (run : IsRun scene old events new)
    → list_any (ends w) (entries_in scene old events new run) ≡ true → 1 ≤ times_done w events
ended_is_told scene w old [] new run any = absurd (true≢false (sym any))
ended_is_told scene w old (event ∷ events) new (next, (place, steps), run) any =
    by_test (ends_write w (struck (request scene.setup (old.task place)))) any (step_is scene old place event next steps w)
    (ended_is_told scene w next events new run)
  where
    rest : Bool
    rest = list_any (ends w) (entries_in scene next events new run)

    by_test : (here : Bool) → (here || rest) ≡ true → done_in w event.what ≡ (if here then 1 else 0) → (rest ≡ true → 1 ≤ times_done w events)
        → 1 ≤ done_in w event.what + times_done w events
    by_test true any is more = omega (arith, is)
    by_test false any is more = let some = more any in omega (arith, some)

pub told_is_ended : (scene : Scene) (w : ℕ) (old : State) (events : List Event) (new : State) (run : IsRun scene old events new)
    → 1 ≤ times_done w events → list_any (ends w) (entries_in scene old events new run) ≡ true
told_is_ended scene w old [] new run some = absurd (omega (arith, some))
told_is_ended scene w old (event ∷ events) new (next, (place, steps), run) some =
    by_test (ends_write w (struck (request scene.setup (old.task place)))) (step_is scene old place event next steps w)
    (told_is_ended scene w next events new run)
  where
    rest : Bool
    rest = list_any (ends w) (entries_in scene next events new run)

    by_test : (here : Bool) → done_in w event.what ≡ (if here then 1 else 0) → (1 ≤ times_done w events → rest ≡ true) → (here || rest) ≡ true
    by_test true is more = refl
    by_test false is more = more (omega (arith, some, is))
