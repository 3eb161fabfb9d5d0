-- What becomes of a chooser in a completion at a desk.
use Rattle.std.proofs.Common.{◌≡◌, ◌<◌, ℕ, Result, Ok, Err, Option, None, Some, inl, inr, refl, sym, subst}
use Rattle.stack_base.specs.declared.ids.DevId.{DevId}
use Rattle.model_disks.specs.declared.disk.Done.{Done as DoneBio}
use Rattle.run_machine.specs.Requests.{Reply, Complete, LeftOver, Nothing}
use Rattle.task_steps.specs.declared.objects.Unmade.{Unmade}
use Rattle.task_steps.specs.Views.{Choice, completed_index, completed_reply}
use Rattle.object_things.specs.declared.disk.DiskAsk.TheVariants as ask
use Rattle.object_things.specs.Disks.{IsUpTo, KeepsChoice}
use Rattle.shared_objects.specs.Desks.{DeskFinds, DeskPicks, DeskState, HasCalled}

module _ {C : Type 0} (chooses : C → ℕ → ℕ → C → Type 0) (disk : DevId) (old between : DeskState) (count : ℕ) (chooser : C)
    (looks : HasCalled old (Complete disk) (LeftOver count) between) where
  -- the look found none, and the chooser is not asked
  pub none_waits : count ≡ 0 → Choice chooses (DeskFinds old between disk) (DeskPicks old between disk) chooser Nothing chooser
  none_waits none = (
    count,
    (Nothing, record { count = count; between = between; looks = looks; goes = inl (none, refl, refl) }, refl),
    inl (none, refl, refl),
  )

  module _ (some : 0 < count) (index : ℕ) (new : DeskState) where
    finds_count : (reply : Reply) → HasCalled between (Complete disk) reply new → DeskFinds old new disk count
    finds_count reply completes = (reply, record { count = count; between = between; looks = looks; goes = inr (some, completes) }, refl)

    -- the call that completed a bio keeps the index that was chosen
    picks_chosen : (told : Result (Option (ℕ × DoneBio)) Unmade) → (completes : HasCalled between (Complete disk) (completed_reply told) new) → IsUpTo index told
        → KeepsChoice (ask.Complete disk index) (completed_reply told) completes.told.chosen
        → DeskPicks old new disk count index (completed_index (completed_reply told))
    picks_chosen (Ok None) completes upto choice = tt
    picks_chosen (Ok (Some done)) completes upto choice = (
      record { between = between; reply = completed_reply (Ok (Some done)); calls = completes; picked = refl; kept = choice; most = upto },
      finds_count (completed_reply (Ok (Some done))) completes,
    )
    picks_chosen (Err back) completes upto choice = tt

    -- it found some, and the chooser is asked, whatever comes of it
    pub some_waited : (after : C) → chooses chooser count index after → (said told : Result (Option (ℕ × DoneBio)) Unmade)
        → said ≡ told → (completes : HasCalled between (Complete disk) (completed_reply told) new) → IsUpTo index told
        → KeepsChoice (ask.Complete disk index) (completed_reply told) completes.told.chosen
        → Choice chooses (DeskFinds old new disk) (DeskPicks old new disk) chooser (completed_reply said) after
    some_waited after chosen said told is completes upto choice =
        subst (λ (s : Result (Option (ℕ × DoneBio)) Unmade). Choice chooses (DeskFinds old new disk) (DeskPicks old new disk) chooser (completed_reply s) after) (sym is) (
          count,
          finds_count (completed_reply told) completes,
          inr (some, (index, chosen, picks_chosen told completes upto choice)),
        )
