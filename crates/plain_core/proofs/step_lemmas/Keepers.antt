-- What the keeper of a plain state has still to do.
use Rattle.std.proofs.Common.{◌≡◌, ◌≢◌, ◌+◌, ◌<◌, ◌⊎◌, inl, inr, ℕ, List, [], ◌∷◌, length, map, drop, sym, ap, subst}
use Rattle.std.specs.Prelude.{All}
use Rattle.std.proofs.lemmas.List.{drop_all}
use Rattle.std.proofs.lemmas.List.Elements.{All-tail}
use Rattle.std.proofs.lemmas.Option.{slice_get_cases}
use Rattle.task_steps.specs.declared.keeper.Duty.{Duty}
use Rattle.task_steps.specs.KeeperViews.{duties_from, duty_of}
use Rattle.task_steps.proofs.KeeperLemmas.{duty_there}
use Rattle.plain_core.specs.steps.Duties.{NamesStackPool}

-- a duty is left at this place, before those behind it, or none is left
at_place : (duties : List Duty) (done : ℕ)
    → ((done < length duties) × ((duty : Duty) × (duties_from done duties ≡ duty_of duty ∷ duties_from (done + 1) duties))) ⊎ (duties_from done duties ≡ [])
at_place duties done = elim (slice_get_cases duties done).1 [
  | inl there ↦ inl (there.1, (there.0, duty_there duties done there.0 there.2))
  | inr past ↦ inr (ap (map duty_of) (drop_all done duties past.0))
]

-- where one is left, its place is within the list, and the others are behind it
pub one_left : (duties : List Duty) (done : ℕ) → duties_from done duties ≢ [] → (done < length duties) × (duties_from (done + 1) duties ≡ drop 1 (duties_from done duties))
one_left duties done some = elim (at_place duties done) [
  | inl at ↦ (at.0, sym (ap (drop 1) at.1.1))
  | inr none ↦ absurd (some none)
]

pub others_of_pools : (duties : List Duty) (done : ℕ) → duties_from done duties ≢ [] → All NamesStackPool (duties_from done duties) → All NamesStackPool (duties_from (done + 1) duties)
others_of_pools duties done some all = elim (at_place duties done) [
  | inl at ↦ All-tail NamesStackPool (duty_of at.1.0) (duties_from (done + 1) duties) (subst (All NamesStackPool) at.1.1 all)
  | inr none ↦ absurd (some none)
]
