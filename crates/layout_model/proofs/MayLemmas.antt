-- How a plan may end.
use Rattle.std.proofs.Common.{◌≡◌, ◌⊎◌, ℕ, true, refl, sym, ◌∙◌, subst, inl, inr}
use Rattle.std.proofs.lemmas.Bool.{false≢true, cases_Bool, and_parts, and_from, or_cases, or_left, or_right, both_ways, not-true, not_from_false}
use Rattle.stack_base.specs.declared.ids.Status.{Status}
use Rattle.stack_base.specs.declared.ids.Status.TheVariants as status
use Rattle.stack_base.specs.Fault.{status_eq}
use Rattle.stack_base.proofs.FaultLemmas.{status_eq_is}
use Rattle.layout_model.specs.declared.fragment.Fragment.{Fragment}
use Rattle.layout_model.specs.Plan.{Plan, Plans, OneFragment, Pieces, Legs, none, also}
use Rattle.layout_model.specs.May.{may_end, each_may_end, some_may_end}
use Rattle.layout_model.specs.Laws.{OkIsAlone, SomeEndIsOpen, EndsOfDisk}

-- a fragment ends as it does
pub ends_of_disk : EndsOfDisk
unfolding may_end
ends_of_disk ends fragment end = status_eq_is end (ends fragment)

-- where each of some plans may end well, none of them may end with anything else
mutual
  unfolding may_end each_may_end some_may_end

  pub ok_is_alone : OkIsAlone
  ok_is_alone ends (OneFragment fragment) end well so =
      (status_eq_is end (ends fragment)).0 so ∙ sym ((status_eq_is status.Ok (ends fragment)).0 well)
  ok_is_alone ends (Pieces number plans) status.Ok well so = refl
  ok_is_alone ends (Pieces number plans) status.Io well so = all_alone ends plans status.Io well so
  ok_is_alone ends (Pieces number plans) status.Medium well so = all_alone ends plans status.Medium well so
  ok_is_alone ends (Pieces number plans) status.NoSpace well so = all_alone ends plans status.NoSpace well so
  ok_is_alone ends (Legs number plans) status.Ok well so = refl
  ok_is_alone ends (Legs number plans) status.Io well so = absurd (both_ways (some_may_end ends plans status.Ok) (not-true (some_may_end ends plans status.Ok) so) well)
  ok_is_alone ends (Legs number plans) status.Medium well so = absurd (false≢true so)
  ok_is_alone ends (Legs number plans) status.NoSpace well so = absurd (false≢true so)

  all_alone : (ends : Fragment → Status) (plans : Plans) (end : Status) → each_may_end ends plans status.Ok ≡ true
      → some_may_end ends plans end ≡ true → end ≡ status.Ok
  all_alone ends none end well so = absurd (false≢true so)
  all_alone ends (also first others) end well so =
      let both = and_parts (may_end ends first status.Ok) (each_may_end ends others status.Ok) well in
      elim (or_cases (may_end ends first end) (some_may_end ends others end) so) [
        | inl here ↦ ok_is_alone ends first end both.0 here
        | inr later ↦ all_alone ends others end both.1 later
      ]

-- pieces may end as one of them does that does not end well
pieces_other : (ends : Fragment → Status) (number : ℕ) (plans : Plans) (end : Status) → (end ≡ status.Ok → ⊥) → some_may_end ends plans end ≡ true
    → may_end ends (Pieces number plans) end ≡ true
unfolding may_end
pieces_other ends number plans status.Ok other so = absurd (other refl)
pieces_other ends number plans status.Io other so = so
pieces_other ends number plans status.Medium other so = so
pieces_other ends number plans status.NoSpace other so = so

-- each of some plans may end well, or one of them with something else
EachOrOther : (Fragment → Status) → Plans → Type 0
EachOrOther ends plans =
    (each_may_end ends plans status.Ok ≡ true) ⊎ ((end : Status) × (end ≡ status.Ok → ⊥) × (some_may_end ends plans end ≡ true))

pieces_open : (ends : Fragment → Status) (number : ℕ) (plans : Plans) → EachOrOther ends plans → (end : Status) × (may_end ends (Pieces number plans) end ≡ true)
unfolding may_end EachOrOther
pieces_open ends number plans (inl well) = (status.Ok, well)
pieces_open ends number plans (inr (end, other, so)) = (end, pieces_other ends number plans end other so)

legs_open : (ends : Fragment → Status) (number : ℕ) (plans : Plans) → (end : Status) × (may_end ends (Legs number plans) end ≡ true)
unfolding may_end
legs_open ends number plans = elim (cases_Bool (some_may_end ends plans status.Ok)) [
  | inl well ↦ (status.Ok, well)
  | inr never ↦ (status.Io, not_from_false (some_may_end ends plans status.Ok) never)
]

also_open : (ends : Fragment → Status) (first : Plan) (others : Plans) (end : Status) → may_end ends first end ≡ true → EachOrOther ends others
    → EachOrOther ends (also first others)
unfolding each_may_end some_may_end EachOrOther
also_open ends first others end so (inr (other_end, other, later)) =
    inr (other_end, other, or_right (may_end ends first other_end) (some_may_end ends others other_end) later)
also_open ends first others end so (inl well) = elim (cases_Bool (status_eq end status.Ok)) [
  | inl is ↦ inl (and_from (may_end ends first status.Ok) (each_may_end ends others status.Ok) (subst (λ e. may_end ends first e ≡ true) ((status_eq_is end status.Ok).0 is) so) well)
  | inr isnt ↦ inr (end, λ is. both_ways (status_eq end status.Ok) isnt ((status_eq_is end status.Ok).1 is), or_left (may_end ends first end) (some_may_end ends others end) so)
]

mutual
  unfolding may_end each_may_end EachOrOther

  pub some_end_is_open : SomeEndIsOpen
  some_end_is_open ends (OneFragment fragment) = (ends fragment, (status_eq_is (ends fragment) (ends fragment)).1 refl)
  some_end_is_open ends (Pieces number plans) = pieces_open ends number plans (each_or_other ends plans)
  some_end_is_open ends (Legs number plans) = legs_open ends number plans

  each_or_other : (ends : Fragment → Status) (plans : Plans) → EachOrOther ends plans
  each_or_other ends none = inl refl
  each_or_other ends (also first others) =
      let here = some_end_is_open ends first in
      also_open ends first others here.0 here.1 (each_or_other ends others)
