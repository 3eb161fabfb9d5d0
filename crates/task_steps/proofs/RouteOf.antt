-- What is kept of a device says what the definitions do.
use Rattle.std.proofs.Common.{◌≡◌, inl, inr, ℕ, ◌+◌, ◌<◌, List, length, Option, None, Some, refl, ap, subst, get_or, arith}
use Rattle.std.specs.Prelude.{slice_get, slice_index_or}
use Rattle.std.proofs.lemmas.Option.{slice_get-get_or, slice_get_cases}
use Rattle.stack_base.specs.declared.ids.DevId.{DevId}
use Rattle.stack_base.specs.declared.mapping.Piece.{Piece}
use Rattle.stack_base.specs.declared.stack.Stack.{Stack}
use Rattle.stack_base.proofs.Unfolded.{size-tree}
use Rattle.bio_records.specs.declared.bio.Bio.{Bio}
use Rattle.task_steps.specs.declared.routes.Route.{Route}
use Rattle.task_steps.specs.Within.{IsWithinDevice}
use Rattle.task_steps.specs.Routed.{IsRouted, IsRouteOf, MapOf, map_of, MapHas, IsFirstPiece, IsFirstCut, HasNoFirst}
use Rattle.task_steps.proofs.DevicesReached.{no_first, piece_there, is_first}
use Rattle.task_steps.proofs.Devices.{goes_by, other_shape}

-- each device has its route
pub route_at : (stack : Stack) (routes : List Route) → IsRouted stack routes → (number : ℕ) (d : Route) → number < length stack.devices.items
    → IsRouteOf stack number (slice_index_or routes number d)
route_at stack routes are number d lt =
    elim (slice_get_cases stack.devices.items number).1 [
      | inl there ↦ record {
        stack_is = are.stack_is;
        device = there.0;
        found = there.2;
        is = are.each number there.0 (get_or routes number d) there.2 (slice_get-get_or routes number d (omega (arith, are.all)));
      }
      | inr past ↦ absurd (omega (arith, past.0))
    ]

module _ (stack : Stack) (bio : Bio) (route : Route) (of : IsRouteOf stack bio.dev.0 route) (within : IsWithinDevice stack bio) where
  -- a run within the device is within what its driver goes by
  pub map_has : MapHas (map_of route.driver) (bio.range.start + bio.range.len)
  map_has = by_map (map_of route.driver) refl
    where
      by_map : (m : Option MapOf) → map_of route.driver ≡ m → MapHas m (bio.range.start + bio.range.len)
      by_map None e = tt
      by_map (Some m) e =
          let by = goes_by stack of.device route.driver m of.is.driver e in
          omega (arith, within.within, by.wide, size-tree stack of.stack_is bio.dev.0 of.device of.found)

  pub first_none : IsFirstPiece (map_of route.driver) bio.range.start bio.range.len None → HasNoFirst stack bio
  first_none = by_map (map_of route.driver) refl
    where
      by_map : (m : Option MapOf) → map_of route.driver ≡ m → IsFirstPiece m bio.range.start bio.range.len None → HasNoFirst stack bio
      by_map None e is = no_first stack of.stack_is bio of.device of.found (other_shape stack of.device route.driver of.is.driver e)
      by_map (Some m) e is = absurd is

  module _ (piece : Piece) (is : IsFirstPiece (map_of route.driver) bio.range.start bio.range.len (Some piece)) where
    pub first_there : piece.member < length route.members.items
    first_there = by_map (map_of route.driver) refl is
      where
        by_map : (m : Option MapOf) → map_of route.driver ≡ m → IsFirstPiece m bio.range.start bio.range.len (Some piece)
            → piece.member < length route.members.items
        by_map None e is = absurd is
        by_map (Some m) e is =
            let by = goes_by stack of.device route.driver m of.is.driver e in
            omega (
              arith,
              ap length of.is.members,
              piece_there stack of.stack_is bio of.device of.found by.cuts within piece (by.piece bio.range.start bio.range.len piece is),
            )

    pub first_some : (d : DevId)
        → IsFirstCut stack bio (record { sectors = piece.len; dev = slice_index_or route.members.items piece.member d; start = piece.at })
    first_some d = by_map (map_of route.driver) refl is
      where
        by_map : (m : Option MapOf) → map_of route.driver ≡ m → IsFirstPiece m bio.range.start bio.range.len (Some piece)
            → IsFirstCut stack bio (record { sectors = piece.len; dev = slice_index_or route.members.items piece.member d; start = piece.at })
        by_map None e is = absurd is
        by_map (Some m) e is =
            let by = goes_by stack of.device route.driver m of.is.driver e in
            is_first stack of.stack_is bio of.device of.found by.cuts within piece (by.piece bio.range.start bio.range.len piece is) _
            (subst (λ (items : List DevId). slice_get items piece.member ≡ Some (slice_index_or route.members.items piece.member d)) of.is.members
            (slice_get-get_or route.members.items piece.member d first_there))
