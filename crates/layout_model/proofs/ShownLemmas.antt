-- The devices that show their first member: mirrors, and limits, which cut runs and leave sectors at their place.
use Rattle.std.proofs.Common.{◌≡◌, ℕ, ◌<◌, ◌≤◌, map, length, Some, refl, ap, ◌∙◌, arith}
use Rattle.std.specs.Prelude.{slice_get}
use Rattle.std.proofs.lemmas.List.{length-map, get_or-map}
use Rattle.std.proofs.lemmas.Option.{slice_get_within, get_or_from_slice_get}
use Rattle.stack_base.specs.declared.ids.DevId.{DevId}
use Rattle.stack_base.specs.declared.stack.Device.{Device}
use Rattle.stack_base.specs.declared.stack.Kind.{Kind}
use Rattle.stack_base.specs.declared.stack.Kind.TheVariants.{Disk, Linear, Stripe, Zoned, Limit, Mirror}
use Rattle.stack_base.specs.declared.stack.Stack.{Stack}
use Rattle.stack_base.specs.Mapping.{size_of, slot}
use Rattle.stack_base.specs.Tree.{Split, size, shape_of, member_at, tree}
use Rattle.stack_base.specs.Stack.{HasShape, IsStack}
use Rattle.stack_base.proofs.Smallest.{smallest_le}
use Rattle.layout_model.specs.Shown.{IsShownMember, ShowsFirst, shown_sector}
use Rattle.layout_model.proofs.ByShape.{cuts_is, member_is}
use Rattle.layout_model.proofs.MirrorMembers.{leg_known}
use Rattle.layout_model.proofs.MirrorLemmas.{leg_shown}

-- they have a member
pub has_first : (kind : Kind) (members : ℕ) → HasShape kind members → ShowsFirst kind → 1 ≤ members
has_first (Disk sectors bad) members shape shows = absurd shows
has_first Linear members shape shows = absurd shows
has_first (Stripe chunk) members shape shows = absurd shows
has_first (Zoned chunk) members shape shows = absurd shows
has_first (Limit longest chunk) members shape shows = omega (arith, shape.1)
has_first (Mirror records) members shape shows = shape.0

module _ (stack : Stack) (good : IsStack stack) (number : ℕ) (device : Device) (found : slice_get stack.devices.items number ≡ Some device) where
  -- a limit is as large as its member, and each of its sectors is that of the member
  limit_is : (longest chunk : ℕ) → device.kind ≡ Limit longest chunk → (m : DevId) → slice_get device.members.items 0 ≡ Some m → IsShownMember stack number m
  unfolding shown_sector slot size_of
  limit_is longest chunk limits m at_first =
      let items = device.members.items in
      let size_at = λ (m : DevId). size (tree stack m.0) in
      let members = member_at number (map (λ (m : DevId). tree stack m.0) items) in
      let whole : tree stack number ≡ Split number (Limit longest chunk) (map size_at items) members =
      cuts_is stack good number device found (ap shape_of limits) ∙ ap (λ kind. Split number kind (map size_at items) members) limits in
      let within : 0 < length items = slice_get_within items 0 m at_first in
      record {
        below = (good.each number device found).below 0 m at_first;
        known = omega (arith, (good.each number device found).below 0 m at_first, slice_get_within stack.devices.items number device found);
        inside = omega (
          arith,
          ap size whole,
          smallest_le (map size_at items) 0 (omega (arith, within, length-map items size_at)),
          get_or-map size_at items 0 m 0 within ∙ ap size_at (get_or_from_slice_get items 0 m m at_first),
        );
        shows = λ s. ap (λ t. shown_sector t s) whole ∙ ap (λ t. shown_sector t s) (member_is stack good number device found 0 m at_first);
      }

  -- and a mirror as its first
  mirror_is : (records : ℕ) → device.kind ≡ Mirror records → (m : DevId) → slice_get device.members.items 0 ≡ Some m → IsShownMember stack number m
  mirror_is records mirrors m at_first =
      let known = leg_known stack good number device found (ap shape_of mirrors) 0 m at_first in
      record {
        below = known.0;
        known = known.1;
        inside = known.2;
        shows = λ s. leg_shown stack good number device found (ap shape_of mirrors) s m at_first;
      }

  shown_of : (kind : Kind) → device.kind ≡ kind → ShowsFirst kind → (m : DevId) → slice_get device.members.items 0 ≡ Some m → IsShownMember stack number m
  shown_of (Disk sectors bad) is shows m at_first = absurd shows
  shown_of Linear is shows m at_first = absurd shows
  shown_of (Stripe chunk) is shows m at_first = absurd shows
  shown_of (Zoned chunk) is shows m at_first = absurd shows
  shown_of (Limit longest chunk) is shows m at_first = limit_is longest chunk is m at_first
  shown_of (Mirror records) is shows m at_first = mirror_is records is m at_first

  pub shown_is : ShowsFirst device.kind → (m : DevId) → slice_get device.members.items 0 ≡ Some m → IsShownMember stack number m
  shown_is shows m at_first = shown_of device.kind refl shows m at_first
