-- What is kept beside the devices.
use Rattle.std.proofs.Common.{◌≡◌, ℕ, ◌<◌, ◌≤◌, Bool, false, List, [], ◌∷◌, ◌++◌, length, get_or, map, replicate, Some, refl, ap, ◌∙◌, sym, subst, arith}
use Rattle.std.specs.Prelude.{slice_get, All, IsTrue, nat_le}
use Rattle.std.proofs.lemmas.Bool.{and_parts, leb-true, eqb-true}
use Rattle.std.proofs.lemmas.List.Concat.{flat_map-append}
use Rattle.std.proofs.lemmas.List.{append-nil, length-map, length_push, get_or_push, length-replicate, get_or-replicate}
use Rattle.std.proofs.lemmas.List.Elements.{All-nil}
use Rattle.std.proofs.lemmas.Option.{slice_get-get_or}
use Rattle.stack_base.specs.Tree.{size}
use Rattle.decl_text.specs.declared.item.What.{What}
use Rattle.decl_text.specs.declared.item.What.TheVariants as what
use Rattle.decl_text.specs.Known.{Declared, all_members, trees}
use Rattle.decl_text.specs.Checks.{all_sectors, disks, has_count, is_among}
use Rattle.stack_check.specs.Sound.{AreSound, IsFit, AreTalliedDevices}
use Rattle.stack_check.proofs.TreeLemmas.{trees_length}

-- no device takes more than eight members
pub count_few : (does : What) (count : ℕ) → IsTrue (has_count does count) → count ≤ 8
count_few (what.Disk sectors) count takes = omega (arith, eqb-true count 0 takes)
count_few what.Linear count takes = leb-true count 8 (and_parts (nat_le 1 count) (nat_le count 8) takes).1
count_few (what.Stripe chunk) count takes = leb-true count 8 (and_parts (nat_le 1 count) (nat_le count 8) takes).1
count_few (what.Zoned chunk) count takes = leb-true count 8 (and_parts (nat_le 1 count) (nat_le count 8) takes).1
count_few (what.Limit longest chunk) count takes = omega (arith, eqb-true count 1 takes)
count_few (what.Mirror records) count takes = leb-true count 8 (and_parts (nat_le 1 count) (nat_le count 8) takes).1

-- there is a size for each device
pub sizes_many : (sizes : List ℕ) (flags : List Bool) (disk_count sectors : ℕ) (devices : List Declared) → AreTalliedDevices sizes flags disk_count sectors devices → length sizes ≡ length devices
sizes_many sizes flags disk_count sectors devices kept = ap length kept.1.sizes ∙ length-map (trees devices) size ∙ trees_length devices

-- the members of the last device were declared before it
pub last_below : (devices : List Declared) (device : Declared) → AreSound (devices ++ device ∷ []) → All (λ m. m < length devices) device.members
last_below devices device sound i d lt =
    let found : slice_get (devices ++ device ∷ []) (length devices) ≡ Some device =
    slice_get-get_or (devices ++ device ∷ []) (length devices) device (omega (arith, length_push devices device))
    ∙ ap (λ x. Some x) (get_or_push devices device device (length devices) refl) in
    sound.below (length devices) i (get_or device.members i d) device found (slice_get-get_or device.members i d lt)

-- the members of all devices and one more
pub all_members_push : (devices : List Declared) (device : Declared) → all_members (devices ++ device ∷ []) ≡ all_members devices ++ device.members
all_members_push devices device =
    flat_map-append (λ (d : Declared). d.members) devices (device ∷ []) ∙ ap (λ xs. all_members devices ++ xs) (append-nil device.members)

none_sound : AreSound []
none_sound = record {
  few = omega arith;
  fit = All-nil IsFit;
  below = λ number i m device found is. absurd (grind arith);
  once = refl;
  disks = omega arith;
  some = All-nil (λ tree. 1 ≤ size tree);
}

-- no devices
pub none_kept : (devices : List Declared) (sizes : List ℕ) → devices ≡ [] → sizes ≡ [] → AreTalliedDevices sizes (replicate 32 false) 0 0 devices
none_kept devices sizes none empty = (
  subst AreSound (sym none) none_sound,
  record {
    sizes = empty ∙ ap (λ ds. map size (trees ds)) (sym none);
    room = length-replicate 32 false;
    taken = λ k lt. get_or-replicate 32 k false false lt ∙ ap (λ ds. is_among (all_members ds) k) (sym none);
    disks = omega (arith, ap disks none);
    sectors = omega (arith, ap all_sectors none);
  },
)
