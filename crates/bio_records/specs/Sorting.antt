-- For which device a bio is, as one driver of a task sees it, and of which set it is.
use Rattle.std.specs.Prelude.{◌==◌, not, Bool, true, false, List, ◌++◌, filter}
use Rattle.stack_base.specs.declared.ids.DevId.{DevId}
use Rattle.stack_base.specs.declared.ids.SetId.{SetId}
use Rattle.stack_base.specs.declared.ids.SetId.TheVariants.{Fs, Of}
use Rattle.bio_records.specs.declared.bio.Pad.{Pad}
use Rattle.bio_records.specs.Items.{Item}

-- it is for this device itself
abbrev pub is_for_device : DevId → Item Pad → Bool
is_for_device dev item = item.bio.dev.0 == dev.0

-- it is for another one, which stands below it
abbrev pub is_lower : DevId → Item Pad → Bool
is_lower dev item = not (is_for_device dev item)

-- bios put before others, as a driver of this device has submitted them: those for other devices, and then those for it, each in their order
abbrev pub sorted : DevId → List (Item Pad) → List (Item Pad) → List (Item Pad)
sorted dev bios others = filter (is_lower dev) bios ++ (filter (is_for_device dev) bios ++ others)

abbrev pub same_set : SetId → SetId → Bool
same_set Fs Fs = true
same_set Fs (Of dev) = false
same_set (Of dev) Fs = false
same_set (Of one) (Of other) = one.0 == other.0

-- its element was taken from this set
abbrev pub is_of : SetId → Item Pad → Bool
is_of set item = same_set item.bio.set set

abbrev pub is_of_other : SetId → Item Pad → Bool
is_of_other set item = not (is_of set item)
