-- What devices show, and where the members of a mirror show other words than its first member.
use Rattle.std.specs.Prelude.{◌≡◌, ◌==◌, ◌+◌, ◌-◌, ◌<◌, not, true, ℕ, Bool, List, [], map, length, find, slice_index_or, IsSomeAnd, MatchOption, Option}
use Rattle.std.specs.List.{range_with_len, count_by}
use Rattle.std.specs.Option.{option_map_or}
use Rattle.stack_base.specs.Mapping.{slot}
use Rattle.stack_base.specs.Tree.{Tree, Leaf, Split, Mirrored, size, tree, legs_of}
use Rattle.stack_base.specs.declared.ids.DevId.{DevId}
use Rattle.stack_base.specs.declared.ids.Range.{Range}
use Rattle.stack_base.specs.declared.stack.Stack.{Stack}
use Rattle.image_lanes.specs.Lanes.{equal_words}
use Rattle.layout_model.specs.Shown.{keeps_data}
use Rattle.model_disks.specs.Disks.{DiskState}
use Rattle.model_disks.specs.Runs.{IsApart, IsNextRun, runs_from}

-- the words of each sector of disks, by the number of the disk
abbrev pub Images : Type 0
Images = ℕ → ℕ → List ℕ

-- those of images, each beside the disk that has it
abbrev pub images_of : List (DevId × List (List ℕ)) → Images
images_of disks number at =
    option_map_or (λ (disk : DevId × List (List ℕ)). slice_index_or disk.1 at []) (find (λ (disk : DevId × List (List ℕ)). disk.0.0 == number) disks) []

-- and those that disks hold
abbrev pub held : List DiskState → Images
held disks = images_of (map (λ (disk : DiskState). (disk.dev, disk.image)) disks)

-- What a device shows at sector s: a disk its own sector, a mirror what its first member shows there, and any other
-- device what the member shows that the sector goes to.
unfoldable pub seen : Images → Tree → ℕ → List ℕ
seen images (Leaf number sectors) s = images number s
seen images (Split number kind sizes members) s = seen images (members (slot kind sizes s).member) (slot kind sizes s).at
seen images (Mirrored number sizes members) s = seen images (members 0) s

-- whether two devices show different words at sector s
abbrev pub differs : Images → Tree → Tree → ℕ → Bool
differs images one other s = not (equal_words (seen images one s) (seen images other s))

-- and whether they do, for each of so many sectors from the first on
unfoldable pub differing : Images → Tree → Tree → ℕ → List Bool
differing images one other count = map (differs images one other) (range_with_len 0 count)

-- the member of a mirror at a place
abbrev pub mirror_member : Tree → ℕ → Tree
mirror_member (Leaf number sectors) k = Leaf number sectors
mirror_member (Split number kind sizes members) k = Split number kind sizes members
mirror_member (Mirrored number sizes members) k = members k

-- the places of those that are compared with the first
abbrev pub compared : Tree → List ℕ
compared t = range_with_len 1 (legs_of t - 1)

-- whether each sector of a mirror is unlike on leg k: that leg shows other words there than leg 0
abbrev pub unlikes : Images → Tree → ℕ → List Bool
unlikes images mirror k = differing images (mirror_member mirror k) (mirror_member mirror 0) (size mirror)

-- how many sectors are
abbrev pub unlike_count : Images → Tree → ℕ → ℕ
unlike_count images mirror k = count_by (λ (unlike : Bool). unlike) (unlikes images mirror k)

-- the stretches of such sectors that start at `from` or behind it, each as long as they follow one another
abbrev pub stretches_from : Images → Tree → ℕ → ℕ → List Range
stretches_from images mirror k from = runs_from (unlikes images mirror k) from

-- none, where no stretch starts at `from` or behind it, or else the first, with the others behind it
abbrev pub IsNextStretch : Images → Tree → ℕ → ℕ → Option Range → Type 0
IsNextStretch images mirror k from next = IsNextRun (unlikes images mirror k) from next

-- no such stretch is under way where the next one, if there is one, has ended
abbrev pub EndsApart : Images → Tree → ℕ → Option Range → Type 0
EndsApart images mirror k next = MatchOption next (Unit {0}) (λ run. IsApart (unlikes images mirror k) (run.start + run.len))

-- for each disk of a stack there is one of these with its number, as large as it is there
abbrev pub AreDisksOf : Stack → List DiskState → Type 0
AreDisksOf stack disks = (number : ℕ) → number < length stack.devices.items → keeps_data (tree stack number) ≡ true
    → IsSomeAnd (find (λ (disk : DiskState). disk.dev.0 == number) disks) (λ disk. length disk.image ≡ size (tree stack number))
