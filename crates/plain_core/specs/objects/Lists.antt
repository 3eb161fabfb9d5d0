-- A task's two lists of plain elements, and how much room they have.
use Rattle.std.specs.Prelude.{◌≡◌, ◌+◌, ◌*◌, ◌≤◌, ℕ, Bool, true, false, List, [], ◌∷◌, length, MatchOption, Option}
use Rattle.std.specs.VecDeque.{deque_capacity}
use Rattle.stack_base.specs.declared.ids.DevId.{DevId}
use Rattle.bio_records.specs.declared.bio.Pad.{Pad}
use Rattle.bio_records.specs.declared.tasks.TaskLists.{TaskLists}
use Rattle.bio_records.specs.Items.{Item}
use Rattle.bio_records.specs.Sorting.{is_lower, is_for_device}
use Rattle.plain_core.specs.declared.objects.lists.Lists.{Lists}

-- the two lists that plain ones stand for
abbrev pub lists_of : Lists → TaskLists
lists_of lists = record { list0 = lists.list0.items; list1 = lists.list1.items }

-- this many more bios can be submitted, and list 1 has room for twice all of list 0: it is put before list 1 in two passes
pub record ListsHaveCapacity (more : ℕ) (lists : Lists) : Type 0 where
  pub list0 : length lists.list0.items + more ≤ deque_capacity lists.list0
  pub list1 : 2 * (length lists.list0.items + more) + length lists.list1.items ≤ deque_capacity lists.list1

-- whether a bio is for another device than the one that is served, or for that one
abbrev pub is_picked : Bool → DevId → Item Pad → Bool
is_picked true dev item = is_lower dev item
is_picked false dev item = is_for_device dev item

-- the first of these bios, if there is one, and those behind it
abbrev pub IsFirstOfBios : List (Item Pad) → Option (Item Pad) → List (Item Pad) → Type 0
IsFirstOfBios bios first rest = MatchOption first ((bios ≡ []) × (rest ≡ [])) (λ part. bios ≡ part ∷ rest)
