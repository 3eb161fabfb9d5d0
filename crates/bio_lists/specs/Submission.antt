-- What a task's two lists become, call by call: `submit_bio_noacct`, block/blk-core.c.
use Rattle.std.specs.Prelude.{◌≡◌, ◌+◌, Bool, List, [], ◌∷◌, ◌++◌, count_by, Option, None, Some}
use Rattle.stack_base.specs.declared.ids.DevId.{DevId}
use Rattle.bio_records.specs.declared.bio.Pad.{Pad}
use Rattle.bio_records.specs.declared.tasks.TaskLists.{TaskLists}
use Rattle.bio_records.specs.Items.{Item}
use Rattle.bio_records.specs.Sorting.{sorted}

abbrev pub no_lists : TaskLists
no_lists = record { list0 = []; list1 = [] }

-- the lists after one more bio was submitted
abbrev pub submitted : Item Pad → TaskLists → TaskLists
submitted item lists = record lists { list0 = lists.list0 ++ item ∷ [] }

-- what is to be served once the driver of this device has returned: what it submitted for other devices, then what it submitted for its own,
-- then what waited before
abbrev pub order : DevId → TaskLists → List (Item Pad)
order served lists = sorted served lists.list0 lists.list1

-- the first of these is served next, and the others wait in list 1; or there is none
abbrev pub GoesOn : DevId → TaskLists → Option (Item Pad) → TaskLists → Type 0
GoesOn served old None new = (old ≡ no_lists) × (new ≡ no_lists)
GoesOn served old (Some item) new = (order served old ≡ item ∷ new.list1) × (new.list0 ≡ [])

-- the order has each bio that waited, and no other, as often as it waited
abbrev pub NoneIsLost : Type 0
NoneIsLost = (dev : DevId) (lists : TaskLists) (which : Item Pad → Bool)
    → count_by which (order dev lists) ≡ count_by which lists.list0 + count_by which lists.list1
