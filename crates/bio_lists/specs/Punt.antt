-- What a punt takes out of a task's two lists: `punt_bios_to_rescuer`, block/bio.c.
use Rattle.std.specs.Prelude.{◌≡◌, ◌+◌, ℕ, Bool, List, ◌++◌, filter, count_by}
use Rattle.stack_base.specs.declared.ids.SetId.{SetId}
use Rattle.bio_records.specs.declared.bio.Pad.{Pad}
use Rattle.bio_records.specs.declared.tasks.TaskLists.{TaskLists}
use Rattle.bio_records.specs.Items.{Item}
use Rattle.bio_records.specs.Sorting.{is_of, is_of_other}

-- the bios of a set, those of list 0 before those of list 1
abbrev pub punted : SetId → TaskLists → List (Item Pad)
punted set lists = filter (is_of set) lists.list0 ++ filter (is_of set) lists.list1

-- the lists without them
abbrev pub unpunted : SetId → TaskLists → TaskLists
unpunted set lists = record { list0 = filter (is_of_other set) lists.list0; list1 = filter (is_of_other set) lists.list1 }

-- how often such bios stand in the two lists
abbrev pub count_in : (Item Pad → Bool) → TaskLists → ℕ
count_in which lists = count_by which lists.list0 + count_by which lists.list1

-- each bio that waited was moved or waits on, as often as it waited
abbrev pub NoneIsLostByPunt : Type 0
NoneIsLostByPunt = (set : SetId) (lists : TaskLists) (which : Item Pad → Bool)
    → count_by which (punted set lists) + count_in which (unpunted set lists) ≡ count_in which lists

-- all that were moved are of the set, and none that waits on is: a second punt moves nothing
abbrev pub OnePuntIsEnough : Type 0
OnePuntIsEnough = (set : SetId) (lists : TaskLists) (which : Item Pad → Bool) → count_by which (punted set (unpunted set lists)) ≡ 0
