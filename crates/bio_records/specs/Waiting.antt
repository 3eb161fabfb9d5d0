-- Whether bios of a task wait.
use Rattle.std.specs.Prelude.{◌⊎◌, ◌≢◌, []}
use Rattle.bio_records.specs.declared.tasks.TaskLists.{TaskLists}

-- one of the two lists has a bio
abbrev pub IsBusy : TaskLists → Type 0
IsBusy lists = (lists.list0 ≢ []) ⊎ (lists.list1 ≢ [])
