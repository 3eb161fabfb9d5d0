-- What writes of a text need, and which of them is too much.
use Rattle.std.specs.Prelude.{◌≡◌, ◌+◌, ◌-◌, nat_le, nat_lt, Bool, false, List, [], ◌∷◌, ◌++◌, ℕ, filter, length, map, slice_index_or, sum_by}
use Rattle.fail_script.specs.Script.{Answers, entries_of}
use Rattle.stack_base.specs.declared.ids.PoolId.{PoolId}
use Rattle.stack_base.specs.declared.stack.Stack.{Stack}
use Rattle.layout_model.specs.declared.write.Write.{Write}
use Rattle.work_text.specs.declared.Resize.{Resize}
use Rattle.work_text.specs.declared.Work.{Work}
use Rattle.layout_model.specs.Need.{needed, vectors}
use Rattle.layout_model.specs.Bound.{IsBound, most_elements}
use Rattle.decl_text.specs.Known.{Declarations, Declared, Change, Written, nothing_declared, number_in, tree_of}
use Rattle.decl_text.specs.Accepting.{checks_for, shown_devices}
use Rattle.decl_text.specs.Refusals.{Check, check}
use Rattle.decl_text.specs.declared.reason.Reason.TheVariants.{TooMuchWork}
use Rattle.decl_text.specs.declared.item.Item.{Item}
use Rattle.decl_text.specs.declared.item.Item.TheVariants as item

-- a write as it stands in a text
abbrev pub as_written : Write → Written
as_written write = record { task = write.task; dev = write.dev.0; start = write.start; count = write.count; tag = write.tag }

-- the elements that a write of so many sectors needs: its bio, its vector, and what its run needs below
abbrev pub elements_in : List Declared → Written → ℕ
elements_in devices write = 1 + vectors write.count + needed (tree_of devices write.dev) write.start write.count

-- the writes up to this one need more elements than a scenario may
abbrev pub too_much_work : Declarations → Item → Bool
too_much_work known (item.Write task dev range tag) =
    nat_lt most_elements (sum_by (elements_in known.devices) known.writes
    + elements_in known.devices (record { task = task; dev = number_in known.devices dev; start = range.start; count = range.len; tag = tag }))
too_much_work known _ = false

-- a `resize` line as it stands in a text
abbrev pub change_of : Resize → Change
change_of resize = record { round = resize.round; pool = resize.pool; min = resize.min }

-- the round of the last write, or the first round where there is none: `sync` lines behind it are left out
abbrev pub last_round : List ℕ → ℕ
last_round rounds = slice_index_or rounds (length rounds - 1) 0

-- the `resize` lines of the rounds up to that one; those of `sync` lines that are left out are left out too
abbrev pub kept_resizes : ℕ → List Change → List Change
kept_resizes last resizes = filter (λ resize. nat_le resize.round last) resizes

-- the checks of what a line says, in their order: those of declarations, all or the loose ones, and that of work
abbrev pub checks_by : Bool → List (Check Item)
checks_by loose = checks_for loose ++ check TooMuchWork too_much_work ∷ []

-- all checks
abbrev pub all_checks : List (Check Item)
all_checks = checks_by false

-- what an accepted stack tells of the lines before the writes
abbrev pub known_of : Stack → Declarations
known_of stack = record nothing_declared { devices = shown_devices stack }

-- the entries of all scripts
abbrev pub all_entries : List (PoolId × Answers) → ℕ
all_entries scripts = sum_by (λ script. entries_of script.1) scripts

-- this work is what the lines mean behind which so much is known, over this stack with these scripts
pub record IsWork (stack : Stack) (scripts : List (PoolId × Answers)) (known : Declarations) (work : Work) : Type 0 where
  pub writes : map as_written work.writes.items ≡ known.writes
  pub rounds : work.rounds.items ≡ known.rounds
  pub resizes : map change_of work.resizes.items ≡ kept_resizes (last_round known.rounds) known.resizes
  -- what the writes need; and the entries of the scripts, the rounds after the first, and the `resize` lines
  pub bound : IsBound stack work.writes.items (all_entries scripts + last_round work.rounds.items + length work.resizes.items) work.bound
