-- Where a device that cuts sends the first piece of a run, and what this makes of the whole run.
use Rattle.std.specs.Prelude.{◌≡◌, ◌+◌, ◌-◌, ◌<◌, ◌≤◌, ℕ, List, ◌++◌, length}
use Rattle.stack_base.specs.declared.ids.DevId.{DevId}
use Rattle.stack_base.specs.declared.stack.Stack.{Stack}
use Rattle.stack_base.specs.Tree.{tree, size}
use Rattle.layout_model.specs.declared.piece.FirstRun.{FirstRun}
use Rattle.layout_model.specs.Way.{FitsWay, place}
use Rattle.layout_model.specs.Need.{needed, fragments_in_run}
use Rattle.layout_model.specs.Shown.{shown_sector}
use Rattle.layout_model.specs.Plan.{frags}

-- `to` is what the first piece of the run of len sectors from start on becomes in the member that it goes to
pub record IsFirstRun (stack : Stack) (dev start len : ℕ) (to : FirstRun) : Type 0 where
  -- the member is a device that was declared before
  pub below : to.dev.0 < dev
  pub known : to.dev.0 < length stack.devices.items
  pub some : 1 ≤ to.len
  pub within : to.len ≤ len
  pub inside : to.at + to.len ≤ size (tree stack to.dev.0)
  -- the fragments of the run are those of the piece and those of the rest
  pub rest : (write offset : ℕ)
      → frags (tree stack dev) write offset start len
      ≡ frags (tree stack to.dev.0) write offset to.at to.len ++ frags (tree stack dev) write (offset + to.len) (start + to.len) (len - to.len)
  -- so many are they; where there is no rest, it has none
  pub counts : fragments_in_run (tree stack dev) start len
      ≡ fragments_in_run (tree stack to.dev.0) to.at to.len + fragments_in_run (tree stack dev) (start + to.len) (len - to.len)
  -- the run needs what the piece needs, and where there is a rest, a bio for the piece and what the rest needs
  pub alone : to.len ≡ len → needed (tree stack dev) start len ≡ needed (tree stack to.dev.0) to.at to.len
  pub more : to.len < len
      → needed (tree stack dev) start len
      ≡ needed (tree stack to.dev.0) to.at to.len + (1 + needed (tree stack dev) (start + to.len) (len - to.len))
  -- each sector of the piece shows what its own sector there shows
  pub shows : (i : ℕ) → i < to.len → shown_sector (tree stack dev) (start + i) ≡ shown_sector (tree stack to.dev.0) (to.at + i)
  -- the way of the first sector goes on there
  pub leads : (choices : List ℕ) → place (tree stack dev) start choices ≡ place (tree stack to.dev.0) to.at choices
  pub asks : (choices : List ℕ) → FitsWay (tree stack dev) start choices → FitsWay (tree stack to.dev.0) to.at choices

-- the first of `choices` sends a sector of a mirror on to `member`, and `others` are left for the way below
pub record IsChosen (stack : Stack) (dev sector : ℕ) (choices : List ℕ) (member : DevId) (others : List ℕ) : Type 0 where
  -- the member is a device that was declared before, and has such a sector
  pub below : member.0 < dev
  pub known : member.0 < length stack.devices.items
  pub inside : size (tree stack dev) ≤ size (tree stack member.0)
  -- the sector's way goes on there
  pub fits : FitsWay (tree stack member.0) sector others
  pub leads : place (tree stack dev) sector choices ≡ place (tree stack member.0) sector others
