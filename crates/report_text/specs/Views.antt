-- What a report tells of a run that has ended, and of the objects that the machine of runs has then.
use Rattle.std.specs.Prelude.{◌≡◌, ◌-◌, ◌<◌, ◌++◌, List, [], ◌∷◌, ℕ, length, map, take, drop, All}
use Rattle.std.specs.List.{flat_map}
use Rattle.stack_base.specs.declared.ids.DevId.{DevId}
use Rattle.stack_base.specs.declared.ids.PoolId.{PoolId}
use Rattle.stack_base.specs.declared.stack.Device.{Device}
use Rattle.stack_base.specs.declared.stack.Stack.{Stack}
use Rattle.stack_base.specs.PoolId.{pool_number}
use Rattle.stack_base.specs.Names.{pool_name}
use Rattle.mempool_core.specs.declared.Facts.{Facts}
use Rattle.model_disks.specs.Disks.{DiskState}
use Rattle.task_core.specs.declared.ended.Ended.{Ended}
use Rattle.run_machine.specs.Objects.{Objects}
use Rattle.layout_model.specs.declared.totals.Bounds.{Bounds}
use Rattle.report_text.specs.CheckText.{steps_bound}
use Rattle.report_text.specs.Pools.{HasDeviceOfPool, disks_of, falling_pools, pools_at}
use Rattle.report_text.specs.Report.{Reported, image_lines, pool_line, sum_line}

-- a disk with what it holds
abbrev pub image_of : DiskState → DevId × List (List ℕ)
image_of disk = (disk.dev, disk.image)

-- what is told of a run that has ended
abbrev pub told_of : Ended → ℕ → Reported
told_of ended bound = record {
  statuses = ended.statuses.items;
  disks = map image_of ended.disks.items;
  pools = ended.pools.items;
  steps = ended.steps;
  bound = bound;
}

-- the same, with the bound on the steps of what its writes need
abbrev pub told_beside : Ended → Bounds → Reported
told_beside ended bound = told_of ended (steps_bound bound)

-- the lines of what these disks hold, and those of their sums
abbrev pub lines_of_images : Stack → List DiskState → List ℕ
lines_of_images stack disks = flat_map (λ (disk : DiskState). image_lines stack (image_of disk)) disks

abbrev pub lines_of_sums : Stack → List DiskState → List ℕ
lines_of_sums stack disks = flat_map (λ (disk : DiskState). sum_line stack (image_of disk)) disks

-- the disks are those of the stack in the order of its devices, and the pools are the stack's by falling number
pub record IsEndedOfStack (stack : Stack) (ended : Ended) : Type 0 where
  pub disks : map (λ (disk : DiskState). disk.dev) ended.disks.items ≡ disks_of stack
  pub pools : map (λ (p : PoolId × Facts). p.0) ended.pools.items ≡ falling_pools stack

-- what is told of the objects of a machine, whose disks and pools go by numbers
abbrev pub told_of_objects : Stack → Objects → ℕ → ℕ → Reported
told_of_objects stack objects steps bound = record {
  statuses = objects.tally.statuses;
  disks = map (λ (dev : DevId). (dev, (objects.disk dev.0).image)) (disks_of stack);
  pools = map (λ (pool : PoolId). (pool, (objects.pool (pool_number pool)).facts)) (falling_pools stack);
  steps = steps;
  bound = bound;
}

-- each of these disks is a device of the stack
abbrev pub AreKnown : Stack → List DiskState → Type 0
AreKnown stack disks = All (λ (dev : DevId). dev.0 < length stack.devices.items) (map (λ (disk : DiskState). disk.dev) disks)

-- each of these pools is one of the stack
abbrev pub AreOfStack : Stack → List (PoolId × Facts) → Type 0
AreOfStack stack pools = All (HasDeviceOfPool stack) (map (λ (p : PoolId × Facts). p.0) pools)

-- the line of a pool with these facts
abbrev pub facts_line : Stack → PoolId × Facts → List ℕ
facts_line stack p = pool_line (pool_name stack p.0) p.1

-- where the pools of the first device stand last: those of each device, from the first to the last
unfoldable pub own_of_each : List Device → List (PoolId × Facts) → List (PoolId × Facts)
own_of_each [] pools = []
own_of_each (device ∷ more) pools =
    let front = length pools - length (pools_at 0 device.kind) in
    drop front pools ++ own_of_each more (take front pools)

-- the lines of those pools
abbrev pub lines_of_devices : Stack → List (PoolId × Facts) → List ℕ
lines_of_devices stack pools = flat_map (facts_line stack) (own_of_each stack.devices.items pools)
