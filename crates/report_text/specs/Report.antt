-- The report of a run, and the summary of a run of a generated scenario, as functions of what the run left.
use Rattle.std.specs.Prelude.{◌+◌, List, [], ◌∷◌, ◌++◌, ℕ, codes, decimal, if◌then◌else◌}
use Rattle.std.specs.List.{flat_map}
use Rattle.std.specs.Int.{w64, to_be_bytes}
use Rattle.hex.specs.Hex.{encode_lower}
use Rattle.stack_base.specs.declared.ids.DevId.{DevId}
use Rattle.stack_base.specs.declared.ids.PoolId.{PoolId}
use Rattle.stack_base.specs.declared.ids.Status.{Status}
use Rattle.stack_base.specs.declared.ids.Range.{Range}
use Rattle.stack_base.specs.declared.stack.Stack.{Stack}
use Rattle.stack_base.specs.Names.{name_of_device, pool_name}
use Rattle.outside_io.specs.Saying.{joined_text}
use Rattle.mempool_core.specs.declared.Facts.{Facts}
use Rattle.model_disks.specs.Disks.{sum_of_words}
use Rattle.model_disks.specs.Runs.{written_runs}
use Rattle.run_machine.specs.StatusWords.{status_word}
use Rattle.report_text.specs.Pools.{told_pools, same_pool}

-- what a report tells of: the status of each write in the order of the text, each disk with its image in the order of the devices, the facts
-- of each pool, how many events there were, and the bound on them
pub record Reported : Type 0 where
  pub statuses : List Status
  pub disks : List (DevId × List (List ℕ))
  pub pools : List (PoolId × Facts)
  pub steps : ℕ
  pub bound : ℕ

-- `write W STATUS`
abbrev pub write_line : ℕ → Status → List ℕ
write_line number status = joined_text (codes "write " ∷ decimal number ∷ codes " " ∷ status_word status ∷ codes "\n" ∷ [])

-- `disk NAME sum HEX`, the sum in 16 hexadecimal digits
abbrev pub disk_line : List ℕ → ℕ → List ℕ
disk_line name words = joined_text (codes "disk " ∷ name ∷ codes " sum " ∷ encode_lower (to_be_bytes w64 words) ∷ codes "\n" ∷ [])

-- `run NAME START LEN`
abbrev pub run_line : List ℕ → Range → List ℕ
run_line name run = joined_text (codes "run " ∷ name ∷ codes " " ∷ decimal run.start ∷ codes " " ∷ decimal run.len ∷ codes "\n" ∷ [])

-- `pool POOL reserve MIN ordinary A spare B`
abbrev pub pool_line : List ℕ → Facts → List ℕ
pool_line pool facts = joined_text (codes "pool " ∷ pool ∷ codes " reserve " ∷ decimal facts.min ∷ codes " ordinary " ∷ decimal facts.ordinary ∷ codes " spare " ∷ decimal facts.spare ∷ codes "\n" ∷ [])

-- `steps S of B`
abbrev pub steps_line : ℕ → ℕ → List ℕ
steps_line steps bound = joined_text (codes "steps " ∷ decimal steps ∷ codes " of " ∷ decimal bound ∷ codes "\n" ∷ [])

-- `gen N writes W sectors S`
abbrev pub gen_line : ℕ → ℕ → ℕ → List ℕ
gen_line number writes sectors = joined_text (codes "gen " ∷ decimal number ∷ codes " writes " ∷ decimal writes ∷ codes " sectors " ∷ decimal sectors ∷ codes "\n" ∷ [])

-- a line for each write, the first of which has this number
abbrev pub write_lines : ℕ → List Status → List ℕ
write_lines number [] = []
write_lines number (status ∷ more) = write_line number status ++ write_lines (number + 1) more

unfoldable pub run_lines : List ℕ → List Range → List ℕ
run_lines name runs = flat_map (run_line name) runs

-- the line of a disk's sum
abbrev pub sum_line : Stack → DevId × List (List ℕ) → List ℕ
sum_line stack disk = disk_line (name_of_device stack disk.0.0) (sum_of_words disk.1)

-- that line, and those of the disk's written runs
abbrev pub image_lines : Stack → DevId × List (List ℕ) → List ℕ
image_lines stack disk = sum_line stack disk ++ run_lines (name_of_device stack disk.0.0) (written_runs disk.1)

-- the facts that a list has of a pool
abbrev pub no_facts : Facts
no_facts = record { min = 0; spares = 0; out = 0; live = 0; pos = 0; ordinary = 0; spare = 0 }

unfoldable pub facts_of : List (PoolId × Facts) → PoolId → Facts
facts_of [] pool = no_facts
facts_of (p ∷ more) pool = if same_pool p.0 pool then p.1 else facts_of more pool

-- a line for each pool of the stack
abbrev pub pool_lines : Stack → List (PoolId × Facts) → List ℕ
pool_lines stack pools = flat_map (λ pool. pool_line (pool_name stack pool) (facts_of pools pool)) (told_pools stack)

-- the whole report
abbrev pub report : Stack → Reported → List ℕ
report stack told = write_lines 0 told.statuses
    ++ (flat_map (image_lines stack) told.disks
    ++ (pool_lines stack told.pools
    ++ steps_line told.steps told.bound))

-- what is told of a run of the scenario that a number makes: how many writes and sectors it had, each disk's sum, and the steps
abbrev pub gen_text : ℕ → ℕ → ℕ → Stack → Reported → List ℕ
gen_text number writes sectors stack told = gen_line number writes sectors
    ++ (flat_map (sum_line stack) told.disks
    ++ steps_line told.steps told.bound)
