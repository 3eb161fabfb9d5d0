-- How many events a run has in which no take missed.
use Rattle.std.specs.Prelude.{◌≡◌, ◌+◌, not, ℕ, Bool, true, false, List, length, filter, sum_by, All}
use Rattle.stack_base.specs.declared.stack.Stack.{Stack}
use Rattle.stack_base.specs.Tree.{tree}
use Rattle.layout_model.specs.declared.write.Write.{Write}
use Rattle.layout_model.specs.Bound.{all_elements, all_fragments}
use Rattle.layout_model.specs.Need.{needed}
use Rattle.layout_model.specs.NeedCounts.{nodes}
use Rattle.run_machine.specs.declared.event.Event.{Event}
use Rattle.run_machine.specs.declared.event.Got.TheVariants as got
use Rattle.run_machine.specs.declared.event.What.{What}
use Rattle.run_machine.specs.declared.event.What.TheVariants as what
use Rattle.run_machine.specs.Opened.{Scenario, duties}
use Rattle.run_machine.specs.Runs.{HasEnded}
use Rattle.run_machine.specs.Tasks.{Duty, Resizes, Starts}
use Rattle.block_core.specs.Scenarios.{InEveryRun}

abbrev pub is_miss : What → Bool
is_miss (what.Take pool got.Missed) = true
is_miss (what.Try pool got.Missed) = true
is_miss what = false

abbrev pub NoneMissed : List Event → Type 0
NoneMissed events = All (λ (event : Event). is_miss event.what ≡ false) events

-- the nodes of all writes: their elements but for the vectors
abbrev pub all_nodes : Stack → List Write → ℕ
all_nodes stack writes = sum_by (λ write. nodes stack write) writes

-- those that are under others: of splits, clones and records
abbrev pub all_below : Stack → List Write → ℕ
all_below stack writes = sum_by (λ (write : Write). needed (tree stack write.dev.0) write.start write.count) writes

abbrev pub starts_round : Duty → Bool
starts_round (Starts round later) = true
starts_round (Resizes pool min later) = false

-- How often each kind of event comes where no take misses. Each element is taken and given back, and each of a node linked. Each fragment is pushed
-- and completed, and its end is told to its node. Each other end is that of a node, and is told to its parent, or of a write, which is done. The
-- keeper starts each round behind the first, and changes reserves. The others come only behind a miss.
abbrev pub exact_steps : Scenario → ℕ
exact_steps s =
    let takes = all_elements s.stack s.writes in
    let links = all_nodes s.stack s.writes in
    let pushes = all_fragments s.stack s.writes in
    let ends = all_fragments s.stack s.writes + all_below s.stack s.writes in
    let starts = length (filter starts_round (duties s)) in
    let resizes = length (filter (λ duty. not (starts_round duty)) (duties s)) in
    -- as many gives as takes, and completions as pushes
    takes + links + pushes + pushes + ends + takes + length s.writes + starts + resizes

-- So many events has each run that has ended and in which no take missed: its keeper has done all, since the last round has a write.
abbrev pub StepsWithoutMisses : Type 0
StepsWithoutMisses = InEveryRun (λ s ledger events state. HasEnded state → NoneMissed events → length events ≡ exact_steps s)
