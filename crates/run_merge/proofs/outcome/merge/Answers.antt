use Rattle.std.proofs.Common.{◌-◌, ◌^◌, ◌∙◌, ap, arith, length, map, refl, subst, sym}
use Rattle.std.specs.Prelude.{min, sum_by, vec_capacity}
use Rattle.shared_objects.specs.declared.closed.ClosedTask.{ClosedTask}
use Rattle.task_core.specs.declared.ended.Ended.{Ended}
use Rattle.run_merge.specs.Falling.{facts_left, row_of}
use Rattle.run_merge.specs.Listing.{IsTrace, TraceRises}
use Rattle.run_merge.proofs.leaving.LeftByRun.{some_set, pools_fit, disks_fit, pools_in, bios_row, records_row, vecs_is}
use Rattle.run_merge.proofs.leaving.MergeOfClosed.{is_merged}
use Rattle.run_merge.proofs.leaving.TraceOfRun.{lists_rise}
use Rattle.run_merge.proofs.outcome.merge.Goals as goal

-- src/outcome.rt
pub disks_of-disks-requires-clause-room : goal.disks_of-disks-requires-clause-room
disks_of-disks-requires-clause-room c =
    let long = ap (λ disks. length disks.items) c.parts-parts.ensures.disks in
    let room = ap (λ (room : Ended). vec_capacity room.disks) c.parts-parts.ensures.room in
    omega (arith, disks_fit c.args.closed c.requires.closed, long, room)

pub pools_of-pools-requires-clause-room : goal.pools_of-pools-requires-clause-room
pools_of-pools-requires-clause-room c =
    let long = ap (λ bios. length bios.items) c.parts-parts.ensures.bios in
    let more = ap (λ records. length records.items) c.parts-parts.ensures.records in
    let room = ap (λ (room : Ended). vec_capacity room.pools) c.parts-parts.ensures.room in
    omega (arith, pools_fit c.args.closed c.requires.closed, long, more, room)

pub pools_of-pools-requires-clause-some : goal.pools_of-pools-requires-clause-some
pools_of-pools-requires-clause-some c =
    let long = ap (λ bios. length bios.items) c.parts-parts.ensures.bios in
    omega (arith, some_set c.args.closed c.requires.closed, long)

pub trace_of-requires : goal.trace_of-requires
trace_of-requires c =
    record { rising = subst TraceRises (sym c.parts-parts.ensures.trace) (lists_rise c.args.closed c.requires.closed) }

pub returns : goal.returns
returns c =
    let closed = c.args.closed in
    let has = c.requires.closed in
    let parts = c.parts-parts.ensures in
    record {
      merged =
          is_merged closed has _ (c.statuses_of-statuses.ensures ∙ ap (λ tally. tally.thing.object.statuses) parts.tally)
          (c.disks_of-disks.ensures ∙ ap (λ disks. map (λ disk. disk.thing.object) disks.items) parts.disks)
          (c.pools_of-pools.ensures (pools_in closed has)
          (ap (λ bios. row_of facts_left bios.items) parts.bios ∙ bios_row closed has)
          (ap (λ records. row_of facts_left records.items) parts.records ∙ records_row closed has)
          (ap facts_left parts.vecs ∙ vecs_is closed has))
          (c.events_of-steps.ensures
          ∙ ap (λ tasks. min (sum_by (λ (task : ClosedTask). task.events) tasks) (2 ^ 64 - 1)) (c.deref.ensures.value ∙ ap (λ tasks. tasks.items) parts.tasks))
          (subst (λ trace. IsTrace trace c.in_ok-events.events) parts.trace c.in_ok-events.ensures.traced);
      untraced = λ none. refl;
    }
