use Rattle.std.proofs.Common.{◌<◌, length, ◌∙◌, arith}
use Rattle.task_core.specs.opened.Openings.{slip_index, IsNewRecords}
use Rattle.task_steps.specs.Stage.{has_mirror_in}
use Rattle.task_core.specs.Plains.{records_number}
use Rattle.task_core.proofs.opened.OpenedInOrder.{one_more}
use Rattle.task_core.proofs.opened.NewPools.{slips_apart}
use Rattle.task_core.proofs.opening.pools.open_records.Goals as goal

pub opening-preserved : goal.opening-preserved
opening-preserved c =
    let few = c.requires.stack.few in
    let len = c.len-number-end.ensures in
    let test = c.opening-test.true in
    let long = c.opening.invariant.long in
    let routing = c.args.routes.now in
    let n = c.opening.number in
    let inside : slip_index n < length c.opening.table = omega (few, len, test, long, arith) in
    let more =
    one_more records_number slip_index (has_mirror_in routing) (IsNewRecords routing c.args.scripts.now c.args.reserves.now) n c.opening.records.items
    c.opening.table c.opening.invariant.opened c.open_slips.new.records.items c.open_slips.new.table (λ i lt. slips_apart i n lt) inside
    c.in_ok-open_slips.ensures in
    record { opened = more.0; long = more.1 ∙ long }
