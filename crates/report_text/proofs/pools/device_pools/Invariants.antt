use Rattle.std.proofs.Common.{◌≡◌, map, drop}
use Rattle.std.specs.List.{flat_map}
use Rattle.outside_io.specs.Saying.{PenState, Says}
use Rattle.report_text.specs.Pools.{falling_from}
use Rattle.report_text.specs.Views.{facts_line, own_of_each}
use Rattle.report_text.proofs.pools.device_pools.Given as goal

abbrev pub invariant-devices : goal.invariant-devices
invariant-devices g l = record {
  -- the pools of the devices from here on are left
  are : map (λ p. p.0) l.rest ≡ falling_from l.device-index (drop l.device-index l.stack.devices.items);
  -- what says their lines completes all of them
  so_far : (end : g.row.K.Denot) (pen : PenState)
      → Says g.K.Sink l.out l.pen end pen
      (flat_map (facts_line l.stack) (own_of_each (drop l.device-index l.stack.devices.items) l.rest))
      → Says g.K.Sink l.fn.out l.fn.pen end pen
      (flat_map (facts_line l.stack) (own_of_each l.stack.devices.items l.pools));
}
