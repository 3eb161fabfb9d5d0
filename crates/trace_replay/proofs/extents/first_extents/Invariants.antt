use Rattle.std.proofs.Common.{◌≡◌, ◌++◌, [], ◌∷◌, drop, map}
use Rattle.plain_core.specs.Cores.{state_of_core}
use Rattle.report_text.specs.Pools.{rising_from}
use Rattle.trace_replay.specs.Replay.{extent_over}
use Rattle.trace_replay.specs.Walks.{extents_over}
use Rattle.trace_replay.proofs.extents.first_extents.Given as goal

-- with those of the devices from here on they are all
abbrev pub invariant-devices : goal.invariant-devices
invariant-devices l =
    l.extents.items ++ map (extent_over (state_of_core l.core ∷ [])) (rising_from l.number (drop l.number l.stack.devices.items))
    ≡ extents_over l.stack (state_of_core l.core ∷ [])
