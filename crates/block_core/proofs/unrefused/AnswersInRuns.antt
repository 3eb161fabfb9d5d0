-- Of every run of every scenario that is allowed: whatever is answered next is an event, or changes nothing.
use Rattle.stack_base.specs.PoolId.{pool_number}
use Rattle.run_machine.specs.Opened.{scene, start, setup_in}
use Rattle.block_core.specs.Replies.{RepliesAreEvents}
use Rattle.block_core.proofs.moves.Devices.{ground}
use Rattle.block_core.proofs.unrefused.NodeNeeds.{needs_known}
use Rattle.block_core.proofs.sound.EveryRun.{runs_whole, start_whole}
use Rattle.block_core.proofs.unrefused.RoomKept.{run_roomy}
use Rattle.block_core.proofs.unrefused.ObjectsAnswer.{ready}
use Rattle.block_core.proofs.unrefused.Unbroken.{small, no_task_breaks}
use Rattle.block_core.proofs.unrefused.OneReply.{event_or_nothing}

pub replies_are_events : RepliesAreEvents
replies_are_events s ledger events state good allowed naming run place here see reply new serves =
    let places = (setup_in s).places in
    let i = runs_whole (scene s ledger) (record { named = naming }) (ground s.stack good.stack places) (start s) events state (start_whole s ledger good naming) run in
    let r = run_roomy s ledger good naming events state run in
    let unrefused = no_task_breaks s ledger events state good allowed naming run in
    event_or_nothing (scene s ledger) state place here see
    (ready (scene s ledger) state (needs_known s.stack good.stack places) (small s ledger good allowed naming) i.kept i.placed r place here)
    (λ pool min later duties is. unrefused.resizes place pool min later duties is see (pool_number pool)) reply new serves
