-- Tasks may cross threads, with their seats. What a task has at hand goes with it, lowest first.
use denote.Param.Send.{IsSend, IsSync, sendable}
use denote.Param.SendFields.{as_row_send, as_row_sync, declared_send}
use Rattle.std.proofs.Crossing.{crosses}
use Rattle.stack_base.proofs.ids.DevId.TheSendSync as dev
use Rattle.stack_base.proofs.ids.SetId.TheSendSync as set
use Rattle.stack_base.proofs.ids.PoolId.TheSendSync as pool
use Rattle.stack_base.proofs.ids.Status.TheSendSync as status
use Rattle.elem_ledger.proofs.element.Share.TheSendSync as share
use Rattle.arrayvec.proofs.array_vec.ArrayVec.TheSendSync as array_vec
use Rattle.bio_records.proofs.segment.Segment.TheSendSync as segment
use Rattle.bio_records.proofs.segment.Vector.TheSendSync as vector
use Rattle.bio_records.proofs.bio.Pad.TheSendSync as pad
use Rattle.bio_records.proofs.bio.Slip.TheSendSync as slip
use Rattle.bio_records.proofs.bio.Bio.TheSendSync as bio
use Rattle.bio_records.proofs.body.BioBody.TheLaws.TheKnot as knot
use Rattle.bio_records.proofs.Sent.{list_send}
use Rattle.bio_records.specs.contracts.tasks.TaskLists as lists
use Rattle.bio_books.specs.contracts.node.Back as back
use Rattle.bio_books.specs.contracts.node.ClosedNode as closed_node
use Rattle.run_machine.proofs.event.Breach.TheSendSync as breach
use Rattle.run_machine.proofs.event.Event.TheSendSync as event
use Rattle.task_steps.proofs.keeper.Keeper.TheSendSync as keeper
use Rattle.task_steps.proofs.routes.Route.TheSendSync as route
use Rattle.task_steps.proofs.todo.Todos.TheSendSync as todos
use Rattle.task_steps.specs.contracts.objects.Ask as ask
use Rattle.task_steps.specs.contracts.objects.Unmade as unmade
use Rattle.task_steps.specs.contracts.submission.Want as want
use Rattle.task_steps.specs.contracts.submission.DriverAsk as driver_ask
use Rattle.task_steps.specs.contracts.submission.HandedBack as handed_back
use Rattle.task_steps.specs.contracts.submission.Kept as kept
use Rattle.task_steps.specs.contracts.submission.Doing as doing
use Rattle.task_steps.specs.contracts.submission.Submission as submission
use Rattle.task_steps.specs.contracts.completer.Load as load
use Rattle.task_steps.specs.contracts.completer.Carried as carried
use Rattle.task_steps.specs.contracts.rescuer.Rescuer as rescuer
use Rattle.task_steps.specs.contracts.writer.Writer as writer
use Rattle.task_steps.specs.contracts.writer.begin.Gathered as taken
use Rattle.task_steps.specs.contracts.routes.Routes as routes
use Rattle.task_steps.specs.contracts.task.Kind as kind
use Rattle.task_steps.specs.contracts.task.Task as task
use Rattle.shared_objects.specs.contracts.noted.Noted as noted
use Rattle.shared_objects.specs.contracts.ran.Ran as ran
use Rattle.shared_objects.proofs.Sent.{seats_send}

lists_send : IsSend (lists.the_field).row
lists_send = search (sendable, crosses, list_send) depth 40

back_send : IsSend (back.the_field).row
back_send = search (sendable, crosses, segment.the_send, vector.the_send, slip.the_send, pad.the_send, bio.the_field_send, share.the_send, array_vec.the_send, knot.send-BioBody) depth 60

closed_node_send : IsSend (closed_node.the_field).row
closed_node_send = search (sendable, crosses, back_send, status.the_field_send) depth 40

ask_send : IsSend (ask.the_field).row
ask_send = search (sendable, crosses, segment.the_send, vector.the_send, slip.the_send, pad.the_send, bio.the_field_send, share.the_send, array_vec.the_send, knot.send-BioBody) depth 60

unmade_send : IsSend (unmade.the_field).row
unmade_send = search (sendable, crosses, ask_send, list_send, segment.the_send, vector.the_send, slip.the_send, pad.the_send, bio.the_field_send, share.the_send, array_vec.the_send, knot.send-BioBody) depth 60

want_send : IsSend (want.the_field).row
want_send = search (sendable, crosses, segment.the_send, pad.the_send, bio.the_field_send, share.the_send, array_vec.the_send, knot.send-BioBody) depth 60

driver_ask_send : IsSend (driver_ask.the_field).row
driver_ask_send = search (sendable, crosses, want_send, slip.the_send, share.the_send) depth 60

handed_back_send : IsSend (handed_back.the_field).row
handed_back_send = search (sendable, crosses, unmade_send, back_send) depth 40

kept_send : IsSend (kept.the_field).row
kept_send = search (sendable, crosses, handed_back_send, segment.the_send, pad.the_send, bio.the_field_send, share.the_send, array_vec.the_send, knot.send-BioBody) depth 60

doing_send : IsSend (doing.the_field).row
doing_send = search (sendable, crosses, driver_ask_send, want_send, kept_send, breach.the_field_send, segment.the_send, pad.the_send, bio.the_field_send, share.the_send, array_vec.the_send, knot.send-BioBody) depth 60

submission_send : IsSend submission.the_row
submission_send = search (sendable, crosses, doing_send, lists_send) depth 40

taken_send : IsSend (taken.the_field).row
taken_send = search (sendable, crosses, segment.the_send, vector.the_send, pad.the_send, bio.the_field_send, share.the_send, array_vec.the_send, knot.send-BioBody) depth 60

writer_send : IsSend writer.the_row
writer_send = search (sendable, crosses, todos.the_send, taken_send, submission_send) depth 40

rescuer_send : IsSend rescuer.the_row
rescuer_send = search (sendable, crosses, dev.the_field_send, submission_send) depth 40

load_send : IsSend (load.the_field).row
load_send = search (sendable, crosses, status.the_field_send, closed_node_send, breach.the_field_send, back_send, segment.the_send, pad.the_send, bio.the_field_send, share.the_send, array_vec.the_send, knot.send-BioBody) depth 60

carried_send : IsSend carried.the_row
carried_send = search (sendable, crosses, load_send) depth 40

kind_send : IsSend (kind.the_field).row
kind_send = search (sendable, crosses, writer_send, rescuer_send, carried_send, keeper.the_send, dev.the_field_send) depth 40

routes_send : IsSend routes.the_row
routes_send = search (sendable, crosses, route.the_field_send) depth 40

routes_sync : IsSync routes.the_row
routes_sync = search (sendable, crosses, route.the_field_sync) depth 40

-- a task
pub task_send : IsSend task.the_row
task_send = search (sendable, crosses, routes_send, routes_sync, kind_send) depth 40

-- what it noted
noted_send : IsSend (noted.the_field).row
noted_send = search (sendable, crosses, event.the_field_send) depth 40

-- a task with its seats
pub ran_send : IsSend ran.the_row
ran_send = search (sendable, crosses, as_row_send, declared_send, task_send, seats_send, noted_send) depth 40
