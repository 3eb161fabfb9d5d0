-- Lists of bios may go to another thread, as what they hold may.
use denote.Param.Send.{IsSend, sendable}
use Rattle.std.proofs.Crossing.{crosses}
use Rattle.stack_base.proofs.ids.DevId.TheSendSync as dev
use Rattle.elem_ledger.proofs.element.Share.TheSendSync as share
use Rattle.arrayvec.proofs.array_vec.ArrayVec.TheSendSync as array_vec
use Rattle.bio_records.proofs.segment.Segment.TheSendSync as segment
use Rattle.bio_records.proofs.bio.Pad.TheSendSync as pad
use Rattle.bio_records.proofs.bio.Bio.TheSendSync as bio
use Rattle.bio_records.proofs.body.BioBody.TheLaws.TheKnot as knot
use Rattle.bio_records.specs.contracts.list.BioList as list
use Rattle.bio_records.specs.contracts.tasks.RescueList as rescue_list
use Rattle.bio_records.specs.contracts.tasks.TaskLists as task_lists

pub list_send : IsSend list.the_row
list_send = search (sendable, crosses, segment.the_send, pad.the_send, bio.the_field_send, share.the_send, array_vec.the_send, knot.send-BioBody) depth 40

pub rescue_list_send : IsSend rescue_list.the_row
rescue_list_send = search (sendable, crosses, list_send, dev.the_field_send) depth 40

pub task_lists_send : IsSend task_lists.the_row
task_lists_send = search (sendable, crosses, list_send) depth 40
