-- Disks may go to another thread, as what they hold may.
use denote.Param.Send.{IsSend, sendable}
use Rattle.std.proofs.Crossing.{crosses}
use Rattle.stack_base.proofs.ids.Bad.TheSendSync as bad
use Rattle.stack_base.proofs.ids.DevId.TheSendSync as dev
use Rattle.elem_ledger.proofs.element.Share.TheSendSync as share
use Rattle.bio_records.proofs.segment.Segment.TheSendSync as segment
use Rattle.bio_records.proofs.bio.Pad.TheSendSync as pad
use Rattle.bio_records.proofs.bio.Bio.TheSendSync as bio
use Rattle.bio_records.proofs.body.BioBody.TheLaws.TheKnot as knot
use Rattle.bio_records.proofs.Sent.{list_send}
use Rattle.model_disks.specs.contracts.disk.Disk as disk
use Rattle.model_disks.specs.contracts.backlog.Backlog as backlog

backlog_send : IsSend backlog.the_row
backlog_send = search (
  sendable,
  crosses,
  list_send,
  segment.the_send,
  pad.the_send,
  bio.the_field_send,
  share.the_send,
  knot.send-BioBody,
) depth 40

pub disk_send : IsSend disk.the_row
disk_send = search (
  sendable,
  crosses,
  backlog_send,
  bad.the_send,
  dev.the_field_send,
  segment.the_send,
  pad.the_send,
  bio.the_field_send,
  share.the_send,
  knot.send-BioBody,
) depth 40
