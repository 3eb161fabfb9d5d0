-- Books may go to another thread, as what they hold may.
use denote.Param.Send.{IsSend, sendable}
use Rattle.std.proofs.Crossing.{crosses}
use Rattle.stack_base.proofs.ids.Status.TheSendSync as status
use Rattle.elem_ledger.proofs.element.Share.TheSendSync as share
use Rattle.arrayvec.proofs.array_vec.ArrayVec.TheSendSync as array_vec
use Rattle.bio_records.proofs.segment.Segment.TheSendSync as segment
use Rattle.bio_records.proofs.segment.Vector.TheSendSync as vector
use Rattle.bio_records.proofs.bio.Pad.TheSendSync as pad
use Rattle.bio_records.proofs.bio.Slip.TheSendSync as slip
use Rattle.bio_records.proofs.bio.Bio.TheSendSync as bio
use Rattle.bio_records.proofs.body.BioBody.TheLaws.TheKnot as knot
use Rattle.bio_books.proofs.places.Places.TheSendSync as places
use Rattle.bio_books.proofs.node.Role.TheSendSync as role
use Rattle.bio_books.proofs.attachment.Attachment.TheSendSync as attachment
use Rattle.bio_books.specs.contracts.node.Node as node
use Rattle.bio_books.specs.contracts.book.Book as book

node_send : IsSend node.the_row
node_send = search (
  sendable,
  crosses,
  role.the_field_send,
  attachment.the_send,
  status.the_field_send,
  segment.the_send,
  vector.the_send,
  slip.the_send,
  pad.the_send,
  bio.the_field_send,
  share.the_send,
  array_vec.the_send,
  knot.send-BioBody,
) depth 40

pub book_send : IsSend book.the_row
book_send = search (sendable, crosses, places.the_send, node_send) depth 40
