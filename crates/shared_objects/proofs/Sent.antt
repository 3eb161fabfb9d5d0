-- What may cross threads, lowest first.
use denote.Param.Send.{IsSend, IsSync, sendable}
use Rattle.std.proofs.Crossing.{crosses}
use Rattle.stack_base.proofs.ids.DevId.TheSendSync as dev
use Rattle.stack_base.proofs.ids.SetId.TheSendSync as set
use Rattle.elem_ledger.specs.declared.fresh.Fresh.{Ghosts}
use Rattle.elem_ledger.proofs.element.Share.TheSendSync as share
use Rattle.elem_ledger.proofs.ledger.Ledger.TheSendSync as ledger
use Rattle.fail_script.proofs.Script.TheSendSync as script
use Rattle.mempool_core.proofs.Pool.TheSendSync as pool
use Rattle.arrayvec.proofs.array_vec.ArrayVec.TheSendSync as array_vec
use Rattle.bio_records.proofs.segment.Segment.TheSendSync as segment
use Rattle.bio_records.proofs.segment.Vector.TheSendSync as vector
use Rattle.bio_records.proofs.bio.Pad.TheSendSync as pad
use Rattle.bio_records.proofs.bio.Slip.TheSendSync as slip
use Rattle.bio_records.proofs.bio.Bio.TheSendSync as bio
use Rattle.bio_records.proofs.body.BioBody.TheLaws.TheKnot as knot
use Rattle.bio_records.proofs.Sent.{rescue_list_send}
use Rattle.bio_books.proofs.Sent.{book_send}
use Rattle.model_disks.proofs.Sent.{disk_send}
use Rattle.tick_clock.proofs.clock.Clock.TheSendSync as clock
use Rattle.tick_clock.proofs.note.Note.TheSendSync as note
use Rattle.tick_clock.proofs.pass.Pass.TheSendSync as pass
use Rattle.seat_lock.proofs.lock.Seat.TheSendSync as seat
use Rattle.seat_lock.proofs.lock.SeatLock.TheSendSync as lock
use Rattle.task_core.proofs.plain.index.ObjectIndex.TheSendSync as index
use Rattle.task_core.proofs.plain.tally.Tally.TheSendSync as tally
use Rattle.bio_records.specs.contracts.body.BioBody as body_type
use Rattle.bio_records.specs.contracts.bio.Pad as pad_type
use Rattle.bio_records.specs.contracts.bio.Slip as slip_type
use Rattle.bio_records.specs.contracts.segment.Vector as vector_type
use Rattle.object_things.specs.contracts.stamp.Common as common
use Rattle.object_things.specs.contracts.stamp.Stamp as stamp
use Rattle.object_things.specs.contracts.pool.PoolThing as pool_thing
use Rattle.object_things.specs.contracts.list.ListThing as list_thing
use Rattle.object_things.specs.contracts.disk.DiskThing as disk_thing
use Rattle.object_things.specs.contracts.book.BookThing as book_thing
use Rattle.object_things.specs.contracts.tally.TallyThing as tally_thing
use Rattle.shared_objects.specs.contracts.locks.Locks as locks
use Rattle.shared_objects.specs.contracts.seats.TaskSeats as seats

-- What all things have in common is shared by them through an `Arc`.
pub common_send : IsSend common.the_row
common_send = search (sendable, crosses, clock.the_send) depth 40

pub common_sync : IsSync common.the_row
common_sync = search (sendable, crosses, clock.the_sync) depth 40

pub stamp_send : IsSend stamp.the_row
stamp_send = search (sendable, crosses, common_send, common_sync, note.the_send) depth 40

pub list_thing_send : IsSend list_thing.the_row
list_thing_send = search (sendable, crosses, stamp_send, rescue_list_send) depth 40

pub disk_thing_send : IsSend disk_thing.the_row
disk_thing_send = search (sendable, crosses, stamp_send, disk_send) depth 40

pub book_thing_send : IsSend book_thing.the_row
book_thing_send = search (sendable, crosses, stamp_send, book_send) depth 40

pub tally_thing_send : IsSend tally_thing.the_row
tally_thing_send = search (sendable, crosses, stamp_send, tally.the_field_send) depth 40

-- The pools with their notes, by what they are pools of.
pub bios_thing_send : (F : Ghosts (body_type.the_row pad_type.the_row).Denot) → IsSend (pool_thing.the_row (body_type.the_row pad_type.the_row) F)
bios_thing_send F =
    search (sendable, crosses, stamp_send, pool.the_send, ledger.the_send, script.the_send, segment.the_send, pad.the_send, bio.the_field_send, share.the_send, array_vec.the_send, knot.send-BioBody) depth 60

pub vectors_thing_send : (F : Ghosts vector_type.the_row.Denot) → IsSend (pool_thing.the_row vector_type.the_row F)
vectors_thing_send F = search (sendable, crosses, stamp_send, pool.the_send, vector.the_send) depth 60

pub slips_thing_send : (F : Ghosts slip_type.the_row.Denot) → IsSend (pool_thing.the_row slip_type.the_row F)
slips_thing_send F = search (sendable, crosses, stamp_send, pool.the_send, slip.the_send) depth 60

-- What threads share: the locks, each of which asks of its thing that it may cross.
pub locks_sync : IsSync locks.the_row
locks_sync = search (
  sendable,
  crosses,
  lock.the_sync,
  common_send,
  common_sync,
  index.the_field_sync,
  set.the_field_sync,
  dev.the_field_sync,
  bios_thing_send,
  vectors_thing_send,
  slips_thing_send,
  list_thing_send,
  disk_thing_send,
  book_thing_send,
  tally_thing_send,
) depth 60

-- What one thread has at a time. Seats and passes may go to another thread, and are lent to none.
pub seats_send : IsSend seats.the_row
seats_send = search (
  sendable,
  crosses,
  seat.the_send,
  pass.the_send,
  set.the_field_send,
  dev.the_field_send,
  bios_thing_send,
  vectors_thing_send,
  slips_thing_send,
  list_thing_send,
  disk_thing_send,
  book_thing_send,
  tally_thing_send,
) depth 60
