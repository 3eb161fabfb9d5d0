-- Lists, books and disks may go to another thread, as their crates prove.
use denote.Param.Send.{sendable}
use Rattle.bio_records.proofs.Sent.{rescue_list_send, task_lists_send}
use Rattle.bio_books.proofs.Sent.{book_send}
use Rattle.model_disks.proofs.Sent.{disk_send}
use Rattle.object_tests.proofs.crossing.objects_may_cross_threads.Goals as goal

pub crosses-requires-8-send-X : goal.crosses-requires-8-send-X
crosses-requires-8-send-X c κs = search (sendable, rescue_list_send) depth 40

pub crosses-requires-9-send-X : goal.crosses-requires-9-send-X
crosses-requires-9-send-X c κs = search (sendable, task_lists_send) depth 40

pub crosses-requires-10-send-X : goal.crosses-requires-10-send-X
crosses-requires-10-send-X c κs = search (sendable, book_send) depth 40

pub crosses-requires-11-send-X : goal.crosses-requires-11-send-X
crosses-requires-11-send-X c κs = search (sendable, disk_send) depth 40
