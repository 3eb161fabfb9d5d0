use denote.Param.Send.{sendable}
use Rattle.shared_objects.proofs.Sent.{locks_sync, seats_send}
use Rattle.shared_objects.proofs.SentTasks.{ran_send}
use Rattle.shared_objects.proofs.laws.threads_may_have_them.Goals as goal

pub shared-requires-sync-X : goal.shared-requires-sync-X
shared-requires-sync-X c κs = search (sendable, locks_sync) depth 40

pub sent-requires-send-X : goal.sent-requires-send-X
sent-requires-send-X c κs = search (sendable, seats_send) depth 40

pub sent-requires-2-send-X : goal.sent-requires-2-send-X
sent-requires-2-send-X c κs = search (sendable, ran_send) depth 40
