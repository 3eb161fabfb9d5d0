-- What workers of a run share may be lent to several threads.
use denote.Param.Send.{IsSync, sendable}
use denote.Param.SendFields.{declared_sync}
use denote.Ref.{NamedLft}
use denote.RattleType.{RattleType}
use Rattle.shared_objects.proofs.Sent.{locks_sync}
use Rattle.bio_workers.specs.contracts.workers.Crew as crew

pub crew_sync : (l : NamedLft) (G : RattleType) → IsSync G → IsSync (crew.the_row l G)
crew_sync l G gate = declared_sync (crew.the_type l G) (search (sendable, locks_sync) depth 40, (search (sendable, gate) depth 40, tt))
