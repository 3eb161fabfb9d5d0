use Rattle.shared_objects.proofs.row_lemmas.SplitAndJoined.{stay_apart}
use Rattle.shared_objects.proofs.rows.calls_stay_apart.Goals as goal

pub returns : goal.returns
returns g c = stay_apart g.row.T.Denot g.T.Thing.answers
