use Rattle.plain_core.proofs.opening_lemmas.Readable.{can_open}
use Rattle.plain_core.proofs.laws.accepted_texts_can_open.Goals as goal

pub returns : goal.returns
returns c = can_open
