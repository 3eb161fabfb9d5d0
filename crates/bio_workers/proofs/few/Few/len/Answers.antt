use Rattle.std.proofs.Common.{length, sym, ap, ◌∙◌}
use Rattle.bio_workers.proofs.AllThere.{as_long}
use Rattle.bio_workers.proofs.few.Few.len.Goals as goal

pub returns-clause-same : goal.returns-clause-same
returns-clause-same g c = c.len.ensures.value ∙ sym (as_long c.self.inside.slots.items c.self.invariant) ∙ ap length c.self.view_is
