use Rattle.std.proofs.Common.{arith}
use Rattle.work_text.proofs.DraftLemmas.{next_round}
use Rattle.work_text.proofs.draft.Draft.add_sync.Goals as goal

pub returns-clause-draft : goal.returns-clause-draft
returns-clause-draft c = next_round c.args.stack.now c.args.self.now c.requires.draft (omega (arith, c.if-self-ge-MOST_SYNCS.false))
