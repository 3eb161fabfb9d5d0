-- All slots have words, and stand in the order of their pages.
use Rattle.std.proofs.Common.{◌*◌, take, ap, ◌∙◌}
use Rattle.model_disks.proofs.ImageLemmas.{settled_words}
use Rattle.model_disks.proofs.pages.Pages.words.Goals as goal

pub returns : goal.returns
returns c =
    ap (take (64 * c.args.count)) c.deref.ensures.value
    ∙ settled_words c.args.count c.args.self.now.words.items c.args.self.now.slots.items c.requires.settled c.requires.all c.requires.full
