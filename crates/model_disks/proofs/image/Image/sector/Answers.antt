-- The sector is in the pages.
use Rattle.std.proofs.Common.{◌∙◌}
use Rattle.model_disks.proofs.ImageLemmas.{sector_known, sector_shown}
use Rattle.model_disks.proofs.image.Image.sector.Goals as goal

pub sector-requires-clause-here : goal.sector-requires-clause-here
sector-requires-clause-here c =
    let i = c.self.inside in
    sector_known i.count _ _ _ i.pages.slots.items _ _ c.args.self.now c.args.at c.self.invariant c.self.view_is c.requires

pub returns : goal.returns
returns c =
    let i = c.self.inside in
    c.sector.ensures ∙ sector_shown i.count i.pages.words.items i.pages.slots.items c.args.self.now c.args.at c.self.view_is c.requires
