-- The sectors are in the pages, up to the end of one.
use Rattle.std.proofs.Common.{◌+◌, ◌∙◌, sym, arith}
use Rattle.model_disks.proofs.ImageLemmas.{count_shown, sector_known, sector_shown}
use Rattle.model_disks.proofs.image.Image.rest.Goals as goal

pub overflow_sub-self-inside : goal.overflow_sub-self-inside
overflow_sub-self-inside c =
    let i = c.self.inside in
    omega (arith, c.requires, count_shown i.count i.pages.words.items i.pages.slots.items c.args.self.now c.self.view_is)

pub rest-requires-clause-here : goal.rest-requires-clause-here
rest-requires-clause-here c =
    let i = c.self.inside in
    sector_known i.count _ _ _ i.pages.slots.items _ _ c.args.self.now c.args.at c.self.invariant c.self.view_is c.requires

pub rest-requires-clause-some : goal.rest-requires-clause-some
rest-requires-clause-some c =
    let i = c.self.inside in
    omega (arith, c.requires, count_shown i.count i.pages.words.items i.pages.slots.items c.args.self.now c.self.view_is)

pub returns-clause-sectors : goal.returns-clause-sectors
returns-clause-sectors c k lt =
    let i = c.self.inside in
    let many = count_shown i.count i.pages.words.items i.pages.slots.items c.args.self.now c.self.view_is in
    c.rest.ensures.sectors k lt
    ∙ sector_shown i.count i.pages.words.items i.pages.slots.items c.args.self.now (c.args.at + k) c.self.view_is
    (omega (arith, lt, c.rest.ensures.short, c.requires, many))

pub returns-clause-within : goal.returns-clause-within
returns-clause-within c =
    let i = c.self.inside in
    let many = count_shown i.count i.pages.words.items i.pages.slots.items c.args.self.now c.self.view_is in
    omega (arith, c.rest.ensures.short, c.requires, many)

pub returns-clause-zeros : goal.returns-clause-zeros
returns-clause-zeros c none =
    let i = c.self.inside in
    sym (sector_shown i.count i.pages.words.items i.pages.slots.items c.args.self.now c.args.at c.self.view_is c.requires) ∙ c.rest.ensures.zeros none
