-- Behind the flags no sector is written.
use Rattle.std.proofs.Common.{length, sym, ap, subst, ◌∙◌, arith}
use Rattle.model_disks.specs.Paged.{FlagsAreRight}
use Rattle.model_disks.proofs.ImageLemmas.{noted_at, sum_of_image}
use Rattle.model_disks.proofs.image.Image.sum.Goals as goal

pub sum_of_written-requires-clause-within : goal.sum_of_written-requires-clause-within
sum_of_written-requires-clause-within c =
    omega (arith, ap length c.deref.ensures.value, c.self.invariant.within, c.self.invariant.all)

pub sum_of_written-requires-clause-noted : goal.sum_of_written-requires-clause-noted
sum_of_written-requires-clause-noted c =
    let i = c.self.inside in
    subst (FlagsAreRight i.pages.words.items i.pages.slots.items) (sym c.deref.ensures.value)
    (noted_at i.count _ _ i.pages.words.items i.pages.slots.items _ i.flags.items c.self.invariant)

pub returns : goal.returns
returns c =
    let i = c.self.inside in
    c.sum_of_written.ensures
    ∙ sum_of_image i.count _ _ i.pages.words.items i.pages.slots.items _ i.flags.items c.self.invariant c.args.self.now _ c.self.view_is c.deref.ensures.value
