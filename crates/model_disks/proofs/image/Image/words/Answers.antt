-- Pages that have come into their order show the same image.
use Rattle.std.proofs.Common.{ap, arith, refl, ◌∙◌}
use Rattle.std.specs.List.{concat}
use Rattle.model_disks.proofs.ImageLemmas.{after_settling}
use Rattle.model_disks.proofs.image.Image.words.Goals as goal

pub words-requires-clause-all : goal.words-requires-clause-all
words-requires-clause-all c = omega (arith, c.self.invariant.all, c.settle_all.ensures.same.size)

pub invariant_of-self : goal.invariant_of-self
invariant_of-self c =
    let i = c.self.inside in
    (after_settling c.args.self.now i.count _ _ _ i.pages.words.items i.pages.slots.items i.pages.owners.items _ _ _ i.flags.items
    c.self.invariant c.self.view_is c.settle_all.ensures.paged c.settle_all.ensures.same).0

pub returns : goal.returns
returns c =
    let i = c.self.inside in
    let whole =
    after_settling c.args.self.now i.count _ _ _ i.pages.words.items i.pages.slots.items i.pages.owners.items _ _ _ i.flags.items
    c.self.invariant c.self.view_is c.settle_all.ensures.paged c.settle_all.ensures.same in (
      (refl, (λ _. tt), whole.1),
      record {
        same = tt;
        words = c.words.ensures ∙ ap concat whole.1;
      },
    )
