-- One more sector with its sum, or those up to the next written one.
use Rattle.std.proofs.Common.{ℕ, ◌+◌, ◌%◌, ◌^◌, refl, sym, ap, ◌∙◌, arith}
use Rattle.model_disks.specs.Disks.{sum_of_words}
use Rattle.model_disks.specs.Paged.{paged}
use Rattle.model_disks.proofs.ImageLemmas.{sum_more, sum_of_unset}
use Rattle.model_disks.proofs.WrittenLemmas.{unset_before}
use Rattle.model_disks.proofs.image.sum_of_written.Goals as goal

pub adding-init : goal.adding-init
unfolding paged
adding-init c = record { sum = refl; within = omega arith }

pub adding-preserved-then-flags-place : goal.adding-preserved-then-flags-place
adding-preserved-then-flags-place c =
    let words = c.args.pages.now.words.items in
    let slots = c.args.pages.now.slots.items in
    let place = c.adding.place in
    record {
      sum = ap (λ (s : ℕ). (s + c.sum_of_sector-all.result) % 2 ^ 64) c.adding.invariant.sum
          ∙ ap (λ (s : ℕ). (sum_of_words (paged place words slots) + s) % 2 ^ 64) c.sum_of_sector-all.ensures
          ∙ sym (sum_more words slots place);
      within = omega (arith, c.adding-test.true);
    }

pub adding-preserved : goal.adding-preserved
adding-preserved c =
    let found = c.first_written-place.ensures in
    record {
      sum = c.adding.invariant.sum
          ∙ sym (sum_of_unset c.args.pages.now.words.items c.args.pages.now.slots.items c.args.flags.now c.adding.place c.first_written-place.result
          c.requires.noted found.behind found.within found.others);
      within = found.within;
    }

pub adding-smaller : goal.adding-smaller
adding-smaller c =
    let found = c.first_written-place.ensures in
    omega (
      arith,
      unset_before c.args.flags.now c.adding.place c.first_written-place.result found c.adding-test.true c.if-flags-place.false,
      found.within,
      c.adding-test.true,
    )
