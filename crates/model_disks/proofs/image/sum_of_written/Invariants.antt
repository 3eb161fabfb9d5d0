use Rattle.std.proofs.Common.{◌≡◌, ◌-◌, ◌≤◌, length}
use Rattle.model_disks.specs.Disks.{sum_of_words}
use Rattle.model_disks.specs.Paged.{paged}
use Rattle.model_disks.proofs.image.sum_of_written.Given as goal

abbrev pub invariant-adding : goal.invariant-adding
invariant-adding l = record {
  sum : l.all ≡ sum_of_words (paged l.place l.pages.words.items l.pages.slots.items);
  within : l.place ≤ length l.flags;
}

abbrev pub decreases-adding : goal.decreases-adding
decreases-adding l = length l.flags - l.place
