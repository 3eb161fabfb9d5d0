use Rattle.std.proofs.Common.{◌≤◌, ◌-◌}
use Rattle.std.specs.Prelude.{vec_capacity}
use Rattle.model_disks.specs.Paged.{ArePaged, AreFilled}
use Rattle.model_disks.proofs.pages.Pages.write.Given as goal

abbrev pub invariant-writing : goal.invariant-writing
invariant-writing l = record {
  paged : ArePaged (vec_capacity l.self.words) l.self.words.items l.self.slots.items l.self.owners.items;
  short : l.done ≤ l.bio.range.len;
  filled : AreFilled l.bio.range.start l.done l.bio.word l.fn.self.words.items l.fn.self.slots.items l.self.words.items l.self.slots.items;
}

abbrev pub decreases-writing : goal.decreases-writing
decreases-writing l = l.bio.range.len - l.done
