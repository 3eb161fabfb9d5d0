use Rattle.std.proofs.Common.{◌≡◌, ◌*◌, length}
use Rattle.std.specs.Prelude.{vec_capacity}
use Rattle.model_disks.specs.Paged.{ArePaged, AreSame, AreInOrder}
use Rattle.model_disks.proofs.pages.Pages.settle_all.Given as goal

abbrev pub invariant-settling : goal.invariant-settling
invariant-settling l = record {
  paged : ArePaged (vec_capacity l.self.words) l.self.words.items l.self.slots.items l.self.owners.items;
  full : length l.self.words.items ≡ 1024 * length l.self.slots.items;
  settled : AreInOrder l.self.slots.items l.page;
  same : AreSame l.fn.self.words.items l.fn.self.slots.items l.self.words.items l.self.slots.items;
}
