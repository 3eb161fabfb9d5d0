use Rattle.std.proofs.Common.{◌≡◌, ◌*◌, ◌≤◌, ◌++◌, length}
use Rattle.std.specs.Prelude.{vec_capacity}
use Rattle.image_lanes.specs.Lanes.{counting}
use Rattle.model_disks.proofs.append.append_sectors.Given as goal

abbrev pub invariant-appending : goal.invariant-appending
invariant-appending l = record {
  made : l.words.items ≡ l.fn.words.items ++ counting l.first (64 * l.place);
  size : length l.sector ≡ 64;
  room : vec_capacity l.fn.words ≤ vec_capacity l.words;
}
