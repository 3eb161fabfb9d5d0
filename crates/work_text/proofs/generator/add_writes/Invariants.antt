-- What stands there, followed by the writes that are left, is the whole.
use Rattle.std.proofs.Common.{◌≡◌, ◌≤◌, ◌+◌, ◌++◌, ◌-◌, ◌∷◌, ℕ}
use Rattle.work_text.specs.Generated.{counts, runs, text_of, words_of_runs}
use Rattle.work_text.proofs.generator.add_writes.Given as goal

abbrev pub invariant-loop-start : goal.invariant-loop-start
invariant-loop-start l = record {
  some : 1 ≤ l.count;
  few : l.count ≤ 512;
  within : l.start ≤ l.sectors;
  numbered : l.number ≤ l.start;
  whole : (left : ℕ) → l.number + left ≡ l.sectors
      → l.text.items ++ text_of (words_of_runs l.number (runs l.sectors l.start (l.count ∷ counts left l.words)))
      ≡ l.fn.text.items ++ text_of (words_of_runs 0 (runs l.sectors 0 (counts (l.sectors + 1) l.fn.words)));
}

abbrev pub decreases-loop-start : goal.decreases-loop-start
decreases-loop-start l = l.sectors - l.start
