use Rattle.std.proofs.Common.{◌≡◌, ℕ, cond, length}
use Rattle.work_text.specs.Marks.{mark_in}
use Rattle.work_text.proofs.MarkLemmas.{inside}
use Rattle.work_text.proofs.marks.Marks.set.Given as goal

abbrev pub invariant-setting : goal.invariant-setting
invariant-setting l = record {
  long : length l.pages.items ≡ length l.initial.pages.items;
  marked : (at : ℕ) → mark_in l.pages.items at ≡ cond (inside l.start l.at at) l.mark (mark_in l.initial.pages.items at);
}
