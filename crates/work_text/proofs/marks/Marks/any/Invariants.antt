use Rattle.std.proofs.Common.{◌≡◌, ◌==◌, ◌<◌, ◌≤◌, ℕ, false}
use Rattle.work_text.specs.Marks.{mark_in}
use Rattle.work_text.proofs.marks.Marks.any.Given as goal

abbrev pub invariant-looking : goal.invariant-looking
invariant-looking l = (at : ℕ) → l.start ≤ at → at < l.at → (mark_in l.pages.items at == l.mark) ≡ false
