use Rattle.std.proofs.Common.{◌≡◌, [], length, replicate}
use Rattle.work_text.proofs.marks.empty_pages.Given as goal

abbrev pub invariant-loop : goal.invariant-loop
invariant-loop l = record {
  empty : l.pages.items ≡ replicate (length l.pages.items) [];
  long : length l.pages.items ≡ l.counter;
}
