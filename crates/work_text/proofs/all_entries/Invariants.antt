use Rattle.std.proofs.Common.{◌≡◌, take}
use Rattle.work_text.specs.Work.{all_entries}
use Rattle.work_text.proofs.all_entries.Given as goal

abbrev pub invariant-loop-script : goal.invariant-loop-script
invariant-loop-script l = l.entries ≡ all_entries (take l.script-index l.script-items)
