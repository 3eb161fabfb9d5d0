-- The devices behind those that are left have other names.
use Rattle.std.proofs.Common.{◌≤◌, length}
use Rattle.work_text.proofs.NameLemmas.{AreOthers}
use Rattle.work_text.proofs.names.place_of.Given as goal

abbrev pub invariant-searching : goal.invariant-searching
invariant-searching l = AreOthers l.name l.place l.stack.devices.items × (l.place ≤ length l.stack.devices.items)

abbrev pub decreases-searching : goal.decreases-searching
decreases-searching l = l.place
