use Rattle.std.specs.Prelude.{All}
use Rattle.run_merge.specs.Listing.{AreWholeLists, WholeRises}
use Rattle.run_merge.proofs.tracing.WholeLists.{ListRises}
use Rattle.run_merge.proofs.trace.lists_of.Given as goal

-- these are the lists so far, along each of which tickets rise, and along those that are left they do
abbrev pub invariant-listing : goal.invariant-listing
invariant-listing l = AreWholeLists l.yielded l.lists.items × All ListRises l.lists.items × All WholeRises l.noted-iterator.rest.items
