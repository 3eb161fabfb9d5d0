use Rattle.std.proofs.Common.{length}
use Rattle.run_merge.specs.Heads.{rest, rows}
use Rattle.run_merge.proofs.tournament.Joined.{Joins, places}
use Rattle.run_merge.proofs.joining.join_by_ticket.Given as goal

abbrev pub invariant-joining : goal.invariant-joining
invariant-joining g l = Joins (rows l.lists.items) l.heads.items l.joined.items

abbrev pub decreases-joining : goal.decreases-joining
decreases-joining g l = length (rest (places (length (rows l.lists.items)) l.heads.items) (rows l.lists.items))
