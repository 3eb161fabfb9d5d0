use Rattle.std.proofs.Common.{rules, ◌≡◌, ◌<◌, ℕ, [], Some, None, length, get_or, sym, subst, arith, ap}
use Rattle.run_merge.specs.Heads.{TakesHead, IsTournamentAt, winner_of, rows}
use Rattle.run_merge.proofs.tournament.Joined.{Joins, are_joined, joins_first, joins_on, less_left, places, rising_rows, rows_long}
use Rattle.run_merge.proofs.tournament.Winner.{first_is}
use Rattle.run_merge.proofs.joining.join_by_ticket.Goals as goal

-- src/joining.rt:25:5
pub joining-init : goal.joining-init
joining-init g c =
    let s : IsTournamentAt (rows c.args.lists.items) (λ list. 0) c.in_ok-heads.heads.items = search rules in
    subst (Joins (rows c.args.lists.items) c.in_ok-heads.heads.items) (sym c.in_ok-joined.ensures.items)
    (joins_first (rows c.args.lists.items) (rising_rows c.args.lists.items c.requires.rises) c.in_ok-heads.heads.items s)

-- src/joining.rt:26:21
pub take-requires-clause-list : goal.take-requires-clause-list
take-requires-clause-list g c =
    let is : winner_of c.joining.heads.items ≡ Some c.in-Some.head = search rules in
    let rising = rising_rows c.args.lists.items c.requires.rises in
    let first = first_is (rows c.args.lists.items) (places (length (rows c.args.lists.items)) c.joining.heads.items) c.joining.heads.items c.joining.invariant.stands rising c.in-Some.head is in
    let less = first.list in
    let long = rows_long c.args.lists.items in
    let same = ap (λ lists. length lists) c.deref-in-Some.ensures.value in
    omega (arith, less, long, same)

-- src/joining.rt:26:21
pub take-requires-clause-at : goal.take-requires-clause-at
take-requires-clause-at g c =
    let is : winner_of c.joining.heads.items ≡ Some c.in-Some.head = search rules in
    let rising = rising_rows c.args.lists.items c.requires.rises in
    let first = first_is (rows c.args.lists.items) (places (length (rows c.args.lists.items)) c.joining.heads.items) c.joining.heads.items c.joining.invariant.stands rising c.in-Some.head is in
    subst (λ lists. c.in-Some.head.at < length (get_or (rows lists) c.in-Some.head.list [])) (sym c.deref-in-Some.ensures.value) first.some

-- src/joining.rt:25:5
pub joining-smaller : goal.joining-smaller
joining-smaller g c =
    let is : winner_of c.joining.heads.items ≡ Some c.in-Some.head = search rules in
    let rising = rising_rows c.args.lists.items c.requires.rises in
    let taken = subst (λ lists. TakesHead (rows lists) c.in-Some.head c.joining.heads.items c.take.new.nodes.items) c.deref-in-Some.ensures.value c.take.ensures.taken in
    less_left (rows c.args.lists.items) rising c.joining.heads.items c.take.new.nodes.items c.joining.joined.items c.joining.invariant c.in-Some.head is taken (0, c.take.result)

-- src/joining.rt:25:5
pub joining-preserved : goal.joining-preserved
joining-preserved g c =
    let is : winner_of c.joining.heads.items ≡ Some c.in-Some.head = search rules in
    let rising = rising_rows c.args.lists.items c.requires.rises in
    let taken = subst (λ lists. TakesHead (rows lists) c.in-Some.head c.joining.heads.items c.take.new.nodes.items) c.deref-in-Some.ensures.value c.take.ensures.taken in
    let value = subst (λ lists. c.take.result ≡ (get_or {A = ℕ × g.row.T.Denot} (get_or (rows lists) c.in-Some.head.list []) c.in-Some.head.at (0, c.take.result)).1) c.deref-in-Some.ensures.value c.take.ensures.value in
    subst (Joins (rows c.args.lists.items) c.take.new.nodes.items) (sym c.in_ok-push.ensures.items)
    (joins_on (rows c.args.lists.items) rising c.joining.heads.items c.take.new.nodes.items c.joining.joined.items c.joining.invariant c.in-Some.head is taken c.take.result value)

-- src/joining.rt:16:1
pub returns : goal.returns
returns g c =
    let none : winner_of c.joining.heads.items ≡ None = search rules in
    are_joined c.args.lists.items c.joining.heads.items c.joining.joined.items c.joining.invariant none
