-- The heads of lists by ticket, as a tournament: a tree of nodes, of which each has the head of the two below it that comes first.
use Rattle.std.specs.Prelude.{◌≡◌, ◌≢◌, ◌+◌, ◌*◌, ◌<◌, ◌≤◌, ◌++◌, if◌then◌else◌, ℕ, suc, Bool, true, false, List, [], ◌∷◌, Option, None, Some, drop, length, map, nat_lt, slice_get, slice_index_or}
use Rattle.std.specs.Global.{Vec}
use Rattle.run_merge.specs.declared.heads.Head.{Head}

-- the lists by themselves
abbrev pub rows : {X : Type 0} → List (Vec X) → List (List X)
rows lists = map (λ v. v.items) lists

-- what stands in a list from each place on, one list after the other
abbrev pub rest : {X : Type 0} → (ℕ → ℕ) → List (List X) → List X
rest at [] = []
rest at (row ∷ rows) = drop (at 0) row ++ rest (λ list. at (suc list)) rows

abbrev pub ticket_in : {T : Type 0} → Option (ℕ × T) → Option ℕ
ticket_in None = None
ticket_in (Some entry) = Some entry.0

abbrev pub head_at : {T : Type 0} → List (List (ℕ × T)) → ℕ → ℕ → Head
head_at rows list at = record { ticket = ticket_in (slice_get (slice_index_or rows list []) at); list = list; at = at }

-- one head comes before another by its ticket, and before one that has none
abbrev pub is_before : Option ℕ → Option ℕ → Bool
is_before None other = false
is_before (Some ticket) None = true
is_before (Some ticket) (Some other) = nat_lt ticket other

abbrev pub smaller : Head → Head → Head
smaller first second = if is_before second.ticket first.ticket then second else first

abbrev pub no_head : Head
no_head = record { ticket = None; list = 0; at = 0 }

abbrev pub node_head : List Head → ℕ → Head
node_head nodes number = slice_index_or nodes number no_head

-- the smaller head of the two below an inner node
abbrev pub smaller_below : List Head → ℕ → Head
smaller_below nodes number = smaller (node_head nodes (2 * number)) (node_head nodes (2 * number + 1))

-- heads that stand before the leaves of a list of lists, and these
pub record AreHeadsAdded {T : Type 0} (rows : List (List (ℕ × T))) (old new : List Head) : Type 0 where
  pub long : length new ≡ length old + length rows
  pub added : (list : ℕ) → list < length rows → node_head new (length old + list) ≡ head_at rows list 0

-- Behind place 0, which is not used, stand the inner nodes, and behind those the leaves, from place `count` on. Each inner node that this is asked of has
-- the smaller head of the two below it.
pub record AreInner (count : ℕ) (nodes : List Head) (Are : ℕ → Type 0) : Type 0 where
  pub long : length nodes ≡ count + count
  pub inner : (number : ℕ) → 1 ≤ number → number < count → Are number → node_head nodes number ≡ smaller_below nodes number

-- each inner node has it
abbrev pub IsTournament : ℕ → List Head → Type 0
IsTournament count nodes = AreInner count nodes (λ number. Unit {0})

-- each of them has it, but perhaps the one above this node
abbrev pub IsTournamentBut : ℕ → List Head → ℕ → Type 0
IsTournamentBut count nodes below = AreInner count nodes (λ number. (below ≢ 2 * number) × (below ≢ 2 * number + 1))

-- the leaf of each list is its head from a place on
pub record IsTournamentAt {T : Type 0} (rows : List (List (ℕ × T))) (at : ℕ → ℕ) (nodes : List Head) : Type 0 where
  pub holds : IsTournament (length rows) nodes
  pub leaf : (list : ℕ) → list < length rows → node_head nodes (length rows + list) ≡ head_at rows list (at list)

-- the one of the root, which has a ticket
abbrev pub with_ticket : Head → Option ℕ → Option Head
with_ticket head None = None
with_ticket head (Some ticket) = Some head

abbrev pub ticketed_head : Option Head → Option Head
ticketed_head None = None
ticketed_head (Some head) = with_ticket head head.ticket

abbrev pub winner_of : List Head → Option Head
winner_of nodes = ticketed_head (slice_get nodes 1)

-- the head of its list was taken
pub record TakesHead {T : Type 0} (rows : List (List (ℕ × T))) (head : Head) (old new : List Head) : Type 0 where
  pub holds : IsTournament (length rows) new
  pub here : node_head new (length rows + head.list) ≡ head_at rows head.list (head.at + 1)
  pub others : (list : ℕ) → list ≢ head.list → node_head new (length rows + list) ≡ node_head old (length rows + list)
