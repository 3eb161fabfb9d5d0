-- The rule of a clock's table, and what its steps do to the views of passes.
use Rattle.std.specs.Prelude.{◌≡◌, ℕ, ◌+◌, ◌≤◌, ◌==◌, max, Bool, true, false, List, [], ◌∷◌, ◌++◌, length, slice_index, sum_by, IsPermutation}
use mathlib.Core.Option as option
use lib.ListN.{get_elem?}
use Rattle.atomic_table.specs.Table.{State, Me, Step}
use Rattle.atomic_table.specs.Seated.{TableId}
use Rattle.tick_clock.specs.declared.ticking.PassRank.{PassRank}
use Rattle.tick_clock.specs.declared.ticking.PassRank.TheVariants.{First, Other, Spent}
use Rattle.tick_clock.specs.declared.ticking.Ticket.{Ticket}
use Rattle.tick_clock.specs.declared.ticking.PassView.{PassView}
use Rattle.tick_clock.specs.Tickets.{PassState, one_more_pass, last_of, IsRising, Shows}

-- the pass was not joined into another
abbrev pub is_live_pass : PassRank → Bool
is_live_pass (First split) = true
is_live_pass Other = true
is_live_pass Spent = false

-- of a pass's rank: whether it is the first, whether it is another one, and how many it has split off
abbrev pub first_in : PassRank → ℕ
first_in (First split) = 1
first_in Other = 0
first_in Spent = 0

abbrev pub other_in : PassRank → ℕ
other_in (First split) = 0
other_in Other = 1
other_in Spent = 0

abbrev pub split_in : PassRank → ℕ
split_in (First split) = split
split_in Other = 0
split_in Spent = 0

-- the same of a view, and how many were joined into it, to be summed over the views
abbrev pub first_passes : PassView → ℕ
first_passes v = first_in v.rank

abbrev pub other_passes : PassView → ℕ
other_passes v = other_in v.rank

abbrev pub passes_split : PassView → ℕ
passes_split v = split_in v.rank

abbrev pub passes_joined : PassView → ℕ
passes_joined v = v.joined

-- the tickets of all views
abbrev pub all_drawn : List PassView → List Ticket
all_drawn [] = []
all_drawn (v ∷ vs) = v.drawn ++ all_drawn vs

-- the view has found no more than the word, and has no tickets where it is spent
abbrev pub IsTidy : ℕ → PassView → Type 0
IsTidy word v = (v.known ≤ word) × (is_live_pass v.rank ≡ false → v.drawn ≡ [])

-- There is one first pass, and the passes split off are those that are not spent and those that were joined. All tickets are a rising row that ends with the word, and the views have each of them once. So the word is the last ticket drawn; each
-- view's tickets are at most the word, and differ from those of other views; and each ticket is one more than 0, than another ticket
-- of the views, or than what its pass or its note had seen. The word is at least what a view has found, so it is 2^64 - 1 where a view
-- has found it so.
pub record IsTicking (s : State ℕ PassView) : Type 0 where
  pub row : List Ticket
  pub width : length s.words ≡ 1
  pub rising : IsRising 0 row
  pub ends : slice_index s.words 0 ≡ last_of 0 row
  pub shared : IsPermutation row (all_drawn s.views)
  pub tidy : (i : ℕ) (v : PassView) → get_elem? s.views i ≡ option.some v → IsTidy (slice_index s.words 0) v
  pub one_first : sum_by first_passes s.views ≡ 1
  pub counted : sum_by passes_split s.views ≡ sum_by other_passes s.views + sum_by passes_joined s.views

-- the views of a first pass as it is made, and of a pass that was joined into another
abbrev pub first_pass_view : PassView
first_pass_view = record { rank = First 0; joined = 0; known = 0; drawn = [] }

abbrev pub spent_pass_view : PassView
spent_pass_view = record { rank = Spent; joined = 0; known = 0; drawn = [] }

-- a pass is split off: the first one's view, and that of the pass
abbrev pub split_pass_view : PassView → PassView
split_pass_view v = record v { rank = one_more_pass v.rank }

abbrev pub fresh_pass_view : PassView → PassView
fresh_pass_view v = record { rank = Other; joined = 0; known = v.known; drawn = [] }

-- a pass takes another in, and has found what both had found
abbrev pub joined_pass_view : PassView → PassView → PassView
joined_pass_view v w = record { rank = v.rank; joined = v.joined + w.joined + 1; known = max v.known w.known; drawn = v.drawn ++ w.drawn }

-- what a draw announces: the greatest ticket that the pass and the note had seen
abbrev pub said_of : option.Option ℕ → ℕ
said_of option.none = 0
said_of (option.some seen) = seen

-- a try draws the ticket `new` where the word is as the pass had found it, and finds the word otherwise
abbrev pub after_try : Bool → ℕ → ℕ → ℕ → PassView → PassView
after_try true seen new found v = record v { known = new; drawn = v.drawn ++ record { number = new; seen = seen } ∷ [] }
after_try false seen new found v = record v { known = found }

-- what contracts say of a pass that has looked, said of its view
abbrev pub ShowsView : PassView → Type 0
ShowsView v = Shows v.rank v.joined v.known v.drawn

-- a try to draw, and a look: what the step found is at least what the view had found, and the view shows the tickets
abbrev pub TriesToDraw : Step ℕ → Me ℕ PassView → ℕ → Me ℕ PassView → Type 0
TriesToDraw st before found after = (after.1 ≡ before.1) × (after.0 ≡ after_try (found == st.first) (said_of st.said) st.second found before.0)
    × (before.0.known ≤ found) × ShowsView after.0

abbrev pub Looks : Step ℕ → Me ℕ PassView → ℕ → Me ℕ PassView → Type 0
Looks st before found after = (after.1 ≡ before.1) × (after.0 ≡ record before.0 { known = found }) × (before.0.known ≤ found) × ShowsView after.0

-- what contracts see of a pass
abbrev pub state_of : TableId → PassView → ℕ → PassState
state_of clock v seen = record { clock = clock; rank = v.rank; joined = v.joined; seen = seen; known = v.known; drawn = v.drawn }

-- a pass was not joined into another, and keeps what it has found
pub record IsPass (me : Me ℕ PassView) (known : ℕ) : Type 0 where
  pub empty : me.1 ≡ []
  pub live : is_live_pass me.0.rank ≡ true
  pub found : me.0.known ≡ known
