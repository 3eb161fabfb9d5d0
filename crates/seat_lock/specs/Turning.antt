-- The rule of a lock's table, and what each kind of step tells its caller. No contract of the public calls speaks of this.
use Rattle.std.specs.Prelude.{◌≡◌, ◌≢◌, ℕ, ◌+◌, ◌%◌, ◌<◌, ◌≤◌, ◌⊎◌, Bool, true, false, List, [], ◌∷◌, ◌++◌, sum_by, Option, Some, None, All, nat_lt}
use mathlib.Core.Option.{some, none}
use mathlib.Core.Option as option
use lib.ListN.{get_elem?}
use Rattle.std.specs.declared.snapshot.Snapshot.{Snapshot}
use Rattle.atomic_table.specs.Table.{State, Me, Step, step}
use Rattle.seat_lock.specs.declared.view.View.{View}
use Rattle.seat_lock.specs.declared.view.Entry.{Entry}
use Rattle.seat_lock.specs.declared.view.Parts.{Parts}
use Rattle.seat_lock.specs.declared.view.Rank.{Rank}
use Rattle.seat_lock.specs.declared.view.Rank.TheVariants.{First, Other, Spent}
use Rattle.seat_lock.specs.declared.view.Phase.{Phase}
use Rattle.seat_lock.specs.declared.view.Phase.TheVariants.{Idle, Waiting, Serving}
use Rattle.seat_lock.specs.History.{indicator, count, IsPrefix, calls_by, Continues, Leads, HistoryLeaves}
use Rattle.seat_lock.specs.Seats.{split_of, first_seat, split_more, new_seat, joined_with, call_of, IsWhole}

-- as many turns as a word counts until it goes round
abbrev pub around : ℕ
around = 18446744073709551616

abbrev pub is_live : Rank → Bool
is_live (First split) = true
is_live Other = true
is_live Spent = false

abbrev pub firsts_of : Rank → ℕ
firsts_of (First split) = 1
firsts_of Other = 0
firsts_of Spent = 0

abbrev pub others_of : Rank → ℕ
others_of (First split) = 0
others_of Other = 1
others_of Spent = 0

-- the turn is out with the seat
abbrev pub HasTurn : ℕ → Phase → Type 0
HasTurn turn Idle = ⊥
HasTurn turn (Waiting drawn) = drawn ≡ turn
HasTurn turn (Serving drawn) = drawn ≡ turn

abbrev pub out_of : Phase → ℕ
out_of Idle = 0
out_of (Waiting drawn) = 1
out_of (Serving drawn) = 1

module _ {T A R : Type 0} where
  abbrev pub firsts : View T A R → ℕ
  firsts v = firsts_of v.known.rank

  abbrev pub others : View T A R → ℕ
  others v = others_of v.known.rank

  abbrev pub split_by : View T A R → ℕ
  split_by v = split_of v.known.rank

  abbrev pub joined_by : View T A R → ℕ
  joined_by v = v.known.joined

  abbrev pub out : View T A R → ℕ
  out v = out_of v.phase

  abbrev pub number_count : ℕ → View T A R → ℕ
  number_count x v = count x v.known.numbers

  abbrev pub first_view : Snapshot T → View T A R
  first_view start = record { known = first_seat start; phase = Idle; parts = None }

  abbrev pub first_after_split : View T A R → View T A R
  first_after_split v = record v { known = split_more v.known }

  -- a new seat is to learn that none of the calls that it has seen is its own
  abbrev pub new_view : View T A R → View T A R
  new_view v = record {
    known = new_seat v.known;
    phase = Idle;
    parts = Some (record { numbers = (split_of v.known.rank + 1) ∷ []; seen = []; other_numbers = []; other_seen = [] });
  }

  abbrev pub joined_view : View T A R → View T A R → View T A R
  joined_view v w = record v {
    known = joined_with v.known w.known;
    parts = Some (record { numbers = v.known.numbers; seen = v.known.seen; other_numbers = w.known.numbers; other_seen = w.known.seen });
  }

  abbrev pub spent_view : View T A R
  spent_view = record { known = record { start = None; rank = Spent; joined = 0; number = 0; numbers = []; seen = [] }; phase = Idle; parts = None }

module _ {A R : Type 0} where
  -- what was seen since continues both parts
  abbrev pub HasParts : List (Entry A R) → Option (Parts A R) → Type 0
  HasParts seen None = Unit {0}
  HasParts seen (Some parts) = Continues parts.numbers parts.seen seen × Continues parts.other_numbers parts.other_seen seen

module _ {A R : Type 0} (served drawn : ℕ) (log : List (Entry A R)) where
  -- a turn that is out is one of those that were drawn and not passed on; who is served has seen all of the history
  abbrev pub Stands : List (Entry A R) → Phase → Type 0
  Stands seen Idle = Unit {0}
  Stands seen (Waiting turn) = (served ≤ turn) × (turn < drawn)
  Stands seen (Serving turn) = (turn ≡ served) × (turn < drawn) × (seen ≡ log)

module _ {T A R : Type 0} (served drawn : ℕ) (log : List (Entry A R)) where
  -- what a seat's view has to do with the table
  pub record Knows (key : Snapshot T) (v : View T A R) : Type 0 where
    pub start : is_live v.known.rank ≡ true → v.known.start ≡ Some key
    pub prefix : IsPrefix v.known.seen log
    pub own_calls : calls_by v.known.numbers log ≡ calls_by v.known.numbers v.known.seen
    pub own_number : is_live v.known.rank ≡ true → count v.known.number v.known.numbers ≡ 1
    pub spent : is_live v.known.rank ≡ false → (v.known.numbers ≡ []) × (v.phase ≡ Idle)
    pub parts : HasParts v.known.seen v.parts
    pub stands : Stands served drawn log v.known.seen v.phase

module _ {T A R : Type 0} where
  abbrev pub IsServing : ℕ → View T A R → Type 0
  IsServing turn v = v.phase ≡ Serving turn

module _ {T D A R M : Type 0} (plain : T → D) (mark : T → M) (answers : D → A → R → D → Type 0) where
  -- the thing is at home as the history leaves it, and no seat is served; or it is out with the seat that is
  abbrev pub ThingPlace : Snapshot T → List (Entry A R) → ℕ → List (option.Option T) → List (View T A R) → Type 0
  ThingPlace key log served homes views =
      ((kept : T) × (homes ≡ some kept ∷ []) × HistoryLeaves plain mark answers key.value log kept × ((i : ℕ) (v : View T A R) → get_elem? views i ≡ some v → IsServing served v → ⊥))
      ⊎ ((homes ≡ none ∷ []) × ((i : ℕ) × (v : View T A R) × (get_elem? views i ≡ some v) × IsServing served v))

  -- The words are the next turn to draw and the turn that is served, and the slot has the thing. `log` is the history, `drawn` and `served` count
  -- turns without end, and `given` counts the seats that were ever there.
  pub record IsTurning (key : Snapshot T) (s : State T (View T A R)) : Type 0 where
    pub log : List (Entry A R)
    pub served : ℕ
    pub drawn : ℕ
    pub given : ℕ
    pub words : s.words ≡ drawn % around ∷ served % around ∷ []
    pub place : ThingPlace key log served s.homes s.views
    pub each : (i : ℕ) (v : View T A R) → get_elem? s.views i ≡ some v → Knows served drawn log key v
    -- no turn is out with two seats, and those that are out are all that were drawn and not passed on
    pub apart : (i j : ℕ) (v w : View T A R) (turn : ℕ) → i ≢ j → get_elem? s.views i ≡ some v → get_elem? s.views j ≡ some w → HasTurn turn v.phase → HasTurn turn w.phase → ⊥
    pub turns_out : drawn ≡ served + sum_by out s.views
    -- there is one first seat, and each that was split from it is there or was joined
    pub one_first : sum_by firsts s.views ≡ 1
    pub counted : sum_by split_by s.views ≡ sum_by others s.views + sum_by joined_by s.views
    pub given_is : given ≡ sum_by split_by s.views + 1
    pub few : given ≤ 65536
    -- each number that was given is with one seat, and no other number made a call
    pub numbers : (x : ℕ) → sum_by (number_count x) s.views ≡ indicator (nat_lt x given)
    pub made : All (λ e. e.by < given) log

module _ {T A R : Type 0} where
  -- a seat has drawn a turn
  abbrev pub Drew : Step T → Me T (View T A R) → ℕ → Me T (View T A R) → Type 0
  Drew st before found after = (turn : ℕ) × (after ≡ (record before.0 { phase = Waiting turn }, before.1)) × (found ≡ turn % around)

  -- a seat has learnt what was made of it
  abbrev pub Learnt : Step T → Me T (View T A R) → ℕ → Me T (View T A R) → Type 0
  Learnt st before found after = (after ≡ (record before.0 { parts = None }, before.1)) × HasParts before.0.known.seen before.0.parts × IsWhole before.0.known

  -- a seat that waits is served: it knows the whole history
  abbrev pub served_view : View T A R → ℕ → List (Entry A R) → View T A R
  served_view v turn log = record v { known = record v.known { seen = log }; phase = Serving turn; parts = None }

  -- the call of a seat that is served has joined the history, and its turn is over
  abbrev pub after_call : View T A R → A → R → View T A R
  after_call v asked told = record v { known = record v.known { seen = v.known.seen ++ call_of v.known asked told ∷ [] }; phase = Idle; parts = None }

module _ {T D A R : Type 0} (plain : T → D) (answers : D → A → R → D → Type 0) where
  -- what the seat has seen, with this call last, is a run of the machine from the thing at the start
  abbrev pub EndsRun : Snapshot T → View T A R → A → R → Type 0
  EndsRun key v asked told = (after : D) × Leads answers (plain key.value) (after_call v asked told).known.seen after

module _ {T D A R M : Type 0} (plain : T → D) (mark : T → M) (answers : D → A → R → D → Type 0) where
  abbrev pub IsLeftBy : Option (Snapshot T) → List (Entry A R) → T → Type 0
  IsLeftBy None log thing = ⊥
  IsLeftBy (Some start) log thing = HistoryLeaves plain mark answers start.value log thing

  -- a seat that waits has looked: where the turn is its own, it has the thing as the history leaves it
  abbrev pub HasLooked : Step T → Me T (View T A R) → ℕ → Me T (View T A R) → Type 0
  HasLooked st before found after = (turn : ℕ) → before.0.phase ≡ Waiting turn
      → (found ≢ turn % around → after ≡ before)
      × (found ≡ turn % around → (log : List (Entry A R)) × (kept : T) × (after ≡ (served_view before.0 turn log, (0, kept) ∷ before.1))
      × IsPrefix before.0.known.seen log × IsLeftBy before.0.known.start log kept
      × (calls_by before.0.known.numbers log ≡ calls_by before.0.known.numbers before.0.known.seen) × (count before.0.known.number before.0.known.numbers ≡ 1))

module _ {T A R : Type 0} where
  -- the seat waits for this turn, as the words count it, and has nothing out
  abbrev pub WaitsFor : ℕ → Me T (View T A R) → Type 0
  WaitsFor turn me = (k : ℕ) × (me ≡ (record me.0 { phase = Waiting k }, [])) × (turn ≡ k % around) × (is_live me.0.known.rank ≡ true)

module _ {T D A R M : Type 0} (plain : T → D) (mark : T → M) (answers : D → A → R → D → Type 0) where
  -- a look of a seat that waited has found its turn served
  abbrev pub FoundTurn : ℕ → Me T (View T A R) → Me T (View T A R) → Type 0
  FoundTurn turn before after = HasLooked plain mark answers (step 1 1 0 0 none) before turn after

module _ {A R : Type 0} where
  -- calls of the seat of a number
  abbrev pub seat_entries : ℕ → List (A × R) → List (Entry A R)
  seat_entries by [] = []
  seat_entries by (c ∷ cs) = record { by = by; asked = c.0; told = c.1 } ∷ seat_entries by cs

module _ {T A R : Type 0} (calls : List (A × R)) where
  abbrev pub passed_on : View T A R → View T A R
  passed_on v = record v { known = record v.known { seen = v.known.seen ++ seat_entries v.known.number calls }; phase = Idle; parts = None }

  -- the thing is at home again, the turn is passed on, and these calls have joined the history
  abbrev pub Passed : Step T → Me T (View T A R) → ℕ → Me T (View T A R) → Type 0
  Passed st before found after = (kept : T) → before.1 ≡ (0, kept) ∷ [] → after ≡ (passed_on before.0, [])

module _ {T A R : Type 0} where
  -- the seat is between two calls
  abbrev pub IsIdle : Me T (View T A R) → Type 0
  IsIdle me = (me.1 ≡ []) × (me.0.phase ≡ Idle) × (is_live me.0.known.rank ≡ true) × (me.0.parts ≡ None)

module _ {T D A R M : Type 0} (plain : T → D) (mark : T → M) (answers : D → A → R → D → Type 0) where
  -- the seat is served, and has the thing as the history leaves it
  abbrev pub HasThing : Snapshot T → Me T (View T A R) → Type 0
  HasThing key me = (turn : ℕ) × (kept : T) × (me.0.phase ≡ Serving turn) × (me.1 ≡ (0, kept) ∷ []) × (me.0.known.start ≡ Some key)
      × HistoryLeaves plain mark answers key.value me.0.known.seen kept × (is_live me.0.known.rank ≡ true) × (count me.0.known.number me.0.known.numbers ≡ 1)

  -- the seat is served, and the thing that it has has answered the seat's call
  abbrev pub HasServed : Snapshot T → A → R → Me T (View T A R) → Type 0
  HasServed key asked told me = (turn : ℕ) × (kept : T) × (me.0.phase ≡ Serving turn) × (me.1 ≡ (0, kept) ∷ []) × (is_live me.0.known.rank ≡ true)
      × HistoryLeaves plain mark answers key.value (me.0.known.seen ++ call_of me.0.known asked told ∷ []) kept
