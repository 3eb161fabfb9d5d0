-- The history of a lock's calls: what a list of calls says of the thing, and what two beginnings of one history have to do with each other.
use Rattle.std.specs.Prelude.{◌≡◌, ℕ, Bool, true, false, eqb, List, [], ◌∷◌, ◌++◌, sum_by, length, filter, if◌then◌else◌, nat_lt}
use Rattle.seat_lock.specs.declared.view.Entry.{Entry}

abbrev pub indicator : Bool → ℕ
indicator true = 1
indicator false = 0

-- how often a number stands in the list
abbrev pub count : ℕ → List ℕ → ℕ
count x xs = sum_by (λ y. indicator (eqb y x)) xs

module _ {A R : Type 0} where
  -- the second list begins with the first
  abbrev pub IsPrefix : List (Entry A R) → List (Entry A R) → Type 0
  IsPrefix xs ys = (rest : List (Entry A R)) × (ys ≡ xs ++ rest)

  -- the calls that were made by seats of these numbers, in order
  abbrev pub calls_by : List ℕ → List (Entry A R) → List (Entry A R)
  calls_by numbers history = filter (λ call. nat_lt 0 (count call.by numbers)) history

  -- the longer of two histories
  abbrev pub longer : List (Entry A R) → List (Entry A R) → List (Entry A R)
  longer xs ys = if nat_lt (length xs) (length ys) then ys else xs

module _ {A R : Type 0} where
  -- a later history begins with an earlier one, and has no further call of these numbers
  abbrev pub Continues : List ℕ → List (Entry A R) → List (Entry A R) → Type 0
  Continues numbers earlier later = IsPrefix earlier later × (calls_by numbers later ≡ calls_by numbers earlier)

module _ (A R : Type 0) where
  -- what continues a continuation continues what came before it
  abbrev pub ContinuesOn : Type 0
  ContinuesOn = (numbers : List ℕ) (first second third : List (Entry A R)) → Continues numbers first second → Continues numbers second third → Continues numbers first third

  -- a history without further calls of some seats together has none of either's
  abbrev pub PartsContinue : Type 0
  PartsContinue = (numbers others : List ℕ) (earlier later : List (Entry A R)) → Continues (numbers ++ others) earlier later
      → Continues numbers earlier later × Continues others earlier later

module _ {D A R : Type 0} (answers : D → A → R → D → Type 0) where
  -- the calls, each answered by the machine, lead from the first data to the last
  abbrev pub Leads : D → List (Entry A R) → D → Type 0
  Leads before [] after = before ≡ after
  Leads before (call ∷ calls) after = (between : D) × answers before call.asked call.told between × Leads between calls after

module _ {T D A R M : Type 0} (plain : T → D) (mark : T → M) (answers : D → A → R → D → Type 0) where
  -- the thing is what the history leaves of the thing at the start
  abbrev pub HistoryLeaves : T → List (Entry A R) → T → Type 0
  HistoryLeaves start history thing = Leads answers (plain start) history (plain thing) × (mark thing ≡ mark start)

module _ {D A R : Type 0} (answers : D → A → R → D → Type 0) where
  -- each call of a run is answered by the thing as the calls before it have left it
  abbrev pub EachInPlace : Type 0
  EachInPlace = (before after : D) (earlier later : List (Entry A R)) (call : Entry A R) → Leads answers before (earlier ++ call ∷ later) after
      → (here next : D) × Leads answers before earlier here × answers here call.asked call.told next × Leads answers next later after
