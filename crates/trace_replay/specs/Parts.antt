-- A text of a scenario and the lines of events behind it.
use Rattle.std.specs.Prelude.{◌≡◌, ◌+◌, ◌≤◌, ◌++◌, ℕ, List, [], drop, length, take}
use Rattle.std.specs.List.{before_first}
use Rattle.decl_text.specs.Text.{lines}
use Rattle.decl_text.specs.Reading.{NonePass}
use Rattle.trace_replay.specs.Lines.{is_told, told_in, told_lines}

-- the scenario ends before the first line whose first word is `event`
abbrev pub scenario_lines : List ℕ → List (List ℕ)
scenario_lines text = before_first is_told (lines text)

-- This is the scenario of a text, and what stands behind it, of which the first line has this number in the text. The
-- text has no other lines of events.
pub record AreTextParts (text scenario events : List ℕ) (first : ℕ) : Type 0 where
  pub scenario_is : lines scenario ≡ scenario_lines text
  pub told : told_in first events ≡ told_in 1 text
  pub joined : scenario ++ events ≡ text
  pub few : first ≤ length scenario + 1

-- these lines stand before a place, where the text ends there or at any place behind it
abbrev pub StandBefore : List ℕ → List (List ℕ) → ℕ → Type 0
StandBefore text front place = (more : ℕ) → lines (take (place + more) text) ≡ front ++ lines (drop place (take (place + more) text))

-- none of the lines before a place tells an event, and the next line has this number
pub record HasNoEventBefore (text : List ℕ) (place number : ℕ) : Type 0 where
  pub front : List (List ℕ)
  pub before : StandBefore text front place
  pub all : lines text ≡ front ++ lines (drop place text)
  pub none : NonePass is_told front
  pub told : told_lines number (lines (drop place text)) ≡ told_in 1 text
  pub few : number ≤ place + 1

-- and it is the first that does, or there is none
pub record IsFirstEventAt (text : List ℕ) (place number : ℕ) : Type 0 where
  pub behind : HasNoEventBefore text place number
  pub within : place ≤ length text
  pub next : before_first is_told (lines (drop place text)) ≡ []
