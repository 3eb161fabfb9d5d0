-- What orders ask for.
use Rattle.std.specs.Prelude.{Bool, true, false, ℕ, Option, None, Some, is_none}
use Rattle.biostack_words.specs.declared.order.Order.{Order}
use Rattle.biostack_words.specs.declared.order.Order.TheVariants.{Run, Workers, Check, Layout, Gen, Replay, Scrub}

-- how many threads an order is for, and whether with a trace, where it is one for threads
abbrev pub workers_in : Order → Option (ℕ × Bool)
workers_in (Workers n trace) = Some (n, trace)
workers_in (Run number trace) = None
workers_in Check = None
workers_in Layout = None
workers_in (Gen number shown) = None
workers_in Replay = None
workers_in (Scrub number) = None

-- whether an order is carried out without threads
abbrev pub is_alone : Order → Bool
is_alone order = is_none (workers_in order)

-- whether an order may find that not all is well: a run of the text that is read, of which a write did not end well, a
-- scrub with a sector that is unlike, or a replay with a bad line
abbrev pub may_be_unwell : Order → Bool
may_be_unwell (Run number trace) = true
may_be_unwell (Workers n trace) = true
may_be_unwell Check = false
may_be_unwell Layout = false
may_be_unwell (Gen number shown) = false
may_be_unwell Replay = true
may_be_unwell (Scrub number) = true

-- whether an order is to show the text that its number makes
abbrev pub is_shown : Order → Bool
is_shown (Gen number shown) = shown
is_shown (Run number trace) = false
is_shown (Workers n trace) = false
is_shown Check = false
is_shown Layout = false
is_shown Replay = false
is_shown (Scrub number) = false

-- whether an order is to replay the trace that stands behind the scenario of its text
abbrev pub is_replay : Order → Bool
is_replay Replay = true
is_replay (Run number trace) = false
is_replay (Workers n trace) = false
is_replay Check = false
is_replay Layout = false
is_replay (Gen number shown) = false
is_replay (Scrub number) = false
