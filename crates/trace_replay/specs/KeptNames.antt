-- The names of a trace, as they are kept.
use Rattle.std.specs.Prelude.{ℕ, Bool, List, Option}
use Rattle.std.specs.Ordering.{ordering_then, nat_cmp}
use Rattle.std.specs.declared.cmp.Ordering.{Ordering}
use Rattle.std.specs.BTreeMap.{is_at}
use Rattle.std.specs.Option.{unwrap_or}
use Rattle.std.specs.Map.{lookup}
use Rattle.stack_base.specs.declared.stack.Stack.{Stack}
use Rattle.plain_core.specs.Cores.{CoreState}
use Rattle.trace_replay.specs.Names as named
use Rattle.trace_replay.specs.Walks.{AppliesLine}
use Rattle.trace_replay.specs.declared.names.Name.{Name}
use Rattle.trace_replay.specs.declared.names.Names.{Names}

-- by the writer, and then by the number
abbrev pub name_cmp : Name → Name → Ordering
name_cmp one other = ordering_then (nat_cmp one.writer other.writer) (nat_cmp one.node other.node)

-- what is found in entries, if anything is
abbrev pub opened_by : List (ℕ × ℕ) → ℕ → ℕ
opened_by entries writer = unwrap_or (lookup (is_at (nat_cmp writer)) entries) 0

abbrev pub place_in : List (Name × ℕ) → ℕ → ℕ → Option ℕ
place_in entries writer node = lookup (is_at (name_cmp (record { writer = writer; node = node }))) entries

abbrev pub names_in_entries : Names → named.Names
names_in_entries names = record { opened = opened_by names.opened.entries; place = place_in names.places.entries }

-- the event that a line tells was applied, or the line tells none that can come next, by the names that are kept
abbrev pub AppliesByNames : Stack → List ℕ → Names → CoreState → Bool → Names → CoreState → Type 0
AppliesByNames stack line names old applied next new = AppliesLine stack line (names_in_entries names) old applied (names_in_entries next) new
