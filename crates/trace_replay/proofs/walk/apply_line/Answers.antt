-- A line is of one event.
use Rattle.std.proofs.Common.{subst, Err}
use Rattle.plain_core.specs.declared.fault.CoreFault.{CoreFault}
use Rattle.plain_core.specs.Cores.{Applies}
use Rattle.trace_replay.specs.KeptNames.{names_in_entries}
use Rattle.trace_replay.proofs.WalkLemmas.{none_other, none_placed}
use Rattle.trace_replay.proofs.walk.apply_line.Goals as goal

pub returns-in_default-event_placed : goal.returns-in_default-event_placed
returns-in_default-event_placed c =
    none_placed c.args.stack.now c.args.line.now (names_in_entries c.args.names.now) (names_in_entries c.args.names.now) c.args.core.now c.in-Some.told c.events_are_apart.ensures c.requires c.in-Some.ensures
    c.in_default-event_placed.ensures

pub returns-in-Err-NotEnabled : goal.returns-in-Err-NotEnabled
returns-in-Err-NotEnabled c =
    none_other c.args.stack.now c.args.line.now (names_in_entries c.args.names.now) (names_in_entries c.args.names.now) c.args.core.now c.apply.new.self c.in-Some.told c.in-Some-event_placed.event
    c.events_are_apart.ensures c.requires c.in-Some.ensures c.in-Some-event_placed.ensures
    (subst (λ (fault : CoreFault). Applies c.args.core.now c.in-Some-event_placed.event (Err fault) c.apply.new.self) c.in-Err-NotEnabled.field-0-is c.in-Err-NotEnabled.ensures)
