-- The line of one more event is said behind those of the events before it.
use Rattle.std.proofs.Common.{All, get_or, take, sym, subst, arith}
use Rattle.std.proofs.lemmas.List.{take_all, take_more}
use Rattle.std.proofs.lemmas.List.Elements.{All-nil, All-push}
use Rattle.stack_base.specs.declared.ids.PoolId.TheVariants.{FsBios}
use Rattle.outside_io.proofs.SaysLemmas.{says_more, says_silence}
use Rattle.run_machine.specs.declared.event.Event.{Event}
use Rattle.run_machine.specs.declared.event.Got.TheVariants.{Ordinary}
use Rattle.run_machine.specs.declared.event.TaskId.TheVariants.{Writer}
use Rattle.run_machine.specs.declared.event.What.TheVariants.{Take}
use Rattle.run_machine.specs.Named.{FitsEvent}
use Rattle.biostack_top.specs.Tracing.{event_line, event_lines}
use Rattle.biostack_top.proofs.trace.write_lines.Goals as goal

-- what stands for an event where there is none
abbrev no_event : Event
no_event = record { task = Writer 0; what = Take FsBios Ordinary }

pub telling-init : goal.telling-init
telling-init g c = (says_silence g.K.Sink c.args.out.now c.args.pen.now, All-nil FitsEvent)

pub telling-preserved : goal.telling-preserved
telling-preserved g c = (
  says_more (event_line c.args.stack.now) c.args.events.now c.telling.event-index no_event c.telling-test.true c.telling.invariant.0 c.write_line.ensures.says,
  subst (All FitsEvent) (sym (take_more c.args.events.now c.telling.event-index no_event c.telling-test.true))
      (All-push FitsEvent (take c.telling.event-index c.args.events.now) (get_or c.args.events.now c.telling.event-index no_event) c.telling.invariant.1 c.write_line.ensures.fits),
)

pub returns-clause-says : goal.returns-clause-says
unfolding event_lines
returns-clause-says g c = rw (take_all c.telling.event-index c.args.events.now (omega arith)) at c.telling.invariant.0

pub returns-clause-fits : goal.returns-clause-fits
returns-clause-fits g c = rw (take_all c.telling.event-index c.args.events.now (omega arith)) at c.telling.invariant.1
