use Rattle.run_machine.specs.Submissions.{rests}
use Rattle.run_machine.specs.Tasks.{NoBio, Writer}
use Rattle.run_machine.specs.Opened.{is_writer, todos_by, writers_of}
use Rattle.task_core.proofs.opened.WritesSharedOut.{adds_more, kept_split, placed_more}
use Rattle.task_core.proofs.opening.writers.open_writers.Goals as goal

pub opening-preserved : goal.opening-preserved
opening-preserved c =
    let rounds = c.args.work.now.rounds.items in
    let writes = c.args.work.now.writes.items in
    record {
      kinds = adds_more (writers_of rounds writes) c.opening.writer c.args.kinds.now.items c.opening.kinds.items c.open_writer.new.kinds.items
          (kept_split (λ writer. Writer writer (todos_by rounds writes writer) NoBio rests) (is_writer rounds writes) c.opening.writer)
          c.opening.invariant.kinds c.in_ok-open_writer.ensures.kinds;
      places = placed_more c.args.stack.now rounds writes c.requires.shared c.opening.writer c.opening.places c.open_writer.new.places
          c.opening.invariant.places c.opening-test.true c.in_ok-open_writer.ensures.places;
    }
