use Rattle.std.proofs.Common.{true, ◌∷◌, sym, subst}
use Rattle.stack_base.specs.declared.ids.SetId.TheVariants.{Fs}
use Rattle.run_machine.specs.Requests.{TakeBio}
use Rattle.run_machine.specs.Tasks.{TaskState, NoBio}
use Rattle.task_steps.specs.Stage.{Owes}
use Rattle.task_steps.specs.Turns.{Asks}
use Rattle.task_steps.specs.WriterViews.{WriterState, writer_task, tried, WriteAnswers}
use Rattle.task_steps.proofs.TurnLemmas.{bio_asks}
use Rattle.task_steps.proofs.writer.Writer.take.Goals as goal

-- what came of the attempt is what it asks for
pub returns : goal.returns
returns g c =
    let serves = g.O.Objects.serves in
    let owes = Owes (g.O.Objects.stage c.args.objects.now) in
    let w = c.args.self.now in
    let attempt = c.take_bio-attempt.result.0 in
    let old = c.args.objects.now in
    let new = c.take_bio-attempt.new.objects in
    let step = c.take_bio-attempt.result.1 in
    record {
      does = record {
        came = λ setup.
            subst (λ (next : TaskState). Asks serves owes setup (writer_task w) old next new step) (sym c.take_in.ensures)
            (bio_asks serves owes setup w.number w.todo w.taken w.submission attempt old new step c.requires.rests c.requires.none c.requires.some
            (λ todo later. subst (λ (s : WriterState). WriteAnswers serves owes setup s.number (TakeBio Fs true) (todo ∷ later) NoBio w.submission old (tried attempt s.number (todo ∷ later) w.submission) new step)
            c.self.view_is (c.take_bio-attempt.ensures.does.came setup todo later w.submission)));
        held = c.take_bio-attempt.ensures.does.held;
        same = c.take_bio-attempt.ensures.does.same;
      };
    }
