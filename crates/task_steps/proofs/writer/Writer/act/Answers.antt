use Rattle.std.proofs.Common.{◌≡◌, List, ◌∷◌, drop, sym, subst, arith, rules}
use Rattle.std.specs.Prelude.{All}
use Rattle.task_steps.specs.declared.writer.begin.Gathered.{Gathered}
use Rattle.run_machine.specs.Submissions.{Rests}
use Rattle.run_machine.specs.Tasks.{Todo, TaskState, write_request}
use Rattle.task_steps.specs.Routed.{routing_setup}
use Rattle.task_steps.specs.Stage.{Owes}
use Rattle.task_steps.specs.Homes.{TodoFits}
use Rattle.task_steps.specs.Turns.{Asks}
use Rattle.task_steps.specs.WriterViews.{WriterState, writer_task, gathered_of, next_of, WriteAnswers}
use Rattle.task_steps.proofs.TurnLemmas.{taken_turns, write_asks}
use Rattle.task_steps.proofs.writer.Writer.act.Goals as goal

-- what it asks for its next write is what it asks for
pub returns : goal.returns
returns g c =
    let serves = g.O.Objects.serves in
    let owes = Owes (g.O.Objects.stage c.args.objects.now) in
    let known = routing_setup c.args.routes.now in
    let w = c.self.inside in
    let todo = c.args.todo.now in
    let later = drop 1 w.todo in
    let old = c.args.objects.now in
    let new = c.go_on-next.new.objects in
    let step = c.go_on-next.result.1 in
    let after : TaskState = next_of c.go_on-next.result.0 w.number todo later c.go_on-next.new.submission in
    let rests = subst (λ (s : WriterState). s.submission.doing ≡ Rests) (sym c.self.view_is) c.requires.rests in
    let first = subst (λ (s : WriterState). s.todo ≡ todo ∷ drop 1 s.todo) (sym c.self.view_is) c.requires.first in
    let answers =
    subst (λ (taken : Gathered). WriteAnswers serves owes known w.number (write_request w.number (todo ∷ later) (gathered_of taken)) (todo ∷ later) (gathered_of taken) w.submission old after new step)
    c.replace-taken.ensures.value (c.go_on-next.ensures.does.came later) in
    let asks =
    subst (λ (next : TaskState). Asks serves owes known (writer_task c.args.self.now) old next new step) (sym (c.put.ensures todo first))
    (subst (λ (s : WriterState). Asks serves owes known (writer_task s) old after new step) c.self.view_is
    (write_asks serves owes known w.number w.todo (gathered_of w.taken) w.submission todo later old after new step rests first answers)) in
    let now = c.args.self.now in
    record {
      does = record {
        came = taken_turns serves owes known now.number now.todo now.taken now.submission old (writer_task c.put.new.self) new step c.requires.some asks;
        held = c.go_on-next.ensures.does.held;
        same = c.go_on-next.ensures.does.same;
      };
    }

-- its next write is the first of those that fit
pub go_on-next-requires-clause-ready : goal.go_on-next-requires-clause-ready
go_on-next-requires-clause-ready g c =
    let fits : List Todo → Type 0 = All (TodoFits (g.O.Objects.stage c.args.objects.now)) in
    record {
      held = search rules;
      book = search rules;
      fits = subst fits c.requires.first c.requires.ready.1.1 0 c.args.todo.now (omega arith);
      home = search rules;
    }
