use Rattle.std.proofs.Common.{◌≡◌, ◌∙◌, ℕ, true, false, drop, ap, subst, arith, nat_le}
use Rattle.std.proofs.lemmas.Bool.Decides.{nat_tests}
use Rattle.run_machine.specs.Tasks.{Todo}
use Rattle.task_steps.specs.Stage.{Stage, Owes}
use Rattle.task_steps.specs.Turns.{Asks}
use Rattle.task_steps.specs.WriterViews.{writer_task}
use Rattle.task_steps.proofs.TurnLemmas.{look_asks, look_waits}
use Rattle.task_steps.proofs.writer.Writer.look.Goals as goal

-- the round of its next write has not come
pub returns-then-round-todo : goal.returns-then-round-todo
returns-then-round-todo g c =
    let owes = Owes (g.O.Objects.stage c.args.objects.now) in
    let w = c.args.self.now in
    let round = c.round-round.result in
    let is : c.todo.inside.round ≡ c.args.todo.now.round = ap (λ (t : Todo). t.round) c.todo.view_is in
    let early : nat_le c.args.todo.now.round round ≡ false = subst (λ (r : ℕ). nat_le r round ≡ false) is (grind (arith, nat_tests, c.if-round-todo.true)) in
    record {
      does = λ setup. record {
        came = look_waits g.O.Objects.serves owes setup w.number w.todo w.taken w.submission c.args.todo.now (drop 1 w.todo) c.args.objects.now round
            c.round-round.new.self c.requires.rests c.requires.none c.requires.first c.round-round.ensures.serves early;
        held = c.round-round.ensures.kept.0;
        same = c.round-round.ensures.kept.1;
      };
    }

-- it has come, and the writer has asked
pub returns : goal.returns
returns g c =
    let serves = g.O.Objects.serves in
    let owes = Owes (g.O.Objects.stage c.args.objects.now) in
    let w = c.args.self.now in
    let round = c.round-round.result in
    let between = c.round-round.new.self in
    let is : c.todo.inside.round ≡ c.args.todo.now.round = ap (λ (t : Todo). t.round) c.todo.view_is in
    let due : nat_le c.args.todo.now.round round ≡ true = subst (λ (r : ℕ). nat_le r round ≡ true) is (grind (arith, nat_tests, c.if-round-todo.false)) in
    record {
      does = λ setup. record {
        came = look_asks serves owes setup w.number w.todo w.taken w.submission c.args.todo.now (drop 1 w.todo) c.args.objects.now round between
            (writer_task c.take.new.self) c.take.new.objects c.take.result c.requires.rests c.requires.none c.requires.first
            c.round-round.ensures.serves due
            (subst (λ (stage : Stage). Asks serves (Owes stage) setup (writer_task w) between (writer_task c.take.new.self) c.take.new.objects c.take.result)
            c.round-round.ensures.kept.1 (c.take.ensures.does.came setup));
        held = c.take.ensures.does.held;
        same = c.take.ensures.does.same ∙ c.round-round.ensures.kept.1;
      };
    }
