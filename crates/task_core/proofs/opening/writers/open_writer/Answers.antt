use Rattle.std.proofs.Common.{◌<◌, ◌^◌, All, List, ap, subst, sym, ◌∙◌}
use Rattle.layout_model.specs.Writes.{IsWrite}
use Rattle.task_core.specs.opened.NewTasks.{writer_with, AddsTasks}
use Rattle.run_machine.specs.Tasks.{Todo}
use Rattle.run_machine.specs.Opened.{nodes_of}
use Rattle.task_core.proofs.opened.WritesSharedOut.{few_writes, share_few, share_served, writer_there}
use Rattle.task_core.proofs.opening.writers.open_writer.Goals as goal

pub todos_by-requires-clause-few : goal.todos_by-requires-clause-few
todos_by-requires-clause-few c = few_writes c.args.stack.now c.args.work.now.rounds.items c.args.work.now.writes.items c.requires.shared

pub nodes_of-requires-clause-writes : goal.nodes_of-requires-clause-writes
nodes_of-requires-clause-writes c =
    subst (All (λ (t : Todo). IsWrite c.args.stack.now t.write)) (sym (c.deref.ensures.value ∙ c.in_ok-todos.ensures))
    (share_served c.args.stack.now c.args.work.now.rounds.items c.args.work.now.writes.items c.requires.shared c.args.writer)

pub nodes_of-requires-clause-few : goal.nodes_of-requires-clause-few
nodes_of-requires-clause-few c =
    subst (λ (todos : List Todo). nodes_of c.args.stack.now todos < 2 ^ 32) (sym (c.deref.ensures.value ∙ c.in_ok-todos.ensures))
    (share_few c.args.stack.now c.args.work.now.rounds.items c.args.work.now.writes.items c.requires.shared c.args.writer)

pub returns-clause-kinds : goal.returns-clause-kinds
returns-clause-kinds c =
    let rounds = c.args.work.now.rounds.items in
    let writes = c.args.work.now.writes.items in
    subst (λ tasks. AddsTasks c.args.kinds.now.items tasks c.add_writer.new.kinds.items)
    (ap (writer_with c.args.writer) c.in_ok-todos.ensures ∙ writer_there rounds writes c.args.writer) c.in_ok-add_writer.ensures
