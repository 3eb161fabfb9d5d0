use Rattle.std.proofs.Common.{drop, sym, ap, ◌∙◌}
use Rattle.std.proofs.lemmas.List.{drop-drop}
use Rattle.task_steps.proofs.todo.Todos.advance.Goals as goal

pub returns : goal.returns
returns c = sym (drop-drop 1 c.self.inside.begun c.self.inside.writes.items) ∙ ap (drop 1) c.self.view_is
