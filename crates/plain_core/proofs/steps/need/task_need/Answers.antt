use Rattle.plain_core.proofs.steps.need.task_need.Goals as goal

pub returns-in-Completer : goal.returns-in-Completer
returns-in-Completer c = λ s. rw (c.in-Completer.is) (c.completer_need.ensures s)

pub returns-in-Keeper : goal.returns-in-Keeper
returns-in-Keeper c = λ s. rw (c.in-Keeper.is) (c.keeper_need.ensures s)
