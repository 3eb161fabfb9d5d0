use Rattle.task_steps.proofs.ByAnswer as lemma
use Rattle.task_steps.proofs.turns.answers_tell_turns.Goals as goal

pub returns : goal.returns
returns g c = lemma.answers_tell_turns g.O.Objects
