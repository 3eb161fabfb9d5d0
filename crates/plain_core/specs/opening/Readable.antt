-- Which texts can be opened without an object.
use Rattle.decl_text.specs.declared.accepted.Accepted.{Accepted}
use Rattle.work_text.specs.declared.Work.{Work}
use Rattle.run_machine.specs.ReadBehind.{IsReadBehind}
use Rattle.plain_core.specs.opening.Opening.{CanOpen}

-- All of them of which no line is refused, with the work that was read behind their declarations.
abbrev pub AcceptedTextsCanOpen : Type 0
AcceptedTextsCanOpen = (accepted : Accepted) (work : Work) → IsReadBehind accepted work → CanOpen accepted.stack accepted.scripts.items work
