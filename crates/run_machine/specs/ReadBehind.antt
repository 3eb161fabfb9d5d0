-- Work that was read behind declarations.
use Rattle.std.specs.Prelude.{◌≡◌, ℕ, List, [], Ok}
use Rattle.layout_model.specs.Writes.{AreWritesOf}
use Rattle.decl_text.specs.declared.accepted.Accepted.{Accepted}
use Rattle.decl_text.specs.Reading.{declarations}
use Rattle.work_text.specs.Reading.{ReadsWork, work_lines}
use Rattle.work_text.specs.declared.Work.{Work}

-- the work was read behind these declarations, by a text of which no line is refused
pub record IsReadBehind (accepted : Accepted) (work : Work) : Type 0 where
  pub text : List ℕ
  pub begins : declarations (work_lines text accepted) ≡ []
  pub reads : ReadsWork text accepted (Ok work)
  pub served : AreWritesOf accepted.stack work.writes.items
