-- The word that a trace and a report have for how a bio, or a write, ended.
use Rattle.std.specs.Prelude.{List, ℕ, codes}
use Rattle.stack_base.specs.declared.ids.Status.{Status}
use Rattle.stack_base.specs.declared.ids.Status.TheVariants as status

abbrev pub status_word : Status → List ℕ
status_word status.Ok = codes "ok"
status_word status.Io = codes "io"
status_word status.Medium = codes "medium"
status_word status.NoSpace = codes "nospace"
