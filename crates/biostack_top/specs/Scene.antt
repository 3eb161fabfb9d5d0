-- What a whole text says.
use Rattle.std.specs.Prelude.{◌≡◌, ◌+◌, List, [], ℕ, Bool, false, length, map, None, Some, Result, Ok, Err}
use Rattle.stack_base.specs.Stack.{IsStack}
use Rattle.layout_model.specs.Bound.{IsBound}
use Rattle.layout_model.specs.Writes.{AreWritesOf}
use Rattle.decl_text.specs.Accepting.{MeansStack}
use Rattle.decl_text.specs.Known.{Declarations}
use Rattle.decl_text.specs.Reading.{declarations}
use Rattle.decl_text.specs.declared.accepted.Accepted.{Accepted}
use Rattle.decl_text.specs.declared.reason.ReadFault.{ReadFault}
use Rattle.decl_text.specs.declared.reason.ReadFault.TheVariants.{Refused, Memory}
use Rattle.stack_check.specs.Accept.{HasRescuersAsked}
use Rattle.work_text.specs.Reading.{ReadsWork, work_lines}
use Rattle.work_text.specs.Work.{all_entries, kept_resizes, last_round, change_of, as_written}
use Rattle.work_text.specs.Whole.{text_refusal_by, known_of_text}
use Rattle.work_text.specs.declared.Work.{Work}
use Rattle.biostack_top.specs.declared.scene.Scene.{Scene}

-- how many `resize` lines are not left out
abbrev pub kept_lines : Declarations → ℕ
kept_lines known = length (kept_resizes (last_round known.rounds) known.resizes)

-- The text is not refused, its declarations mean this stack with these scripts, and its other lines this work. By the
-- loose checks mirrors may lack rescuers.
pub record SaysBy (loose : Bool) (text : List ℕ) (accepted : Accepted) (work : Work) : Type 0 where
  pub fine : text_refusal_by loose text ≡ None
  pub stack : IsStack accepted.stack
  pub means : MeansStack (known_of_text text) accepted.stack accepted.scripts.items
  pub rescuers : HasRescuersAsked loose accepted.stack
  pub writes : map as_written work.writes.items ≡ (known_of_text text).writes
  pub served : AreWritesOf accepted.stack work.writes.items
  pub rounds : work.rounds.items ≡ (known_of_text text).rounds
  pub resizes : map change_of work.resizes.items ≡ kept_resizes (last_round (known_of_text text).rounds) (known_of_text text).resizes
  -- what the writes need; and the entries of the scripts, the rounds after the first, and the `resize` lines that are not left out
  pub needs : IsBound accepted.stack work.writes.items
      (all_entries accepted.scripts.items + last_round (known_of_text text).rounds + kept_lines (known_of_text text)) work.bound
  -- the work was read behind the declarations
  pub begins : declarations (work_lines text accepted) ≡ []
  pub reads : ReadsWork text accepted (Ok work)

-- by all checks
abbrev pub TextSays : List ℕ → Accepted → Work → Type 0
TextSays text accepted work = SaysBy false text accepted work

-- its text says what the scene holds
abbrev pub IsSaidBy : Bool → Scene → Type 0
IsSaidBy loose scene = SaysBy loose scene.text.now scene.accepted scene.work

abbrev pub IsSaid : Scene → Type 0
IsSaid scene = IsSaidBy false scene

-- the text says this, or is refused so
abbrev pub ReadsScene : Bool → List ℕ → Result Scene ReadFault → Type 0
ReadsScene loose text (Ok scene) = (scene.text.now ≡ text) × IsSaidBy loose scene
ReadsScene loose text (Err (Refused refusal)) = text_refusal_by loose text ≡ Some refusal
ReadsScene loose text (Err Memory) = Unit {0}
