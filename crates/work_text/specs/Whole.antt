-- The first refusal of a whole text, and what an accepted text means.
use Rattle.std.specs.Prelude.{◌≡◌, ◌≤◌, if◌then◌else◌, nat_lt, ℕ, Bool, List, [], drop, length, Option, None, Some, ◌<◌, false, slice_get, slice_index_or}
use Rattle.fail_script.specs.Script.{Answers}
use Rattle.stack_base.specs.declared.ids.PoolId.{PoolId}
use Rattle.stack_base.specs.declared.stack.Stack.{Stack}
use Rattle.decl_text.specs.Text.{lines, most_bytes}
use Rattle.decl_text.specs.Known.{Declarations, Written, nothing_declared}
use Rattle.decl_text.specs.Checks.{shares}
use Rattle.decl_text.specs.Refusals.{refusal, refused, known_after}
use Rattle.decl_text.specs.Read.{Read}
use Rattle.decl_text.specs.Reading.{IsReadDecl, declarations, refusal_of_items, known_of_items}
use Rattle.decl_text.specs.Accepting.{MeansStack, checks_for}
use Rattle.decl_text.specs.declared.reason.Reason.TheVariants.{TooLong}
use Rattle.decl_text.specs.declared.reason.Refusal.{Refusal}
use Rattle.work_text.specs.Work.{all_checks, checks_by, known_of}

-- a text that is too long is refused as a whole, and another by its first line that is refused, where all checks are made or the loose ones
abbrev pub text_refusal_by : Bool → List ℕ → Option Refusal
text_refusal_by loose text = if nat_lt most_bytes (length text) then Some (refused 0 TooLong) else refusal (checks_by loose) nothing_declared 1 (lines text)

abbrev pub text_refusal : List ℕ → Option Refusal
text_refusal text = text_refusal_by false text

-- what a text declares, and its writes
abbrev pub known_of_text : List ℕ → Declarations
known_of_text text = known_after nothing_declared (lines text)

-- the devices that are known, and the work
abbrev pub work_of : Declarations → Declarations
work_of known =
    record nothing_declared { devices = known.devices; writes = known.writes; rounds = known.rounds; syncs = known.syncs; resizes = known.resizes }

-- the declarations were read, and are refused so: so is the text
abbrev pub DeclarationsRefuse : Type 0
DeclarationsRefuse =
    (loose : Bool) (text : List ℕ) (read : Read) (first : Refusal) → length text ≤ most_bytes → IsReadDecl text read
    → refusal_of_items (checks_for loose) nothing_declared read.items read.fault ≡ Some first → text_refusal_by loose text ≡ Some first

-- They are not, and mean this stack and these scripts: the rest of the text decides, by this stack. No line of it declares a device, so none
-- lacks a rescuer: all checks refuse it so, and the loose ones too.
pub record RestDecides (loose : Bool) (text : List ℕ) (read : Read) (stack : Stack) (scripts : List (PoolId × Answers)) : Type 0 where
  -- the rest begins with a write or a `sync` line, or has no line
  pub begins : declarations (lines (drop read.rest text)) ≡ []
  pub refusals : text_refusal_by loose text ≡ refusal all_checks (known_of stack) read.line (lines (drop read.rest text))
  -- where the text is not refused, it means this stack and these scripts, and the work of the rest
  pub means : text_refusal_by loose text ≡ None → MeansStack (known_of_text text) stack scripts
  pub work : text_refusal_by loose text ≡ None → work_of (known_of_text text) ≡ known_after (known_of stack) (lines (drop read.rest text))

abbrev pub RestsDecide : Type 0
RestsDecide =
    (loose : Bool) (text : List ℕ) (read : Read) (stack : Stack) (scripts : List (PoolId × Answers)) → length text ≤ most_bytes → IsReadDecl text read
    → refusal_of_items (checks_for loose) nothing_declared read.items read.fault ≡ None → MeansStack (known_of_items nothing_declared read.items) stack scripts
    → RestDecides loose text read stack scripts

-- two writes of one round to one device have no sector in common, among the writes of lines of which none is refused
abbrev pub RoundsAreApart : Type 0
RoundsAreApart =
    (stack : Stack) (number : ℕ) (all : List (List ℕ)) (i j : ℕ) (one other : Written) → refusal all_checks (known_of stack) number all ≡ None → i < j
    → slice_get (known_after (known_of stack) all).writes i ≡ Some one → slice_get (known_after (known_of stack) all).writes j ≡ Some other
    → slice_index_or (known_after (known_of stack) all).rounds i 0 ≡ slice_index_or (known_after (known_of stack) all).rounds j 0
    → shares other.dev other.start other.count one ≡ false
