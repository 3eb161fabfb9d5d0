-- What a line from the first write or `sync` line on says.
use Rattle.std.specs.Prelude.{◌≡◌, ◌≤◌, true, List, ℕ, Option, None, Some, Result, Ok, Err}
use Rattle.std.specs.Option.{option_map}
use Rattle.decl_text.specs.Text.{words}
use Rattle.decl_text.specs.Items.{said}
use Rattle.decl_text.specs.Reading.{is_work_line}
use Rattle.decl_text.specs.Stands.{stand_of}
use Rattle.decl_text.specs.declared.stand.Stand.{Stand}
use Rattle.decl_text.specs.declared.stand.Stand.TheVariants.{Front}
use Rattle.decl_text.specs.Known.{Declarations, after, after_line}
use Rattle.decl_text.specs.Refusals.{first_found, known_after, line_checks, line_reason, refusal, refused}
use Rattle.decl_text.specs.declared.reason.ReadFault.{ReadFault}
use Rattle.decl_text.specs.declared.reason.ReadFault.TheVariants.{Refused}
use Rattle.decl_text.specs.declared.reason.ReadFault.TheVariants as fault
use Rattle.decl_text.specs.declared.item.Item.{Item}
use Rattle.decl_text.specs.declared.item.Item.TheVariants as item
use Rattle.decl_text.specs.declared.line.LineFault.{LineFault}
use Rattle.decl_text.specs.declared.line.LineFault.TheVariants.{Wrong, Memory}
use Rattle.work_text.specs.Work.{all_checks}
use Rattle.work_text.specs.declared.told.Told.{Told}
use Rattle.work_text.specs.declared.told.Told.TheVariants as told

-- a write or a `sync` line stands before it, or it is one
abbrev pub CanStandAt : Stand → List ℕ → Type 0
CanStandAt stand line = stand ≡ Front → is_work_line line ≡ true

abbrev pub CanStand : Declarations → List ℕ → Type 0
CanStand known line = CanStandAt (stand_of known) line

-- what is told of the work
abbrev pub told_item : Told → Item
told_item (told.Write task dev range tag) = item.Write task dev range tag
told_item told.Sync = item.Sync
told_item (told.Resize pool min) = item.Resize pool min

-- a write with the numbers of its form, a `sync` or a `resize` line
abbrev pub IsToldWork : Item → Type 0
IsToldWork (item.Write task dev range tag) = (task ≤ 7) × (1 ≤ range.len)
IsToldWork item.Sync = Unit {0}
IsToldWork (item.Resize pool min) = Unit {0}
IsToldWork _ = ⊥

-- a write has a sector
abbrev pub HasSectors : Told → Type 0
HasSectors (told.Write task dev range tag) = 1 ≤ range.len
HasSectors told.Sync = Unit {0}
HasSectors (told.Resize pool min) = Unit {0}

-- the line says nothing, or this of the work, or it is wrong by its words
abbrev pub TellsIn : Declarations → List ℕ → Result (Option Told) LineFault → Type 0
TellsIn known line (Ok None) = (first_found line_checks known line ≡ None) × (said (words line) ≡ None)
TellsIn known line (Ok (Some told)) = (first_found line_checks known line ≡ None) × (said (words line) ≡ Some (told_item told)) × HasSectors told
TellsIn known line (Err (Wrong reason)) = first_found line_checks known line ≡ Some reason
TellsIn known line (Err Memory) = Unit {0}

-- so it does behind all by which it stands there
abbrev pub Tells : Stand → List ℕ → Result (Option Told) LineFault → Type 0
Tells stand line result = (known : Declarations) → stand_of known ≡ stand → TellsIn known line result

-- what is told passes all checks and is known then, or this check finds it
abbrev pub AddsWork : Declarations → Item → Declarations → Result (Unit {0}) LineFault → Type 0
AddsWork before said after_it (Ok done) = (first_found all_checks before said ≡ None) × (after_it ≡ after before said)
AddsWork before said after_it (Err (Wrong reason)) = first_found all_checks before said ≡ Some reason
AddsWork before said after_it (Err Memory) = Unit {0}

-- the line is not refused, and is known then, or it is refused so
abbrev pub ReadsLine : Declarations → List ℕ → Declarations → Result (Unit {0}) LineFault → Type 0
ReadsLine before line after_it (Ok done) = (line_reason all_checks before line ≡ None) × (after_it ≡ after_line before (said (words line)))
ReadsLine before line after_it (Err (Wrong reason)) = line_reason all_checks before line ≡ Some reason
ReadsLine before line after_it (Err Memory) = Unit {0}

-- the same of the line with this number, as a refusal of the text
abbrev pub ReadsNumbered : Declarations → ℕ → List ℕ → Declarations → Result (Unit {0}) ReadFault → Type 0
ReadsNumbered before number line after_it (Ok done) = (line_reason all_checks before line ≡ None) × (after_it ≡ after_line before (said (words line)))
ReadsNumbered before number line after_it (Err (Refused first)) = option_map (refused number) (line_reason all_checks before line) ≡ Some first
ReadsNumbered before number line after_it (Err fault.Memory) = Unit {0}

-- none of these lines is refused, the first of which has this number, and so much is known then, or this is the first refusal
abbrev pub ReadsLines : Declarations → ℕ → List (List ℕ) → Declarations → Result (Unit {0}) ReadFault → Type 0
ReadsLines before number all after_it (Ok done) = (refusal all_checks before number all ≡ None) × (after_it ≡ known_after before all)
ReadsLines before number all after_it (Err (Refused first)) = refusal all_checks before number all ≡ Some first
ReadsLines before number all after_it (Err fault.Memory) = Unit {0}
