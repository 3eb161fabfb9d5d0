-- What becomes of the declarations of a text.
use Rattle.std.specs.Prelude.{◌≡◌, Bool, true, false, Result, Ok, Err, None, Some}
use Rattle.stack_base.specs.declared.stack.Stack.{Stack}
use Rattle.stack_base.specs.Stack.{HasRescuers}
use Rattle.decl_text.specs.Read.{Read}
use Rattle.decl_text.specs.Known.{nothing_declared}
use Rattle.decl_text.specs.Reading.{refusal_of_items, known_of_items}
use Rattle.decl_text.specs.declared.accepted.Accepted.{Accepted}
use Rattle.decl_text.specs.declared.reason.ReadFault.{ReadFault}
use Rattle.decl_text.specs.declared.reason.ReadFault.TheVariants.{Refused, Memory}
use Rattle.decl_text.specs.Accepting.{MeansStack, checks_for}

-- each mirror of two members or more has a rescuer, where the checks ask for them
abbrev pub HasRescuersAsked : Bool → Stack → Type 0
HasRescuersAsked true stack = Unit {0}
HasRescuersAsked false stack = HasRescuers stack

-- no check refuses a line, and they mean this, with the rescuers that are asked for; or this is the first refusal
abbrev pub AcceptsBy : Bool → Read → Result Accepted ReadFault → Type 0
AcceptsBy loose decl (Ok accepted) =
    (refusal_of_items (checks_for loose) nothing_declared decl.items decl.fault ≡ None)
    × MeansStack (known_of_items nothing_declared decl.items) accepted.stack accepted.scripts.items
    × HasRescuersAsked loose accepted.stack × (accepted.rest ≡ decl.rest) × (accepted.line ≡ decl.line)
AcceptsBy loose decl (Err (Refused refusal)) = refusal_of_items (checks_for loose) nothing_declared decl.items decl.fault ≡ Some refusal
AcceptsBy loose decl (Err Memory) = Unit {0}

-- by all checks
abbrev pub Accepts : Read → Result Accepted ReadFault → Type 0
Accepts decl result = AcceptsBy false decl result

-- without the check of rescuers
abbrev pub AcceptsLoose : Read → Result Accepted ReadFault → Type 0
AcceptsLoose decl result = AcceptsBy true decl result
