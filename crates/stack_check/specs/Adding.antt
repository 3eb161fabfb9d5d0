-- What one more line does to what is known.
use Rattle.std.specs.Prelude.{◌≡◌, Bool, Result, Ok, Err, None, Some}
use Rattle.decl_text.specs.Known.{Declarations, after}
use Rattle.std.specs.Option.{option_map}
use Rattle.decl_text.specs.Refusals.{first_found, refused}
use Rattle.decl_text.specs.Accepting.{checks_for}
use Rattle.decl_text.specs.declared.decl.Numbered.{Numbered}
use Rattle.decl_text.specs.declared.reason.ReadFault.{ReadFault}
use Rattle.decl_text.specs.declared.reason.ReadFault.TheVariants.{Refused}
use Rattle.decl_text.specs.declared.reason.ReadFault.TheVariants as fault
use Rattle.decl_text.specs.declared.item.Item.{Item}
use Rattle.stack_check.specs.declared.fault.AddFault.{AddFault}
use Rattle.stack_check.specs.declared.fault.AddFault.TheVariants.{Wrong, Memory}

-- no check finds anything and it is known too; or this is the reason of the first that does
abbrev pub Adds : Bool → Declarations → Item → Declarations → Result (Unit {0}) AddFault → Type 0
Adds loose old said new (Ok done) = (first_found (checks_for loose) old said ≡ None) × (new ≡ after old said)
Adds loose old said new (Err (Wrong reason)) = first_found (checks_for loose) old said ≡ Some reason
Adds loose old said new (Err Memory) = Unit {0}

-- the same of a line with its number
abbrev pub AddsLine : Bool → Declarations → Numbered → Declarations → Result (Unit {0}) ReadFault → Type 0
AddsLine loose old next new (Ok done) = (first_found (checks_for loose) old next.item ≡ None) × (new ≡ after old next.item)
AddsLine loose old next new (Err (Refused refusal)) = option_map (refused next.line) (first_found (checks_for loose) old next.item) ≡ Some refusal
AddsLine loose old next new (Err fault.Memory) = Unit {0}
