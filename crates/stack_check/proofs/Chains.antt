-- The checks of each kind of line, without those that find nothing wrong with it.
use Rattle.std.proofs.Common.{◌≡◌, ◌||◌, ℕ, Bool, true, false, List, length, Result, Ok, Err, true≢false, refl, sym, subst, ◌∙◌}
use Rattle.std.specs.Prelude.{nat_le}
use Rattle.std.proofs.lemmas.Bool.{and_right}
use Rattle.decl_text.specs.Known.{Declarations}
use Rattle.decl_text.specs.Refusals.{first_found, item_checks}
use Rattle.decl_text.specs.Accepting.{checks_for, loose_checks}
use Rattle.decl_text.specs.declared.item.Item.{Item}
use Rattle.decl_text.specs.declared.item.What.{What}
use Rattle.decl_text.specs.declared.item.What.TheVariants as what
use Rattle.decl_text.specs.declared.item.Item.TheVariants as item
use Rattle.stack_check.specs.declared.fault.AddFault.{AddFault}
use Rattle.stack_check.specs.declared.fault.AddFault.TheVariants.{Wrong, Memory}
use Rattle.stack_check.specs.Adding.{Adds}
use Rattle.stack_check.specs.Rows.{device_reason}

pub device_chain :
    (loose : Bool) (known : Declarations) (name : List ℕ) (does : What) (members : List (List ℕ)) (reserve : ℕ) (rescuer : Bool)
    → first_found (checks_for loose) known (item.Device name does members reserve rescuer) ≡ device_reason known.devices name does members reserve (loose || rescuer)
unfolding first_found
device_chain false known name (what.Disk sectors) members reserve rescuer = refl
device_chain false known name what.Linear members reserve rescuer = refl
device_chain false known name (what.Stripe chunk) members reserve rescuer = refl
device_chain false known name (what.Zoned chunk) members reserve rescuer = refl
device_chain false known name (what.Limit longest chunk) members reserve rescuer = refl
device_chain false known name (what.Mirror records) members reserve rescuer = refl
device_chain true known name (what.Disk sectors) members reserve rescuer = refl
device_chain true known name what.Linear members reserve rescuer = refl
device_chain true known name (what.Stripe chunk) members reserve rescuer = refl
device_chain true known name (what.Zoned chunk) members reserve rescuer = refl
device_chain true known name (what.Limit longest chunk) members reserve rescuer = refl
device_chain true known name (what.Mirror records) members reserve rescuer = rw (and_right (nat_le 2 (length members)) false refl) refl

-- of nothing else are rescuers asked
abbrev pub is_device : Item → Bool
is_device (item.Device name does members reserve rescuer) = true
is_device said = false

other_chain : (known : Declarations) (said : Item) → is_device said ≡ false → first_found loose_checks known said ≡ first_found item_checks known said
unfolding first_found
other_chain known (item.Device name does members reserve rescuer) other = absurd (true≢false other)
other_chain known (item.Bad disk range kind) other = refl
other_chain known (item.Fs bios vecs) other = refl
other_chain known (item.Script pool script) other = refl
other_chain known item.NoMemory other = refl
other_chain known (item.Write task dev range tag) other = refl
other_chain known item.Sync other = refl
other_chain known (item.Resize pool min) other = refl

adds_by : (loose : Bool) (old : Declarations) (said : Item) (new : Declarations) (result : Result (Unit {0}) AddFault) → is_device said ≡ false
    → Adds false old said new result → Adds loose old said new result
adds_by false old said new result other adds = adds
adds_by true old said new (Ok done) other adds = (other_chain old said other ∙ adds.0, adds.1)
adds_by true old said new (Err (Wrong reason)) other adds = other_chain old said other ∙ adds
adds_by true old said new (Err Memory) other adds = tt

-- what was added of another line is added loosely too
pub adds_as : (loose : Bool) (old : Declarations) (said line : Item) (new : Declarations) (result : Result (Unit {0}) AddFault) → line ≡ said → is_device said ≡ false
    → Adds false old said new result → Adds loose old line new result
adds_as loose old said line new result is other adds =
    subst (λ (i : Item). Adds loose old i new result) (sym is) (adds_by loose old said new result other adds)
