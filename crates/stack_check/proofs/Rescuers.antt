-- Lines that are not refused declare no mirror of two members or more without a rescuer.
use Rattle.std.proofs.Common.{◌≡◌, ℕ, ◌≤◌, ◌&&◌, Bool, true, false, not, List, length, Option, None, Some, refl, sym, ap, ◌∙◌, subst, arith}
use Rattle.std.specs.Prelude.{slice_get, nat_le}
use Rattle.std.specs.Option.{option_map}
use Rattle.std.proofs.Math.Bool.{Bool-set}
use Rattle.std.proofs.lemmas.Bool.{le-leb}
use Rattle.std.proofs.lemmas.List.{length-map}
use Rattle.std.proofs.lemmas.Option.{slice_get-map}
use Rattle.stack_base.specs.declared.ids.DevId.{DevId}
use Rattle.stack_base.specs.declared.stack.Kind.{Kind}
use Rattle.stack_base.specs.declared.stack.Stack.{Stack}
use Rattle.stack_base.specs.Stack.{HasRescuers}
use Rattle.fail_script.specs.Script.{Answers}
use Rattle.stack_base.specs.declared.ids.PoolId.{PoolId}
use Rattle.decl_text.specs.Text.{words}
use Rattle.decl_text.specs.Items.{said}
use Rattle.decl_text.specs.Known.{Declarations, Declared, after_line, declared, declares_mirror, nothing_declared, number_in}
use Rattle.decl_text.specs.Checks.{needs_rescuer}
use Rattle.decl_text.specs.Accepting.{MeansStack, declared_form, what_of_kind}
use Rattle.decl_text.specs.Refusals.{check, item_checks, known_after, refusal, said_reason}
use Rattle.decl_text.specs.declared.item.Item.{Item}
use Rattle.decl_text.specs.declared.item.Item.TheVariants as item
use Rattle.decl_text.specs.declared.reason.Reason.TheVariants as reason
use Rattle.decl_text.proofs.DeclarationsFit.{Pushed, before, last, pushed}
use Rattle.decl_text.proofs.Unrefused.{finds_nothing, kept_behind, line_passes}

-- a device that copies to two members or more has a rescuer
abbrev IsHelped : Declared → Type 0
IsHelped device = declares_mirror device.what ≡ true → 2 ≤ length device.members → device.rescuer ≡ true

abbrev AreHelped : Declarations → Type 0
AreHelped known = (number : ℕ) (device : Declared) → slice_get known.devices number ≡ Some device → IsHelped device

helped_by : (mirror two rescuer : Bool) → (mirror && two && not rescuer) ≡ false → mirror ≡ true → two ≡ true → rescuer ≡ true
helped_by mirror two true none is many = refl
helped_by mirror two false none is many = absurd (let n = rw (is, many) at none in cc)

helped_more : (devices : List Declared) (device next : Declared) (number : ℕ) → ((n : ℕ) (d : Declared) → slice_get devices n ≡ Some d → IsHelped d) → IsHelped device
    → Pushed devices device next number → IsHelped next
helped_more devices device next number all one (before found lt) = all number next found
helped_more devices device next number all one (last at is) = subst IsHelped is one

after_helped : (known : Declarations) (o : Option Item) → said_reason item_checks known o ≡ None → AreHelped known → AreHelped (after_line known o)
after_helped known None none all = all
after_helped known (Some (item.Device name does members reserve rescuer)) none all =
    let said = item.Device name does members reserve rescuer in
    let free : needs_rescuer known said ≡ false = finds_nothing item_checks known said 7 (check reason.NeedsRescuer needs_rescuer) none refl in
    λ number device found.
    helped_more known.devices (declared known.devices name does members reserve rescuer) device number all
    (λ mirror many. helped_by (declares_mirror does) (nat_le 2 (length members)) rescuer free mirror (le-leb 2 (length members) (omega (arith, many, length-map members (number_in known.devices)))))
    (pushed known.devices (declared known.devices name does members reserve rescuer) device number found)
after_helped known (Some (item.Bad disk range kind)) none all = all
after_helped known (Some (item.Fs bios vecs)) none all = all
after_helped known (Some (item.Script pool script)) none all = all
after_helped known (Some item.NoMemory) none all = all
after_helped known (Some (item.Write task dev range tag)) none all = all
after_helped known (Some item.Sync) none all = all
after_helped known (Some (item.Resize pool min)) none all = all

lines_helped : (all : List (List ℕ)) → refusal item_checks nothing_declared 1 all ≡ None → AreHelped (known_after nothing_declared all)
lines_helped all none =
    kept_behind item_checks AreHelped (λ known line fine helped. after_helped known (said (words line)) (line_passes item_checks known line fine).1 helped) nothing_declared 1 all none
    (λ number device found. absurd (grind arith))

pub stack_helped : (all : List (List ℕ)) (stack : Stack) (scripts : List (PoolId × Answers)) → refusal item_checks nothing_declared 1 all ≡ None → MeansStack (known_after nothing_declared all) stack scripts
    → HasRescuers stack
stack_helped all stack scripts none means = λ number records device found mirror many.
    let here : slice_get (known_after nothing_declared all).devices number ≡ Some (declared_form device) =
    ap (λ (ds : List Declared). slice_get ds number) (sym means.devices) ∙ slice_get-map declared_form stack.devices.items number ∙ ap (option_map declared_form) found in
    lines_helped all none number (declared_form device) here (ap (λ (k : Kind). declares_mirror (what_of_kind k)) mirror) (omega (arith, many, length-map device.members.items (λ (m : DevId). m.0)))

pub HasRescuers-prop : (stack : Stack) → IsProp (HasRescuers stack)
HasRescuers-prop stack = hlevel Bool-set
