-- Devices that are built one after the other.
use Rattle.std.proofs.Common.{◌≡◌, ℕ, ◌==◌, ◌<◌, ◌≤◌, true, false, cond, List, [], ◌∷◌, ◌++◌, length, map, Some, refl, ap, ◌∙◌, sym, inl, inr, arith, length-append}
use Rattle.std.specs.Prelude.{slice_get, filter}
use Rattle.std.proofs.lemmas.Bool.{ne_eqb, true≢false}
use Rattle.std.proofs.lemmas.List.{append_assoc, length-map, map_push}
use Rattle.std.proofs.lemmas.List.Elements.{All-head, All-tail}
use Rattle.stack_base.specs.declared.stack.Device.{Device}
use Rattle.stack_base.specs.Fault.{bads_of_kind}
use Rattle.decl_text.specs.Known.{BadOf, Declared, declares_disk}
use Rattle.decl_text.specs.Checks.{is_disk_device}
use Rattle.decl_text.specs.Accepting.{declared_form}
use Rattle.stack_check.specs.Sound.{AreOfDisks}
use Rattle.stack_check.specs.Finish.{ranges_of}
use Rattle.stack_check.proofs.Passing.{push_cases}

-- the element between two lists
between : {X : Type 0} (front rest : List X) (x : X) → slice_get (front ++ x ∷ rest) (length front) ≡ Some x
between [] rest x = refl
between (y ∷ front) rest x = between front rest x

module _ (all : List Declared) (built : List Device) (next : Declared) (rest : List Declared) (so_far : map declared_form built ++ next ∷ rest ≡ all) where
  -- the next device has the number that the count of those built is
  pub next_at : slice_get all (length built) ≡ Some next
  next_at = ap (slice_get all) (sym (length-map built declared_form)) ∙ ap (λ ds. slice_get ds (length (map declared_form built))) (sym so_far) ∙ between (map declared_form built) rest next

  pub built_few : length all ≤ 32 → length built < 32
  built_few few = omega (arith, ap length so_far, length-append (map declared_form built) (next ∷ rest), length-map built declared_form)

  -- and once it is built, the rest is left
  pub built_more : (device : Device) (more : List Device) → more ≡ built ++ device ∷ [] → declared_form device ≡ next → map declared_form more ++ rest ≡ all
  built_more device more is same =
      ap (λ ds. map declared_form ds ++ rest) is ∙ ap (λ ds. ds ++ rest) (map_push declared_form built device)
      ∙ ap (λ d. (map declared_form built ++ d ∷ []) ++ rest) same
      ∙ append_assoc (map declared_form built) (next ∷ []) rest ∙ so_far

clean : (all : List Declared) (n : ℕ) (device : Declared) (k : ℕ) → slice_get all n ≡ Some device → declares_disk device.what ≡ false → is_disk_device (slice_get all k) ≡ true → k ≡ n → ⊥
clean all n device k found other disk same =
    true≢false (sym disk ∙ ap (λ m. is_disk_device (slice_get all m)) same ∙ ap is_disk_device found ∙ other)

-- a device that is no disk has no bad ranges
pub clean_ranges :
    (all : List Declared) (n : ℕ) (device : Declared) (bad : List BadOf) → slice_get all n ≡ Some device → declares_disk device.what ≡ false → AreOfDisks all bad → ranges_of bad n ≡ []
clean_ranges all n device [] found other disks = refl
clean_ranges all n device (b ∷ bad) found other disks =
    let of_disk = λ (x : BadOf). is_disk_device (slice_get all x.disk) ≡ true in
    let apart : (b.disk == n) ≡ false = ne_eqb b.disk n (clean all n device b.disk found other (All-head of_disk b bad disks)) in
    ap (λ t. map (λ (x : BadOf). x.bad) (cond t (b ∷ filter (λ (x : BadOf). x.disk == n) bad) (filter (λ (x : BadOf). x.disk == n) bad))) apart
    ∙ clean_ranges all n device bad found other (All-tail of_disk b bad disks)

-- the ranges of those built stay
pub ranges_more :
    (bad : List BadOf) (built : List Device) (device : Device) (more : List Device) → more ≡ built ++ device ∷ []
    → ((number : ℕ) (d : Device) → slice_get built number ≡ Some d → bads_of_kind d.kind ≡ ranges_of bad number)
    → bads_of_kind device.kind ≡ ranges_of bad (length built)
    → (number : ℕ) (d : Device) → slice_get more number ≡ Some d → bads_of_kind d.kind ≡ ranges_of bad number
ranges_more bad built device more is before here number d found = elim (push_cases built device d number (ap (λ ds. slice_get ds number) (sym is) ∙ found)) [
  | inl within ↦ before number d within.1
  | inr last ↦ ap (λ (x : Device). bads_of_kind x.kind) (sym last.1) ∙ here ∙ ap (ranges_of bad) (sym last.0)
]
