-- Bad ranges of disks.
use Rattle.std.proofs.Common.{◌≡◌, ℕ, zero, suc, true, List, [], ◌∷◌, ◌++◌, get_or, ap, ◌∙◌, arith}
use Rattle.std.specs.Prelude.{slice_get}
use Rattle.decl_text.specs.Known.{Declared, BadOf}
use Rattle.decl_text.specs.Checks.{is_disk_device}
use Rattle.stack_check.specs.Sound.{AreOfDisks}

disk_stays : (devices : List Declared) (device : Declared) (k : ℕ) → is_disk_device (slice_get devices k) ≡ true → is_disk_device (slice_get (devices ++ device ∷ []) k) ≡ true
disk_stays [] device k is = absurd (grind arith)
disk_stays (first ∷ devices) device zero is = is
disk_stays (first ∷ devices) device (suc k) is = disk_stays devices device k is

-- a disk stays one behind one more device
pub of_disks_push :
    (devices : List Declared) (device : Declared) (bad : List BadOf) (more : List Declared) → more ≡ devices ++ device ∷ []
    → AreOfDisks devices bad → AreOfDisks more bad
of_disks_push devices device bad more is disks k d lt =
    ap (λ ds. is_disk_device (slice_get ds (get_or bad k d).disk)) is ∙ disk_stays devices device (get_or bad k d).disk (disks k d lt)
