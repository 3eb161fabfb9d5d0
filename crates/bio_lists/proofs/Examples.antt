-- A punt of small lists, computed.
use Rattle.std.specs.Prelude.{◌≡◌, ℕ, [], ◌∷◌, refl}
use Rattle.elem_ledger.specs.Ledger.{LedgerId}
use Rattle.stack_base.specs.declared.ids.SetId.{SetId}
use Rattle.stack_base.specs.declared.ids.SetId.TheVariants.{Fs, Of}
use Rattle.bio_records.specs.declared.bio.Pad.{Pad}
use Rattle.bio_records.specs.declared.tasks.TaskLists.{TaskLists}
use Rattle.bio_records.specs.Clear.{no_bio}
use Rattle.bio_records.specs.Items.{Item}
use Rattle.bio_lists.specs.Punt.{punted, unpunted}

of : ℕ → SetId
of dev = Of (record { 0 = dev })

-- the bio of a write, of this set
item : LedgerId → ℕ → SetId → Item Pad
item share write set = record { pad = record { leg = 0 }; bio = record no_bio { write = write; set = set }; short = []; share = share }

lists : LedgerId → TaskLists
lists share = record {
  list0 = item share 0 (of 2) ∷ item share 1 Fs ∷ item share 2 (of 2) ∷ item share 3 (of 3) ∷ [];
  list1 = item share 10 (of 3) ∷ item share 11 (of 2) ∷ [];
}

of_set_2 : (share : LedgerId) → punted (of 2) (lists share) ≡ item share 0 (of 2) ∷ item share 2 (of 2) ∷ item share 11 (of 2) ∷ []
unfolding of item lists
of_set_2 share = refl

without_set_2 : (share : LedgerId) → unpunted (of 2) (lists share)
    ≡ record { list0 = item share 1 Fs ∷ item share 3 (of 3) ∷ []; list1 = item share 10 (of 3) ∷ [] }
unfolding of item lists
without_set_2 share = refl

of_no_set : (share : LedgerId) → punted (of 4) (lists share) ≡ []
unfolding of item lists
of_no_set share = refl

of_the_writers : (share : LedgerId) → punted Fs (lists share) ≡ item share 1 Fs ∷ []
unfolding of item lists
of_the_writers share = refl
