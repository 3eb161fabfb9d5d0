-- What stays true of a disk's bad ranges and of the bios that wait in it.
use Rattle.std.proofs.Common.{◌≡◌, ℕ, suc, List, take, drop, sym, subst}
use Rattle.std.specs.Prelude.{All, remove}
use Rattle.std.proofs.lemmas.List.Elements.{All-append, All-take, All-drop}
use Rattle.stack_base.specs.declared.ids.Bad.{Bad}
use Rattle.bio_records.specs.declared.bio.Pad.{Pad}
use Rattle.bio_records.specs.Items.{Item}
use Rattle.model_disks.specs.Kept.{IsWithin, IsSoundDisk}

-- what holds of all holds of those that are left
pub all_but_one : {X : Type 0} (P : X → Type 0) (xs : List X) (index : ℕ) → All P xs → All P (remove xs index)
all_but_one P xs index all = All-append P (take index xs) (drop (suc index) xs) (All-take P index xs all) (All-drop P (suc index) xs all)

-- a disk with one bio less
pub kept_but_one : (sectors same : ℕ) (bads : List Bad) (items rest : List (Item Pad)) (index : ℕ) → same ≡ sectors → rest ≡ remove items index
    → IsSoundDisk sectors bads items → IsSoundDisk same bads rest
kept_but_one sectors same bads items rest index is less kept =
    subst (λ n. IsSoundDisk n bads rest) (sym is)
    (record { size = kept.size; bad = kept.bad; pending = subst (All (IsWithin sectors)) (sym less) (all_but_one (IsWithin sectors) items index kept.pending) })
