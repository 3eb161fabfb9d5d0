-- What a device shows is what stands on the disk that it shows.
use Rattle.std.proofs.Common.{◌≡◌, ◌==◌, ◌+◌, ◌<◌, ◌≤◌, ℕ, Bool, true, false, List, [], ◌∷◌, length, get_or, Option, None, Some, refl, sym, ap, ◌∙◌, subst, arith}
use Rattle.std.specs.Prelude.{find, IsSomeAnd}
use Rattle.std.proofs.lemmas.Option.{same_Some}
use Rattle.stack_base.specs.Mapping.{slot}
use Rattle.stack_base.specs.Stack.{IsStack}
use Rattle.stack_base.specs.Tree.{Tree, Leaf, Split, Mirrored, size, tree}
use Rattle.stack_base.specs.declared.stack.Stack.{Stack}
use Rattle.layout_model.proofs.Stacks.{element}
use Rattle.layout_model.specs.Shown.{IsStretch, shown_sector}
use Rattle.layout_model.specs.Way.{Place}
use Rattle.layout_model.specs.declared.piece.FirstRun.{FirstRun}
use Rattle.model_disks.specs.Disks.{DiskState}
use Rattle.mirror_scrub.specs.Seen.{AreDisksOf, Images, held, seen}

pub seen_shown : (images : Images) (t : Tree) (s : ℕ) → seen images t s ≡ images (shown_sector t s).disk (shown_sector t s).at
unfolding seen shown_sector
seen_shown images (Leaf number sectors) s = refl
seen_shown images (Split number kind sizes members) s = seen_shown images (members (slot kind sizes s).member) (slot kind sizes s).at
seen_shown images (Mirrored number sizes members) s = seen_shown images (members 0) s

-- what holds of a disk that was found
pub there_is : {X : Type 0} (o : Option X) (P Q : X → Type 0) → ((x : X) → P x → Q x) → IsSomeAnd o P → IsSomeAnd o Q
there_is None P Q each is = is
there_is (Some x) P Q each is = each x is

-- its image is the one with its number
pub held_is : (disks : List DiskState) (number : ℕ) (disk : DiskState) → find (λ (disk : DiskState). disk.dev.0 == number) disks ≡ Some disk
    → (at : ℕ) → held disks number at ≡ get_or disk.image at []
held_is [] number disk found at = cc found
held_is (first ∷ others) number disk found at =
    by_test (λ later. held_is others number disk later at) (first.dev.0 == number) refl where
      by_test : (find (λ (disk : DiskState). disk.dev.0 == number) others ≡ Some disk → held others number at ≡ get_or disk.image at [])
          → (b : Bool) → (first.dev.0 == number) ≡ b → held (first ∷ others) number at ≡ get_or disk.image at []
      by_test later true is = rw is (ap (λ (d : DiskState). get_or d.image at []) (same_Some first disk (rw is at found)))
      by_test later false is = rw is (later (rw is at found))

module _ (stack : Stack) (disks : List DiskState) (dev start len : ℕ) (to : FirstRun) (disk : DiskState) (is : IsStretch stack dev start len to)
    (found : find (λ (disk : DiskState). disk.dev.0 == to.dev.0) disks ≡ Some disk) where
  -- the disk of a stretch has the words that the device shows
  pub shows_one : (i : ℕ) → i < to.len → get_or disk.image (to.at + i) [] ≡ seen (held disks) (tree stack dev) (start + i)
  shows_one i lt =
      sym
      (seen_shown (held disks) (tree stack dev) (start + i)
      ∙ ap (λ (p : Place). held disks p.disk p.at) (is.shows i lt)
      ∙ held_is disks to.dev.0 disk found (to.at + i))

  -- and has the sectors
  pub within_one : AreDisksOf stack disks → (n : ℕ) → n ≤ to.len → to.at + n ≤ length disk.image
  within_one are n le =
      omega (
        arith,
        le,
        is.inside,
        subst (λ (o : Option DiskState). IsSomeAnd o (λ d. length d.image ≡ size (tree stack to.dev.0))) found (are to.dev.0 is.known is.disk),
      )

  -- which are not many
  pub low_one : IsStack stack → to.at + to.len ≤ 262144
  low_one good =
      let device = element stack.devices.items to.dev.0 is.known in
      omega (arith, is.inside, (good.each to.dev.0 device.0 device.1).small)
