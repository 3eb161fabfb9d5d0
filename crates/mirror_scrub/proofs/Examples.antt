-- Mirrors of two disks of eight sectors, where the second has data in its first sector, or in three; and a device that
-- is no mirror.
use Rattle.std.proofs.Common.{◌≡◌, ◌==◌, ◌&&◌, ◌||◌, [], ◌∷◌, cond, refl}
use Rattle.stack_base.specs.Tree.{Tree, Leaf, Mirrored}
use Rattle.stack_base.specs.Mapping.{smallest}
use Rattle.mirror_scrub.specs.Seen.{Images, compared, differing, seen, stretches_from, unlike_count}
use Rattle.model_disks.specs.Runs.{run_at, runs_from, starts_run}

two : Tree
two = Mirrored 2 (8 ∷ 8 ∷ []) (λ k. Leaf k 8)

first_there : Images
first_there number at = cond (number == 1 && at == 0) (1 ∷ []) (0 ∷ [])

three_there : Images
three_there number at = cond (number == 1 && (at == 0 || at == 1 || at == 7)) (1 ∷ []) (0 ∷ [])

one_unlike : unlike_count first_there two 1 ≡ 1
unfolding two first_there seen smallest differing
one_unlike = refl

one_stretch : stretches_from first_there two 1 0 ≡ record { start = 0; len = 1 } ∷ []
unfolding two first_there seen smallest differing runs_from run_at starts_run
one_stretch = refl

-- one of them ends with the mirror
two_stretches : stretches_from three_there two 1 0 ≡ record { start = 0; len = 2 } ∷ record { start = 7; len = 1 } ∷ []
unfolding two three_there seen smallest differing runs_from run_at starts_run
two_stretches = refl

one_leg : compared two ≡ 1 ∷ []
unfolding two
one_leg = refl

no_leg : compared (Leaf 0 8) ≡ []
no_leg = refl

alone : compared (Mirrored 2 (8 ∷ []) (λ k. Leaf k 8)) ≡ []
alone = refl
