-- What is sound, from the top down and from below.
use Rattle.std.proofs.Common.{ℕ, List}
use Rattle.stack_base.specs.declared.stack.Kind.{Kind}
use Rattle.stack_base.specs.Mapping.{slot, head}
use Rattle.stack_base.specs.Cutting.{piece_end, IsCut}
use Rattle.stack_base.specs.Tree.{Tree, Split, Mirrored}
unfoldable pub use Rattle.layout_model.specs.Sound.{Sound}

module _ (number : ℕ) (kind : Kind) (sizes : List ℕ) (members : ℕ → Tree) where
  -- the laws of a sound device that cuts
  pub cut_of_split : Sound (Split number kind sizes members) → IsCut (head kind sizes) (piece_end kind sizes) (slot kind sizes)
  unfolding Sound
  cut_of_split sound = sound.0

  -- what is below a sound device that cuts is sound
  pub sound_piece : Sound (Split number kind sizes members) → (k : ℕ) → Sound (members k)
  unfolding Sound
  sound_piece sound = sound.1

module _ (number : ℕ) (sizes : List ℕ) (members : ℕ → Tree) where
  -- what is below a sound device that copies is sound
  pub sound_leg : Sound (Mirrored number sizes members) → (k : ℕ) → Sound (members k)
  unfolding Sound
  sound_leg sound = sound.1
