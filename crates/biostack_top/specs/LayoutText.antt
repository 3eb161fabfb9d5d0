-- Which fragments `layout` tells.
use Rattle.std.specs.Prelude.{◌≡◌, ◌+◌, List, [], ◌∷◌, ◌++◌, ℕ}
use Rattle.stack_base.specs.declared.stack.Stack.{Stack}
use Rattle.layout_model.specs.declared.write.Write.{Write}
use Rattle.layout_model.specs.declared.fragment.Fragment.{Fragment}
use Rattle.layout_model.specs.Fragments.{AreFragmentsOf}

-- those of a write were added behind the old ones
abbrev pub AddsFragmentsOf : Stack → ℕ → Write → List Fragment → List Fragment → Type 0
AddsFragmentsOf stack number write old new = (own : List Fragment) × AreFragmentsOf stack number write own × (new ≡ old ++ own)

-- the fragments of these writes, the first of which has this number: those of each write, one write after the other
abbrev pub AreLaid : Stack → ℕ → List Write → List Fragment → Type 0
AreLaid stack number [] fragments = fragments ≡ []
AreLaid stack number (write ∷ more) fragments = (own : List Fragment) × (others : List Fragment)
    × AreFragmentsOf stack number write own × AreLaid stack (number + 1) more others × (fragments ≡ own ++ others)
