-- Tasks that are parted into those that are some worker's own, and the others.
use Rattle.std.specs.Prelude.{◌≡◌, ◌⊎◌, ◌++◌, List, [], ◌∷◌, All, IsPermutation}

module _ {T : Type 0} (IsOwn : T → Type 0) where
  -- one more task was put to its own, or to the others
  abbrev pub PutBy : T → List T → List T → List T → List T → Type 0
  PutBy task own others own' others' =
      (IsOwn task × (own' ≡ own ++ task ∷ []) × (others' ≡ others)) ⊎ ((IsOwn task → ⊥) × (own' ≡ own) × (others' ≡ others ++ task ∷ []))

  -- so far, with some left
  pub record IsParting (all own others left : List T) : Type 0 where
    pub whole : IsPermutation all (own ++ (others ++ left))
    pub own_are : All IsOwn own
    pub others_are : All (λ task. IsOwn task → ⊥) others
