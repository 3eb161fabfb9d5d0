-- Writes of one round that do not overlap: at most one of their sectors has a way to a sector of a disk.
use Rattle.std.specs.Prelude.{◌≡◌, ◌⊎◌, ◌+◌, ◌<◌, ◌≤◌, slice_get, ℕ, List, Some, All}
use Rattle.stack_base.specs.declared.stack.Stack.{Stack}
use Rattle.stack_base.specs.Stack.{IsStack, IsMember}
use Rattle.layout_model.specs.declared.write.Write.{Write}
use Rattle.layout_model.specs.Laid.{Reaches, round_of}
use Rattle.layout_model.specs.Writes.{IsWrite}

-- no device has this one as a member
abbrev pub IsTop : Stack → ℕ → Type 0
IsTop stack number = (device place : ℕ) → IsMember stack device place number → ⊥

-- two writes to one device have no sector in common
abbrev pub DoNotOverlap : Write → Write → Type 0
DoNotOverlap a b = a.dev.0 ≡ b.dev.0 → (a.start + a.count ≤ b.start) ⊎ (b.start + b.count ≤ a.start)

-- the writes are to devices that are no members, and two of one round are apart
pub record AreApartByRounds (stack : Stack) (writes : List Write) (rounds : List ℕ) : Type 0 where
  pub tops : All (λ (write : Write). IsTop stack write.dev.0) writes
  pub apart : (i j : ℕ) (a b : Write) → i < j → slice_get writes i ≡ Some a → slice_get writes j ≡ Some b → round_of rounds i ≡ round_of rounds j → DoNotOverlap a b

-- two ways are one: of one write, from one sector of it, by the same choices and in one fragment
pub record AreOneWay {stack : Stack} {a b : Write} {i j disk at : ℕ} (here : Reaches stack a i disk at) (there : Reaches stack b j disk at) : Type 0 where
  pub number : i ≡ j
  pub offset : here.offset ≡ there.offset
  pub choices : here.choices ≡ there.choices
  pub fragment : here.fragment ≡ there.fragment

-- so are any two ways of writes of one round to one sector of a disk
abbrev pub OneWayARound : Type 0
OneWayARound =
    (stack : Stack) (writes : List Write) (rounds : List ℕ) (i j disk at : ℕ) (a b : Write) → IsStack stack → All (IsWrite stack) writes
    → AreApartByRounds stack writes rounds → slice_get writes i ≡ Some a → slice_get writes j ≡ Some b → round_of rounds i ≡ round_of rounds j
    → (here : Reaches stack a i disk at) (there : Reaches stack b j disk at) → AreOneWay here there
