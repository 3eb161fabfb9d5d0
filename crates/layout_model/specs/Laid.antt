-- What stands on the disks when all writes have ended.
use Rattle.std.specs.Prelude.{◌≡◌, ◌+◌, ◌<◌, ◌≤◌, slice_get, slice_index_or, ℕ, List, Some}
use Rattle.stack_base.specs.declared.ids.Status.TheVariants as status
use Rattle.stack_base.specs.declared.stack.Stack.{Stack}
use Rattle.stack_base.specs.Tree.{tree}
use Rattle.stack_base.specs.Words.{sector_data, zero_sector}
use Rattle.layout_model.specs.declared.fragment.Fragment.{Fragment}
use Rattle.layout_model.specs.declared.write.Write.{Write}
use Rattle.layout_model.specs.Way.{FitsWay, place}
use Rattle.layout_model.specs.Fragments.{IsIn}
use Rattle.layout_model.specs.May.{fault_of}

-- a way of the write with this number to a sector of a disk: the sector of the write that goes there, the choices that lead it, and the
-- fragment in which it comes
pub record Reaches (stack : Stack) (write : Write) (number disk at : ℕ) : Type 0 where
  pub offset : ℕ
  pub choices : List ℕ
  pub fragment : Fragment
  pub within : offset < write.count
  pub fits : FitsWay (tree stack write.dev.0) (write.start + offset) choices
  pub ends : place (tree stack write.dev.0) (write.start + offset) choices ≡ record { disk = disk; at = at }
  pub inside : IsIn (tree stack write.dev.0) number 0 write.start write.count choices offset fragment

-- such a way in a fragment that ends well
pub record Lands (stack : Stack) (write : Write) (number disk at : ℕ) : Type 0 where
  pub way : Reaches stack write number disk at
  pub well : fault_of stack way.fragment ≡ status.Ok

-- the round of the write with this number
abbrev pub round_of : List ℕ → ℕ → ℕ
round_of rounds number = slice_index_or rounds number 0

-- no write of a later round has a sector that lands there
abbrev pub IsLatest : Stack → List Write → List ℕ → ℕ → ℕ → ℕ → Type 0
IsLatest stack writes rounds disk at number =
    (other : ℕ) (write : Write) → slice_get writes other ≡ Some write → Lands stack write other disk at → round_of rounds other ≤ round_of rounds number

-- what stands in a sector of a disk when these writes of these rounds have ended
pub record IsLaid (stack : Stack) (writes : List Write) (rounds : List ℕ) (disk at : ℕ) (sector : List ℕ) : Type 0 where
  -- the data of the sector that lands there, in the latest round in which one does
  pub written : (number : ℕ) (write : Write) → slice_get writes number ≡ Some write → (there : Lands stack write number disk at)
      → IsLatest stack writes rounds disk at number → sector ≡ sector_data write.tag there.way.offset
  -- and zeros if none does
  pub empty : ((number : ℕ) (write : Write) → slice_get writes number ≡ Some write → Lands stack write number disk at → ⊥)
      → sector ≡ zero_sector
