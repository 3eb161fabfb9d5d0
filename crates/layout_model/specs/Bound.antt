-- What all writes of a scenario need together, and how much of it is too much.
use Rattle.std.specs.Prelude.{◌≡◌, ◌+◌, ◌<◌, ◌≤◌, ℕ, List, length, take, sum_by}
use Rattle.stack_base.specs.declared.stack.Stack.{Stack}
use Rattle.layout_model.specs.declared.write.Write.{Write}
use Rattle.layout_model.specs.declared.totals.Bounds.{Bounds}
use Rattle.layout_model.specs.declared.totals.TooMuchWork.{TooMuchWork}
use Rattle.layout_model.specs.NeedCounts.{elements, write_fragments}

-- no scenario may need more elements
abbrev pub most_elements : ℕ
most_elements = 1048576

-- the elements that all of these writes need
abbrev pub all_elements : Stack → List Write → ℕ
all_elements stack writes = sum_by (λ write. elements stack write) writes

-- the fragments in which all of these writes come to the disks
abbrev pub all_fragments : Stack → List Write → ℕ
all_fragments stack writes = sum_by (λ write. write_fragments stack write) writes

-- the writes need no more elements than they may, and so much
pub record IsBound (stack : Stack) (writes : List Write) (z : ℕ) (bounds : Bounds) : Type 0 where
  pub allowed : all_elements stack writes ≤ most_elements
  pub elements : bounds.e ≡ all_elements stack writes
  pub fragments : bounds.g ≡ all_fragments stack writes
  pub entries : bounds.z ≡ z
  -- a write has no more fragments than elements
  pub fewer : bounds.g ≤ bounds.e

-- the first write with which the writes need more than they may, and what those up to it need
pub record IsTooMuch (stack : Stack) (writes : List Write) (refusal : TooMuchWork) : Type 0 where
  pub there : refusal.write < length writes
  pub allowed : all_elements stack (take refusal.write writes) ≤ most_elements
  pub elements : refusal.e ≡ all_elements stack (take (refusal.write + 1) writes)
  pub above : most_elements < refusal.e
