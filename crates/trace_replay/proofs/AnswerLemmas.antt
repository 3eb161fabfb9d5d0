-- The lines of pools.
use Rattle.std.proofs.Common.{◌+◌, ◌≡◌, ◌≤◌, ℕ, List, [], ◌∷◌, ◌++◌, length, sym, ap, arith}
use Rattle.std.specs.Prelude.{codes, decimal, All}
use Rattle.std.proofs.lemmas.List.{append_assoc}
use Rattle.std.proofs.lemmas.List.Elements.{All-append, All-cons, All-nil}
use Rattle.stack_base.specs.declared.ids.PoolId.TheVariants.{FsBios, FsVecs}
use Rattle.stack_base.specs.declared.stack.Device.{Device}
use Rattle.stack_base.specs.declared.stack.Stack.{Stack}
use Rattle.outside_io.specs.Saying.{joined_text}
use Rattle.report_text.specs.Pools.{HasDeviceOfPool, pools_at, rising_from, told_pools}
use Rattle.report_text.proofs.PoolLemmas.{device_has}

-- a name in two parts
pub named : (owner element : List ℕ) (lowest most : ℕ)
    → joined_text (codes "pool " ∷ owner ∷ element ∷ codes " lowest " ∷ decimal lowest ∷ codes " most " ∷ decimal most ∷ codes "\n" ∷ [])
    ≡ joined_text (codes "pool " ∷ (owner ++ element) ∷ codes " lowest " ∷ decimal lowest ∷ codes " most " ∷ decimal most ∷ codes "\n" ∷ [])
named owner element lowest most =
    ap (λ xs. codes "pool " ++ xs)
    (sym (append_assoc owner element (joined_text (codes " lowest " ∷ decimal lowest ∷ codes " most " ∷ decimal most ∷ codes "\n" ∷ []))))

-- each pool of a report is one of the stack
rising_has : (stack : Stack) (number : ℕ) (devices : List Device) → number + length devices ≤ length stack.devices.items → All (HasDeviceOfPool stack) (rising_from number devices)
unfolding rising_from
rising_has stack number [] few = All-nil (HasDeviceOfPool stack)
rising_has stack number (device ∷ more) few =
    All-append (HasDeviceOfPool stack) (pools_at number device.kind) (rising_from (number + 1) more)
    (device_has stack number device.kind (omega (arith, few))) (rising_has stack (number + 1) more (omega (arith, few)))

pub told_have : (stack : Stack) → All (HasDeviceOfPool stack) (told_pools stack)
told_have stack =
    All-cons (HasDeviceOfPool stack) FsBios (FsVecs ∷ rising_from 0 stack.devices.items) tt
    (All-cons (HasDeviceOfPool stack) FsVecs (rising_from 0 stack.devices.items) tt (rising_has stack 0 stack.devices.items (omega arith)))
