-- New pools.
use Rattle.std.proofs.Common.{◌≡◌, ◌≢◌, ◌<◌, ◌≤◌, ◌==◌, ℕ, zero, suc, Bool, true, false, List, [], ◌∷◌, length, max, Some, refl, sym, ap, arith}
use Rattle.std.specs.Prelude.{slice_get}
use Rattle.std.specs.Option.{option_map_or}
use Rattle.std.proofs.lemmas.Bool.{lt-ltb}
use Rattle.stack_base.specs.declared.ids.DevId.{DevId}
use Rattle.stack_base.specs.declared.ids.PoolId.{PoolId}
use Rattle.stack_base.specs.declared.ids.PoolId.TheVariants.{Bios}
use Rattle.stack_base.specs.declared.stack.Device.{Device}
use Rattle.stack_base.specs.declared.stack.Stack.{Stack}
use Rattle.stack_base.specs.PoolId.{pool_number}
use Rattle.run_machine.specs.Opened.{reserve_of}
use Rattle.task_core.specs.opened.Openings.{widest, set_index, slip_index, has_set_at}
use Rattle.task_steps.specs.Stage.{has_mirror_in}
use Rattle.task_steps.specs.Routed.{Routing, routing_setup}
use Rattle.run_machine.specs.Scene.{keeps_data, is_mirror}

-- a pool is never narrower than it begins
pub widest_least : (reserves : List (PoolId × ℕ)) (number most : ℕ) → most ≤ widest reserves number most
widest_least [] number most = omega arith
widest_least (reserve ∷ reserves) number most = by_case (widest_least reserves number most) (widest_least reserves number (max most reserve.1)) (pool_number reserve.0 == number) refl
  where
    by_case : most ≤ widest reserves number most → max most reserve.1 ≤ widest reserves number (max most reserve.1) → (b : Bool)
        → (pool_number reserve.0 == number) ≡ b → most ≤ widest (reserve ∷ reserves) number most
    by_case same more true q = rw (q) (omega (arith, more))
    by_case same more false q = rw (q) same

pub set_used : (routing : Routing) (dev : ℕ) → dev < length routing.stack.devices.items → keeps_data ((routing_setup routing).tree dev) ≡ false
    → has_set_at routing (suc dev) ≡ true
set_used routing dev lt keeps = rw (lt-ltb dev (length routing.stack.devices.items) lt, keeps) refl

pub slips_used : (routing : Routing) (dev : ℕ) → dev < length routing.stack.devices.items → is_mirror ((routing_setup routing).tree dev) ≡ true
    → has_mirror_in routing dev ≡ true
slips_used routing dev lt mirror = rw (lt-ltb dev (length routing.stack.devices.items) lt, mirror) refl

pub reserve_is : (stack : Stack) (dev : DevId) (device : Device) → slice_get stack.devices.items dev.0 ≡ Some device
    → device.reserve ≡ reserve_of stack (Bios dev)
reserve_is stack dev device found = sym (ap (λ o. option_map_or (λ (d : Device). d.reserve) o 0) found)

-- numbers of pools are apart
pub sets_apart : (i n : ℕ) → i < n → set_index i ≢ set_index n
sets_apart zero (suc n) lt e = absurd (omega (arith, e))
sets_apart (suc i) (suc n) lt e = absurd (omega (arith, lt, e))
sets_apart zero zero lt e = absurd (omega (arith, lt))
sets_apart (suc i) zero lt e = absurd (omega (arith, lt))

pub slips_apart : (i n : ℕ) → i < n → slip_index i ≢ slip_index n
slips_apart i n lt e = absurd (omega (arith, lt, e))
