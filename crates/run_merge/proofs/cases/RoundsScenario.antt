-- One disk of eight sectors, and a write in each of two rounds: a scenario.
use Rattle.std.proofs.Common.{◌≡◌, ◌<◌, ℕ, zero, suc, [], ◌∷◌, slice_get, Some, refl, sym, subst, arith}
use Rattle.std.proofs.lemmas.List.Elements.{All-cons, All-nil}
use Rattle.std.proofs.lemmas.Option.{none-some, same_Some}
use Rattle.std.specs.Global.{Global}
use Rattle.stack_base.specs.declared.stack.Device.{Device}
use Rattle.stack_base.specs.Stack.{IsDevice, IsMember}
use Rattle.stack_base.specs.Tree.{tree, size, most_begun, tree_below, over_shape}
use Rattle.layout_model.specs.declared.write.Write.{Write}
use Rattle.layout_model.specs.Writes.{IsWrite}
use Rattle.run_machine.proofs.cases.OneDisk.{stack}
use Rattle.run_machine.proofs.cases.RoundsRun.{scenario, write}
use Rattle.block_core.specs.Scenarios.{IsScenario}

module _ (memory : Global) where
  no_member : (d i m : ℕ) → IsMember (stack memory 8) d i m → ⊥
  no_member zero i m (device, is, at) =
      none-some (record { 0 = m }) (subst (λ (d : Device). slice_get d.members.items i ≡ Some (record { 0 = m })) (sym (same_Some _ device is)) at)
  no_member (suc d) i m (device, is, at) = none-some device is

  is_device : (number : ℕ) (device : Device) → slice_get (stack memory 8).devices.items number ≡ Some device → IsDevice (stack memory 8) number device
  unfolding tree_below over_shape most_begun
  is_device zero device is = subst (IsDevice (stack memory 8) zero) (same_Some _ device is) (record {
    below = λ i m at. absurd (none-some m at);
    shape = refl;
    some = omega arith;
    small = omega arith;
    narrow = omega arith;
  })
  is_device (suc n) device is = absurd (none-some device is)

  pub is_scenario : IsScenario (scenario memory)
  unfolding tree_below over_shape most_begun
  is_scenario = record {
    stack = record {
      few = omega arith;
      each = is_device;
      once = λ p q i j m a b. absurd (no_member p i m a);
      sizes = λ number lt. sizes_are number lt;
    };
    writes = All-cons (IsWrite (stack memory 8)) (write 0) (write 1 ∷ []) (is_write 0 (omega arith)) (All-cons (IsWrite (stack memory 8)) (write 1) [] (is_write 1 (omega arith)) (All-nil (IsWrite (stack memory 8))));
    writers = All-cons (λ (w : Write). w.task < 8) (write 0) (write 1 ∷ []) (omega arith) (All-cons (λ (w : Write). w.task < 8) (write 1) [] (omega arith) (All-nil (λ (w : Write). w.task < 8)));
    rounds = refl;
  }
    where
      is_write : (number : ℕ) → number < 2 → IsWrite (stack memory 8) (write number)
      is_write number lt = record { known = omega arith; some = omega arith; within = omega (arith, lt) }

      sizes_are : (number : ℕ) → number < 1 → slice_get (stack memory 8).sizes.items number ≡ Some (size (tree (stack memory 8) number))
      sizes_are zero lt = refl
      sizes_are (suc n) lt = absurd (omega (arith, lt))
