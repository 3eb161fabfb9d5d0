use Rattle.std.proofs.Common.{◌≡◌, ◌++◌, ℕ, map, Some}
use Rattle.std.specs.Prelude.{slice_get}
use Rattle.std.specs.Vec.Iter.{into_iter_items}
use Rattle.stack_base.specs.declared.stack.Device.{Device}
use Rattle.stack_base.specs.Fault.{bads_of_kind}
use Rattle.decl_text.specs.Accepting.{declared_form}
use Rattle.stack_check.specs.Finish.{ranges_of}
use Rattle.stack_check.proofs.built.devices_of.Given as goal

abbrev pub invariant-loop-placed : goal.invariant-loop-placed
invariant-loop-placed l = record {
  can : (goal.iterator-loop-placed).can_next l.placed-iterator;
  finite : (goal.iterator-loop-placed).is_finite l.placed-iterator;
  shown : map declared_form l.devices.items ++ into_iter_items l.placed-iterator ≡ l.fn.all.items;
  ranges : (number : ℕ) (device : Device) → slice_get l.devices.items number ≡ Some device → bads_of_kind device.kind ≡ ranges_of l.bad number;
}
