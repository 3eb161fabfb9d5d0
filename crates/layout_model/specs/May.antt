-- How a run may end, given how its fragments end.
use Rattle.std.specs.Prelude.{◌&&◌, ◌||◌, not, slice_get, ℕ, Bool, true, false, IsTrue, List, []}
use Rattle.std.specs.Option.{option_map_or}
use Rattle.stack_base.specs.declared.ids.Bad.{Bad}
use Rattle.stack_base.specs.declared.ids.Status.{Status}
use Rattle.stack_base.specs.declared.ids.Status.TheVariants as status
use Rattle.stack_base.specs.declared.stack.Device.{Device}
use Rattle.stack_base.specs.declared.stack.Stack.{Stack}
use Rattle.stack_base.specs.Fault.{bads_of_kind, fault, status_eq}
use Rattle.stack_base.specs.Tree.{tree}
use Rattle.layout_model.specs.declared.fragment.Fragment.{Fragment}
use Rattle.layout_model.specs.declared.write.Write.{Write}
use Rattle.layout_model.specs.Plan.{Plan, Plans, OneFragment, Pieces, Legs, none, also, plan}

-- Whether a plan may end so, where each fragment ends as `ends` says. A whole run ends as its fragment. Pieces may end well where each of
-- them may, and with an error where one of them may end with it. Legs may end well where one of them may, and with `Io` where none may.
unfoldable mutual
  pub may_end : (Fragment → Status) → Plan → Status → Bool
  may_end ends (OneFragment fragment) end = status_eq end (ends fragment)
  may_end ends (Pieces number plans) status.Ok = each_may_end ends plans status.Ok
  may_end ends (Pieces number plans) end = some_may_end ends plans end
  may_end ends (Legs number plans) status.Ok = some_may_end ends plans status.Ok
  may_end ends (Legs number plans) status.Io = not (some_may_end ends plans status.Ok)
  may_end ends (Legs number plans) end = false

  pub each_may_end : (Fragment → Status) → Plans → Status → Bool
  each_may_end ends none end = true
  each_may_end ends (also first others) end = may_end ends first end && each_may_end ends others end

  pub some_may_end : (Fragment → Status) → Plans → Status → Bool
  some_may_end ends none end = false
  some_may_end ends (also first others) end = may_end ends first end || some_may_end ends others end

-- the bad ranges of the device with this number
abbrev pub bads_of : Stack → ℕ → List Bad
bads_of stack number = option_map_or (λ (device : Device). bads_of_kind device.kind) (slice_get stack.devices.items number) []

-- how a fragment ends on its disk
abbrev pub fault_of : Stack → Fragment → Status
fault_of stack fragment = fault (bads_of stack fragment.disk.0) (record { start = fragment.at; len = fragment.len })

-- the write with this number may end so
abbrev pub MayEnd : Stack → Write → ℕ → Status → Type 0
MayEnd stack write number end = IsTrue (may_end (fault_of stack) (plan (tree stack write.dev.0) number 0 write.start write.count) end)
