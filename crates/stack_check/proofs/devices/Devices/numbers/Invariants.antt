use Rattle.std.proofs.Common.{◌≡◌, map, take}
use Rattle.stack_base.specs.declared.ids.DevId.{DevId}
use Rattle.decl_text.specs.Known.{number_in}
use Rattle.stack_check.proofs.devices.Devices.numbers.Given as goal

abbrev pub invariant-loop-name : goal.invariant-loop-name
invariant-loop-name l = map (λ (m : DevId). m.0) l.numbers.items ≡ map (number_in l.self) (take l.name-index l.names)
