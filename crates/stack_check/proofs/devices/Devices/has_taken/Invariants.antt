use Rattle.std.proofs.Common.{◌≡◌, ◌||◌, length, map, drop}
use Rattle.std.specs.List.{list_any}
use Rattle.decl_text.specs.Known.{all_members, number_in}
use Rattle.decl_text.specs.Checks.{is_among, repeats}
use Rattle.stack_check.proofs.Flags.{clash}
use Rattle.stack_check.proofs.devices.Devices.has_taken.Given as goal

abbrev pub invariant-loop-name : goal.invariant-loop-name
invariant-loop-name l = record {
  room : length l.taken ≡ 32;
  rest :
      clash l.taken (map (number_in l.self) (drop l.name-index l.names))
      ≡ (list_any (is_among (all_members l.self)) (map (number_in l.self) l.names) || repeats (map (number_in l.self) l.names));
}
