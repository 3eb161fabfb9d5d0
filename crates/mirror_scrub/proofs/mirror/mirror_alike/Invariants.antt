use Rattle.std.proofs.Common.{◌≡◌, ◌==◌, ◌-◌, ◌≤◌}
use Rattle.std.specs.List.{list_all, range_with_len}
use Rattle.stack_base.specs.Tree.{tree, legs_of}
use Rattle.mirror_scrub.specs.Seen.{held, unlike_count}
use Rattle.mirror_scrub.specs.Text.{mirror_alike}
use Rattle.mirror_scrub.proofs.mirror.mirror_alike.Given as goal

-- all are alike where those from here on are
abbrev pub invariant-legs : goal.invariant-legs
invariant-legs l = record {
  some : 1 ≤ l.leg;
  rest : mirror_alike l.stack (held l.disks) l.mirror.0
      ≡ list_all (λ leg. unlike_count (held l.disks) (tree l.stack l.mirror.0) leg == 0)
      (range_with_len l.leg (legs_of (tree l.stack l.mirror.0) - l.leg));
}
