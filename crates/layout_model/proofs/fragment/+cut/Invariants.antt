use Rattle.std.proofs.Common.{◌≡◌, ◌+◌, ◌*◌, ◌≤◌, ◌++◌, take}
use Rattle.std.specs.List.{flat_map}
use Rattle.stack_base.specs.declared.ids.DevId.{DevId}
use Rattle.stack_base.specs.Tree.{tree, size}
use Rattle.layout_model.specs.Plan.{frags}
use Rattle.layout_model.proofs.fragment.+cut.Given as goal

abbrev pub decreases-copy_legs : goal.decreases-copy_legs
decreases-copy_legs l = 2 * l.dev.0

abbrev pub decreases-cut : goal.decreases-cut
decreases-cut l = 2 * l.dev.0 + 1

abbrev pub decreases-cut_pieces : goal.decreases-cut_pieces
decreases-cut_pieces l = 2 * l.dev.0

abbrev pub invariant-copy_legs-legs : goal.invariant-copy_legs-legs
invariant-copy_legs-legs l =
    l.into.items
    ≡ l.fn.into.items ++ flat_map (λ (m : DevId). frags (tree l.fn.stack m.0) l.write l.run.offset l.run.start l.run.len) (take l.member-index l.member-items)

-- what is left is within the device and the write, and its fragments are those that are missing
abbrev pub invariant-cut_pieces-cutting : goal.invariant-cut_pieces-cutting
invariant-cut_pieces-cutting l =
    record {
      within : l.rest.start + l.rest.len ≤ size (tree l.fn.stack l.fn.dev.0);
      fits : l.rest.offset + l.rest.len ≤ 262144;
      so_far : l.into.items ++ frags (tree l.fn.stack l.fn.dev.0) l.fn.write l.rest.offset l.rest.start l.rest.len
          ≡ l.fn.into.items ++ frags (tree l.fn.stack l.fn.dev.0) l.fn.write l.fn.run.offset l.fn.run.start l.fn.run.len;
    }

abbrev pub decreases-cut_pieces-cutting : goal.decreases-cut_pieces-cutting
decreases-cut_pieces-cutting l = l.rest.len
