use Rattle.std.proofs.Common.{◌≡◌, ◌+◌, ◌-◌, ◌*◌, ◌<◌, length, take, sum_by}
use Rattle.stack_base.specs.declared.ids.DevId.{DevId}
use Rattle.stack_base.specs.Tree.{tree}
use Rattle.layout_model.specs.Need.{fragments_in_run, needed}
use Rattle.layout_model.specs.Pieces.{IsFirstRun}
use Rattle.layout_model.proofs.counts.+counts.Given as goal

abbrev pub decreases-count : goal.decreases-count
decreases-count l = 3 * l.dev.0 + 2

abbrev pub decreases-count_legs : goal.decreases-count_legs
decreases-count_legs l = 3 * l.dev.0

abbrev pub decreases-count_pieces : goal.decreases-count_pieces
decreases-count_pieces l = 3 * l.dev.0 + 1

abbrev pub decreases-count_split : goal.decreases-count_split
decreases-count_split l = 3 * l.dev.0

abbrev pub invariant-count_legs-loop-member : goal.invariant-count_legs-loop-member
invariant-count_legs-loop-member l = record {
  needed : l.needed ≡ 1 + length l.member-items + sum_by (λ (m : DevId). needed (tree l.stack m.0) l.start l.len) (take l.member-index l.member-items);
  fragments : l.fragments ≡ sum_by (λ (m : DevId). fragments_in_run (tree l.stack m.0) l.start l.len) (take l.member-index l.member-items);
}

abbrev pub invariant-count_split-loop-done : goal.invariant-count_split-loop-done
invariant-count_split-loop-done l = record {
  left : l.done < l.len;
  piece : IsFirstRun l.stack l.dev.0 (l.start + l.done) (l.len - l.done) l.piece;
  needed : l.needed + needed (tree l.stack l.dev.0) (l.start + l.done) (l.len - l.done) ≡ needed (tree l.stack l.dev.0) l.start l.len;
  fragments : l.fragments + fragments_in_run (tree l.stack l.dev.0) (l.start + l.done) (l.len - l.done) ≡ fragments_in_run (tree l.stack l.dev.0) l.start l.len;
}

abbrev pub decreases-count_split-loop-done : goal.decreases-count_split-loop-done
decreases-count_split-loop-done l = l.len - l.done
