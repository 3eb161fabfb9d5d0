-- One more pool was noted.
use Rattle.std.proofs.Common.{◌∙◌, List, ap, arith}
use Rattle.std.specs.Prelude.{slice_index_or, slice_set}
use Rattle.std.proofs.Math.ListN.{length-set}
use Rattle.plain_core.specs.Cores.{state_of_core}
use Rattle.trace_replay.specs.declared.extents.Extent.{Extent}
use Rattle.trace_replay.specs.Replay.{wider}
use Rattle.trace_replay.proofs.WalkLemmas.{noted_on}
use Rattle.trace_replay.proofs.extents.note.Goals as goal

pub noting-preserved : goal.noting-preserved
noting-preserved c =
    let inv = c.noting.invariant in
    let at = c.noting.place in
    let f = wider (state_of_core c.args.core.now) in
    record {
      is = ap (λ (es : List Extent). slice_set es at c.wider.result) inv.is
          ∙ noted_on f c.args.extents.now at _ c.wider.result (omega (arith, c.noting-test.true, inv.long, c.noting.auto.place-end))
          (c.wider.ensures ∙ ap (λ (es : List Extent). f (slice_index_or es at _)) inv.is);
      long = length-set c.noting.extents at c.wider.result ∙ inv.long;
    }
