use Rattle.std.proofs.Common.{rules, tests, ◌/◌, arith}
use Rattle.std.proofs.lemmas.Iterator.{YieldsList-from_map, YieldsList-from_slice}
use Rattle.std.proofs.lemmas.Iterator.Consumers.{YieldsList-at, fits_by_from_yields_list}
use Rattle.stack_base.proofs.WholeChunks.{chunk_count_le}
use Rattle.stack_base.proofs.sizes.all_chunks.Goals as goal

pub sum-requires-clause-fits : goal.sum-requires-clause-fits
sum-requires-clause-fits c =
    fits_by_from_yields_list (λ size. size / c.args.chunk) c.args.sizes.now c.map.result _
    (YieldsList-from_map _ (λ size. size / c.args.chunk) (YieldsList-at c.map.ensures.source (YieldsList-from_slice c.args.sizes.now cc))
    c.map.ensures.closure (λ x r q k. search (rules, tests)))
    (omega (arith, chunk_count_le c.args.chunk c.args.sizes.now, c.requires.fits))
