use Rattle.std.proofs.Common.{◌*◌, sum, ap, arith}
use Rattle.std.proofs.Math.Nat.{mul_comm}
use Rattle.stack_base.specs.Mapping.{whole_chunks}
use Rattle.stack_base.proofs.WholeChunks.{whole_chunks_le}
use Rattle.stack_base.proofs.Smallest.{chunks_times_le}
use Rattle.stack_base.proofs.sizes.kind_size.Goals as goal

pub overflow_mul-result-in-Stripe : goal.overflow_mul-result-in-Stripe
overflow_mul-result-in-Stripe c = omega (arith, chunks_times_le c.in-Stripe.chunk c.least.result c.args.sizes.now c.least.ensures)

pub overflow_mul-result-in-Zoned : goal.overflow_mul-result-in-Zoned
overflow_mul-result-in-Zoned c =
    omega (
      arith,
      ap (λ x. x * c.in-Zoned.chunk) c.all_chunks.ensures,
      mul_comm c.in-Zoned.chunk (sum (whole_chunks c.in-Zoned.chunk c.args.sizes.now)),
      whole_chunks_le c.in-Zoned.chunk c.args.sizes.now,
      c.requires.fits,
    )
