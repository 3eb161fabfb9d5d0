use Rattle.std.proofs.Common.{◌*◌, ◌/◌, replicate, ap, ◌∙◌, arith}
use Rattle.stack_base.specs.declared.stack.Kind.TheVariants.{Stripe}
use Rattle.stack_base.specs.Mapping.{size_of}
use Rattle.stripe_map.specs.Numbers.{Numbers}
use Rattle.stripe_map.proofs.SizeLemmas.{equal_size}
use Rattle.stripe_map.proofs.StripeMapLaw.size.Goals as goal

pub overflow_mul-result-2 : goal.overflow_mul-result-2
overflow_mul-result-2 c =
    let kept = c.self.inside in
    omega (
      arith,
      ap (λ n. kept.smallest / kept.chunk * kept.chunk * n) c.from.ensures,
      equal_size kept.chunk kept.members kept.smallest c.self.invariant.shape.1,
      c.self.invariant.small,
    )

pub returns-clause-size : goal.returns-clause-size
returns-clause-size c =
    let kept = c.self.inside in
    ap (λ n. kept.smallest / kept.chunk * kept.chunk * n) c.from.ensures
    ∙ equal_size kept.chunk kept.members kept.smallest c.self.invariant.shape.1
    ∙ ap (λ (v : Numbers). size_of (Stripe v.chunk) (replicate v.members v.smallest)) c.self.view_is
