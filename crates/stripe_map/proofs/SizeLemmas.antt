-- How large a stripe over equal members is.
use Rattle.std.proofs.Common.{◌≡◌, ℕ, ◌*◌, ◌/◌, ◌≤◌, length, replicate, ap, ◌∙◌, sym}
use Rattle.std.proofs.lemmas.List.{length-replicate}
use Rattle.std.proofs.Math.Nat.{mul_assoc, mul_comm}
use Rattle.stack_base.specs.declared.stack.Kind.TheVariants.{Stripe}
use Rattle.stack_base.specs.Mapping.{size_of}
use Rattle.stack_base.proofs.Smallest.{smallest-replicate}

-- the whole chunks of one member, once for each
pub equal_size :
    (chunk members least : ℕ) → 1 ≤ members → least / chunk * chunk * members ≡ size_of (Stripe chunk) (replicate members least)
unfolding size_of
equal_size chunk members least some =
    let rows = least / chunk in
    mul_comm (rows * chunk) members ∙ ap (λ x. members * x) (mul_comm rows chunk) ∙ sym (mul_assoc members chunk rows)
    ∙ ap (λ n. n * chunk * rows) (sym (length-replicate members least))
    ∙ ap (λ x. length (replicate members least) * chunk * (x / chunk)) (sym (smallest-replicate members least some))
