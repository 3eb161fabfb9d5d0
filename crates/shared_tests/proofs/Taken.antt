-- A task that is handed out.
use Rattle.std.proofs.Common.{◌≡◌, Option, None, Some, refl, ap, sym, ◌∙◌}
use Rattle.std.specs.Prelude.{IfSome}
use Rattle.shared_objects.specs.Rans.{RanKey, RanState}
use Rattle.shared_objects.specs.Shared.{HandsOut}
use Rattle.shared_objects.specs.declared.shared.Shared.{Shared}

-- the locks stay
pub same_locks : (old new : Shared) (result : Option RanState) → IfSome result (λ (ran : RanState). HandsOut old ran new) → (result ≡ None → new ≡ old) → new.locks ≡ old.locks
same_locks old new None task same = ap (λ (shared : Shared). shared.locks) (same refl)
same_locks old new (Some ran) task same = task.same.locks

-- its seats are of these locks
pub of_these : (old new : Shared) (result : Option RanState) → IfSome result (λ (ran : RanState). HandsOut old ran new) → IfSome result (λ (ran : RanState). ran.home ≡ new.locks)
of_these old new None task = tt
of_these old new (Some ran) task = ap (λ (key : RanKey). key.home) (task.key ran.first) ∙ sym task.same.locks
