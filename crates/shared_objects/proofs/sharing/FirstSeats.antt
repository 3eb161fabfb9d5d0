-- First seats of locks that were just opened.
use Rattle.std.proofs.Common.{◌≡◌, ◌∙◌, List, sym, subst}
use Rattle.seat_lock.specs.Seats.{LockId, SeatState}
use Rattle.object_things.specs.Stamps.{CommonState, Stamped}
use Rattle.shared_objects.specs.Guards.{guarded}
use Rattle.shared_objects.specs.Opening.{IsFirstAt, guarded_row}
use Rattle.shared_objects.specs.Rows.{Abreast, AbreastThree, IsLockOf}
use Rattle.shared_objects.specs.Sharing.{AreAround}
use Rattle.shared_objects.proofs.row_lemmas.AbreastRows.{first_two, last_two, of_made}

module _ {K T A R : Type 0} (things : List (K × T)) (locks : List (K × LockId T)) (firsts : List (K × SeatState T A R)) (are : AbreastThree IsLockOf things locks firsts) where
  pub round_things : AreAround (λ thing. thing) things locks
  round_things = first_two IsLockOf things locks firsts are _ (λ thing lock first is. (is.keys.0, is.value))

  pub firsts_of : Abreast (IsFirstAt 0) locks firsts
  firsts_of = last_two IsLockOf things locks firsts are (IsFirstAt 0) (λ thing lock first is. (is.keys.1 ∙ sym is.keys.0, is.first_is))

-- locks round things are round the objects that these were made of
module _ {K O : Type 0} (common : CommonState) (objects : List (K × O)) (things : List (K × Stamped O)) (locks : List (K × LockId (Stamped O))) where
  abbrev IsRound : K × Stamped O → K × LockId (Stamped O) → Type 0
  IsRound thing lock = (lock.0 ≡ thing.0) × (lock.1.key.value ≡ thing.1)

  pub round_objects : things ≡ guarded_row common objects → AreAround (λ thing. thing) things locks → AreAround (guarded common) objects locks
  round_objects e are = of_made (λ (entry : K × O). (entry.0, guarded common entry.1)) IsRound objects locks (subst (λ t. Abreast IsRound t locks) e are)
