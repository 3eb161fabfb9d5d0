-- What holds of what words mean.
use Rattle.std.specs.Prelude.{◌≡◌, ◌≤◌, ℕ, Bool, List, Some}
use Rattle.biostack_words.specs.Grammar.{Word, order_meant}
use Rattle.biostack_words.specs.declared.order.Order.TheVariants.{Workers}

-- an order for threads is for 1 to 16 of them
abbrev pub WorkersAreFew : Type 0
WorkersAreFew = (words : List Word) (n : ℕ) (trace : Bool) → order_meant words ≡ Some (Workers n trace) → (1 ≤ n) × (n ≤ 16)
