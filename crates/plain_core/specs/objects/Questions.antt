-- What the objects are asked, and what events are asked.
use Rattle.std.specs.Prelude.{◌≡◌, ◌⊎◌, ◌-◌, ◌^◌, ℕ, Bool, MatchBool, MatchOption, Option, None, Some}
use Rattle.stack_base.specs.declared.ids.DevId.{DevId}
use Rattle.stack_base.specs.declared.ids.Status.{Status}
use Rattle.mempool_core.specs.Move.{PoolState, takes_spare, CanMove}
use Rattle.bio_books.specs.Books.{Node}
use Rattle.run_machine.specs.declared.event.What.{What}
use Rattle.run_machine.specs.declared.event.What.TheVariants as told

-- yes where it is so, and no where it is not
abbrev pub IsDecisionOf : Bool → Type 0 → Type 0
IsDecisionOf answer P = MatchBool answer P (P → ⊥)

-- what an event tells, if it is one of these
abbrev pub IsReadAs : {X : Type 0} → (X → What) → What → Option X → Type 0
IsReadAs tell what read = MatchOption read ((x : _) → what ≡ tell x → ⊥) (λ x. what ≡ tell x)

-- which bio of this disk an event tells that ended, and how, if it tells of one
abbrev pub IsCompletionRead : DevId → What → Option (ℕ × Status) → Type 0
IsCompletionRead disk what read =
    MatchOption read ((index : ℕ) (status : Status) → what ≡ told.Complete disk index status → ⊥) (λ done. what ≡ told.Complete disk done.0 done.1)

-- a pool has no spare to give, or no room for one more to be out
abbrev pub IsShort : PoolState → Type 0
IsShort pool = (pool.facts.spares ≡ 0) ⊎ (pool.facts.out ≡ 2 ^ 64 - 1)

-- whether a take of the pool can have a spare
abbrev pub TellsSpare : Bool → PoolState → Type 0
TellsSpare answer pool = MatchBool answer (CanMove pool takes_spare) (IsShort pool)

-- how many ends the node at a place waits for, if one is open there
abbrev pub IsCountAt : Option Node → ℕ → Type 0
IsCountAt None count = ⊥
IsCountAt (Some node) count = node.count ≡ count

abbrev pub TellsCount : Option ℕ → Option Node → Type 0
TellsCount count node = MatchOption count (node ≡ None) (IsCountAt node)
