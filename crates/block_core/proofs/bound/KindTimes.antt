-- Of each kind no run has more events than there are of what pays for it.
use Rattle.std.proofs.Common.{◌*◌, ◌≤◌, ℕ, cond, arith}
use Rattle.std.specs.Prelude.{sum_by}
use Rattle.run_machine.specs.Opened.{Scenario}
use Rattle.block_core.specs.Payers.{Payer, WriteBio, WriteVector, Record, PieceBio, Fragment, ScriptEntry, LaterRound, ReserveChange, Paid, cost}
use Rattle.block_core.specs.Payers as paid
use Rattle.block_core.specs.PayerCounts.{payers, every_payer, is_kind, most_times, EachKindIsWithinItsPayers}
use Rattle.block_core.proofs.bound.Bounded.{costs_are_charged}
use Rattle.block_core.proofs.bound.PayerCounts.{costs_count}

-- where the events of one kind cost one, each payer pays for one or for none
module _ (s : Scenario) where
  abbrev pays : Paid → ℕ
  pays kind = sum_by (λ payer. cost (λ other. cond (is_kind kind other) 1 0) payer * payers s payer) every_payer

  by_payer : (payer : Payer) → (pays (paid.IsTaken payer) ≤ payers s payer) × (pays (paid.IsLinked payer) ≤ payers s payer)
      × (pays (paid.EndsItself payer) ≤ payers s payer) × (pays (paid.EndsForParent payer) ≤ payers s payer) × (pays (paid.IsGiven payer) ≤ payers s payer)
  by_payer WriteBio = (omega arith, omega arith, omega arith, omega arith, omega arith)
  by_payer WriteVector = (omega arith, omega arith, omega arith, omega arith, omega arith)
  by_payer Record = (omega arith, omega arith, omega arith, omega arith, omega arith)
  by_payer PieceBio = (omega arith, omega arith, omega arith, omega arith, omega arith)
  by_payer Fragment = (omega arith, omega arith, omega arith, omega arith, omega arith)
  by_payer ScriptEntry = (omega arith, omega arith, omega arith, omega arith, omega arith)
  by_payer LaterRound = (omega arith, omega arith, omega arith, omega arith, omega arith)
  by_payer ReserveChange = (omega arith, omega arith, omega arith, omega arith, omega arith)

  of_kind : (kind : Paid) → pays kind ≤ most_times s kind
  -- kinds that have a payer
  of_kind (paid.IsTaken payer) = (by_payer payer).0
  of_kind (paid.IsLinked payer) = (by_payer payer).1
  of_kind (paid.EndsItself payer) = (by_payer payer).2
  of_kind (paid.EndsForParent payer) = (by_payer payer).3
  of_kind (paid.IsGiven payer) = (by_payer payer).4
  -- kinds that have none
  of_kind paid.MissesAtOnce = omega arith
  of_kind paid.IsPunted = omega arith
  of_kind paid.IsPopped = omega arith
  of_kind paid.IsPushed = omega arith
  of_kind paid.IsCompleted = omega arith
  of_kind paid.IsDone = omega arith
  of_kind paid.MissesWaiting = omega arith
  of_kind paid.Starts = omega arith
  of_kind paid.Resizes = omega arith

pub each_kind_is_within_its_payers : EachKindIsWithinItsPayers
each_kind_is_within_its_payers s ledger events state good naming run kind =
    let price : Paid → ℕ = λ other. cond (is_kind kind other) 1 0 in
    omega (arith, costs_are_charged s ledger events state good naming run price, costs_count price s, of_kind s kind)
