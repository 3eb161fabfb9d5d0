-- What objects owe for a reply is of the ledgers that it is owed of.
use Rattle.std.proofs.Common.{◌≡◌, ℕ, sym, ap, ◌∙◌}
use Rattle.elem_ledger.specs.Ledger.{LedgerId}
use Rattle.stack_base.specs.PoolId.{pool_number}
use Rattle.stack_base.specs.declared.ids.PoolId.TheVariants.{FsVecs, Records}
use Rattle.bioset_pools.specs.Sets.{bios_of}
use Rattle.run_machine.specs.Requests as requests
use Rattle.run_machine.specs.Requests.{Request, Reply}
use Rattle.run_machine.specs.Objects.{Objects, Serves, clear_bio, clear_vector, clear_slip}
use Rattle.task_steps.specs.Stage.{Stage, Owes}

-- what is owed is of the ledgers that it is owed of
module _ (stage : Stage) (ledger : ℕ → LedgerId) (old new : Objects) where
  pub of_ledgers : (request : Request) (reply : Reply) → Owes stage request reply → Serves ledger old request reply new
      → Serves stage.ledger old request reply new
  -- takes: the share of the element names the ledger
  of_ledgers (requests.TakeBio set waits) (requests.HadBio got bio) owed serves =
      let n = pool_number (bios_of set) in
      let same : ledger n ≡ stage.ledger n = sym (ap (λ b. b.share) serves.1) ∙ owed.home.ledger ∙ ap stage.ledger owed.numbered in
      (serves.0, serves.1 ∙ ap clear_bio same)
  of_ledgers requests.TakeVec (requests.HadVec got vector) owed serves =
      let n = pool_number FsVecs in
      let same : ledger n ≡ stage.ledger n = sym (ap (λ v. v.share) serves.1) ∙ owed.home.ledger ∙ ap stage.ledger owed.numbered in
      (serves.0, serves.1 ∙ ap clear_vector same)
  of_ledgers (requests.TakeSlip dev) (requests.HadSlip got slip) owed serves =
      let n = pool_number (Records dev) in
      let same : ledger n ≡ stage.ledger n = sym (ap (λ s. s.share) serves.1) ∙ owed.home.ledger ∙ ap stage.ledger owed.numbered in
      (serves.0, serves.1 ∙ ap clear_slip same)
  -- all others: no ledger is named, nor in what follows, whatever the reply is
  of_ledgers _ requests.Did owed serves = serves
  of_ledgers _ _ owed serves = serves
