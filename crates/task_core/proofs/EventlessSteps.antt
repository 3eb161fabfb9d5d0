-- Over objects of one thread: where a step met nothing, the task and its objects stand as they stood, and only an ordinary take could come.
use Rattle.std.proofs.Common.{◌≡◌, ℕ, Bool, true, false, None, Some, inl, inr, refl, sym, ◌∙◌, subst, arith, true≢false}
use Rattle.std.specs.Prelude.{IsTrue}
use Rattle.std.proofs.lemmas.Option.{none-some, same_Some}
use Rattle.elem_ledger.specs.Ledger.{LedgerId}
use Rattle.stack_base.specs.PoolId.{pool_number}
use Rattle.stack_base.specs.declared.ids.PoolId.TheVariants.{FsVecs, Records}
use Rattle.mempool_core.specs.Move.{PoolState, misses, takes_spare, CanMove}
use Rattle.bioset_pools.specs.Sets.{bios_of}
use Rattle.bio_books.specs.Drops as end
use Rattle.bio_books.specs.Links.{Made, NoRoom, Stray}
use Rattle.run_machine.specs.declared.event.Got.TheVariants.{Ordinary, Spare}
use Rattle.run_machine.specs.declared.event.Got.TheVariants as got
use Rattle.run_machine.specs.declared.event.What.{What}
use Rattle.run_machine.specs.Scene.{Setup}
use Rattle.run_machine.specs.Requests as requests
use Rattle.run_machine.specs.Requests.{Request, Reply}
use Rattle.run_machine.specs.Objects.{Objects, Serves}
use Rattle.run_machine.specs.Events.{what_of}
use Rattle.task_core.specs.PlainSteps.{IsStill, is_ordinary}
use Rattle.task_steps.specs.Turns.{silent_step}
use Rattle.run_machine.proofs.Blocked.{empty_waits, idle_waits}
use Rattle.run_machine.proofs.Idle.{IsFair, IsIdle, same_pool}

module _ (ledger : ℕ → LedgerId) (setup : Setup) (some old new : Objects) where
  -- a reply that is not told of, where the task does not break off, found nothing
  pub quiet : (request : Request) (reply : Reply) → IsFair some request → Serves ledger old request reply new → what_of request reply ≡ None → IsStill (silent_step setup request reply)
      → IsIdle request reply × (new ≡ old)
  -- takes: all are told but a miss of a take that waits, with no entry used up, which changes nothing
  quiet (requests.TakeBio set true) (requests.HadBio got bio) fair serves untold still = absurd (none-some _ (sym untold))
  quiet (requests.TakeBio set true) (requests.Missed true) fair serves untold still = absurd (none-some _ (sym untold))
  quiet (requests.TakeBio set true) (requests.Missed false) fair serves untold still = (tt, same_pool old new (pool_number (bios_of set)) serves.0.1 serves.1)
  quiet (requests.TakeBio set false) (requests.HadBio got bio) fair serves untold still = absurd (none-some _ (sym untold))
  quiet (requests.TakeBio set false) (requests.Missed used) fair serves untold still = absurd (none-some _ (sym untold))
  quiet requests.TakeVec (requests.HadVec got vector) fair serves untold still = absurd (none-some _ (sym untold))
  quiet requests.TakeVec (requests.Missed true) fair serves untold still = absurd (none-some _ (sym untold))
  quiet requests.TakeVec (requests.Missed false) fair serves untold still = (tt, same_pool old new (pool_number FsVecs) serves.0.1 serves.1)
  quiet (requests.TakeSlip dev) (requests.HadSlip got slip) fair serves untold still = absurd (none-some _ (sym untold))
  quiet (requests.TakeSlip dev) (requests.Missed true) fair serves untold still = absurd (none-some _ (sym untold))
  quiet (requests.TakeSlip dev) (requests.Missed false) fair serves untold still = (tt, same_pool old new (pool_number (Records dev)) serves.0.1 serves.1)
  -- gives are told
  quiet (requests.GiveBio bio) requests.Did fair serves untold still = absurd (none-some _ (sym untold))
  quiet (requests.GiveVec vector) requests.Did fair serves untold still = absurd (none-some _ (sym untold))
  quiet (requests.GiveSlip slip) requests.Did fair serves untold still = absurd (none-some _ (sym untold))
  -- lists of rescuers: all is told but a pop of an empty list
  quiet (requests.Punt dev moved) requests.Did fair serves untold still = absurd (none-some _ (sym untold))
  quiet (requests.Pop dev) (requests.Popped bio) fair serves untold still = absurd (none-some _ (sym untold))
  quiet (requests.Pop dev) requests.Nothing fair serves untold still = (tt, serves.1)
  -- disks: all is told but a completion where no bio waits
  quiet (requests.Push bio) requests.Did fair serves untold still = absurd (none-some _ (sym untold))
  quiet (requests.Complete disk) (requests.Completed index bio status) fair serves untold still = absurd (none-some _ (sym untold))
  quiet (requests.Complete disk) requests.Nothing fair serves untold still = (tt, serves.1)
  -- books: a task that is refused breaks off, and all else is told
  quiet (requests.Link writer opening) (requests.LinkedTo (Made place)) fair serves untold still = absurd (none-some _ (sym untold))
  quiet (requests.Link writer opening) (requests.LinkedTo (NoRoom back)) fair serves untold still = absurd still
  quiet (requests.Link writer opening) (requests.LinkedTo (Stray back)) fair serves untold still = absurd still
  quiet (requests.Drop writer node status part) (requests.DroppedTo end.Left) fair serves untold still = absurd (none-some _ (sym untold))
  quiet (requests.Drop writer node status part) (requests.DroppedTo (end.Up closed)) fair serves untold still = absurd (none-some _ (sym untold))
  quiet (requests.Drop writer node status part) (requests.DroppedTo (end.Top closed)) fair serves untold still = absurd (none-some _ (sym untold))
  quiet (requests.Drop writer node status part) (requests.DroppedTo (end.Stray back)) fair serves untold still = absurd still
  -- ends of writes are told
  quiet (requests.Done write status) requests.Did fair serves untold still = absurd (none-some _ (sym untold))
  -- resizes: one that is not told breaks the keeper off
  quiet (requests.Resize pool min) (requests.OutIs out) fair serves untold still = absurd still
  -- starts of rounds are told
  quiet (requests.NextRound round) requests.Did fair serves untold still = absurd (none-some _ (sym untold))
  -- looks are not asked for
  quiet requests.LookRound reply fair serves untold still = absurd fair
  quiet requests.LookLeft reply fair serves untold still = absurd fair
  -- no other reply is one to what was asked, and rests are not answered
  quiet _ _ fair serves untold still = absurd serves

-- where a take missed, none has a spare, and the same entry was used or none
no_spare : (pool : PoolState) (used : Bool) → CanMove pool (misses used) → CanMove pool takes_spare → ⊥
no_spare pool used (inl none, entry) can = absurd (omega (arith, none, can.0))
no_spare pool used (inr full, entry) can = absurd (omega (arith, full, can.1))

same_miss : (pool : PoolState) → CanMove pool (misses false) → CanMove pool (misses true) → ⊥
same_miss pool none some = true≢false (some.1 ∙ sym none.1)

module _ (ledger : ℕ → LedgerId) (old new other : Objects) where
  -- then whatever is told there is a take of ordinary memory
  pub passed : (request : Request) (reply second : Reply) (told : What) → IsIdle request reply → what_of request reply ≡ None
      → Serves ledger old request reply new → Serves ledger old request second other → what_of request second ≡ Some told → IsTrue (is_ordinary told)
  -- takes of bios: where one missed with no entry used up there is no spare, and no entry to use up
  passed (requests.TakeBio set true) (requests.Missed true) second told idle untold serves again tells = absurd (none-some _ (sym untold))
  passed (requests.TakeBio set true) (requests.Missed false) (requests.HadBio Ordinary bio) told idle untold serves again tells =
      subst (λ w. IsTrue (is_ordinary w)) (same_Some _ _ tells) refl
  passed (requests.TakeBio set true) (requests.Missed false) (requests.HadBio Spare bio) told idle untold serves again tells =
      absurd (no_spare (old.pool (pool_number (bios_of set))) false serves.0 again.0.0)
  passed (requests.TakeBio set true) (requests.Missed false) (requests.HadBio got.Missed bio) told idle untold serves again tells = absurd again.0
  passed (requests.TakeBio set true) (requests.Missed false) (requests.Missed true) told idle untold serves again tells =
      absurd (same_miss (old.pool (pool_number (bios_of set))) serves.0 again.0)
  passed (requests.TakeBio set true) (requests.Missed false) (requests.Missed false) told idle untold serves again tells = absurd (none-some _ tells)
  passed (requests.TakeBio set true) (requests.Missed false) _ told idle untold serves again tells = absurd again
  passed (requests.TakeBio set true) _ second told idle untold serves again tells = absurd idle
  passed (requests.TakeBio set false) (requests.Missed used) second told idle untold serves again tells = absurd idle
  passed (requests.TakeBio set false) _ second told idle untold serves again tells = absurd idle
  -- takes of vectors
  passed requests.TakeVec (requests.Missed true) second told idle untold serves again tells = absurd (none-some _ (sym untold))
  passed requests.TakeVec (requests.Missed false) (requests.HadVec Ordinary vector) told idle untold serves again tells =
      subst (λ w. IsTrue (is_ordinary w)) (same_Some _ _ tells) refl
  passed requests.TakeVec (requests.Missed false) (requests.HadVec Spare vector) told idle untold serves again tells =
      absurd (no_spare (old.pool (pool_number FsVecs)) false serves.0 again.0.0)
  passed requests.TakeVec (requests.Missed false) (requests.HadVec got.Missed vector) told idle untold serves again tells = absurd again.0
  passed requests.TakeVec (requests.Missed false) (requests.Missed true) told idle untold serves again tells =
      absurd (same_miss (old.pool (pool_number FsVecs)) serves.0 again.0)
  passed requests.TakeVec (requests.Missed false) (requests.Missed false) told idle untold serves again tells = absurd (none-some _ tells)
  passed requests.TakeVec (requests.Missed false) _ told idle untold serves again tells = absurd again
  passed requests.TakeVec _ second told idle untold serves again tells = absurd idle
  -- takes of records
  passed (requests.TakeSlip dev) (requests.Missed true) second told idle untold serves again tells = absurd (none-some _ (sym untold))
  passed (requests.TakeSlip dev) (requests.Missed false) (requests.HadSlip Ordinary slip) told idle untold serves again tells =
      subst (λ w. IsTrue (is_ordinary w)) (same_Some _ _ tells) refl
  passed (requests.TakeSlip dev) (requests.Missed false) (requests.HadSlip Spare slip) told idle untold serves again tells =
      absurd (no_spare (old.pool (pool_number (Records dev))) false serves.0 again.0.0)
  passed (requests.TakeSlip dev) (requests.Missed false) (requests.HadSlip got.Missed slip) told idle untold serves again tells = absurd again.0
  passed (requests.TakeSlip dev) (requests.Missed false) (requests.Missed true) told idle untold serves again tells =
      absurd (same_miss (old.pool (pool_number (Records dev))) serves.0 again.0)
  passed (requests.TakeSlip dev) (requests.Missed false) (requests.Missed false) told idle untold serves again tells = absurd (none-some _ tells)
  passed (requests.TakeSlip dev) (requests.Missed false) _ told idle untold serves again tells = absurd again
  passed (requests.TakeSlip dev) _ second told idle untold serves again tells = absurd idle
  -- an empty list has nothing to pop, and a disk where no bio waits nothing to complete
  passed (requests.Pop dev) requests.Nothing second told idle untold serves again tells = absurd (empty_waits ledger old dev serves.0 second other told again tells)
  passed (requests.Pop dev) _ second told idle untold serves again tells = absurd idle
  passed (requests.Complete disk) requests.Nothing second told idle untold serves again tells = absurd (idle_waits ledger old disk serves.0 second other told again tells)
  passed (requests.Complete disk) _ second told idle untold serves again tells = absurd idle
  -- no other answer changes nothing
  passed asked reply second told idle untold serves again tells = absurd idle
