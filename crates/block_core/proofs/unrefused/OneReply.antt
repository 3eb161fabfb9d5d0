-- Whatever is answered to a task is an event, or changes nothing.
use Rattle.std.proofs.Common.{◌≡◌, ◌<◌, ◌⊎◌, ℕ, true, false, List, ◌∷◌, Some, inl, inr, refl, ◌∙◌, ap, true≢false}
use Rattle.std.proofs.lemmas.Bool.{eq-eqb}
use Rattle.elem_ledger.specs.Ledger.{LedgerId}
use Rattle.stack_base.specs.PoolId.{pool_number}
use Rattle.stack_base.specs.declared.ids.PoolId.{PoolId}
use Rattle.stack_base.specs.declared.ids.PoolId.TheVariants.{FsVecs, Records}
use Rattle.bioset_pools.specs.Sets.{bios_of}
use Rattle.bio_books.specs.Drops as end
use Rattle.bio_books.specs.Links.{Made, NoRoom, Stray}
use Rattle.run_machine.specs.declared.event.What.{What}
use Rattle.run_machine.specs.Scene.{Scene}
use Rattle.run_machine.specs.Requests as requests
use Rattle.run_machine.specs.Requests.{Request, Reply}
use Rattle.run_machine.specs.Tasks.{Keeper, Keeps, Duty, Resizes, request, look_of}
use Rattle.run_machine.specs.Objects.{Objects, Serves}
use Rattle.run_machine.specs.Events.{what_of, resize_of, id_of}
use Rattle.run_machine.specs.Opened.{scene}
use Rattle.run_machine.specs.Runs.{State, IsLet}
use Rattle.block_core.specs.Replies.{IsEventOrNothing}
use Rattle.run_machine.proofs.Idle.{IsFair, IsIdle, fair_task, same_pool, task_stays}
use Rattle.block_core.proofs.unrefused.ObjectsAnswer.{IsReady, not_refused}

abbrev MakesEvent : Request → Reply → Type 0
MakesEvent request reply = (what : What) × (what_of request reply ≡ Some what)

module _ (ledger : ℕ → LedgerId) (old new : Objects) where
  told_or_idle : (request : Request) (reply : Reply) → IsReady old request → IsFair old request → Serves ledger old request reply new
      → MakesEvent request reply ⊎ (IsIdle request reply × (new ≡ old))
  -- takes: an event, but for a miss of a take that waits, with no entry used up, which changes nothing
  told_or_idle (requests.TakeBio set true) (requests.HadBio got bio) ready fair h = inl (_, refl)
  told_or_idle (requests.TakeBio set true) (requests.Missed true) ready fair h = inl (_, refl)
  told_or_idle (requests.TakeBio set true) (requests.Missed false) ready fair h = inr (tt, same_pool old new (pool_number (bios_of set)) h.0.1 h.1)
  told_or_idle (requests.TakeBio set false) (requests.HadBio got bio) ready fair h = inl (_, refl)
  told_or_idle (requests.TakeBio set false) (requests.Missed used) ready fair h = inl (_, refl)
  told_or_idle requests.TakeVec (requests.HadVec got vector) ready fair h = inl (_, refl)
  told_or_idle requests.TakeVec (requests.Missed true) ready fair h = inl (_, refl)
  told_or_idle requests.TakeVec (requests.Missed false) ready fair h = inr (tt, same_pool old new (pool_number FsVecs) h.0.1 h.1)
  told_or_idle (requests.TakeSlip dev) (requests.HadSlip got slip) ready fair h = inl (_, refl)
  told_or_idle (requests.TakeSlip dev) (requests.Missed true) ready fair h = inl (_, refl)
  told_or_idle (requests.TakeSlip dev) (requests.Missed false) ready fair h = inr (tt, same_pool old new (pool_number (Records dev)) h.0.1 h.1)
  -- gives: an event
  told_or_idle (requests.GiveBio bio) requests.Did ready fair h = inl (_, refl)
  told_or_idle (requests.GiveVec vector) requests.Did ready fair h = inl (_, refl)
  told_or_idle (requests.GiveSlip slip) requests.Did ready fair h = inl (_, refl)
  -- lists of rescuers: an event, but for a pop of an empty list
  told_or_idle (requests.Punt dev moved) requests.Did ready fair h = inl (_, refl)
  told_or_idle (requests.Pop dev) (requests.Popped bio) ready fair h = inl (_, refl)
  told_or_idle (requests.Pop dev) requests.Nothing ready fair h = inr (tt, h.1)
  -- disks: an event, but for a completion where no bio waits
  told_or_idle (requests.Push bio) requests.Did ready fair h = inl (_, refl)
  told_or_idle (requests.Complete disk) (requests.Completed index bio status) ready fair h = inl (_, refl)
  told_or_idle (requests.Complete disk) requests.Nothing ready fair h = inr (tt, h.1)
  -- books: an event, since none is refused
  told_or_idle (requests.Link writer opening) (requests.LinkedTo (Made place)) ready fair h = inl (_, refl)
  told_or_idle (requests.Link writer opening) (requests.LinkedTo (NoRoom back)) ready fair h =
      absurd (true≢false (not_refused ledger old new (requests.Link writer opening) (requests.LinkedTo (NoRoom back)) ready h))
  told_or_idle (requests.Link writer opening) (requests.LinkedTo (Stray back)) ready fair h =
      absurd (true≢false (not_refused ledger old new (requests.Link writer opening) (requests.LinkedTo (Stray back)) ready h))
  told_or_idle (requests.Drop writer node status part) (requests.DroppedTo end.Left) ready fair h = inl (_, refl)
  told_or_idle (requests.Drop writer node status part) (requests.DroppedTo (end.Up closed)) ready fair h = inl (_, refl)
  told_or_idle (requests.Drop writer node status part) (requests.DroppedTo (end.Top closed)) ready fair h = inl (_, refl)
  told_or_idle (requests.Drop writer node status part) (requests.DroppedTo (end.Stray back)) ready fair h =
      absurd (true≢false (not_refused ledger old new (requests.Drop writer node status part) (requests.DroppedTo (end.Stray back)) ready h))
  -- ends of writes: an event
  told_or_idle (requests.Done write status) requests.Did ready fair h = inl (_, refl)
  -- resizes: an event, since nothing is out
  told_or_idle (requests.Resize pool min) (requests.OutIs out) ready fair h =
      let none : out ≡ 0 = h.0 ∙ fair in
      inl (_, ap (λ b. resize_of b pool min) (eq-eqb out 0 none))
  -- starts of rounds: an event
  told_or_idle (requests.NextRound round) requests.Did ready fair h = inl (_, refl)
  -- looks are not asked for
  told_or_idle requests.LookRound reply ready fair h = absurd fair
  told_or_idle requests.LookLeft reply ready fair h = absurd fair
  -- no request has another answer, and rests have none
  told_or_idle _ _ ready fair h = absurd h

pub event_or_nothing : (scene : Scene) (s : State) (place : ℕ) → place < scene.tasks → IsLet scene.ledger s.objects (s.task place) (look_of (s.task place))
    → IsReady s.objects (request scene.setup (s.task place))
    → ((pool : PoolId) (min later : ℕ) (duties : List Duty) → s.task place ≡ Keeper (Keeps (Resizes pool min later ∷ duties)) → (s.objects.pool (pool_number pool)).facts.out ≡ 0)
    → (reply : Reply) (new : Objects) → Serves scene.ledger s.objects (request scene.setup (s.task place)) reply new → IsEventOrNothing scene s place reply new
event_or_nothing scene s place here see ready home reply new serves =
    elim (told_or_idle scene.ledger s.objects new (request scene.setup (s.task place)) reply ready (fair_task scene.setup s.objects (s.task place) home) serves) [
      | inl told ↦ inl (
        record { task = id_of (s.task place); what = told.0 },
        record { here = here; by = refl; is_let = see; reply = reply; told = told.1; serves = serves; goes_on = refl },
      )
      | inr idle ↦ inr (idle.1, task_stays scene.setup (s.task place) reply idle.0)
    ]
