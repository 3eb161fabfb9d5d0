-- Of a request and a reply at other places the same is told, at these places.
use Rattle.std.proofs.Common.{◌≡◌, ◌^◌, ◌-◌, ◌==◌, min, ℕ, Bool, true, false, Option, Some, refl, ap}
use Rattle.std.specs.Option.{option_map}
use Rattle.std.proofs.lemmas.List.{length-map}
use Rattle.elem_ledger.specs.Ledger.{LedgerId}
use Rattle.stack_base.specs.declared.ids.PoolId.{PoolId}
use Rattle.bio_books.specs.Links.{Made, NoRoom, Stray}
use Rattle.bio_books.specs.Drops as end
use Rattle.run_machine.specs.declared.event.Got.{Got}
use Rattle.run_machine.specs.declared.event.What.{What}
use Rattle.run_machine.specs.declared.event.What.TheVariants as what
use Rattle.run_machine.specs.Requests.{Request, Reply, Opening, Write, Chain, Master, Leg, TakeBio, TakeVec, TakeSlip, GiveBio, GiveVec, GiveSlip, Punt, Pop, Push, Complete, Link, Drop, Done, Resize, NextRound, LookRound, LookLeft, HadBio, HadVec, HadSlip, Missed, Did, Popped, Completed, LinkedTo, DroppedTo, OutIs, Present, LeftOver, Nothing}
use Rattle.run_machine.specs.Objects.{Objects, Serves}
use Rattle.run_machine.specs.Events.{how_of, take_of, miss_of, resize_of, what_of}
use Rattle.trace_replay.proofs.renaming.Renaming.{Places, item_to, opening_to, request_to, writer_in, reply_to, what_to}

module _ (to : Places) (gone fresh : ℕ) where
  abbrev whats_to : Option What → Option What
  whats_to = option_map (what_to to)

  take_to : (waits : Bool) (pool : PoolId) (got : Got) → take_of waits pool got ≡ what_to to (take_of waits pool got)
  take_to true pool got = refl
  take_to false pool got = refl

  miss_to : (waits used : Bool) (pool : PoolId) → miss_of waits used pool ≡ whats_to (miss_of waits used pool)
  miss_to true true pool = refl
  miss_to true false pool = refl
  miss_to false used pool = refl

  resized_to : (home : Bool) (pool : PoolId) (min : ℕ) → resize_of home pool min ≡ whats_to (resize_of home pool min)
  resized_to true pool min = refl
  resized_to false pool min = refl

  how_to : (writer : ℕ) (opening : Opening) → how_of (opening_to to writer opening) ≡ how_of opening
  how_to writer (Write write vector) = refl
  how_to writer (Chain parent) = refl
  how_to writer (Master parent part slip legs) = refl
  how_to writer (Leg master) = refl

  -- of what an object serves
  pub told_to : (ledger : ℕ → LedgerId) (old new : Objects) (asked : Request) (reply : Reply) → Serves ledger old asked reply new
      → what_of (request_to to gone asked) (reply_to to (writer_in asked) fresh reply) ≡ whats_to (what_of asked reply)
  -- takes: nothing that is told is a place, nor does it go by one whether a miss is told
  told_to ledger old new (TakeBio set waits) (HadBio got bio) serves = ap Some (take_to waits _ got)
  told_to ledger old new (TakeBio set waits) (Missed used) serves = miss_to waits used _
  told_to ledger old new TakeVec (HadVec got vector) serves = refl
  told_to ledger old new TakeVec (Missed used) serves = miss_to true used _
  told_to ledger old new (TakeSlip dev) (HadSlip got slip) serves = refl
  told_to ledger old new (TakeSlip dev) (Missed used) serves = miss_to true used _
  -- gives: the pool is told, by the number in the element's share, which stays
  told_to ledger old new (GiveBio bio) Did serves = refl
  told_to ledger old new (GiveVec vector) Did serves = refl
  told_to ledger old new (GiveSlip slip) Did serves = refl
  -- punts: it is told how many bios moved, and at the other places they are as many
  told_to ledger old new (Punt dev moved) Did serves = ap (λ n. Some (what.Punt dev (min n (2 ^ 64 - 1)))) (length-map moved (item_to to))
  -- pops, pushes and completions: no node's place is told, and nothing at all where there was no bio
  told_to ledger old new (Pop dev) (Popped bio) serves = refl
  told_to ledger old new (Pop dev) Nothing serves = refl
  told_to ledger old new (Push bio) Did serves = refl
  told_to ledger old new (Complete disk) (Completed index bio status) serves = refl
  told_to ledger old new (Complete disk) Nothing serves = refl
  -- links: the new node's other place is told, and what it was opened for, which stays; a refusal is not told
  told_to ledger old new (Link writer opening) (LinkedTo (Made node)) serves = ap (λ how. Some (what.Link writer how (to writer node))) (how_to writer opening)
  told_to ledger old new (Link writer opening) (LinkedTo (NoRoom back)) serves = refl
  told_to ledger old new (Link writer opening) (LinkedTo (Stray back)) serves = refl
  -- drops: the node's other place is told, and what was left of the node, which stays; a refusal is not told
  told_to ledger old new (Drop writer node status part) (DroppedTo end.Left) serves = refl
  told_to ledger old new (Drop writer node status part) (DroppedTo (end.Up closed)) serves = refl
  told_to ledger old new (Drop writer node status part) (DroppedTo (end.Top closed)) serves = refl
  told_to ledger old new (Drop writer node status part) (DroppedTo (end.Stray back)) serves = refl
  -- ends of writes, resizes and rounds: no place is in what is told, and a resize with elements out is not told
  told_to ledger old new (Done write status) Did serves = refl
  told_to ledger old new (Resize pool min) (OutIs out) serves = resized_to (out == 0) pool min
  told_to ledger old new (NextRound round) Did serves = refl
  -- looks: nothing is told
  told_to ledger old new LookRound (Present round) serves = refl
  told_to ledger old new LookLeft (LeftOver count) serves = refl
  -- no other reply is served
  told_to ledger old new asked reply serves = absurd serves
