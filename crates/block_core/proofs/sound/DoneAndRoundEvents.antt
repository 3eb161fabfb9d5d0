-- What events say of writes that are done, and of rounds.
use Rattle.std.proofs.Common.{◌≡◌, ◌+◌, ◌==◌, ℕ, Bool, true, false, None, Some, sym, ap, subst}
use Rattle.std.proofs.lemmas.Option.{same_Some}
use Rattle.elem_ledger.specs.Ledger.{LedgerId}
use Rattle.stack_base.specs.declared.ids.Status.{Status}
use Rattle.bio_books.specs.Links.{Made}
use Rattle.bio_books.specs.Drops as end
use Rattle.run_machine.specs.declared.event.What.{What}
use Rattle.run_machine.specs.declared.event.What.TheVariants as what
use Rattle.run_machine.specs.Events.{what_of, resize_of}
use Rattle.run_machine.specs.Objects.{Objects, Serves, done_one}
use Rattle.run_machine.specs.Requests as requests
use Rattle.run_machine.specs.Requests.{Request, Reply}
use Rattle.run_machine.proofs.Frames.{one_object_changes}

-- an event that tells no write done, and starts no round
abbrev pub IsOther : What → Type 0
IsOther (what.Done write status) = ⊥
IsOther (what.Round round) = ⊥
IsOther what = Unit {0}

-- what an event says, by the request that it answers
abbrev pub EventSays : Request → What → Type 0
EventSays (requests.Done write status) told = told ≡ what.Done write status
EventSays (requests.NextRound round) told = told ≡ what.Round round
EventSays request told = IsOther told

pub none_told : {X : Type 0} (what : What) → None ≡ Some what → X
none_told what is = absurd cc

pub says : (request : Request) (reply : Reply) (what : What) → what_of request reply ≡ Some what → EventSays request what
-- takes: where an event is told, it is of the others
says (requests.TakeBio set true) (requests.HadBio from bio) what tells = subst IsOther (same_Some _ what tells) tt
says (requests.TakeBio set true) (requests.Missed true) what tells = subst IsOther (same_Some _ what tells) tt
says (requests.TakeBio set false) (requests.HadBio from bio) what tells = subst IsOther (same_Some _ what tells) tt
says (requests.TakeBio set false) (requests.Missed used) what tells = subst IsOther (same_Some _ what tells) tt
says requests.TakeVec (requests.HadVec from vector) what tells = subst IsOther (same_Some _ what tells) tt
says requests.TakeVec (requests.Missed true) what tells = subst IsOther (same_Some _ what tells) tt
says (requests.TakeSlip dev) (requests.HadSlip from slip) what tells = subst IsOther (same_Some _ what tells) tt
says (requests.TakeSlip dev) (requests.Missed true) what tells = subst IsOther (same_Some _ what tells) tt
-- gives
says (requests.GiveBio bio) requests.Did what tells = subst IsOther (same_Some _ what tells) tt
says (requests.GiveVec vector) requests.Did what tells = subst IsOther (same_Some _ what tells) tt
says (requests.GiveSlip slip) requests.Did what tells = subst IsOther (same_Some _ what tells) tt
-- lists of rescuers
says (requests.Punt dev moved) requests.Did what tells = subst IsOther (same_Some _ what tells) tt
says (requests.Pop dev) (requests.Popped bio) what tells = subst IsOther (same_Some _ what tells) tt
-- disks
says (requests.Push bio) requests.Did what tells = subst IsOther (same_Some _ what tells) tt
says (requests.Complete disk) (requests.Completed index bio status) what tells = subst IsOther (same_Some _ what tells) tt
-- books
says (requests.Link writer opening) (requests.LinkedTo (Made key)) what tells = subst IsOther (same_Some _ what tells) tt
says (requests.Drop writer key status part) (requests.DroppedTo end.Left) what tells = subst IsOther (same_Some _ what tells) tt
says (requests.Drop writer key status part) (requests.DroppedTo (end.Up closed)) what tells = subst IsOther (same_Some _ what tells) tt
says (requests.Drop writer key status part) (requests.DroppedTo (end.Top closed)) what tells = subst IsOther (same_Some _ what tells) tt
-- ends of writes: the event has the write and the status that were asked
says (requests.Done write status) requests.Did what tells = sym (same_Some _ what tells)
-- resizes: one that found elements out is no event
says (requests.Resize pool min) (requests.OutIs out) what tells = by_test (out == 0) tells
  where
    by_test : (v : Bool) → resize_of v pool min ≡ Some what → IsOther what
    by_test true tells = subst IsOther (same_Some _ what tells) tt
    by_test false tells = none_told what tells
-- starts of rounds: the event has the number that was asked
says (requests.NextRound round) requests.Did what tells = sym (same_Some _ what tells)
-- all other answers, and all to looks and rests, are no events
says _ _ what tells = none_told what tells

-- so a write is told done by a request to do so,
pub asks_done : (request : Request) (write : ℕ) (status : Status) → EventSays request (what.Done write status) → request ≡ requests.Done write status
-- an end of a write is of this one, with this status
asks_done (requests.Done other ending) write status h = let a : other ≡ write = cc in let b : ending ≡ status = cc in λ i. requests.Done (a i) (b i)
-- a start of a round tells another event
asks_done (requests.NextRound round) write status h = absurd cc
-- all others tell other events, or none
asks_done _ write status h = absurd h

-- and a round started by one
pub asks_round : (request : Request) (number : ℕ) → EventSays request (what.Round number) → request ≡ requests.NextRound number
-- an end of a write tells another event
asks_round (requests.Done write status) number h = absurd cc
-- a start of a round is of this one
asks_round (requests.NextRound round) number h = let a : round ≡ number = cc in ap requests.NextRound a
-- all others tell other events, or none
asks_round _ number h = absurd h

-- all other requests keep statuses and the round
pub tally_stays : (ledger : ℕ → LedgerId) (old new : Objects) (request : Request) (reply : Reply) (what : What) → EventSays request what → IsOther what → Serves ledger old request reply new
    → new.tally ≡ old.tally
-- takes and gives change a pool
tally_stays ledger old new (requests.TakeBio set waits) reply what h other serves = ap (λ (o : Objects). o.tally) (one_object_changes ledger old new (requests.TakeBio set waits) reply serves)
tally_stays ledger old new requests.TakeVec reply what h other serves = ap (λ (o : Objects). o.tally) (one_object_changes ledger old new requests.TakeVec reply serves)
tally_stays ledger old new (requests.TakeSlip dev) reply what h other serves = ap (λ (o : Objects). o.tally) (one_object_changes ledger old new (requests.TakeSlip dev) reply serves)
tally_stays ledger old new (requests.GiveBio bio) reply what h other serves = ap (λ (o : Objects). o.tally) (one_object_changes ledger old new (requests.GiveBio bio) reply serves)
tally_stays ledger old new (requests.GiveVec vector) reply what h other serves = ap (λ (o : Objects). o.tally) (one_object_changes ledger old new (requests.GiveVec vector) reply serves)
tally_stays ledger old new (requests.GiveSlip slip) reply what h other serves = ap (λ (o : Objects). o.tally) (one_object_changes ledger old new (requests.GiveSlip slip) reply serves)
-- punts and pops change the list of a rescuer
tally_stays ledger old new (requests.Punt dev moved) reply what h other serves = ap (λ (o : Objects). o.tally) (one_object_changes ledger old new (requests.Punt dev moved) reply serves)
tally_stays ledger old new (requests.Pop dev) reply what h other serves = ap (λ (o : Objects). o.tally) (one_object_changes ledger old new (requests.Pop dev) reply serves)
-- pushes and completions change a disk
tally_stays ledger old new (requests.Push bio) reply what h other serves = ap (λ (o : Objects). o.tally) (one_object_changes ledger old new (requests.Push bio) reply serves)
tally_stays ledger old new (requests.Complete disk) reply what h other serves = ap (λ (o : Objects). o.tally) (one_object_changes ledger old new (requests.Complete disk) reply serves)
-- nodes that are opened or told of an end change a book
tally_stays ledger old new (requests.Link writer opening) reply what h other serves = ap (λ (o : Objects). o.tally) (one_object_changes ledger old new (requests.Link writer opening) reply serves)
tally_stays ledger old new (requests.Drop writer key status part) reply what h other serves = ap (λ (o : Objects). o.tally) (one_object_changes ledger old new (requests.Drop writer key status part) reply serves)
-- an end of a write is none of the other events
tally_stays ledger old new (requests.Done write status) reply what h other serves = absurd (subst IsOther h other)
-- resizes change a pool
tally_stays ledger old new (requests.Resize pool min) reply what h other serves = ap (λ (o : Objects). o.tally) (one_object_changes ledger old new (requests.Resize pool min) reply serves)
-- a start of a round is none of the other events
tally_stays ledger old new (requests.NextRound round) reply what h other serves = absurd (subst IsOther h other)
-- looks and rests change nothing
tally_stays ledger old new requests.LookRound (requests.Present round) what h other serves = ap (λ (o : Objects). o.tally) serves.1
tally_stays ledger old new requests.LookRound reply what h other serves = absurd serves
tally_stays ledger old new requests.LookLeft (requests.LeftOver count) what h other serves = ap (λ (o : Objects). o.tally) serves.1
tally_stays ledger old new requests.LookLeft reply what h other serves = absurd serves
tally_stays ledger old new requests.Rest reply what h other serves = ap (λ (o : Objects). o.tally) (one_object_changes ledger old new requests.Rest reply serves)

-- a write that is told done gets its status, and no other
pub done_tally : (ledger : ℕ → LedgerId) (old new : Objects) (write : ℕ) (status : Status) (reply : Reply) → Serves ledger old (requests.Done write status) reply new
    → new.tally ≡ done_one write status old.tally
done_tally ledger old new write status requests.Did serves = ap (λ (o : Objects). o.tally) serves
done_tally ledger old new write status reply serves = absurd serves

pub round_tally : (ledger : ℕ → LedgerId) (old new : Objects) (round : ℕ) (reply : Reply) → Serves ledger old (requests.NextRound round) reply new
    → new.tally ≡ record old.tally { round = old.tally.round + 1 }
round_tally ledger old new round requests.Did serves = ap (λ (o : Objects). o.tally) serves.1
round_tally ledger old new round reply serves = absurd serves
