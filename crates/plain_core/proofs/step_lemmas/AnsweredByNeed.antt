-- A request can be answered without ordinary memory exactly where its need is met.
use Rattle.std.proofs.Common.{◌≡◌, ◌⊎◌, inl, inr, ◌-◌, ◌^◌, ◌<◌, ◌==◌, ◌∷◌, if◌then◌else◌, ℕ, Bool, true, false, List, [], length, min, remove, refl, sym, ap, ◌∙◌, subst, arith, Option, None, Some, IsSome, IsTrue}
use Rattle.std.specs.Prelude.{slice_get}
use Rattle.std.proofs.lemmas.Bool.Decides.{nat_tests}
use Rattle.std.proofs.lemmas.Option.{slice_get_within}
use Rattle.stack_base.specs.declared.ids.DevId.{DevId}
use Rattle.stack_base.specs.declared.ids.PoolId.{PoolId}
use Rattle.stack_base.specs.declared.ids.PoolId.TheVariants.{FsVecs, Records}
use Rattle.stack_base.specs.declared.ids.Status.{Status}
use Rattle.stack_base.specs.declared.ids.Status.TheVariants as status
use Rattle.stack_base.specs.PoolId.{pool_number}
use Rattle.stack_base.specs.Fault.{fault, status_eq}
use Rattle.mempool_core.specs.Position.{uses_entry}
use Rattle.mempool_core.specs.Move.{PoolState, takes_spare, misses, gives, after_move}
use Rattle.bio_records.specs.declared.bio.Pad.{Pad}
use Rattle.bio_records.specs.Items.{Item}
use Rattle.bioset_pools.specs.Sets.{bios_of}
use Rattle.model_disks.specs.Disks.{DiskState}
use Rattle.model_disks.specs.Moves.{Completes, written}
use Rattle.bio_books.specs.Books.{BookState, Node, node_at, parent_of, with_node, top_node, child_node, master_node, leg_node, with_kept_part, raised, lowered, told}
use Rattle.bio_books.specs.Drops.{Drops, DropsAt, closed_of}
use Rattle.bio_books.specs.Drops as drop
use Rattle.bio_books.specs.Links.{Linked, Made, NoRoom, Stray, ChainsAt, MastersAt, LegsAt}
use Rattle.run_machine.specs.declared.event.Got.TheVariants as got
use Rattle.run_machine.specs.declared.event.What.{What}
use Rattle.run_machine.specs.declared.event.What.TheVariants as what
use Rattle.run_machine.specs.Events.{is_free, what_of, take_of, miss_of, pool_of, how_of, link_of, drop_of, resize_of}
use Rattle.run_machine.specs.Maps.{upd}
use Rattle.run_machine.specs.Objects.{Objects, OpensNode, Serves, clear_bio, clear_vector, clear_slip}
use Rattle.run_machine.specs.Requests.{Request, Reply, Opening, Write, Chain, Master, Leg, TakeBio, TakeVec, TakeSlip, GiveBio, GiveVec, GiveSlip, Punt, Pop, Push, Complete, Link, Drop, Done, Resize, NextRound, LookRound, LookLeft, Rest, HadBio, HadVec, HadSlip, Missed, Did, Popped, Completed, LinkedTo, DroppedTo, OutIs, Nothing}
use Rattle.run_machine.proofs.Frames.{upd_same}
use Rattle.plain_core.specs.objects.Questions.{IsDecisionOf}
use Rattle.plain_core.specs.steps.Free.{CanFree, NeedIsMet, link_need, need_of}
use Rattle.plain_core.specs.objects.Ledgers.{ledger_of}
use Rattle.plain_core.specs.objects.Plain.{CoreObjects, core_pool_at, core_rescue_at, core_disk_at, core_book_at, objects_of_core}
use Rattle.plain_core.specs.declared.steps.need.Need.{Need}

same_what : {x y : What} → Some x ≡ Some y → y ≡ x
same_what same = cc

not_true : false ≡ true → ⊥
not_true e = cc

-- an ordinary element is not free, and of misses only those of takes that do not wait
ordinary : (waits : Bool) (pool : PoolId) → IsTrue (is_free (take_of waits pool got.Ordinary)) → ⊥
ordinary true pool free = not_true free
ordinary false pool free = not_true free

ordinary_told : (waits : Bool) (pool : PoolId) (told : What) → Some (take_of waits pool got.Ordinary) ≡ Some told → IsTrue (is_free told) → ⊥
ordinary_told waits pool told is free = ordinary waits pool (subst (λ w. IsTrue (is_free w)) (same_what is) free)

spare_free : (waits : Bool) (pool : PoolId) → IsTrue (is_free (take_of waits pool got.Spare))
spare_free true pool = refl
spare_free false pool = refl

missed_free : (waits used : Bool) (pool : PoolId) (told : What) → miss_of waits used pool ≡ Some told → IsTrue (is_free told) → waits ≡ false
missed_free true true pool told is free = absurd (not_true (subst (λ w. IsTrue (is_free w)) (same_what is) free))
missed_free true false pool told is free = absurd cc
missed_free false used pool told is free = refl

never_true : {X : Type 0} → true ≡ false → X
never_true e = absurd cc

nothing_told : {X : Type 0} {told : What} → None ≡ Some told → X
nothing_told e = absurd cc

-- what links and ends need
chain_at : (old : CoreObjects) (writer parent place : ℕ) (node : Option Node) (new : BookState) → node_at (core_book_at old writer) parent ≡ node
    → ChainsAt (core_book_at old writer) parent node (Made place) new → NeedIsMet old (link_need writer (Chain parent))
chain_at old writer parent place (Some node) new is c = (place, node, c.1, is, c.0)
chain_at old writer parent place None new is c = absurd c

child_at : (old : CoreObjects) (writer parent place : ℕ) (part : Item Pad) (slip : _) (legs : ℕ) (node : Option Node) (new : BookState) → node_at (core_book_at old writer) parent ≡ node
    → MastersAt (core_book_at old writer) parent node part slip legs (Made place) new → NeedIsMet old (link_need writer (Leg parent))
child_at old writer parent place part slip legs (Some node) new is c = (place, node, c.0, is)
child_at old writer parent place part slip legs None new is c = absurd c

leg_at : (old : CoreObjects) (writer parent place : ℕ) (node : Option Node) (new : BookState) → node_at (core_book_at old writer) parent ≡ node
    → LegsAt (core_book_at old writer) parent node (Made place) new → NeedIsMet old (link_need writer (Leg parent))
leg_at old writer parent place (Some node) new is c = (place, node, c.0, is)
leg_at old writer parent place None new is c = absurd c

link_met : (old : CoreObjects) (writer : ℕ) (opening : Opening) (answer : Linked) (new : BookState) (told : What) → link_of writer opening answer ≡ Some told
    → OpensNode (core_book_at old writer) opening answer new → NeedIsMet old (link_need writer opening)
link_met old writer (Write write vector) (Made place) new told is o = (place, o.0)
link_met old writer (Chain parent) (Made place) new told is o = chain_at old writer parent place (node_at (core_book_at old writer) parent) new refl o
link_met old writer (Master parent part slip legs) (Made place) new told is o = child_at old writer parent place part slip legs (node_at (core_book_at old writer) parent) new refl o
link_met old writer (Leg parent) (Made place) new told is o = leg_at old writer parent place (node_at (core_book_at old writer) parent) new refl o
link_met old writer opening (NoRoom back) new told is o = nothing_told is
link_met old writer opening (Stray back) new told is o = nothing_told is

end_met : (old : CoreObjects) (writer place : ℕ) (ending : Status) (part : Option (Item Pad)) (node : Option Node) (ended : drop.DropOutcome) (new : BookState) (told : What)
    → node_at (core_book_at old writer) place ≡ node → drop_of writer place ending ended ≡ Some told → DropsAt (core_book_at old writer) place node ending part ended new
    → (n : Node) × (node_at (core_book_at old writer) place ≡ Some n) × (0 < n.count)
end_met old writer place ending part (Some n) drop.Left new told is tells d = (n, is, omega (arith, d.0))
end_met old writer place ending part (Some n) (drop.Up closed) new told is tells d = (n, is, omega (arith, d.0))
end_met old writer place ending part (Some n) (drop.Top closed) new told is tells d = (n, is, omega (arith, d.0))
end_met old writer place ending part _ (drop.Stray back) new told is tells d = nothing_told tells
end_met old writer place ending part None drop.Left new told is tells d = absurd d
end_met old writer place ending part None (drop.Up closed) new told is tells d = absurd d
end_met old writer place ending part None (drop.Top closed) new told is tells d = absurd d

home_met : (out facts : ℕ) (pool : PoolId) (min : ℕ) (told : What) (home : Bool) → (out == 0) ≡ home → resize_of home pool min ≡ Some told → out ≡ facts → facts ≡ 0
home_met out facts pool min told true test is same = let e : out ≡ 0 = grind (arith, nat_tests, test) in sym same ∙ e
home_met out facts pool min told false test is same = nothing_told is

-- what is answered so has its need met
met : (old : CoreObjects) (request : Request) (told : What) (reply : Reply) (new : Objects) → what_of request reply ≡ Some told
    → Serves ledger_of (objects_of_core old) request reply new → IsTrue (is_free told) → NeedIsMet old (need_of request)
-- takes: only a spare is free, and a miss of a take that does not wait
met old (TakeBio set waits) told (HadBio got.Ordinary bio) new is serves free = absurd (ordinary_told waits (bios_of set) told is free)
met old (TakeBio set waits) told (HadBio got.Spare bio) new is serves free = inl serves.0.0
met old (TakeBio set waits) told (HadBio got.Missed bio) new is serves free = absurd serves.0
met old (TakeBio set waits) told (Missed used) new is serves free = inr (missed_free waits used (bios_of set) told is free, serves.0.0)
met old TakeVec told (HadVec got.Ordinary vector) new is serves free = absurd (ordinary_told true FsVecs told is free)
met old TakeVec told (HadVec got.Spare vector) new is serves free = inl serves.0.0
met old TakeVec told (HadVec got.Missed vector) new is serves free = absurd serves.0
met old TakeVec told (Missed used) new is serves free = never_true (missed_free true used FsVecs told is free)
met old (TakeSlip dev) told (HadSlip got.Ordinary slip) new is serves free = absurd (ordinary_told true (Records dev) told is free)
met old (TakeSlip dev) told (HadSlip got.Spare slip) new is serves free = inl serves.0.0
met old (TakeSlip dev) told (HadSlip got.Missed slip) new is serves free = absurd serves.0
met old (TakeSlip dev) told (Missed used) new is serves free = never_true (missed_free true used (Records dev) told is free)
-- gives: the element is out
met old (GiveBio bio) told Did new is serves free = serves.0
met old (GiveVec vector) told Did new is serves free = serves.0
met old (GiveSlip slip) told Did new is serves free = serves.0
-- bios for a rescuer, and one of those that wait
met old (Punt dev moved) told reply new is serves free = tt
met old (Pop dev) told (Popped bio) new is serves free = let long = ap length serves.0 in omega (arith, long)
met old (Pop dev) told Nothing new is serves free = nothing_told is
-- a bio for a disk, and a completion of one of those that wait
met old (Push bio) told reply new is serves free = tt
met old (Complete disk) told (Completed index bio ending) new is serves free =
    let lt = slice_get_within (core_disk_at old disk.0).pending index bio serves.0.taken in
    omega (arith, lt)
met old (Complete disk) told Nothing new is serves free = nothing_told is
-- nodes: a vacant place, or an open node
met old (Link writer opening) told (LinkedTo answer) new is serves free = link_met old writer opening answer (new.book writer) told is serves.0
met old (Drop writer node ending part) told (DroppedTo ended) new is serves free =
    end_met old writer node ending part (node_at (core_book_at old writer) node) ended (new.book writer) told refl is serves.0
-- the tally, a reserve with nothing out, and the next round
met old (Done write ending) told reply new is serves free = tt
met old (Resize pool min) told (OutIs out) new is serves free = home_met out _ pool min told (out == 0) refl is serves.0
met old (NextRound round) told Did new is serves free = serves.0
-- looks and rests tell nothing
met old LookRound told reply new is serves free = nothing_told is
met old LookLeft told reply new is serves free = nothing_told is
met old Rest told reply new is serves free = nothing_told is
-- nothing else is served
met old asked told reply new is serves free = absurd serves

-- the other way: how each is answered
abbrev pool_free : (old : CoreObjects) (n : ℕ) (p : PoolState) → Objects
pool_free old n p = record (objects_of_core old) { pool = upd (core_pool_at old) n p }

popped : (old : CoreObjects) (dev : DevId) (bios : List (Item Pad)) → core_rescue_at old dev.0 ≡ bios → 0 < length bios → CanFree old (Pop dev)
popped old dev [] is lt = absurd (omega (arith, lt))
popped old dev (bio ∷ rest) is lt =
    let kept : upd (core_rescue_at old) dev.0 rest dev.0 ≡ rest = upd_same (core_rescue_at old) dev.0 rest in
    record {
      what = what.Pop dev;
      reply = Popped bio;
      new = record (objects_of_core old) { rescue = upd (core_rescue_at old) dev.0 rest };
      told = refl;
      serves = (is ∙ ap (λ r. bio ∷ r) (sym kept), ap (λ r. record (objects_of_core old) { rescue = upd (core_rescue_at old) dev.0 r }) (sym kept));
      free = refl;
    }

completed : (old : CoreObjects) (disk : DevId) (bios : List (Item Pad)) → (core_disk_at old disk.0).pending ≡ bios → 0 < length bios → CanFree old (Complete disk)
completed old disk [] is lt = absurd (omega (arith, lt))
completed old disk (bio ∷ rest) is lt =
    let here = core_disk_at old disk.0 in
    let ending = fault here.bad bio.bio.range in
    let after : DiskState = record here {
      image = if status_eq ending status.Ok then written bio.bio here.image else here.image;
      pending = remove here.pending 0;
    } in
    let kept : upd (core_disk_at old) disk.0 after disk.0 ≡ after = upd_same (core_disk_at old) disk.0 after in
    record {
      what = what.Complete disk 0 ending;
      reply = Completed 0 bio ending;
      new = record (objects_of_core old) { disk = upd (core_disk_at old) disk.0 after };
      told = refl;
      serves = (
        subst (Completes here 0 bio ending) (sym kept) (record { taken = ap (λ (bs : List (Item Pad)). slice_get bs 0) is; status = refl; after = refl }),
        ap (λ d. record (objects_of_core old) { disk = upd (core_disk_at old) disk.0 d }) (sym kept),
      );
      free = refl;
    }

linked : (old : CoreObjects) (writer place : ℕ) (opening : Opening) (after : BookState) → OpensNode (core_book_at old writer) opening (Made place) after → CanFree old (Link writer opening)
linked old writer place opening after is =
    let kept : upd (core_book_at old) writer after writer ≡ after = upd_same (core_book_at old) writer after in
    record {
      what = what.Link writer (how_of opening) place;
      reply = LinkedTo (Made place);
      new = record (objects_of_core old) { book = upd (core_book_at old) writer after };
      told = refl;
      serves = (
        subst (OpensNode (core_book_at old writer) opening (Made place)) (sym kept) is,
        ap (λ b. record (objects_of_core old) { book = upd (core_book_at old) writer b }) (sym kept),
      );
      free = refl;
    }

link_free : (old : CoreObjects) (writer : ℕ) (opening : Opening) → NeedIsMet old (link_need writer opening) → CanFree old (Link writer opening)
-- a write needs a vacant place
link_free old writer (Write write vector) m =
    linked old writer m.0 (Write write vector) (with_node (core_book_at old writer) m.0 (Some (top_node write vector))) (m.1, refl)
-- a front, a master and a leg need an open node besides
link_free old writer (Chain parent) m =
    let after = with_node (with_node (core_book_at old writer) m.0 (Some (child_node m.1.write parent))) parent (Some (raised m.1)) in
    linked old writer m.0 (Chain parent) after (subst (λ node. ChainsAt (core_book_at old writer) parent node (Made m.0) after) (sym m.3) (m.4, m.2, refl))
link_free old writer (Master parent part slip legs) m =
    let after = with_node (with_node (core_book_at old writer) m.0 (Some (master_node m.1.write parent slip legs))) parent (Some (with_kept_part part m.1)) in
    linked old writer m.0 (Master parent part slip legs) after
    (subst (λ node. MastersAt (core_book_at old writer) parent node part slip legs (Made m.0) after) (sym m.3) (m.2, refl))
link_free old writer (Leg parent) m =
    let after = with_node (core_book_at old writer) m.0 (Some (leg_node m.1.write parent)) in
    linked old writer m.0 (Leg parent) after (subst (λ node. LegsAt (core_book_at old writer) parent node (Made m.0) after) (sym m.3) (m.2, refl))

dropped : (old : CoreObjects) (writer place : ℕ) (ending : Status) (part : Option (Item Pad)) (ended : drop.DropOutcome) (after : BookState) (told : What)
    → drop_of writer place ending ended ≡ Some told → IsTrue (is_free told) → Drops (core_book_at old writer) place ending part ended after → CanFree old (Drop writer place ending part)
dropped old writer place ending part ended after told tells free is =
    let kept : upd (core_book_at old) writer after writer ≡ after = upd_same (core_book_at old) writer after in
    record {
      what = told;
      reply = DroppedTo ended;
      new = record (objects_of_core old) { book = upd (core_book_at old) writer after };
      told = tells;
      serves = (
        subst (Drops (core_book_at old writer) place ending part ended) (sym kept) is,
        ap (λ b. record (objects_of_core old) { book = upd (core_book_at old) writer b }) (sym kept),
      );
      free = free;
    }

one_or_more : (n : ℕ) → 0 < n → (n ≡ 1) ⊎ (1 < n)
one_or_more n lt = search (lt, arith)

drop_free : (old : CoreObjects) (writer place : ℕ) (ending : Status) (part : Option (Item Pad)) (n : Node) → node_at (core_book_at old writer) place ≡ Some n → 0 < n.count
    → CanFree old (Drop writer place ending part)
drop_free old writer place ending part n is lt =
    elim (one_or_more n.count lt) [
      | inl last ↦ by_parent last (parent_of n.role) refl
      | inr more ↦
          let after = with_node (core_book_at old writer) place (Some (lowered (told n ending part))) in
          dropped old writer place ending part drop.Left after _ refl refl
          (subst (λ node. DropsAt (core_book_at old writer) place node ending part drop.Left after) (sym is) (more, refl))
    ]
  where
    by_parent : n.count ≡ 1 → (parent : Option ℕ) → parent_of n.role ≡ parent → CanFree old (Drop writer place ending part)
    by_parent last None none =
        let closed = closed_of (told n ending part) in
        let after = with_node (core_book_at old writer) place None in
        dropped old writer place ending part (drop.Top closed) after _ refl refl
        (subst (λ node. DropsAt (core_book_at old writer) place node ending part (drop.Top closed) after) (sym is) (last, none, refl, refl))
    by_parent last (Some parent) some =
        let closed = closed_of (told n ending part) in
        let after = with_node (core_book_at old writer) place None in
        dropped old writer place ending part (drop.Up closed) after _ refl refl
        (subst (λ node. DropsAt (core_book_at old writer) place node ending part (drop.Up closed) after) (sym is) (last, subst IsSome (sym some) refl, refl, refl))

-- a spare is taken, or an element is given back
spare_taken : (old : CoreObjects) (request : Request) (pool : PoolId) (reply : Reply) → what_of request reply ≡ Some (what.Take pool got.Spare)
    → Serves ledger_of (objects_of_core old) request reply (pool_free old (pool_number pool) (after_move (core_pool_at old (pool_number pool)) takes_spare))
    → CanFree old request
spare_taken old request pool reply tells serves = record {
  what = what.Take pool got.Spare;
  reply = reply;
  new = pool_free old (pool_number pool) (after_move (core_pool_at old (pool_number pool)) takes_spare);
  told = tells;
  serves = serves;
  free = refl;
}

given_back : (old : CoreObjects) (request : Request) (number : ℕ) → what_of request Did ≡ Some (what.Give (pool_of number))
    → Serves ledger_of (objects_of_core old) request Did (pool_free old number (after_move (core_pool_at old number) gives)) → CanFree old request
given_back old request number tells serves = record {
  what = what.Give (pool_of number);
  reply = Did;
  new = pool_free old number (after_move (core_pool_at old number) gives);
  told = tells;
  serves = serves;
  free = refl;
}

free : (old : CoreObjects) (request : Request) → NeedIsMet old (need_of request) → CanFree old request
-- takes have a spare, or miss where they do not wait
free old (TakeBio set waits) (inl can) = record {
  what = take_of waits (bios_of set) got.Spare;
  reply = HadBio got.Spare (clear_bio (ledger_of (pool_number (bios_of set))));
  new = pool_free old (pool_number (bios_of set)) (after_move (core_pool_at old (pool_number (bios_of set))) takes_spare);
  told = refl;
  serves = ((can, refl), refl);
  free = spare_free waits (bios_of set);
}
free old (TakeBio set true) (inr miss) = never_true miss.0
free old (TakeBio set false) (inr miss) = record {
  what = what.Try (bios_of set) got.Missed;
  reply = Missed (uses_entry (core_pool_at old (pool_number (bios_of set))).script (core_pool_at old (pool_number (bios_of set))).facts.pos);
  new = pool_free old (pool_number (bios_of set)) (after_move (core_pool_at old (pool_number (bios_of set))) (misses (uses_entry (core_pool_at old (pool_number (bios_of set))).script (core_pool_at old (pool_number (bios_of set))).facts.pos)));
  told = refl;
  serves = ((miss.1, refl), refl);
  free = refl;
}
free old TakeVec (inl can) = spare_taken old TakeVec FsVecs (HadVec got.Spare (clear_vector (ledger_of (pool_number FsVecs)))) refl ((can, refl), refl)
free old TakeVec (inr miss) = never_true miss.0
free old (TakeSlip dev) (inl can) =
    spare_taken old (TakeSlip dev) (Records dev) (HadSlip got.Spare (clear_slip (ledger_of (pool_number (Records dev))))) refl ((can, refl), refl)
free old (TakeSlip dev) (inr miss) = never_true miss.0
-- an element that is out is given back
free old (GiveBio bio) lt = given_back old (GiveBio bio) bio.share.no refl (lt, refl)
free old (GiveVec vector) lt = given_back old (GiveVec vector) vector.share.no refl (lt, refl)
free old (GiveSlip slip) lt = given_back old (GiveSlip slip) slip.share.no refl (lt, refl)
-- bios go to a rescuer, and the first that waits comes from it
free old (Punt dev moved) m = record { what = what.Punt dev (min (length moved) (2 ^ 64 - 1)); reply = Did; new = _; told = refl; serves = refl; free = refl }
free old (Pop dev) lt = popped old dev (core_rescue_at old dev.0) refl lt
-- a bio goes to a disk, and the first that waits is completed
free old (Push bio) m = record { what = what.Push bio.bio.dev bio.bio.range.start bio.bio.range.len bio.pad.leg; reply = Did; new = _; told = refl; serves = refl; free = refl }
free old (Complete disk) lt = completed old disk (core_disk_at old disk.0).pending refl lt
-- a node is opened, or told of an end
free old (Link writer opening) m = link_free old writer opening m
free old (Drop writer node ending part) m = drop_free old writer node ending part m.0 m.1 m.2
-- a write is done, a reserve changes, a round starts
free old (Done write ending) m = record { what = what.Done write ending; reply = Did; new = _; told = refl; serves = refl; free = refl }
free old (Resize pool reserve) is = record { what = what.Resize pool reserve; reply = OutIs 0; new = _; told = refl; serves = (sym is, refl); free = refl }
free old (NextRound round) lt = record { what = what.Round round; reply = Did; new = _; told = refl; serves = (lt, refl); free = refl }
-- looks and rests have no event
free old LookRound never = absurd never
free old LookLeft never = absurd never
free old Rest never = absurd never

-- so the question for the need answers the other
pub tells_free : (old : CoreObjects) (request : Request) (need : Need) (answer : Bool) → need ≡ need_of request → IsDecisionOf answer (NeedIsMet old need) → IsDecisionOf answer (CanFree old request)
tells_free old request need true is so = free old request (subst (NeedIsMet old) is so)
tells_free old request need false is never = λ f. never (subst (NeedIsMet old) (sym is) (met old request f.what f.reply f.new f.told f.serves f.free))
