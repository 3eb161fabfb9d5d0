-- Objects that are alike but for the places of nodes serve alike requests, and stay alike.
use Rattle.std.proofs.Common.{◌≡◌, ◌<◌, ◌+◌, ◌++◌, ◌==◌, if◌then◌else◌, ℕ, suc, Bool, true, false, List, [], ◌∷◌, length, take, drop, Option, None, Some, refl, sym, ◌∙◌, ap, subst}
use Rattle.std.specs.Prelude.{map, remove, unwrap_or, is_none}
use Rattle.std.specs.Option.{option_map}
use Rattle.std.proofs.lemmas.List.{map-append, take-map, drop-map}
use Rattle.std.proofs.lemmas.Option.{slice_get-map}
use Rattle.elem_ledger.specs.Ledger.{LedgerId}
use Rattle.stack_base.specs.declared.ids.DevId.{DevId}
use Rattle.stack_base.specs.declared.ids.Status.{Status}
use Rattle.stack_base.specs.declared.ids.Status.TheVariants.{Ok}
use Rattle.stack_base.specs.Fault.{status_eq}
use Rattle.bio_records.specs.declared.bio.Bio.{Bio}
use Rattle.bio_records.specs.declared.bio.Pad.{Pad}
use Rattle.bio_records.specs.Items.{Item}
use Rattle.bio_books.specs.Books.{Node, BookState, VectorItem, SlipItem, node_at}
use Rattle.bio_books.specs.Drops.{DropOutcome, Drops, DropsAt}
use Rattle.bio_books.specs.Drops as end
use Rattle.bio_books.specs.Links.{IsVacant, Made, NoRoom, Stray, ChainsAt, MastersAt, LegsAt}
use Rattle.model_disks.specs.Disks.{DiskState}
use Rattle.model_disks.specs.Moves.{pushed, written, Completes}
use Rattle.run_machine.specs.declared.event.What.{What}
use Rattle.run_machine.specs.declared.event.What.TheVariants as what
use Rattle.run_machine.specs.declared.event.End.TheVariants as told_end
use Rattle.run_machine.specs.declared.event.Got.{Got}
use Rattle.run_machine.specs.declared.event.Got.TheVariants as got
use Rattle.run_machine.specs.declared.event.End.{End}
use Rattle.stack_base.specs.declared.ids.PoolId.{PoolId}
use Rattle.run_machine.specs.Maps.{upd}
use Rattle.run_machine.specs.Requests.{Request, Reply, Opening, Write, Chain, Master, Leg, TakeBio, TakeVec, TakeSlip, GiveBio, GiveVec, GiveSlip, Punt, Pop, Push, Complete, Link, Drop, Done, Resize, NextRound, LookRound, LookLeft, HadBio, HadVec, HadSlip, Missed, Did, Popped, Completed, LinkedTo, DroppedTo, OutIs, Present, LeftOver, Nothing}
use Rattle.run_machine.specs.Objects.{Objects, OpensNode, Serves, clear_bio, clear_vector, clear_slip}
use Rattle.run_machine.specs.Laws.{AgreeAt, OfPool, OfTally, object_of, with_object}
use Rattle.run_machine.specs.Events.{how_of, take_of, miss_of, resize_of, what_of}
use Rattle.run_machine.proofs.Frames.{one_object_changes, upd_own}
use Rattle.run_machine.proofs.OneObject.{one_object_decides}
use Rattle.block_core.proofs.moves.Sums.{upd-same}
use Rattle.block_core.proofs.moves.Deltas.{vacant_at}
use Rattle.plain_core.specs.objects.Ledgers.{ledger_of}
use Rattle.trace_replay.specs.Names.{Names, names_after, placed}
use Rattle.trace_replay.proofs.renaming.Renaming.{Places, bio_to, item_to, hand_to, vector_to, slip_to, disk_to, opening_to, request_to, writer_in, ended_to, reply_to, what_to}
use Rattle.trace_replay.proofs.renaming.Books.{BookAlike, left_to, up_to, top_to, opened_to}
use Rattle.trace_replay.proofs.renaming.Objects.{ObjectsAlike, same_pool, same_tally, same_rescue, same_disk, same_book}

-- what is asked at a device is asked at one of so many
abbrev pub IsWithin : ℕ → Request → Type 0
IsWithin count (Pop dev) = dev.0 < count
IsWithin count (Complete disk) = disk.0 < count
IsWithin count request = Unit {0}

-- a new node has the next place, and there is one
abbrev pub IsNext : Places → Names → Objects → What → Type 0
IsNext to names objects (what.Link writer how key) = (to writer key ≡ names.opened writer) × (names.opened writer < length (objects.book writer).nodes)
IsNext to names objects event = Unit {0}

-- read by these names, it is the event at these places
abbrev pub IsPlaced : Places → Names → What → Type 0
IsPlaced to names event = placed names event ≡ Some (what_to to event)

-- a list without one of its bios
removed_to : {X Y : Type 0} (f : X → Y) (xs : List X) (index : ℕ) → remove (map f xs) index ≡ map f (remove xs index)
removed_to f xs index =
    ap (λ l. l ++ drop (suc index) (map f xs)) (take-map f index xs)
    ∙ ap (λ l. map f (take index xs) ++ l) (drop-map f (suc index) xs)
    ∙ sym (map-append f (take index xs) (drop (suc index) xs))

-- what is written does not go by the node
written_to : (to : Places) (bio : Bio) (image : List (List ℕ)) → written (bio_to to bio) image ≡ written bio image
unfolding written
written_to to bio image = refl

pushed_to : (to : Places) (bio : Item Pad) (disk : DiskState) → pushed (item_to to bio) (disk_to to disk) ≡ disk_to to (pushed bio disk)
pushed_to to bio disk = ap (λ bios. record disk { pending = bios }) (sym (map-append (item_to to) disk.pending (bio ∷ [])))

completed_to : (to : Places) (old new : DiskState) (index : ℕ) (bio : Item Pad) (status : Status) → Completes old index bio status new
    → Completes (disk_to to old) index (item_to to bio) status (disk_to to new)
completed_to to old new index bio status is = record {
  taken = slice_get-map (item_to to) old.pending index ∙ ap (option_map (item_to to)) is.taken;
  status = is.status;
  after =
      ap (disk_to to) is.after
      ∙ ap (λ bios. record old { image = if status_eq status Ok then written bio.bio old.image else old.image; pending = bios }) (sym (removed_to (item_to to) old.pending index))
      ∙ ap (λ image. record old { image = if status_eq status Ok then image else old.image; pending = remove (map (item_to to) old.pending) index }) (sym (written_to to bio.bio old.image));
}

-- a new node stands at a place that was vacant, and a node that is told an end is open
pub vacant_of : (book : BookState) (opening : Opening) (key : ℕ) (new : BookState) → OpensNode book opening (Made key) new → IsVacant book key
-- a write
vacant_of book (Write write vector) key new is = is.0
-- a front, a master and a leg, under an open node
vacant_of book (Chain parent) key new is = by (node_at book parent) is
  where
    by : (at : Option Node) → ChainsAt book parent at (Made key) new → IsVacant book key
    by None is = absurd is
    by (Some node) is = is.1
vacant_of book (Master parent part slip legs) key new is = by (node_at book parent) is
  where
    by : (at : Option Node) → MastersAt book parent at part slip legs (Made key) new → IsVacant book key
    by None is = absurd is
    by (Some node) is = is.0
vacant_of book (Leg master) key new is = by (node_at book master) is
  where
    by : (at : Option Node) → LegsAt book master at (Made key) new → IsVacant book key
    by None is = absurd is
    by (Some node) is = is.0

abbrev IsOpen : BookState → ℕ → Type 0
IsOpen book key = (node : Node) × (node_at book key ≡ Some node)

left_open : (book : BookState) (key : ℕ) (at : Option Node) → node_at book key ≡ at → (status : Status) (part : Option (Item Pad)) (new : BookState) → DropsAt book key at status part end.Left new → IsOpen book key
left_open book key None is status part new drops = absurd drops
left_open book key (Some node) is status part new drops = (node, is)

up_open : (book : BookState) (key : ℕ) (at : Option Node) → node_at book key ≡ at → (status : Status) (part : Option (Item Pad)) (closed : end.Closed) (new : BookState)
    → DropsAt book key at status part (end.Up closed) new → IsOpen book key
up_open book key None is status part closed new drops = absurd drops
up_open book key (Some node) is status part closed new drops = (node, is)

top_open : (book : BookState) (key : ℕ) (at : Option Node) → node_at book key ≡ at → (status : Status) (part : Option (Item Pad)) (closed : end.Closed) (new : BookState)
    → DropsAt book key at status part (end.Top closed) new → IsOpen book key
top_open book key None is status part closed new drops = absurd drops
top_open book key (Some node) is status part closed new drops = (node, is)

module _ (ledger : ℕ → LedgerId) (naming : (number : ℕ) → (ledger number).no ≡ number) (count : ℕ) (to : Places) (gone : ℕ) (names : Names) (one other now : Objects) (alike : ObjectsAlike count to names one other) where
  abbrev Served : Request → Reply → What → Type 0
  Served asked reply event =
      (like : Objects) × (fresh : ℕ) × Serves ledger_of other (request_to to gone asked) (reply_to to (writer_in asked) fresh reply) like
      × ObjectsAlike count to (names_after names event) now like × IsPlaced to names event

  -- an event that names no node leaves the names
  abbrev Passes : What → Type 0
  Passes event = (names_after names event ≡ names) × IsPlaced to names event

  passes : (what event : What) → Passes what → Some what ≡ Some event → Passes event
  passes what event stays is = subst Passes (ap (λ o. unwrap_or o event) is) stays

  takes : (waits : Bool) (pool : PoolId) (got : Got) → Passes (take_of waits pool got)
  takes true pool got = (refl, refl)
  takes false pool got = (refl, refl)

  missed : (waits used : Bool) (pool : PoolId) (event : What) → miss_of waits used pool ≡ Some event → Passes event
  missed true true pool event is = passes (what.Take pool got.Missed) event (refl, refl) is
  missed true false pool event is = absurd cc
  missed false used pool event is = passes (what.Try pool got.Missed) event (refl, refl) is

  resized : (home : Bool) (pool : PoolId) (min : ℕ) (event : What) → resize_of home pool min ≡ Some event → Passes event
  resized true pool min event is = passes (what.Resize pool min) event (refl, refl) is
  resized false pool min event is = absurd cc

  -- what a pool hands out is of its ledger
  clear_bio_to : (number : ℕ) (bio : Item Pad) → bio ≡ clear_bio (ledger number) → hand_to bio ≡ clear_bio (ledger_of number)
  clear_bio_to number bio is = ap hand_to is ∙ ap (λ n. clear_bio (ledger_of n)) (naming number)

  clear_vector_to : (number : ℕ) (vector : VectorItem) → vector ≡ clear_vector (ledger number) → vector_to vector ≡ clear_vector (ledger_of number)
  clear_vector_to number vector is = ap vector_to is ∙ ap (λ n. clear_vector (ledger_of n)) (naming number)

  clear_slip_to : (number : ℕ) (slip : SlipItem) → slip ≡ clear_slip (ledger number) → slip_to slip ≡ clear_slip (ledger_of number)
  clear_slip_to number slip is = ap slip_to is ∙ ap (λ n. clear_slip (ledger_of n)) (naming number)

  -- a pool, or the tally, does the same in both
  by_pool : (asked : Request) (reply : Reply) (number : ℕ) (event : What) → object_of asked ≡ OfPool number → Serves ledger one asked reply now → Passes event
      → (like : Objects) × Serves ledger other asked reply like × ObjectsAlike count to (names_after names event) now like × IsPlaced to names event
  by_pool asked reply number event at serves stays =
      let like = with_object other now (OfPool number) in
      let changes = one_object_changes ledger one now asked reply serves ∙ ap (with_object one now) at in
      let same : AgreeAt (object_of asked) one other = subst (λ o. AgreeAt o one other) (sym at) (ap (λ f. f number) (sym alike.pools)) in (
        like,
        subst (λ o. Serves ledger other asked reply (with_object other now o)) at (one_object_decides.serves ledger one now other asked reply same serves),
        subst (λ n. ObjectsAlike count to n now like) (sym stays.0) (same_pool count to names one other alike number now changes),
        stays.1,
      )

  by_tally : (asked : Request) (reply : Reply) (event : What) → object_of asked ≡ OfTally → Serves ledger one asked reply now → Passes event
      → (like : Objects) × Serves ledger other asked reply like × ObjectsAlike count to (names_after names event) now like × IsPlaced to names event
  by_tally asked reply event at serves stays =
      let like = with_object other now OfTally in
      let changes = one_object_changes ledger one now asked reply serves ∙ ap (with_object one now) at in
      let same : AgreeAt (object_of asked) one other = subst (λ o. AgreeAt o one other) (sym at) (sym alike.tally) in (
        like,
        subst (λ o. Serves ledger other asked reply (with_object other now o)) at (one_object_decides.serves ledger one now other asked reply same serves),
        subst (λ n. ObjectsAlike count to n now like) (sym stays.0) (same_tally count to names one other alike now changes),
        stays.1,
      )

  -- a bio leaves the list of its rescuer
  pops : (dev : DevId) (bio : Item Pad) (event : What) → Serves ledger one (Pop dev) (Popped bio) now → Passes event → dev.0 < count → Served (Pop dev) (Popped bio) event
  pops dev bio event serves stays within =
      let rest = map (item_to to) (now.rescue dev.0) in
      let like = record other { rescue = upd other.rescue dev.0 rest } in
      let here : like.rescue dev.0 ≡ rest = upd-same other.rescue dev.0 rest in (
        like,
        0,
        (
          alike.rescued dev.0 within ∙ ap (map (item_to to)) serves.0 ∙ ap (λ bios. item_to to bio ∷ bios) (sym here),
          ap (λ bios. record other { rescue = upd other.rescue dev.0 bios }) (sym here),
        ),
        subst (λ n. ObjectsAlike count to n now like) (sym stays.0)
            (subst (λ o. ObjectsAlike count to names o like) (sym serves.1) (same_rescue count to names one other alike dev.0 (now.rescue dev.0) rest (λ lt. refl))),
        stays.1,
      )

  -- bios join the list of their rescuer
  punts : (dev : DevId) (moved : List (Item Pad)) (event : What) → Serves ledger one (Punt dev moved) Did now → Passes event → Served (Punt dev moved) Did event
  punts dev moved event serves stays =
      let bios = other.rescue dev.0 ++ map (item_to to) moved in
      let like = record other { rescue = upd other.rescue dev.0 bios } in (
        like,
        0,
        refl,
        subst (λ n. ObjectsAlike count to n now like) (sym stays.0)
            (subst (λ o. ObjectsAlike count to names o like) (sym serves)
            (same_rescue count to names one other alike dev.0 (one.rescue dev.0 ++ moved) bios
            (λ lt. ap (λ l. l ++ map (item_to to) moved) (alike.rescued dev.0 lt) ∙ sym (map-append (item_to to) (one.rescue dev.0) moved)))),
        stays.1,
      )

  -- a bio joins the list of its disk
  pushes : (bio : Item Pad) (event : What) → Serves ledger one (Push bio) Did now → Passes event → Served (Push bio) Did event
  pushes bio event serves stays =
      let dev = bio.bio.dev.0 in
      let disk = pushed (item_to to bio) (other.disk dev) in
      let like = record other { disk = upd other.disk dev disk } in (
        like,
        0,
        refl,
        subst (λ n. ObjectsAlike count to n now like) (sym stays.0)
            (subst (λ o. ObjectsAlike count to names o like) (sym serves)
            (same_disk count to names one other alike dev (pushed bio (one.disk dev)) disk
            (λ lt. ap (pushed (item_to to bio)) (alike.disks dev lt) ∙ pushed_to to bio (one.disk dev)))),
        stays.1,
      )

  -- a completion: the bio leaves the list of its disk
  completes : (disk : DevId) (index : ℕ) (bio : Item Pad) (status : Status) (event : What) → Serves ledger one (Complete disk) (Completed index bio status) now → Passes event
      → disk.0 < count → Served (Complete disk) (Completed index bio status) event
  completes disk index bio status event serves stays within =
      let new = disk_to to (now.disk disk.0) in
      let like = record other { disk = upd other.disk disk.0 new } in
      let here : like.disk disk.0 ≡ new = upd-same other.disk disk.0 new in (
        like,
        0,
        (
          subst (λ d. Completes (other.disk disk.0) index (item_to to bio) status d) (sym here)
              (subst (λ d. Completes d index (item_to to bio) status new) (sym (alike.disks disk.0 within)) (completed_to to (one.disk disk.0) (now.disk disk.0) index bio status serves.0)),
          ap (λ d. record other { disk = upd other.disk disk.0 d }) (sym here),
        ),
        subst (λ n. ObjectsAlike count to n now like) (sym stays.0)
            (subst (λ o. ObjectsAlike count to names o like) (sym serves.1) (same_disk count to names one other alike disk.0 (now.disk disk.0) new (λ lt. refl))),
        stays.1,
      )

  -- a node is opened, at the next place
  links : (writer : ℕ) (opening : Opening) (key : ℕ) → Serves ledger one (Link writer opening) (LinkedTo (Made key)) now → IsNext to names one (what.Link writer (how_of opening) key)
      → Served (Link writer opening) (LinkedTo (Made key)) (what.Link writer (how_of opening) key)
  links writer opening key serves next =
      let book = opened_to to writer (names.place writer) (names.opened writer) (one.book writer) (other.book writer) (alike.books writer) key next.0 next.1 opening (now.book writer) serves.0 in
      let like = record other { book = upd other.book writer book.0 } in
      let here : like.book writer ≡ book.0 = upd-same other.book writer book.0 in
      let named : ℕ → Option ℕ = upd (names.place writer) key (Some (names.opened writer)) in
      let last : Names = record { opened = upd names.opened writer (names.opened writer + 1); place = upd names.place writer named } in (
        like,
        0,
        (
          subst (λ b. OpensNode (other.book writer) (opening_to to writer opening) (Made (to writer key)) b) (sym here) book.1,
          ap (λ b. record other { book = upd other.book writer b }) (sym here),
        ),
        subst (λ o. ObjectsAlike count to last o like) (sym serves.1)
            (same_book count to names one other alike writer (names.opened writer + 1) named (now.book writer) book.0 book.2),
        ap (λ o. if is_none o then Some (what.Link writer (how_of opening) (names.opened writer)) else None)
            ((alike.books writer).none key (vacant_at (one.book writer) key (vacant_of (one.book writer) opening key (now.book writer) serves.0)).0)
            ∙ ap (λ p. Some (what.Link writer (how_of opening) p)) (sym next.0),
      )

  -- what is left of a drop
  dropped : (writer key : ℕ) (status : Status) (part : Option (Item Pad)) (ended : DropOutcome) (event : What) (named : ℕ → Option ℕ)
      → now ≡ record one { book = upd one.book writer (now.book writer) }
      → (like : BookState) × (fresh : ℕ) × Drops (other.book writer) (to writer key) status (option_map (item_to to) part) (ended_to (to writer) fresh ended) like
      × BookAlike (to writer) named (names.opened writer) (now.book writer) like
      → names_after names event ≡ record names { place = upd names.place writer named } → IsPlaced to names event
      → Served (Drop writer key status part) (DroppedTo ended) event
  dropped writer key status part ended event named changed (book, fresh, drops, books) stays is_placed =
      let like = record other { book = upd other.book writer book } in
      let here : like.book writer ≡ book = upd-same other.book writer book in
      let same = same_book count to names one other alike writer (names.opened writer) named (now.book writer) book books in (
        like,
        fresh,
        (
          subst (λ b. Drops (other.book writer) (to writer key) status (option_map (item_to to) part) (ended_to (to writer) fresh ended) b) (sym here) drops,
          ap (λ b. record other { book = upd other.book writer b }) (sym here),
        ),
        subst (λ n. ObjectsAlike count to n now like) (sym stays)
            (subst (λ o. ObjectsAlike count to (record names { place = upd names.place writer named }) o like) (sym changed)
            (subst (λ f. ObjectsAlike count to (record { opened = f; place = upd names.place writer named }) (record one { book = upd one.book writer (now.book writer) }) like)
            (upd_own names.opened writer) same)),
        is_placed,
      )

  -- the node that is named is open
  named_open : (writer key : ℕ) (status : Status) (end : End) (event : What) (node : Node) → node_at (one.book writer) key ≡ Some node → Some (what.Drop writer key status end) ≡ Some event
      → IsPlaced to names event
  named_open writer key status end event node at told =
      subst (IsPlaced to names) (ap (λ o. unwrap_or o event) told) (ap (option_map (λ place. what.Drop writer place status end)) ((alike.books writer).names key node at))

  drops : (writer key : ℕ) (status : Status) (part : Option (Item Pad)) (ended : DropOutcome) (event : What) → Serves ledger one (Drop writer key status part) (DroppedTo ended) now
      → what_of (Drop writer key status part) (DroppedTo ended) ≡ Some event → Served (Drop writer key status part) (DroppedTo ended) event
  -- the node waits for others, and keeps its name
  drops writer key status part end.Left event serves told =
      dropped writer key status part end.Left event (names.place writer) serves.1
      (left_to to writer (names.place writer) (names.opened writer) (one.book writer) (other.book writer) (alike.books writer) key (node_at (one.book writer) key) refl status part (now.book writer) serves.0)
      (ap (λ o. names_after names (unwrap_or o event)) (sym told) ∙ ap (λ f. record names { place = f }) (sym (upd_own names.place writer)))
      (let open_node = left_open (one.book writer) key (node_at (one.book writer) key) refl status part (now.book writer) serves.0 in
      named_open writer key status told_end.Left event open_node.0 open_node.1 told)
  -- the node closes, and its name goes
  drops writer key status part (end.Up closed) event serves told =
      dropped writer key status part (end.Up closed) event (upd (names.place writer) key None) serves.1
      (up_to to writer (names.place writer) (names.opened writer) (one.book writer) (other.book writer) (alike.books writer) key (node_at (one.book writer) key) refl status part closed (now.book writer) serves.0)
      (ap (λ o. names_after names (unwrap_or o event)) (sym told))
      (let open_node = up_open (one.book writer) key (node_at (one.book writer) key) refl status part closed (now.book writer) serves.0 in
      named_open writer key status told_end.Up event open_node.0 open_node.1 told)
  drops writer key status part (end.Top closed) event serves told =
      dropped writer key status part (end.Top closed) event (upd (names.place writer) key None) serves.1
      (top_to to writer (names.place writer) (names.opened writer) (one.book writer) (other.book writer) (alike.books writer) key (node_at (one.book writer) key) refl status part closed (now.book writer) serves.0)
      (ap (λ o. names_after names (unwrap_or o event)) (sym told))
      (let open_node = top_open (one.book writer) key (node_at (one.book writer) key) refl status part closed (now.book writer) serves.0 in
      named_open writer key status told_end.Top event open_node.0 open_node.1 told)
  -- no event
  drops writer key status part (end.Stray back) event serves told = absurd cc

  plain : (asked : Request) (reply : Reply) (event : What) → ((like : Objects) × Serves ledger other asked reply like × ObjectsAlike count to (names_after names event) now like × IsPlaced to names event)
      → ((o : Objects) → Serves ledger other asked reply o → Serves ledger_of other (request_to to gone asked) (reply_to to (writer_in asked) 0 reply) o) → Served asked reply event
  plain asked reply event (like, serves, stay, is_placed) alike_too = (like, 0, alike_too like serves, stay, is_placed)

  pub serves_to : (asked : Request) (reply : Reply) (event : What) → Serves ledger one asked reply now → what_of asked reply ≡ Some event → IsWithin count asked → IsNext to names one event
      → Served asked reply event
  -- takes and gives: a pool does the same in both
  serves_to (TakeBio set waits) (HadBio got bio) event serves told within next =
      plain (TakeBio set waits) (HadBio got bio) event (by_pool (TakeBio set waits) (HadBio got bio) _ event refl serves (passes _ event (takes waits _ got) told)) (λ o s. (s.0, clear_bio_to _ bio s.1))
  serves_to (TakeBio set waits) (Missed used) event serves told within next =
      plain (TakeBio set waits) (Missed used) event (by_pool (TakeBio set waits) (Missed used) _ event refl serves (missed waits used _ event told)) (λ o s. s)
  serves_to TakeVec (HadVec got vector) event serves told within next =
      plain TakeVec (HadVec got vector) event (by_pool TakeVec (HadVec got vector) _ event refl serves (passes _ event (refl, refl) told)) (λ o s. (s.0, clear_vector_to _ vector s.1))
  serves_to TakeVec (Missed used) event serves told within next =
      plain TakeVec (Missed used) event (by_pool TakeVec (Missed used) _ event refl serves (missed true used _ event told)) (λ o s. s)
  serves_to (TakeSlip dev) (HadSlip got slip) event serves told within next =
      plain (TakeSlip dev) (HadSlip got slip) event (by_pool (TakeSlip dev) (HadSlip got slip) _ event refl serves (passes _ event (refl, refl) told)) (λ o s. (s.0, clear_slip_to _ slip s.1))
  serves_to (TakeSlip dev) (Missed used) event serves told within next =
      plain (TakeSlip dev) (Missed used) event (by_pool (TakeSlip dev) (Missed used) _ event refl serves (missed true used _ event told)) (λ o s. s)
  serves_to (GiveBio bio) Did event serves told within next = plain (GiveBio bio) Did event (by_pool (GiveBio bio) Did _ event refl serves (passes _ event (refl, refl) told)) (λ o s. s)
  serves_to (GiveVec vector) Did event serves told within next = plain (GiveVec vector) Did event (by_pool (GiveVec vector) Did _ event refl serves (passes _ event (refl, refl) told)) (λ o s. s)
  serves_to (GiveSlip slip) Did event serves told within next = plain (GiveSlip slip) Did event (by_pool (GiveSlip slip) Did _ event refl serves (passes _ event (refl, refl) told)) (λ o s. s)
  -- lists of rescuers, where a pop of nothing is no event
  serves_to (Punt dev moved) Did event serves told within next = punts dev moved event serves (passes _ event (refl, refl) told)
  serves_to (Pop dev) (Popped bio) event serves told within next = pops dev bio event serves (passes _ event (refl, refl) told) within
  serves_to (Pop dev) Nothing event serves told within next = absurd cc
  -- disks, where a completion of nothing is no event
  serves_to (Push bio) Did event serves told within next = pushes bio event serves (passes _ event (refl, refl) told)
  serves_to (Complete disk) (Completed index bio status) event serves told within next = completes disk index bio status event serves (passes _ event (refl, refl) told) within
  serves_to (Complete disk) Nothing event serves told within next = absurd cc
  -- nodes: one that is refused is no event
  serves_to (Link writer opening) (LinkedTo (Made key)) event serves told within next =
      let is : what.Link writer (how_of opening) key ≡ event = ap (λ o. unwrap_or o event) told in
      subst (λ e. Served (Link writer opening) (LinkedTo (Made key)) e) is (links writer opening key serves (subst (IsNext to names one) (sym is) next))
  serves_to (Link writer opening) (LinkedTo (NoRoom back)) event serves told within next = absurd cc
  serves_to (Link writer opening) (LinkedTo (Stray back)) event serves told within next = absurd cc
  serves_to (Drop writer node status part) (DroppedTo ended) event serves told within next = drops writer node status part ended event serves told
  -- the tally and reserves
  serves_to (Done write status) Did event serves told within next = plain (Done write status) Did event (by_tally (Done write status) Did event refl serves (passes _ event (refl, refl) told)) (λ o s. s)
  serves_to (Resize pool min) (OutIs out) event serves told within next =
      plain (Resize pool min) (OutIs out) event (by_pool (Resize pool min) (OutIs out) _ event refl serves (resized (out == 0) pool min event told)) (λ o s. s)
  serves_to (NextRound round) Did event serves told within next = plain (NextRound round) Did event (by_tally (NextRound round) Did event refl serves (passes _ event (refl, refl) told)) (λ o s. s)
  -- looks are no event
  serves_to LookRound (Present round) event serves told within next = absurd cc
  serves_to LookLeft (LeftOver count) event serves told within next = absurd cc
  -- no other reply is one to the request
  serves_to asked reply event serves told within next = absurd serves
