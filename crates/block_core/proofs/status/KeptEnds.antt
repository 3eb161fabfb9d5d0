-- Each event keeps, of each open node, what it was told since it was opened.
use Rattle.std.proofs.Common.{◌≡◌, ◌≢◌, ◌<◌, ◌==◌, ◌&&◌, ◌++◌, if◌then◌else◌, ℕ, Bool, true, false, List, [], ◌∷◌, length, Option, None, Some, inl, inr, refl, sym, ◌∙◌, ap, subst, arith}
use Rattle.std.specs.Prelude.{All, Contains}
use Rattle.std.proofs.lemmas.Bool.{eq-eqb, ne_eqb}
use Rattle.std.proofs.lemmas.List.{get_or-set_same, get_or-set_other}
use Rattle.std.proofs.lemmas.List.Elements.{All-nil, All-push, Contains-append_right, Contains-append_left}
use Rattle.elem_ledger.specs.Ledger.{LedgerId}
use Rattle.stack_base.specs.declared.ids.Status.{Status}
use Rattle.stack_base.specs.declared.ids.Status.TheVariants.{Ok, Io, Medium, NoSpace}
use Rattle.bio_records.specs.declared.bio.Pad.{Pad}
use Rattle.bio_records.specs.Items.{Item}
use Rattle.bio_books.specs.declared.node.Role.{Role}
use Rattle.bio_books.specs.declared.node.Role.TheVariants as role
use Rattle.bio_books.specs.Books.{Node, BookState, node_at, with_node, top_node, child_node, master_node, leg_node, with_kept_part, raised, kept_with, first_failing}
use Rattle.bio_books.specs.Links.{Made, IsVacant, ChainsAt, MastersAt, LegsAt}
use Rattle.bio_books.specs.Drops.{DropOutcome, DropsAt}
use Rattle.bio_books.specs.Drops as end
use Rattle.run_machine.specs.declared.event.Event.{Event}
use Rattle.run_machine.specs.declared.event.What.{What}
use Rattle.run_machine.specs.declared.event.What.TheVariants as what
use Rattle.run_machine.specs.Events.{what_of, resize_of, how_of}
use Rattle.run_machine.specs.Maps.{upd}
use Rattle.run_machine.specs.Objects.{Objects, Serves, OpensNode}
use Rattle.run_machine.specs.Requests as requests
use Rattle.run_machine.specs.Requests.{Request, Reply, Opening}
use Rattle.run_machine.specs.Scene.{Scene}
use Rattle.run_machine.specs.Tasks.{request}
use Rattle.run_machine.specs.Runs.{State, Steps, IsRun}
use Rattle.run_machine.proofs.Frames.{one_object_changes}
use Rattle.block_core.specs.Touches.{is_master}
use Rattle.block_core.specs.KeptEnds.{ends_after, ends_told, KeepsFailure, KeepsMark, KeepsEnds, EndsAreKept}
use Rattle.block_core.proofs.sound.DoneAndRoundEvents.{none_told}
use Rattle.block_core.proofs.moves.Sums.{upd-same, upd-other, same_or_not, within_book}
use Rattle.block_core.proofs.moves.Deltas.{vacant_at}

-- what is kept once one more end is told
bad : {X : Type 0} (status : Status) → status ≢ Ok → status ≡ Ok → X
bad status ne is = absurd (ne is)

all_push : (P : Status → Type 0) (ends : List Status) (status : Status) → All P ends → P status → All P (ends ++ status ∷ [])
all_push P ends status all here = All-push P ends status all here

last_in : (ends : List Status) (status : Status) → Contains (ends ++ status ∷ []) status
last_in ends status = Contains-append_right ends (status ∷ []) status (0, omega arith, refl)

still_in : (ends : List Status) (status kept : Status) → Contains ends kept → Contains (ends ++ status ∷ []) kept
still_in ends status kept c = Contains-append_left ends (status ∷ []) kept c

keeps_failure : (ends : List Status) (old status : Status) → KeepsFailure ends old → KeepsFailure (ends ++ status ∷ []) (first_failing old status)
keeps_failure ends Ok Ok (inl all) = inl (refl, all_push (λ end. end ≡ Ok) ends Ok all.1 refl)
keeps_failure ends Ok Io (inl all) = inr ((λ is. absurd cc), last_in ends Io)
keeps_failure ends Ok Medium (inl all) = inr ((λ is. absurd cc), last_in ends Medium)
keeps_failure ends Ok NoSpace (inl all) = inr ((λ is. absurd cc), last_in ends NoSpace)
keeps_failure ends Ok status (inr some) = bad Ok some.0 refl
keeps_failure ends Io status (inl all) = absurd (let e = all.0 in cc)
keeps_failure ends Io status (inr some) = inr (some.0, still_in ends status Io some.1)
keeps_failure ends Medium status (inl all) = absurd (let e = all.0 in cc)
keeps_failure ends Medium status (inr some) = inr (some.0, still_in ends status Medium some.1)
keeps_failure ends NoSpace status (inl all) = absurd (let e = all.0 in cc)
keeps_failure ends NoSpace status (inr some) = inr (some.0, still_in ends status NoSpace some.1)

keeps_mark : (ends : List Status) (old status : Status) (parent : ℕ) → KeepsMark ends old → KeepsMark (ends ++ status ∷ []) (kept_with (role.Master parent) old status)
keeps_mark ends old Ok parent k = inl (refl, last_in ends Ok)
keeps_mark ends old Io parent (inl some) = inl (some.0, still_in ends Io Ok some.1)
keeps_mark ends old Io parent (inr none) = inr (none.0, all_push (λ end. end ≢ Ok) ends Io none.1 (λ is. absurd cc))
keeps_mark ends old Medium parent (inl some) = inl (some.0, still_in ends Medium Ok some.1)
keeps_mark ends old Medium parent (inr none) = inr (none.0, all_push (λ end. end ≢ Ok) ends Medium none.1 (λ is. absurd cc))
keeps_mark ends old NoSpace parent (inl some) = inl (some.0, still_in ends NoSpace Ok some.1)
keeps_mark ends old NoSpace parent (inr none) = inr (none.0, all_push (λ end. end ≢ Ok) ends NoSpace none.1 (λ is. absurd cc))

keeps_more : (r : Role) (ends : List Status) (old status : Status) → KeepsEnds (is_master r) ends old → KeepsEnds (is_master r) (ends ++ status ∷ []) (kept_with r old status)
keeps_more role.Top ends old status k = keeps_failure ends old status k
keeps_more (role.Chain parent) ends old status k = keeps_failure ends old status k
keeps_more (role.Leg parent) ends old status k = keeps_failure ends old status k
keeps_more (role.Master parent) ends old status k = keeps_mark ends old status parent k

-- a node that was told nothing
keeps_none : KeepsFailure [] Ok
keeps_none = inl (refl, All-nil (λ end. end ≡ Ok))

marks_none : KeepsMark [] Io
marks_none = inr ((λ is. absurd cc), All-nil (λ end. end ≢ Ok))

-- of what stands at a place
abbrev pub KeepsAt : List Status → Option Node → Type 0
KeepsAt ends None = Unit {0}
KeepsAt ends (Some node) = KeepsEnds (is_master node.role) ends node.status

-- at a place of a book of which one place changes
at_place : (book : BookState) (key : ℕ) (v : Option Node) (k : ℕ) (ends more : List Status) → key < length book.nodes → (key ≡ k → KeepsAt more v) → KeepsAt ends (node_at book k)
    → KeepsAt (if key == k then more else ends) (node_at (with_node book key v) k)
at_place book key v k ends more lt here old = elim (same_or_not key k) [
  | inl same ↦
      let is : node_at (with_node book key v) k ≡ v = ap (node_at (with_node book key v)) (sym same) ∙ get_or-set_same book.nodes key v None lt in
      rw (eq-eqb key k same) (subst (KeepsAt more) (sym is) (here same))
  | inr ne ↦ rw (ne_eqb key k ne) (subst (KeepsAt ends) (sym (get_or-set_other book.nodes key k v None (λ q. ne (sym q)))) old)
]

-- a node is made
at_made : (book : BookState) (key : ℕ) (new : Node) (k : ℕ) (ends : List Status) → IsVacant book key → KeepsEnds (is_master new.role) [] new.status → KeepsAt ends (node_at book k)
    → KeepsAt (if key == k then [] else ends) (node_at (with_node book key (Some new)) k)
at_made book key new k ends v keeps old = at_place book key (Some new) k ends [] (vacant_at book key v).1 (λ same. keeps) old

-- and the one above it stays as it has ended so far
at_two : (book : BookState) (key parent : ℕ) (new above other : Node) (k : ℕ) (ends : List Status) → IsVacant book key → node_at book parent ≡ Some above → other.role ≡ above.role
    → other.status ≡ above.status → KeepsEnds (is_master new.role) [] new.status → KeepsAt ends (node_at book k)
    → KeepsAt (if key == k then [] else ends) (node_at (with_node (with_node book key (Some new)) parent (Some other)) k)
at_two book key parent new above other k ends v up role status keeps old =
    let second = with_node book key (Some new) in
    let a = vacant_at book key v in
    let now : List Status = if key == k then [] else ends in
    let first : KeepsAt now (node_at second k) = at_made book key new k ends v keeps old in
    let ne : parent ≢ key = λ q. let x : node_at book parent ≡ node_at book key = ap (node_at book) q in let y : None ≡ Some above = sym a.0 ∙ sym x ∙ up in cc in
    let also : node_at second parent ≡ Some above = get_or-set_other book.nodes key parent (Some new) None ne ∙ up in
    let lt = within_book second parent above also in
    elim (same_or_not k parent) [
      | inl same ↦
          let own : KeepsAt now (Some above) = subst (KeepsAt now) (ap (node_at second) same ∙ also) first in
          let is : node_at (with_node second parent (Some other)) k ≡ Some other = ap (node_at (with_node second parent (Some other))) same ∙ get_or-set_same second.nodes parent (Some other) None lt in
          subst (KeepsAt now) (sym is) (subst (λ r. KeepsEnds (is_master r) now other.status) (sym role) (subst (KeepsEnds (is_master above.role) now) (sym status) own))
      | inr apart ↦ subst (KeepsAt now) (sym (get_or-set_other second.nodes parent k (Some other) None apart)) first
    ]

-- one book changes
in_books : (f : ℕ → BookState) (writer key : ℕ) (book : BookState) (w k : ℕ) (ends more : List Status)
    → (KeepsAt ends (node_at (f writer) k) → KeepsAt (if key == k then more else ends) (node_at book k))
    → KeepsAt ends (node_at (f w) k) → KeepsAt (if writer == w && key == k then more else ends) (node_at (upd f writer book w) k)
in_books f writer key book w k ends more here old = elim (same_or_not writer w) [
  | inl same ↦
      let is : upd f writer book w ≡ book = ap (upd f writer book) (sym same) ∙ upd-same f writer book in
      rw (eq-eqb writer w same) (subst (λ b. KeepsAt (if key == k then more else ends) (node_at b k)) (sym is) (here (subst (λ x. KeepsAt ends (node_at (f x) k)) (sym same) old)))
  | inr ne ↦ rw (ne_eqb writer w ne) (subst (λ b. KeepsAt ends (node_at b k)) (sym (upd-other f writer book w (λ q. ne (sym q)))) old)
]

abbrev ends_by : (w k : ℕ) → Option What → List Status → List Status
ends_by w k None ends = ends
ends_by w k (Some what) ends = ends_after w k what ends

module _ (ledger : ℕ → LedgerId) (old new : Objects) (w k : ℕ) (ends : List Status) where
  abbrev Keeps : Option What → Type 0
  Keeps what = KeepsAt ends (node_at (old.book w) k) → KeepsAt (ends_by w k what ends) (node_at (new.book w) k)

  -- books stay
  books_stay : new.book ≡ old.book → KeepsAt ends (node_at (old.book w) k) → KeepsAt ends (node_at (new.book w) k)
  books_stay same held = subst (λ (f : ℕ → BookState). KeepsAt ends (node_at (f w) k)) (sym same) held

  by_book : (writer key : ℕ) (book : BookState) (more : List Status) → new ≡ record old { book = upd old.book writer (new.book writer) } → new.book writer ≡ book
      → (KeepsAt ends (node_at (old.book writer) k) → KeepsAt (if key == k then more else ends) (node_at book k))
      → KeepsAt ends (node_at (old.book w) k) → KeepsAt (if writer == w && key == k then more else ends) (node_at (new.book w) k)
  by_book writer key book more is made here held =
      let books : new.book ≡ upd old.book writer book = ap (λ (o : Objects). o.book) is ∙ ap (upd old.book writer) made in
      subst (λ (f : ℕ → BookState). KeepsAt (if writer == w && key == k then more else ends) (node_at (f w) k)) (sym books) (in_books old.book writer key book w k ends more here held)

  links : (writer : ℕ) (opening : Opening) (key : ℕ) → OpensNode (old.book writer) opening (Made key) (new.book writer)
      → new ≡ record old { book = upd old.book writer (new.book writer) } → Keeps (Some (what.Link writer (how_of opening) key))
  links writer (requests.Write write vector) key made is =
      by_book writer key _ [] is made.1 (at_made (old.book writer) key (top_node write vector) k ends made.0 keeps_none)
  links writer (requests.Chain parent) key made is = by_found (node_at (old.book writer) parent) refl made
    where
      by_found : (found : Option Node) → node_at (old.book writer) parent ≡ found → ChainsAt (old.book writer) parent found (Made key) (new.book writer)
          → Keeps (Some (what.Link writer (how_of (requests.Chain parent)) key))
      by_found None up made = absurd made
      by_found (Some above) up made =
          by_book writer key _ [] is made.2 (at_two (old.book writer) key parent (child_node above.write parent) above (raised above) k ends made.1 up refl refl keeps_none)
  links writer (requests.Master parent part slip legs) key made is = by_found (node_at (old.book writer) parent) refl made
    where
      by_found : (found : Option Node) → node_at (old.book writer) parent ≡ found → MastersAt (old.book writer) parent found part slip legs (Made key) (new.book writer)
          → Keeps (Some (what.Link writer (how_of (requests.Master parent part slip legs)) key))
      by_found None up made = absurd made
      by_found (Some above) up made =
          by_book writer key _ [] is made.1
          (at_two (old.book writer) key parent (master_node above.write parent slip legs) above (with_kept_part part above) k ends made.0 up refl refl marks_none)
  links writer (requests.Leg master) key made is = by_found (node_at (old.book writer) master) made
    where
      by_found : (found : Option Node) → LegsAt (old.book writer) master found (Made key) (new.book writer) → Keeps (Some (what.Link writer (how_of (requests.Leg master)) key))
      by_found None made = absurd made
      by_found (Some above) made = by_book writer key _ [] is made.1 (at_made (old.book writer) key (leg_node above.write master) k ends made.0 keeps_none)

  -- an end is told: the node keeps it, or closes
  drops : (writer key : ℕ) (status : Status) (node : Node) (v : Option Node) → node_at (old.book writer) key ≡ Some node → new.book writer ≡ with_node (old.book writer) key v
      → new ≡ record old { book = upd old.book writer (new.book writer) } → (KeepsEnds (is_master node.role) ends node.status → KeepsAt (ends ++ status ∷ []) v)
      → KeepsAt ends (node_at (old.book w) k) → KeepsAt (if writer == w && key == k then ends ++ status ∷ [] else ends) (node_at (new.book w) k)
  drops writer key status node v at made is told_so =
      by_book writer key (with_node (old.book writer) key v) (ends ++ status ∷ []) is made
      (λ held. at_place (old.book writer) key v k ends (ends ++ status ∷ []) (within_book (old.book writer) key node at)
      (λ same. told_so (subst (KeepsAt ends) (ap (node_at (old.book writer)) (sym same) ∙ at) held)) held)

  told_drop : (writer key : ℕ) (status : Status) (part : Option (Item Pad)) (ended : DropOutcome) (found : Option Node) (what : What) → node_at (old.book writer) key ≡ found
      → what_of (requests.Drop writer key status part) (requests.DroppedTo ended) ≡ Some what → DropsAt (old.book writer) key found status part ended (new.book writer)
      → new ≡ record old { book = upd old.book writer (new.book writer) } → Keeps (what_of (requests.Drop writer key status part) (requests.DroppedTo ended))
  -- an open node that stays open keeps it
  told_drop writer key status part end.Left (Some node) what at tells d is = drops writer key status node _ at d.1 is (λ keeps. keeps_more node.role ends node.status status keeps)
  -- one that closes is no node any more
  told_drop writer key status part (end.Up closed) (Some node) what at tells d is = drops writer key status node None at d.3 is (λ keeps. tt)
  told_drop writer key status part (end.Top closed) (Some node) what at tells d is = drops writer key status node None at d.3 is (λ keeps. tt)
  -- a drop at no node is no event
  told_drop writer key status part (end.Stray back) found what at tells d is = absurd cc
  -- without a node nothing else is answered
  told_drop writer key status part end.Left None what at tells d is = absurd d
  told_drop writer key status part (end.Up closed) None what at tells d is = absurd d
  told_drop writer key status part (end.Top closed) None what at tells d is = absurd d

  -- what is no event of a book tells no node of an end
  pub served_keeps : (request : Request) (reply : Reply) (what : What) → what_of request reply ≡ Some what → Serves ledger old request reply new → Keeps (what_of request reply)
  -- takes: books stay as they are
  served_keeps (requests.TakeBio set true) (requests.HadBio from bio) what tells serves = books_stay (ap (λ (o : Objects). o.book) (one_object_changes ledger old new (requests.TakeBio set true) (requests.HadBio from bio) serves))
  served_keeps (requests.TakeBio set true) (requests.Missed true) what tells serves = books_stay (ap (λ (o : Objects). o.book) (one_object_changes ledger old new (requests.TakeBio set true) (requests.Missed true) serves))
  served_keeps (requests.TakeBio set false) (requests.HadBio from bio) what tells serves = books_stay (ap (λ (o : Objects). o.book) (one_object_changes ledger old new (requests.TakeBio set false) (requests.HadBio from bio) serves))
  served_keeps (requests.TakeBio set false) (requests.Missed used) what tells serves = books_stay (ap (λ (o : Objects). o.book) (one_object_changes ledger old new (requests.TakeBio set false) (requests.Missed used) serves))
  served_keeps requests.TakeVec (requests.HadVec from vector) what tells serves = books_stay (ap (λ (o : Objects). o.book) (one_object_changes ledger old new requests.TakeVec (requests.HadVec from vector) serves))
  served_keeps requests.TakeVec (requests.Missed true) what tells serves = books_stay (ap (λ (o : Objects). o.book) (one_object_changes ledger old new requests.TakeVec (requests.Missed true) serves))
  served_keeps (requests.TakeSlip dev) (requests.HadSlip from slip) what tells serves = books_stay (ap (λ (o : Objects). o.book) (one_object_changes ledger old new (requests.TakeSlip dev) (requests.HadSlip from slip) serves))
  served_keeps (requests.TakeSlip dev) (requests.Missed true) what tells serves = books_stay (ap (λ (o : Objects). o.book) (one_object_changes ledger old new (requests.TakeSlip dev) (requests.Missed true) serves))
  -- gives: books stay as they are
  served_keeps (requests.GiveBio bio) requests.Did what tells serves = books_stay (ap (λ (o : Objects). o.book) (one_object_changes ledger old new (requests.GiveBio bio) requests.Did serves))
  served_keeps (requests.GiveVec vector) requests.Did what tells serves = books_stay (ap (λ (o : Objects). o.book) (one_object_changes ledger old new (requests.GiveVec vector) requests.Did serves))
  served_keeps (requests.GiveSlip slip) requests.Did what tells serves = books_stay (ap (λ (o : Objects). o.book) (one_object_changes ledger old new (requests.GiveSlip slip) requests.Did serves))
  -- lists of rescuers: books stay as they are
  served_keeps (requests.Punt dev moved) requests.Did what tells serves = books_stay (ap (λ (o : Objects). o.book) (one_object_changes ledger old new (requests.Punt dev moved) requests.Did serves))
  served_keeps (requests.Pop dev) (requests.Popped bio) what tells serves = books_stay (ap (λ (o : Objects). o.book) (one_object_changes ledger old new (requests.Pop dev) (requests.Popped bio) serves))
  -- disks: books stay as they are
  served_keeps (requests.Push bio) requests.Did what tells serves = books_stay (ap (λ (o : Objects). o.book) (one_object_changes ledger old new (requests.Push bio) requests.Did serves))
  served_keeps (requests.Complete disk) (requests.Completed index bio status) what tells serves = books_stay (ap (λ (o : Objects). o.book) (one_object_changes ledger old new (requests.Complete disk) (requests.Completed index bio status) serves))
  -- books: a node is opened, or told of an end
  served_keeps (requests.Link writer opening) (requests.LinkedTo (Made key)) what tells serves = links writer opening key serves.0 serves.1
  served_keeps (requests.Drop writer key status part) (requests.DroppedTo ended) what tells serves =
      told_drop writer key status part ended (node_at (old.book writer) key) what refl tells serves.0 serves.1
  -- ends of writes: books stay as they are
  served_keeps (requests.Done write status) requests.Did what tells serves = books_stay (ap (λ (o : Objects). o.book) (one_object_changes ledger old new (requests.Done write status) requests.Did serves))
  -- resizes: books stay as they are, whether one is an event or not
  served_keeps (requests.Resize pool min) (requests.OutIs out) what tells serves = λ held.
      subst (λ told. KeepsAt told (node_at (new.book w) k)) (sym (by_test (out == 0)))
      (books_stay (ap (λ (o : Objects). o.book) (one_object_changes ledger old new (requests.Resize pool min) (requests.OutIs out) serves)) held)
    where
      by_test : (v : Bool) → ends_by w k (resize_of v pool min) ends ≡ ends
      by_test true = refl
      by_test false = refl
  -- starts of rounds: books stay as they are
  served_keeps (requests.NextRound round) requests.Did what tells serves = books_stay (ap (λ (o : Objects). o.book) (one_object_changes ledger old new (requests.NextRound round) requests.Did serves))
  -- all other answers, and all to looks and rests, are no events
  served_keeps _ _ what tells serves = none_told what tells

-- so does each step, and each run
step_keeps_ends : (scene : Scene) (old new : State) (place : ℕ) (event : Event) (w k : ℕ) (ends : List Status) → Steps scene old place event new → KeepsAt ends (node_at (old.objects.book w) k)
    → KeepsAt (ends_after w k event.what ends) (node_at (new.objects.book w) k)
step_keeps_ends scene old new place event w k ends steps held =
    subst (λ what. KeepsAt (ends_by w k what ends) (node_at (new.objects.book w) k)) steps.told
    (served_keeps scene.ledger old.objects new.objects w k ends (request scene.setup (old.task place)) steps.reply event.what steps.told steps.serves held)

pub runs_keep_ends : (scene : Scene) (old : State) (events : List Event) (new : State) (w k : ℕ) (ends : List Status) → IsRun scene old events new → KeepsAt ends (node_at (old.objects.book w) k)
    → KeepsAt (ends_told w k events ends) (node_at (new.objects.book w) k)
runs_keep_ends scene old [] new w k ends run held = subst (λ (x : State). KeepsAt ends (node_at (x.objects.book w) k)) (sym run) held
runs_keep_ends scene old (event ∷ events) new w k ends (next, (place, steps), run) held =
    runs_keep_ends scene next events new w k (ends_after w k event.what ends) run (step_keeps_ends scene old next place event w k ends steps held)

-- where no node was open
pub ends_are_kept : (scene : Scene) (old : State) (events : List Event) (new : State) → ((w k : ℕ) → node_at (old.objects.book w) k ≡ None) → IsRun scene old events new
    → EndsAreKept events new
ends_are_kept scene old events new none run w k node at =
    subst (KeepsAt (ends_told w k events [])) at (runs_keep_ends scene old events new w k [] run (subst (KeepsAt []) (sym (none w k)) tt))
