-- In a run that is read by names the next place of a book was never used.
use Rattle.std.proofs.Common.{◌≡◌, ◌≢◌, ◌+◌, ◌<◌, ◌≤◌, if◌then◌else◌, ℕ, Bool, true, false, List, [], ◌∷◌, length, Option, None, Some, inl, inr, refl, sym, ◌∙◌, ap, subst, arith}
use Rattle.std.specs.Prelude.{is_none}
use Rattle.std.specs.Option.{option_map}
use Rattle.std.proofs.lemmas.Option.{slice_get-get_or}
use Rattle.bio_books.specs.Books.{Node, BookState, node_at, with_node}
use Rattle.run_machine.specs.declared.event.End.{End}
use Rattle.run_machine.specs.declared.event.End.TheVariants as end
use Rattle.run_machine.specs.declared.event.Event.{Event}
use Rattle.run_machine.specs.declared.event.What.{What}
use Rattle.run_machine.specs.declared.event.What.TheVariants as what
use Rattle.run_machine.specs.Maps.{upd}
use Rattle.run_machine.specs.Scene.{Scene}
use Rattle.run_machine.specs.Opened.{scene, start, setup_in}
use Rattle.run_machine.specs.Runs.{State, Steps, IsRun}
use Rattle.block_core.specs.Rooms.{HasRoomInBooks}
use Rattle.block_core.specs.Touches.{Touch, Opens, Shuts, Passes, touch_of}
use Rattle.block_core.specs.Weights.{total_weight}
use Rattle.block_core.proofs.moves.Devices.{ground}
use Rattle.block_core.proofs.moves.Moves.{Move, Can, after, touch_by}
use Rattle.block_core.proofs.moves.Moves as moves
use Rattle.block_core.proofs.moves.StepMoves.{step_is_move}
use Rattle.block_core.proofs.moves.Sums.{upd-same, upd-other, same_or_not, one-same}
use Rattle.block_core.proofs.sound.Invariant.{LedgersAreNumbered}
use Rattle.block_core.proofs.sound.Orders.{DeviceGeometry}
use Rattle.block_core.proofs.sound.EveryRun.{IsReachedWhole, step_whole, start_whole}
use Rattle.block_core.proofs.start.InvariantAtStart.{start_opened}
use Rattle.block_core.proofs.start.RoomAtStart.{start_roomy}
use Rattle.block_core.proofs.unrefused.NodeNeeds.{Needs, needs_known}
use Rattle.block_core.proofs.unrefused.RoomKept.{runs_roomy}
use Rattle.block_core.proofs.moves.StepsTold.{touch_in}
use Rattle.trace_replay.specs.Names.{Names, no_names, names_after, event_placed, placed}
use Rattle.trace_replay.specs.Traces.{AreRead, NextPlacesAreVacant}
use Rattle.trace_replay.proofs.renaming.Books.{elsewhere}
use Rattle.trace_replay.proofs.renaming.PlacesForNodes.{HasLeft, writer_of, key_of, to_open, opens, opens_of_those, opened_after, finds_next, room_left}

-- a place of a book at which no node is open, where another changes
module _ (books : ℕ → BookState) (w place : ℕ) (none : node_at (books w) place ≡ None) where
  abbrev None_there : (ℕ → BookState) → Type 0
  None_there all = node_at (all w) place ≡ None

  at_another : (writer : ℕ) (book : BookState) → (w ≡ writer → node_at book place ≡ None) → None_there (upd books writer book)
  at_another writer book here = elim (same_or_not w writer) [
    | inl e ↦ ap (λ v. node_at (upd books writer book v) place) e ∙ ap (λ b. node_at b place) (upd-same books writer book) ∙ here e
    | inr ne ↦ ap (λ b. node_at b place) (upd-other books writer book w ne) ∙ none
  ]

  none_in : (writer : ℕ) → w ≡ writer → node_at (books writer) place ≡ None
  none_in writer e = ap (λ v. node_at (books v) place) (sym e) ∙ none

  -- an open node stands at another place
  apart_from : (writer key : ℕ) (node : Node) → node_at (books writer) key ≡ Some node → w ≡ writer → place ≢ key
  apart_from writer key node at e same = let y : None ≡ Some node = sym (none_in writer e) ∙ ap (node_at (books writer)) same ∙ at in cc

  changed : (writer key : ℕ) (node : Node) (new : Option Node) → node_at (books writer) key ≡ Some node → None_there (upd books writer (with_node (books writer) key new))
  changed writer key node new at =
      at_another writer (with_node (books writer) key new) (λ e. elsewhere (books writer) key new place (apart_from writer key node at e) ∙ none_in writer e)

  made : (writer key : ℕ) (new : Option Node) → (w ≡ writer → place ≢ key) → None_there (upd books writer (with_node (books writer) key new))
  made writer key new other = at_another writer (with_node (books writer) key new) (λ e. elsewhere (books writer) key new place (other e) ∙ none_in writer e)

  made_under : (writer key parent : ℕ) (node : Node) (new changed_to : Option Node) → node_at (books writer) parent ≡ Some node → (w ≡ writer → place ≢ key)
      → None_there (upd books writer (with_node (with_node (books writer) key new) parent changed_to))
  made_under writer key parent node new changed_to at other =
      at_another writer (with_node (with_node (books writer) key new) parent changed_to)
      (λ e. elsewhere (with_node (books writer) key new) parent changed_to place (apart_from writer parent node at e) ∙ elsewhere (books writer) key new place (other e) ∙ none_in writer e)

-- an event opens no node but the one that it tells
module _ (scene : Scene) (s : State) (w place : ℕ) (none : node_at (s.objects.book w) place ≡ None) where
  abbrev Others : Touch → Type 0
  Others touch = Opens w place ≢ touch

  unless : (writer key : ℕ) → Others (Opens writer key) → w ≡ writer → place ≢ key
  unless writer key other e same = other (λ k. Opens (e k) (same k))

  stays_none : (m : Move) → Can scene s m → Others (touch_by m) → node_at ((after scene s m).objects.book w) place ≡ None
  -- links of writes: the new node is at the place that is told, which is another
  stays_none (moves.Begins at writer todo later item vector key) c other = made s.objects.book w place none writer key _ (unless writer key other)
  -- links of pieces and masters: so is the new node, and the parent, which changes, was open, so it is at another place too
  stays_none (moves.Chained at x bio lists hand number kind sizes members key node) c other =
      made_under s.objects.book w place none bio.bio.writer key bio.bio.node node _ _ c.5 (unless bio.bio.writer key other)
  stays_none (moves.Mastered at x bio lists slip key node) c other =
      made_under s.objects.book w place none bio.bio.writer key bio.bio.node node _ _ c.4 (unless bio.bio.writer key other)
  -- links of legs: the new node is at the place that is told, which is another, and the master's node stays
  stays_none (moves.Legged at x bio lists master leg hand key node) c other = made s.objects.book w place none bio.writer key _ (unless bio.writer key other)
  -- drops: the node that changes or closes was open, so it is at another place
  stays_none (moves.Told at disk carried writer key status part node) c other = changed s.objects.book w place none writer key node _ c.4
  stays_none (moves.Closes at disk carried writer key status part node) c other = changed s.objects.book w place none writer key node _ c.4
  -- takes, misses, punts, pops, pushes, completions, gives, ends of writes, resizes and rounds: no book changes
  stays_none _ c other = none

-- What is read opens a node where what is told does, and at the next place.
abbrev OpensAt : Names → Touch → Touch → Type 0
OpensAt names (Opens writer name) touch = touch ≡ Opens writer (names.opened writer)
OpensAt names (Shuts writer name) touch = (w place : ℕ) → Opens w place ≢ touch
OpensAt names Passes touch = (w place : ℕ) → Opens w place ≢ touch

abbrev opens_none : Touch → Type 0
opens_none (Opens writer key) = Unit {0}
opens_none (Shuts writer key) = ⊥
opens_none Passes = ⊥

shuts_none : (writer key w place : ℕ) → Opens w place ≢ Shuts writer key
shuts_none writer key w place is = subst opens_none is tt

passes_none : (w place : ℕ) → Opens w place ≢ Passes
passes_none w place is = subst opens_none is tt

module _ (names : Names) where
  linked : (writer name : ℕ) (read : What) (how : _) (test : Bool) → (if test then Some (what.Link writer how (names.opened writer)) else None) ≡ Some read
      → touch_of read ≡ Opens writer (names.opened writer)
  linked writer name read how true is = sym (ap touch_in is)
  linked writer name read how false is = let y : None ≡ Some read = is in absurd cc

  ended : (writer : ℕ) (status : _) (ends : End) (at : Option ℕ) (read : What) → option_map (λ place. what.Drop writer place status ends) at ≡ Some read → (w place : ℕ) → Opens w place ≢ touch_of read
  ended writer status ends None read is w place = let y : None ≡ Some read = is in absurd cc
  ended writer status end.Left (Some key) read is w place = subst (λ t. Opens w place ≢ t) (ap touch_in is) (passes_none w place)
  ended writer status end.Up (Some key) read is w place = subst (λ t. Opens w place ≢ t) (ap touch_in is) (shuts_none writer key w place)
  ended writer status end.Top (Some key) read is w place = subst (λ t. Opens w place ≢ t) (ap touch_in is) (shuts_none writer key w place)

  passing : (read : What) (is : Passes ≡ touch_of read) (w place : ℕ) → Opens w place ≢ touch_of read
  passing read is w place = subst (λ t. Opens w place ≢ t) is (passes_none w place)

  dropped : (writer name : ℕ) (status : _) (ends : End) (read : What) → placed names (what.Drop writer name status ends) ≡ Some read → OpensAt names (touch_of (what.Drop writer name status ends)) (touch_of read)
  dropped writer name status end.Left read is = ended writer status end.Left (names.place writer name) read is
  dropped writer name status end.Up read is = ended writer status end.Up (names.place writer name) read is
  dropped writer name status end.Top read is = ended writer status end.Top (names.place writer name) read is

  opens_at : (told read : What) → placed names told ≡ Some read → OpensAt names (touch_of told) (touch_of read)
  -- nodes are opened and left
  opens_at (what.Link writer how name) read is = linked writer name read how (is_none (names.place writer name)) is
  opens_at (what.Drop writer name status ends) read is = dropped writer name status ends read is
  -- no other event touches one
  opens_at (what.Take pool got) read is = passing read (ap touch_in is)
  opens_at (what.Try pool got) read is = passing read (ap touch_in is)
  opens_at (what.Give pool) read is = passing read (ap touch_in is)
  opens_at (what.Punt dev moved) read is = passing read (ap touch_in is)
  opens_at (what.Pop dev) read is = passing read (ap touch_in is)
  opens_at (what.Push disk at len leg) read is = passing read (ap touch_in is)
  opens_at (what.Complete disk index status) read is = passing read (ap touch_in is)
  opens_at (what.Done write status) read is = passing read (ap touch_in is)
  opens_at (what.Resize pool min) read is = passing read (ap touch_in is)
  opens_at (what.Round round) read is = passing read (ap touch_in is)

  -- so both open one more for the same writer, and none at a place that is not the next one
  as_many : (w : ℕ) (told read : Touch) → OpensAt names told read → opens w told ≡ opens w read
  as_many w (Opens writer name) read is = sym (ap (opens w) is)
  as_many w (Shuts writer name) (Opens v k) is = absurd (is v k refl)
  as_many w (Shuts writer name) (Shuts v k) is = refl
  as_many w (Shuts writer name) Passes is = refl
  as_many w Passes (Opens v k) is = absurd (is v k refl)
  as_many w Passes (Shuts v k) is = refl
  as_many w Passes Passes is = refl

module _ (names : Names) (w place : ℕ) where
  not_next : (told read : Touch) → OpensAt names told read → names.opened w + opens w told ≤ place → Opens w place ≢ read
  not_next (Shuts writer name) read is le = is w place
  not_next Passes read is le = is w place
  not_next (Opens writer name) read is le = λ same.
      let both : Opens w place ≡ Opens writer (names.opened writer) = same ∙ is in
      let own : w ≡ writer = ap writer_of both in
      let here : place ≡ names.opened writer = ap key_of both in
      let counted : names.opened w ≡ names.opened writer = ap names.opened own in
      let more : opens w (Opens writer name) ≡ opens writer (Opens writer name) = ap (λ v. opens v (Opens writer name)) own in
      absurd (omega (arith, le, here, counted, more, one-same writer))

module _ (scene : Scene) (f : LedgersAreNumbered scene) (g : DeviceGeometry scene.setup) (n : Needs scene.setup) where
  -- what stays of a run that is read by names
  record IsUnused (names : Names) (s : State) : Type 0 where
    pub whole : IsReachedWhole scene s
    pub roomy : HasRoomInBooks scene s
    pub left : HasLeft scene names s
    pub none : (w place : ℕ) → names.opened w ≤ place → node_at (s.objects.book w) place ≡ None

  unused_behind : (names : Names) (s new : State) (place : ℕ) (told event : Event) → event_placed names told ≡ Some event → IsUnused names s → Steps scene s place event new
      → IsUnused (names_after names told.what) new
  unused_behind names s new place told event is u steps =
      let moved = step_is_move scene s f u.whole.kept place event new steps in
      let read : placed names told.what ≡ Some event.what = what_read (placed names told.what) is in
      let at = opens_at names told.what event.what read in
      let same : (w : ℕ) → opens w (touch_of told.what) ≡ opens w (touch_by moved.move) = λ w. as_many names w (touch_of told.what) (touch_of event.what) at ∙ ap (opens w) moved.touches in
      record {
        whole = step_whole scene f g s place event new u.whole steps;
        roomy = runs_roomy scene f g n s (event ∷ []) new u.whole u.roomy (new, (place, steps), refl);
        left = λ w.
            let spent = opens_of_those scene s g n u.whole.kept u.whole.placed w moved.move moved.can in
            let state = ap (total_weight scene (to_open scene.setup w)) moved.is in
            let had = u.left w in
            omega (arith, spent, state, had, same w, opened_after names told.what w);
        none = λ w at_place le.
            let before : names.opened w ≤ at_place = omega (arith, le, opened_after names told.what w) in
            let fewer : names.opened w + opens w (touch_of told.what) ≤ at_place = omega (arith, le, opened_after names told.what w) in
            let other = not_next names w at_place (touch_of told.what) (touch_of event.what) at fewer in
            ap (λ (x : State). node_at (x.objects.book w) at_place) moved.is
            ∙ stays_none scene s w at_place (u.none w at_place before) moved.move moved.can (λ same_touch. other (same_touch ∙ sym moved.touches));
      }
    where
      what_read : (at : Option What) → option_map (λ w. record told { what = w }) at ≡ Some event → at ≡ Some event.what
      what_read None none = let y : None ≡ Some event = none in absurd cc
      what_read (Some w) some = ap (λ (o : Option Event). option_map (λ (e : Event). e.what) o) some

  unused : (names last : Names) (s new : State) (told events : List Event) → AreRead names told events last → IsUnused names s → IsRun scene s events new → IsUnused last new
  unused names last s new [] [] read u run = subst (λ (m : Names). IsUnused m new) (sym read) (subst (IsUnused names) (sym run) u)
  unused names last s new [] (event ∷ events) read u run = absurd read
  unused names last s new (one ∷ told) [] read u run = absurd read
  unused names last s new (one ∷ told) (event ∷ events) read u (next, (place, steps), run) =
      unused (names_after names one.what) last next new told events read.1 (unused_behind names s next place one event read.0 u steps) run

pub next_places_are_vacant : NextPlacesAreVacant
next_places_are_vacant s ledger told events names state good naming read run event writer how node is (new, (place, steps)) =
    let sc = scene s ledger in
    let numbered : LedgersAreNumbered sc = record { named = naming } in
    let g = ground s.stack good.stack (setup_in s).places in
    let n = needs_known s.stack good.stack (setup_in s).places in
    let whole = start_whole s ledger good naming in
    let roomy = start_roomy s good ledger in
    let u = unused sc numbered g n no_names names (start s) state told events read (record {
      whole = whole;
      roomy = roomy;
      left = λ w. room_left sc (start s) whole.kept roomy w;
      none = λ w at le. (start_opened s good ledger).books w at;
    }) run in
    let next = finds_next sc numbered g n state u.whole.kept u.whole.placed names u.left place event new steps writer node (ap touch_of (sym is)) in
    let long = u.roomy.places writer in
    let lt : names.opened writer < length (state.objects.book writer).nodes = let below = next.1 in omega (arith, below, long) in
    slice_get-get_or (state.objects.book writer).nodes (names.opened writer) None lt ∙ ap Some (u.none writer (names.opened writer) (omega arith))
