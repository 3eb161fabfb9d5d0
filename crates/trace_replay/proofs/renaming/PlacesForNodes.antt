-- A book has a place for each node that its writer opens in a run: those that were opened, and those that its writes have still to open.
use Rattle.std.proofs.Common.{◌≡◌, ◌+◌, ◌<◌, ◌≤◌, ℕ, inl, inr, refl, sym, ◌∙◌, ap, subst, arith}
use Rattle.bio_books.specs.Links.{IsVacant}
use Rattle.run_machine.specs.declared.event.End.TheVariants as end
use Rattle.run_machine.specs.declared.event.Event.{Event}
use Rattle.run_machine.specs.declared.event.What.{What}
use Rattle.run_machine.specs.declared.event.What.TheVariants as what
use Rattle.run_machine.specs.Maps.{upd}
use Rattle.run_machine.specs.Scene.{Setup, Scene}
use Rattle.run_machine.specs.Runs.{State, Steps}
use Rattle.block_core.specs.Touches.{Touch, Opens, Shuts, Passes, touch_of}
use Rattle.block_core.specs.Weights.{Weight, one_if_same, total_weight}
use Rattle.block_core.specs.Rooms.{room, HasRoomInBooks}
use Rattle.block_core.proofs.moves.Moves.{Move, Can, after, touch_by}
use Rattle.block_core.proofs.moves.Moves as moves
use Rattle.block_core.proofs.moves.Sums.{upd-same, upd-other, same_or_not, one-same, one-other}
use Rattle.block_core.proofs.sound.Invariant.{LedgersAreNumbered, Invariant}
use Rattle.block_core.proofs.sound.Orders.{Placed, DeviceGeometry}
use Rattle.block_core.proofs.moves.Deltas.{delta}
use Rattle.block_core.proofs.unrefused.NodeNeeds.{Needs}
use Rattle.block_core.proofs.unrefused.NodesOpened.{room_worth, opened_worth, spends}
use Rattle.block_core.proofs.moves.StepMoves.{step_is_move}
use Rattle.block_core.proofs.moves.SumsCompared.{under_in_all}
use Rattle.trace_replay.specs.Names.{Names, names_after}

-- the nodes that a writer's writes have still to open
abbrev pub to_open : Setup → ℕ → Weight
to_open setup w = room_worth setup w (λ writer. 0)

-- one more is opened
abbrev pub opens : ℕ → Touch → ℕ
opens w = opened_worth (λ writer. one_if_same writer w)

none_worth : (touch : Touch) → opened_worth (λ writer. 0) touch ≡ 0
none_worth (Opens writer node) = refl
none_worth (Shuts writer node) = refl
none_worth Passes = refl

module _ (scene : Scene) (s : State) (g : DeviceGeometry scene.setup) (n : Needs scene.setup) (i : Invariant scene s) (a : Placed scene.setup s) where
  -- behind each event there is one less to open for each node that it opens
  pub opens_of_those : (w : ℕ) (m : Move) → Can scene s m → total_weight scene (to_open scene.setup w) (after scene s m) + opens w (touch_by m) ≤ total_weight scene (to_open scene.setup w) s
  opens_of_those w m c = omega (arith, delta scene (to_open scene.setup w) s m c, spends scene s g n i a w (λ writer. 0) m c, none_worth (touch_by m))

-- an event that opens a node finds its place vacant
abbrev TouchIs : Touch → Type 0
TouchIs (Opens writer key) = ⊥
TouchIs (Shuts writer key) = Unit {0}
TouchIs Passes = Unit {0}

-- the writer, and the key, of an opening
abbrev pub writer_of : Touch → ℕ
writer_of (Opens writer key) = writer
writer_of (Shuts writer key) = 0
writer_of Passes = 0

abbrev pub key_of : Touch → ℕ
key_of (Opens writer key) = key
key_of (Shuts writer key) = 0
key_of Passes = 0

module _ (scene : Scene) (s : State) (writer key : ℕ) where
  at_own : (v k : ℕ) → Opens writer key ≡ Opens v k → IsVacant (s.objects.book v) k → IsVacant (s.objects.book writer) key
  at_own v k is vacant = subst (λ x. IsVacant (s.objects.book x) key) (sym (ap writer_of is)) (subst (IsVacant (s.objects.book v)) (sym (ap key_of is)) vacant)

  not_open : (touch : Touch) → TouchIs touch → Opens writer key ≡ touch → IsVacant (s.objects.book writer) key
  not_open touch other is = absurd (subst TouchIs (sym is) other)

  pub finds_vacant : (m : Move) → Can scene s m → Opens writer key ≡ touch_by m → IsVacant (s.objects.book writer) key
  -- moves that open a node
  finds_vacant (moves.Begins place v todo later item vector k) c is = at_own v k is c.3
  finds_vacant (moves.Chained place x bio lists hand number kind sizes members k node) c is = at_own bio.bio.writer k is c.6
  finds_vacant (moves.Mastered place x bio lists slip k node) c is = at_own bio.bio.writer k is c.5
  finds_vacant (moves.Legged place x bio lists master leg hand k node) c is = at_own bio.writer k is c.5
  -- the move that shuts one
  finds_vacant (moves.Closes place disk carried v k status part node) c is = not_open (Shuts v k) tt is
  -- no other move opens one
  finds_vacant _ c is = not_open Passes tt is

-- how many nodes were opened behind an event
more_at : (f : ℕ → ℕ) (writer w : ℕ) → upd f writer (f writer + 1) w ≡ f w + one_if_same writer w
more_at f writer w = elim (same_or_not w writer) [
  | inl e ↦
      let At : ℕ → Type 0 = λ v. upd f writer (f writer + 1) v ≡ f v + one_if_same writer v in
      let same = upd-same f writer (f writer + 1) in
      let here : At writer = omega (arith, same, one-same writer) in
      subst At (sym e) here
  | inr ne ↦
      let same = upd-other f writer (f writer + 1) w ne in
      omega (arith, same, one-other writer w (λ e. ne (sym e)))
]

pub opened_after : (names : Names) (event : What) (w : ℕ) → (names_after names event).opened w ≡ names.opened w + opens w (touch_of event)
-- an event that opens a node
opened_after names (what.Link writer how node) w = more_at names.opened writer w
-- no other event opens one
opened_after names (what.Drop writer node status end.Left) w = omega arith
opened_after names _ w = omega arith

-- the nodes that were opened and those that are still to be opened have places
abbrev pub HasLeft : Scene → Names → State → Type 0
HasLeft scene names s = (w : ℕ) → names.opened w + total_weight scene (to_open scene.setup w) s ≤ scene.setup.places w

module _ (scene : Scene) (f : LedgersAreNumbered scene) (g : DeviceGeometry scene.setup) (n : Needs scene.setup) (s : State) (i : Invariant scene s) (a : Placed scene.setup s) (names : Names) (left : HasLeft scene names s)
    (place : ℕ) (event : Event) (new : State) (steps : Steps scene s place event new) where
  pub left_behind : HasLeft scene (names_after names event.what) new
  left_behind w =
      let moved = step_is_move scene s f i place event new steps in
      let spent = opens_of_those scene s g n i a w moved.move moved.can in
      let touch = ap (opens w) moved.touches in
      let state = ap (total_weight scene (to_open scene.setup w)) moved.is in
      let had = left w in
      omega (arith, spent, touch, state, opened_after names event.what w, had)

  -- and an event that opens one finds a place that was not used
  pub finds_next : (writer key : ℕ) → Opens writer key ≡ touch_of event.what → IsVacant (s.objects.book writer) key × (names.opened writer < scene.setup.places writer)
  finds_next writer key is =
      let moved = step_is_move scene s f i place event new steps in
      let touch = is ∙ moved.touches in
      let spent = opens_of_those scene s g n i a writer moved.move moved.can in
      let one_more : one_if_same writer writer ≡ opens writer (touch_by moved.move) = ap (opens writer) touch in
      let had = left writer in
      (finds_vacant scene s writer key moved.move moved.can touch, omega (arith, spent, one_more, one-same writer, had))

-- where no node was opened, all that are to be opened have places
pub room_left : (scene : Scene) (s : State) → Invariant scene s → HasRoomInBooks scene s → (w : ℕ) → 0 + total_weight scene (to_open scene.setup w) s ≤ scene.setup.places w
room_left scene s i roomy w =
    let has = roomy.room w in
    omega (
      arith,
      has,
      under_in_all scene s i (to_open scene.setup w) (room scene.setup w) (record {
        todo = λ writer todos taken part. omega arith;
        bio = λ spot item part. omega arith;
        copy = λ bio master leg left part. omega arith;
        hand = λ item. omega arith;
        vector = λ vector. omega arith;
        slip = λ slip. omega arith;
        node = λ writer place node at part. omega arith;
        closed = λ task writer closed part. omega arith;
      }),
    )
