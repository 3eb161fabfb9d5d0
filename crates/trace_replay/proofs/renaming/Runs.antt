-- The events of a run, read by names, are a run.
use Rattle.std.proofs.Common.{◌≡◌, ◌<◌, ℕ, List, [], ◌∷◌, length, None, Some, refl, sym, ◌∙◌, ap, subst, arith}
use Rattle.std.specs.Option.{option_map}
use Rattle.elem_ledger.specs.Ledger.{LedgerId}
use Rattle.bio_books.specs.Books.{Node, node_at}
use Rattle.run_machine.specs.declared.event.Event.{Event}
use Rattle.run_machine.specs.declared.event.What.{What}
use Rattle.run_machine.specs.declared.event.What.TheVariants as what
use Rattle.run_machine.specs.Scene.{Scene}
use Rattle.run_machine.specs.Tasks.{TaskState, Writer, Rescuer, Completer, Keeper, NoBio}
use Rattle.run_machine.specs.Opened.{Scenario, scene, start, setup_in}
use Rattle.run_machine.specs.Runs.{State, Steps, Happens, IsRun}
use Rattle.block_core.specs.Scenarios.{IsScenario, IsNaming}
use Rattle.block_core.specs.Touches.{touch_of}
use Rattle.block_core.specs.Rooms.{HasRoomInBooks}
use Rattle.block_core.proofs.moves.Devices.{ground}
use Rattle.block_core.proofs.moves.VacantMarks.{with_mark, mark_here}
use Rattle.block_core.proofs.sound.Invariant.{LedgersAreNumbered}
use Rattle.block_core.proofs.sound.Orders.{DeviceGeometry}
use Rattle.block_core.proofs.sound.EveryRun.{IsReachedWhole, step_whole, start_whole}
use Rattle.block_core.proofs.start.InvariantAtStart.{Begins, start_opened}
use Rattle.block_core.proofs.start.RoomAtStart.{start_roomy}
use Rattle.block_core.proofs.unrefused.NodeNeeds.{Needs, needs_known}
use Rattle.block_core.proofs.unrefused.RoomKept.{runs_roomy}
use Rattle.trace_replay.specs.Names.{Names, no_names, names_after, event_placed}
use Rattle.trace_replay.specs.Traces.{AreRead, IsReadAsRun, RunsAreReadByNames}
use Rattle.trace_replay.proofs.renaming.Renaming.{Places, task_to, event_to}
use Rattle.trace_replay.proofs.renaming.Serving.{IsNext}
use Rattle.trace_replay.proofs.renaming.Stepping.{StatesAlike, plain, step_to}
use Rattle.trace_replay.proofs.renaming.Marking.{marked}
use Rattle.trace_replay.proofs.renaming.PlacesForNodes.{HasLeft, left_behind, finds_next, room_left}

module _ (scene : Scene) (naming : (number : ℕ) → (scene.ledger number).no ≡ number) (f : LedgersAreNumbered scene) (g : DeviceGeometry scene.setup) (n : Needs scene.setup) where
  -- what stays while the run is read: the other state is alike
  pub record Beside (names : Names) (one other : State) : Type 0 where
    pub whole : IsReachedWhole scene one
    pub roomy : HasRoomInBooks scene one
    pub left : HasLeft scene names one
    pub to : Places
    pub alike : StatesAlike scene to names one other

  -- an event that is read
  pub record IsReadAt (names : Names) (event : Event) (new other : State) : Type 0 where
    pub read : Event
    pub placed : event_placed names event ≡ Some read
    pub like : State
    pub happens : Happens (plain scene) other read like
    pub beside : Beside (names_after names event.what) new like

  module _ (names : Names) (one other new : State) (place : ℕ) (event : Event) (b : Beside names one other) (steps : Steps scene one place event new) where
    taken : (to : Places) → StatesAlike scene to names one other → IsNext to names one.objects event.what → IsReadAt names event new other
    taken to alike next =
        let too = step_to scene to names one other new place event naming (b.whole.kept.tasks place) alike next steps in
        record {
          read = event_to to event;
          placed = ap (option_map (λ w. record event { what = w })) too.placed;
          like = too.like;
          happens = (place, too.steps);
          beside = record {
            whole = step_whole scene f g one place event new b.whole steps;
            roomy = runs_roomy scene f g n one (event ∷ []) new b.whole b.roomy (new, (place, steps), refl);
            left = left_behind scene f g n one b.whole.kept b.whole.placed names b.left place event new steps;
            to = to;
            alike = too.alike;
          };
        }

    passes : IsNext b.to names one.objects event.what → IsReadAt names event new other
    passes next = taken b.to b.alike next

    by : (told : What) → event.what ≡ told → IsReadAt names event new other
    -- a node is opened, and is read at its next place
    by (what.Link writer how key) is =
        let next = finds_next scene f g n one b.whole.kept b.whole.placed names b.left place event new steps writer key (ap touch_of (sym is)) in
        let to = with_mark b.to writer key (names.opened writer) in
        let long = b.roomy.places writer in
        let room : names.opened writer < length (one.objects.book writer).nodes = let lt = next.1 in omega (arith, lt, long) in
        taken to (marked scene one other b.whole.kept b.to names b.alike writer key next.0 (names.opened writer))
        (subst (IsNext to names one.objects) (sym is) (mark_here b.to writer key (names.opened writer), room))
    -- no other event opens one
    by (what.Take pool got) is = passes (subst (IsNext b.to names one.objects) (sym is) tt)
    by (what.Try pool got) is = passes (subst (IsNext b.to names one.objects) (sym is) tt)
    by (what.Give pool) is = passes (subst (IsNext b.to names one.objects) (sym is) tt)
    by (what.Punt dev moved) is = passes (subst (IsNext b.to names one.objects) (sym is) tt)
    by (what.Pop dev) is = passes (subst (IsNext b.to names one.objects) (sym is) tt)
    by (what.Push disk at len leg) is = passes (subst (IsNext b.to names one.objects) (sym is) tt)
    by (what.Complete disk index status) is = passes (subst (IsNext b.to names one.objects) (sym is) tt)
    by (what.Drop writer node status ended) is = passes (subst (IsNext b.to names one.objects) (sym is) tt)
    by (what.Done write status) is = passes (subst (IsNext b.to names one.objects) (sym is) tt)
    by (what.Resize pool min) is = passes (subst (IsNext b.to names one.objects) (sym is) tt)
    by (what.Round round) is = passes (subst (IsNext b.to names one.objects) (sym is) tt)

    pub read_at : IsReadAt names event new other
    read_at = by event.what refl

  -- all of them
  pub record ReadFrom (names : Names) (told : List Event) (new other : State) : Type 0 where
    pub events : List Event
    pub last : Names
    pub read : AreRead names told events last
    pub final : State
    pub run : IsRun (plain scene) other events final
    pub beside : Beside last new final

  pub read_from : (names : Names) (one other : State) (told : List Event) (new : State) → Beside names one other → IsRun scene one told new → ReadFrom names told new other
  read_from names one other [] new b run =
      record { events = []; last = names; read = refl; final = other; run = refl; beside = subst (λ state. Beside names state other) (sym run) b }
  read_from names one other (event ∷ told) new b (next, (place, steps), run) =
      let first = read_at names one other next place event b steps in
      let rest = read_from (names_after names event.what) next first.like told new first.beside run in
      record {
        events = first.read ∷ rest.events;
        last = rest.last;
        read = (first.placed, rest.read);
        final = rest.final;
        run = (first.like, first.happens, rest.run);
        beside = rest.beside;
      }

-- where nothing has begun, all is alike
begun_to : (scene : Scene) (to : Places) (x : TaskState) → Begins scene x → x ≡ task_to to 0 x
begun_to scene to (Writer number todo taken submission) begins =
    ap (λ t. Writer number todo t submission) begins.1 ∙ ap (Writer number todo NoBio) begins.2 ∙ sym (ap (λ t. task_to to 0 (Writer number todo t submission)) begins.1 ∙ ap (λ l. task_to to 0 (Writer number todo NoBio l)) begins.2)
begun_to scene to (Rescuer dev submission) begins = ap (Rescuer dev) begins.1 ∙ sym (ap (λ l. task_to to 0 (Rescuer dev l)) begins.1)
begun_to scene to (Completer disk carried) begins = ap (Completer disk) begins.1 ∙ sym (ap (λ c. task_to to 0 (Completer disk c)) begins.1)
begun_to scene to (Keeper keeping) begins = refl

module _ (s : Scenario) (ledger : ℕ → LedgerId) (good : IsScenario s) (naming : IsNaming ledger) where
  abbrev first_places : Places
  first_places = λ writer key. 0

  none_open : {A : Type 0} (w k : ℕ) (node : Node) → node_at ((start s).objects.book w) k ≡ Some node → A
  none_open w k node at = let none = (start_opened s good ledger).books w k in let y : None ≡ Some node = sym none ∙ at in absurd cc

  start_alike : StatesAlike (scene s ledger) first_places no_names (start s) (start s)
  start_alike =
      let o = start_opened s good ledger in
      record {
        objects = record {
          pools = refl;
          tally = refl;
          rescued = λ dev lt. refl;
          disks = λ dev lt. refl;
          books = λ w. record {
            long = refl;
            nodes = λ k node at. none_open w k node at;
            apart = λ k again node like at too same. none_open w k node at;
            below = λ k node at. none_open w k node at;
            free = λ k le. o.books w k;
            names = λ k node at. none_open w k node at;
            none = λ k none. refl;
          };
        };
        tasks = λ place lt. (0, begun_to (scene s ledger) first_places ((start s).task place) (o.tasks place));
      }

  pub read_as_run : (told : List Event) (state : State) → IsRun (scene s ledger) (start s) told state → IsReadAsRun s told state
  read_as_run told state run =
      let sc = scene s ledger in
      let places = (setup_in s).places in
      let g = ground s.stack good.stack places in
      let n = needs_known s.stack good.stack places in
      let whole = start_whole s ledger good naming in
      let roomy = start_roomy s good ledger in
      let all = read_from sc naming (record { named = naming }) g n no_names (start s) (start s) told state (record {
        whole = whole;
        roomy = roomy;
        left = λ w. room_left sc (start s) whole.kept roomy w;
        to = first_places;
        alike = start_alike;
      }) run in
      let alike = all.beside.alike in
      record {
        events = all.events;
        names = all.last;
        read = all.read;
        other = all.final;
        run = all.run;
        same = record {
          pools = alike.objects.pools;
          tally = alike.objects.tally;
          images = λ disk lt. ap (λ d. d.image) (alike.objects.disks disk lt);
        };
      }

pub runs_are_read_by_names : RunsAreReadByNames
runs_are_read_by_names s ledger told state good naming run = read_as_run s ledger good naming told state run
