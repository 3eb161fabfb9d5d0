-- A replay goes on, line by line.
use Rattle.std.proofs.Common.{◌≡◌, ◌+◌, ◌++◌, min, max, ◌<◌, ◌≤◌, ℕ, zero, suc, true, false, List, [], ◌∷◌, length, map, take, drop, Option, None, Some, refl, sym, ap, ◌∙◌, subst, arith, length-append}
use Rattle.std.specs.Prelude.{fold, slice_index_or, slice_set}
use Rattle.std.specs.Global.{Vec}
use Rattle.std.specs.Option.{unwrap_or}
use Rattle.std.proofs.lemmas.Option.{none-some}
use Rattle.std.proofs.lemmas.List.{append_assoc, append-nil, map-append, drop_all}
use Rattle.stack_base.specs.declared.stack.Device.{Device}
use Rattle.trace_replay.specs.Lines.{is_told, told_lines}
use Rattle.trace_replay.proofs.LineLemmas.{passed_over, told_here}
use Rattle.trace_replay.specs.declared.walk.Finish.{Finish}
use Rattle.stack_base.specs.declared.ids.PoolId.{PoolId}
use Rattle.stack_base.specs.declared.stack.Stack.{Stack}
use Rattle.stack_base.specs.Mapping.{smallest}
use Rattle.run_machine.specs.declared.event.Event.{Event}
use Rattle.run_machine.specs.Scene.{Scene}
use Rattle.run_machine.specs.Runs.{State, Happens, IsRun, IsEnabled}
use Rattle.plain_core.specs.Cores.{CoreState, scene_of_core, state_of_core}
use Rattle.trace_text.specs.Laws.{EventsAreApart, IsEventLine}
use Rattle.trace_text.specs.Names.{DevicesAreNamed}
use Rattle.report_text.specs.Pools.{pools_at, rising_from, told_pools}
use Rattle.trace_replay.specs.declared.extents.Extent.{Extent}
use Rattle.trace_replay.specs.Replay.{AreLinesOf, IsFinish, IsReplay, TellsEvent, extent_over, later, out_in, spares_in, wider}
use Rattle.trace_replay.specs.Names.{Names, no_names, event_placed}
use Rattle.trace_replay.specs.Walks.{AppliesLine, FollowsLines, HasCome, extents_over}

-- a run with one more event
run_on : (scene : Scene) (old : State) (events : List Event) (now : State) → IsRun scene old events now → (event : Event) (new : State) → Happens scene now event new
    → IsRun scene old (events ++ event ∷ []) new
run_on scene old [] now is event new happens = (new, subst (λ s. Happens scene s event new) is happens, refl)
run_on scene old (first ∷ events) now (next, here, run) event new happens = (next, here, run_on scene next events now run event new happens)

later_on : (scene : Scene) (old : State) (events : List Event) (now : State) (run : IsRun scene old events now) (event : Event) (new : State) (happens : Happens scene now event new)
    → later scene old (events ++ event ∷ []) new (run_on scene old events now run event new happens) ≡ later scene old events now run ++ new ∷ []
unfolding run_on
later_on scene old [] now is event new happens = refl
later_on scene old (first ∷ events) now (next, here, run) event new happens = ap (λ (states : List State). next ∷ states) (later_on scene next events now run event new happens)

-- and one more line
lines_on : (stack : Stack) (names : Names) (front : List (ℕ × List ℕ)) (events : List Event) (last : Names) (line : ℕ × List ℕ) (event : Event) (next : Names)
    → AreLinesOf stack names front events last → TellsEvent stack last line.1 event next → AreLinesOf stack names (front ++ line ∷ []) (events ++ event ∷ []) next
lines_on stack names [] [] last line event next said is = (next, subst (λ (n : Names). TellsEvent stack n line.1 event next) said is, refl)
lines_on stack names (first ∷ front) (one ∷ events) last line event next said is = (said.0, said.1, lines_on stack said.0 front events last line event next said.2 is)
lines_on stack names [] (one ∷ events) last line event next said is = absurd said
lines_on stack names (first ∷ front) [] last line event next said is = absurd said

pub cut_on : {X : Type 0} (front : List X) (x : X) (rest : List X) → front ++ x ∷ rest ≡ (front ++ x ∷ []) ++ rest
cut_on [] x rest = refl
cut_on (y ∷ front) x rest = ap (λ ys. y ∷ ys) (cut_on front x rest)

-- the extremes of one more number
least_on : (x : ℕ) (xs : List ℕ) (y : ℕ) → fold min x (xs ++ y ∷ []) ≡ min (fold min x xs) y
least_on x [] y = refl
least_on x (z ∷ xs) y = least_on (min x z) xs y

most_on : (x : ℕ) (xs : List ℕ) (y : ℕ) → fold max x (xs ++ y ∷ []) ≡ max (fold max x xs) y
most_on x [] y = refl
most_on x (z ∷ xs) y = most_on (max x z) xs y

map_on : {X Y : Type 0} (f : X → Y) (xs : List X) (x : X) → map f (xs ++ x ∷ []) ≡ map f xs ++ f x ∷ []
map_on f [] x = refl
map_on f (y ∷ xs) x = ap (λ ys. f y ∷ ys) (map_on f xs x)

-- a pool over one more state
wider_on : (first : State) (states : List State) (new : State) (pool : PoolId) → wider new (extent_over (first ∷ states) pool) ≡ extent_over (first ∷ (states ++ new ∷ [])) pool
unfolding smallest
wider_on first states new pool = λ k. record {
  pool = pool;
  lowest = (sym (least_on (spares_in pool first) (map (spares_in pool) states) (spares_in pool new))
      ∙ ap (fold min (spares_in pool first)) (sym (map_on (spares_in pool) states new))) k;
  most = (sym (most_on (max 0 (out_in pool first)) (map (out_in pool) states) (out_in pool new))
      ∙ ap (fold max (max 0 (out_in pool first))) (sym (map_on (out_in pool) states new))) k;
}

map_each : {X Y Z : Type 0} (f : Y → Z) (g : X → Y) (h : X → Z) (xs : List X) → ((x : X) → f (g x) ≡ h x) → map f (map g xs) ≡ map h xs
map_each f g h [] each = refl
map_each f g h (x ∷ xs) each = λ k. each x k ∷ map_each f g h xs each k

pub extents_on : (stack : Stack) (first : State) (states : List State) (new : State) → map (wider new) (extents_over stack (first ∷ states)) ≡ extents_over stack (first ∷ (states ++ new ∷ []))
extents_on stack first states new =
    map_each (wider new) (extent_over (first ∷ states)) (extent_over (first ∷ (states ++ new ∷ []))) (told_pools stack) (wider_on first states new)

-- at first
pub comes : (stack : Stack) (told : List (ℕ × List ℕ)) (core : CoreState) (extents : List Extent) → extents ≡ extents_over stack (state_of_core core ∷ [])
    → HasCome stack (scene_of_core core) (state_of_core core) told told no_names core 0 extents
comes stack told core extents is = record {
  front = [];
  cut = refl;
  events = [];
  said = refl;
  run = refl;
  scene_is = refl;
  count_is = refl;
  extents_are = is;
}

-- the event of the next line was applied
pub comes_on : (stack : Stack) (scene : Scene) (start : State) (told rest : List (ℕ × List ℕ)) (number : ℕ) (line : List ℕ) (names next : Names) (old new : CoreState) (count : ℕ)
    (extents wide : List Extent) → HasCome stack scene start told ((number, line) ∷ rest) names old count extents → AppliesLine stack line names old true next new
    → wide ≡ map (wider (state_of_core new)) extents → HasCome stack scene start told rest next new (count + 1) wide
comes_on stack scene start told rest number line names next old new count extents wide come applies widens =
    let event = applies.0 in
    let happens = subst (λ s. Happens s (state_of_core old) event (state_of_core new)) come.scene_is applies.2 in
    record {
      front = come.front ++ (number, line) ∷ [];
      cut = come.cut ∙ cut_on come.front (number, line) rest;
      events = come.events ++ event ∷ [];
      said = lines_on stack no_names come.front come.events names (number, line) event next come.said applies.1;
      run = run_on scene start come.events (state_of_core old) come.run event (state_of_core new) happens;
      scene_is = applies.3 ∙ come.scene_is;
      count_is = omega (arith, come.count_is, length-append come.events (event ∷ []));
      extents_are =
          widens
          ∙ ap (map (wider (state_of_core new))) come.extents_are
          ∙ extents_on stack start (later scene start come.events (state_of_core old) come.run) (state_of_core new)
          ∙ ap (λ (states : List State). extents_over stack (start ∷ states)) (sym (later_on scene start come.events (state_of_core old) come.run event (state_of_core new) happens));
    }

-- it can't come
pub comes_to_bad : (stack : Stack) (told rest : List (ℕ × List ℕ)) (number : ℕ) (line : List ℕ) (first : CoreState) (names next : Names) (old new : CoreState) (count : ℕ) (extents : List Extent)
    → HasCome stack (scene_of_core first) (state_of_core first) told ((number, line) ∷ rest) names old count extents → AppliesLine stack line names old false next new
    → FollowsLines stack told first new extents count (Some number)
comes_to_bad stack told rest number line first names next old new count extents come applies =
    subst (λ (core : CoreState). FollowsLines stack told first core extents count (Some number)) (sym applies.0) (record {
      rest = (number, line) ∷ rest;
      names = names;
      come = come;
      stops = (refl, λ event later tells enabled. applies.1 event later tells (subst (λ (scene : Scene). IsEnabled scene (state_of_core old) event) (sym come.scene_is) enabled));
    })

-- no line is left
pub comes_to_end : (stack : Stack) (told rest : List (ℕ × List ℕ)) (first : CoreState) (names : Names) (new : CoreState) (count : ℕ) (extents : List Extent) → rest ≡ []
    → HasCome stack (scene_of_core first) (state_of_core first) told rest names new count extents → FollowsLines stack told first new extents count None
comes_to_end stack told rest first names new count extents none come =
    record {
      rest = [];
      names = names;
      come = subst (λ (lines : List (ℕ × List ℕ)). HasCome stack (scene_of_core first) (state_of_core first) told lines names new count extents) none come;
      stops = tt;
    }

-- one more pool was noted
noted_next : (i : ℕ) → suc i + 1 ≡ suc (i + 1)
noted_next i = omega arith

pub noted_on : {X : Type 0} (f : X → X) (xs : List X) (i : ℕ) (d x : X) → i < length xs → x ≡ f (slice_index_or (map f (take i xs) ++ drop i xs) i d)
    → slice_set (map f (take i xs) ++ drop i xs) i x ≡ map f (take (i + 1) xs) ++ drop (i + 1) xs
noted_on f [] i d x lt is = absurd (omega (arith, lt))
noted_on f (y ∷ xs) zero d x lt is = ap (λ z. z ∷ xs) is
noted_on f (y ∷ xs) (suc i) d x lt is =
    ap (λ (zs : List _). f y ∷ zs) (noted_on f xs i d x (omega (arith, lt)) is)
    ∙ ap (λ n. map f (take n (y ∷ xs)) ++ drop n (y ∷ xs)) (sym (noted_next i))

-- where the event that a line tells can't come, no event can that it tells
pub none_other : (stack : Stack) (line : List ℕ) (names next : Names) (old new : CoreState) (told event : Event) → EventsAreApart → DevicesAreNamed stack → IsEventLine stack line told
    → Some event ≡ event_placed names told → (new ≡ old) × ((next : State) → Happens (scene_of_core old) (state_of_core old) event next → ⊥) → AppliesLine stack line names old false next new
none_other stack line names next old new told event apart named is placed none = (
  none.0,
  λ other later tells enabled.
      let same : Some other ≡ Some event = sym tells.placed ∙ ap (event_placed names) (apart stack line tells.told told named tells.said is) ∙ sym placed in
      none.1 enabled.0 (subst (λ (e : Event). Happens (scene_of_core old) (state_of_core old) e enabled.0) (ap (λ (o : Option Event). unwrap_or o event) same) enabled.1),
)

-- nor where it has no place
pub none_placed : (stack : Stack) (line : List ℕ) (names next : Names) (core : CoreState) (told : Event) → EventsAreApart → DevicesAreNamed stack → IsEventLine stack line told
    → None ≡ event_placed names told → AppliesLine stack line names core false next core
none_placed stack line names next core told apart named is placed = (
  refl,
  λ other later tells enabled.
      none-some _ (placed ∙ ap (event_placed names) (apart stack line told tells.told named is tells.said) ∙ tells.placed),
)

-- the pools of one more device are there
pub devices_on : (f : PoolId → Extent) (devices : List Device) (number : ℕ) (device : Device) (old new all : List Extent) → drop number devices ≡ device ∷ drop (number + 1) devices
    → old ++ map f (rising_from number (drop number devices)) ≡ all → new ≡ old ++ map f (pools_at number device.kind)
    → new ++ map f (rising_from (number + 1) (drop (number + 1) devices)) ≡ all
unfolding rising_from
devices_on f devices number device old new all cut are is =
    ap (λ (es : List Extent). es ++ map f (rising_from (number + 1) (drop (number + 1) devices))) is
    ∙ append_assoc old (map f (pools_at number device.kind)) (map f (rising_from (number + 1) (drop (number + 1) devices)))
    ∙ ap (λ (es : List Extent). old ++ es) (sym (map-append f (pools_at number device.kind) (rising_from (number + 1) (drop (number + 1) devices))))
    ∙ ap (λ (ds : List Device). old ++ map f (rising_from number ds)) (sym cut)
    ∙ are

-- and there is no more
pub devices_end : (f : PoolId → Extent) (devices : List Device) (number : ℕ) (all old : List Extent) → length devices ≤ number
    → old ++ map f (rising_from number (drop number devices)) ≡ all → old ≡ all
unfolding rising_from
devices_end f devices number all old past are =
    sym (append-nil old) ∙ ap (λ (ds : List Device). old ++ map f (rising_from number ds)) (sym (drop_all number devices past)) ∙ are

pub told_none : (number : ℕ) (lines : List (List ℕ)) → lines ≡ [] → told_lines number lines ≡ []
unfolding told_lines
told_none number lines none = rw none refl

-- a line was passed over, or its event was applied
pub passed_on : (stack : Stack) (scene : Scene) (start : State) (told : List (ℕ × List ℕ)) (number : ℕ) (line : List ℕ) (more rest : List (List ℕ)) (names called : Names) (core now : CoreState)
    (count events : ℕ) (extents wide : List Extent) → HasCome stack scene start told (told_lines number rest) names core count extents → rest ≡ line ∷ more → is_told line ≡ false
    → called ≡ names → now ≡ core → events ≡ count → wide ≡ extents → HasCome stack scene start told (told_lines (number + 1) more) called now events wide
passed_on stack scene start told number line more rest names called core now count events extents wide come is none same_names same_core same_count same_extents =
    rw (same_names, same_core, same_count, same_extents)
    (subst (λ (lines : List (ℕ × List ℕ)). HasCome stack scene start told lines names core count extents) (ap (told_lines number) is ∙ passed_over number line more none) come)

pub applied_on : (stack : Stack) (scene : Scene) (start : State) (told : List (ℕ × List ℕ)) (number : ℕ) (line : List ℕ) (more rest : List (List ℕ)) (names next called : Names) (core new now : CoreState)
    (count events : ℕ) (extents wide : List Extent) → HasCome stack scene start told (told_lines number rest) names core count extents → rest ≡ line ∷ more → is_told line ≡ true
    → AppliesLine stack line names core true next new → called ≡ next → now ≡ new → events ≡ count + 1 → wide ≡ map (wider (state_of_core new)) extents
    → HasCome stack scene start told (told_lines (number + 1) more) called now events wide
applied_on stack scene start told number line more rest names next called core new now count events extents wide come is some applies same_names same_core same_count widens =
    rw (same_names, same_core, same_count)
    (comes_on stack scene start told (told_lines (number + 1) more) number line names next core new count extents wide
    (subst (λ (lines : List (ℕ × List ℕ)). HasCome stack scene start told lines names core count extents) (ap (told_lines number) is ∙ told_here number line more some) come) applies widens)

-- what was followed is a replay
pub replays : (stack : Stack) (told : List (ℕ × List ℕ)) (old new : CoreState) (count : ℕ) (bad : Option ℕ) (finish : Finish) (extents : Vec Extent)
    → FollowsLines stack told old new extents.items count bad → IsFinish (scene_of_core new) (state_of_core new) finish
    → IsReplay (scene_of_core old) stack (state_of_core old) told (record { events = count; bad = bad; finish = finish; extents = extents })
replays stack told old new count bad finish extents is ends = record {
  front = is.come.front;
  rest = is.rest;
  cut = is.come.cut;
  events = is.come.events;
  names = is.names;
  said = is.come.said;
  state = state_of_core new;
  run = is.come.run;
  stops = is.stops;
  count = is.come.count_is;
  finish = subst (λ (scene : Scene). IsFinish scene (state_of_core new) finish) is.come.scene_is ends;
  extents = is.come.extents_are;
}

-- extents are of the pools of a report
own_pools : (states : List State) (pools : List PoolId) → map (λ (e : Extent). e.pool) (map (extent_over states) pools) ≡ pools
own_pools states [] = refl
own_pools states (pool ∷ pools) = ap (λ ps. pool ∷ ps) (own_pools states pools)

pub pools_are : (stack : Stack) (told : List (ℕ × List ℕ)) (old new : CoreState) (extents : List Extent) (count : ℕ) (bad : Option ℕ) → FollowsLines stack told old new extents count bad
    → map (λ (e : Extent). e.pool) extents ≡ told_pools stack
pools_are stack told old new extents count bad is =
    let states = state_of_core old ∷ later (scene_of_core old) (state_of_core old) is.come.events (state_of_core new) is.come.run in
    ap (map (λ (e : Extent). e.pool)) is.come.extents_are ∙ own_pools states (told_pools stack)
