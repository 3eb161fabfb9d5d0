-- Lines are those of a run exactly where none of them is bad.
use Rattle.std.proofs.Common.{◌≡◌, ◌++◌, ℕ, List, [], ◌∷◌, Option, None, Some, refl, sym, ap, subst, ◌∙◌}
use Rattle.std.specs.Prelude.{unwrap_or}
use Rattle.std.proofs.lemmas.List.{append-nil}
use Rattle.stack_base.specs.declared.stack.Stack.{Stack}
use Rattle.trace_text.specs.Laws.{EventsAreApart}
use Rattle.trace_text.specs.Names.{DevicesAreNamed}
use Rattle.run_machine.specs.declared.event.Event.{Event}
use Rattle.run_machine.specs.Scene.{Scene}
use Rattle.run_machine.specs.Opened.{Scenario, scene, start}
use Rattle.run_machine.specs.OneState.{TaskNamesDiffer}
use Rattle.run_machine.specs.Runs.{State, Happens, IsRun}
use Rattle.run_machine.proofs.Apart.{runs_lead_to_one_state}
use Rattle.run_machine.proofs.OneState.{events_lead_to_one_state}
use Rattle.plain_core.specs.Cores.{CoreState, scene_of_core, state_of_core}
use Rattle.plain_core.specs.objects.Ledgers.{ledger_of}
use Rattle.plain_core.specs.opening.Opening.{IsOpenedCore}
use Rattle.trace_replay.specs.Names.{Names, names_after, event_placed, no_names}
use Rattle.trace_replay.specs.Replay.{AreLinesOf, IsReplay, StopsAt, TellsEvent}
use Rattle.trace_replay.specs.Exact.{IsReplayOf, RunsHaveNoBadLine, TellRun}
use Rattle.trace_replay.specs.declared.walk.Replayed.{Replayed}

-- these lines tell these events, of a run that goes on from here
pub record GoesOn (scene : Scene) (stack : Stack) (names : Names) (state : State) (rest : List (ℕ × List ℕ)) : Type 0 where
  pub events : List Event
  pub last : Names
  pub said : AreLinesOf stack names rest events last
  pub final : State
  pub run : IsRun scene state events final

-- a line tells one event
pub one_told : (stack : Stack) (names : Names) (line : List ℕ) (first second : Event) (next again : Names) → EventsAreApart → DevicesAreNamed stack
    → TellsEvent stack names line first next → TellsEvent stack names line second again → (second ≡ first) × (again ≡ next)
one_told stack names line first second next again apart named a b =
    let same = apart stack line b.told a.told named b.said a.said in
    let placed : Some second ≡ Some first = sym b.placed ∙ ap (event_placed names) same ∙ a.placed in (
      ap (λ (o : Option Event). unwrap_or o first) placed,
      b.next_is ∙ ap (λ (e : Event). names_after names e.what) same ∙ sym a.next_is,
    )

-- where all lines tell a run, those behind the first of them go on from where these lead
behind : (scene : Scene) (stack : Stack) (names last : Names) (old new : State) (front rest : List (ℕ × List ℕ)) (events : List Event)
    → EventsAreApart → DevicesAreNamed stack → TaskNamesDiffer scene old → AreLinesOf stack names front events last → IsRun scene old events new
    → GoesOn scene stack names old (front ++ rest) → GoesOn scene stack last new rest
behind scene stack names last old new [] rest [] lines named apart said run on =
    subst (λ (n : Names). GoesOn scene stack n new rest) (sym said) (subst (λ (s : State). GoesOn scene stack names s rest) (sym run) on)
behind scene stack names last old new [] rest (event ∷ events) lines named apart said run on = absurd said
behind scene stack names last old new (line ∷ front) rest [] lines named apart said run on = absurd said
behind scene stack names last old new (line ∷ front) rest (event ∷ events) lines named apart (next, tells, said) (middle, happens, run) on =
    by (behind scene stack next last middle new front rest events lines named (events_lead_to_one_state.apart scene old middle event apart happens) said run) on.events on.said on.run
  where
    by : (GoesOn scene stack next middle (front ++ rest) → GoesOn scene stack last new rest) → (all : List Event) → AreLinesOf stack names (line ∷ front ++ rest) all on.last
        → IsRun scene old all on.final → GoesOn scene stack last new rest
    by go [] whole again = absurd whole
    by go (other ∷ others) (following, tells_too, whole) (between, happens_too, again) =
        let same = one_told stack names line.1 event other next following lines named tells tells_too in
        let here : between ≡ middle =
        events_lead_to_one_state.one scene old between middle event apart (subst (λ (e : Event). Happens scene old e between) same.0 happens_too) happens in
        go (record {
          events = others;
          last = on.last;
          said = subst (λ (n : Names). AreLinesOf stack n (front ++ rest) others on.last) same.1 whole;
          final = on.final;
          run = subst (λ (s : State). IsRun scene s others on.final) here again;
        })

-- no line is bad where they go on
none_bad : (scene : Scene) (stack : Stack) (names : Names) (state : State) (rest : List (ℕ × List ℕ)) (bad : Option ℕ) → StopsAt scene stack names state rest bad
    → GoesOn scene stack names state rest → bad ≡ None
none_bad scene stack names state [] None stops on = refl
none_bad scene stack names state [] (Some bad) stops on = absurd stops
none_bad scene stack names state (line ∷ lines) None stops on = absurd stops
none_bad scene stack names state (line ∷ lines) (Some bad) stops on = by on.events on.said on.run
  where
    by : (events : List Event) → AreLinesOf stack names (line ∷ lines) events on.last → IsRun scene state events on.final → Some bad ≡ None
    by [] said run = absurd said
    by (event ∷ events) (next, tells, said) (middle, happens, run) = absurd (stops.1 event next tells (middle, happens))

-- and none is left where none is bad
pub none_left : (scene : Scene) (stack : Stack) (names : Names) (state : State) (rest : List (ℕ × List ℕ)) (bad : Option ℕ) → StopsAt scene stack names state rest bad
    → bad ≡ None → rest ≡ []
none_left scene stack names state [] bad stops none = refl
none_left scene stack names state (line ∷ lines) None stops none = absurd stops
none_left scene stack names state (line ∷ lines) (Some bad) stops none = absurd cc

good : (s : Scenario) (told : List (ℕ × List ℕ)) (replayed : Replayed) → IsReplayOf s told replayed → replayed.bad ≡ None → TellRun s told
good s told replayed is none =
    let end = none_left (scene s ledger_of) s.stack is.names is.state is.rest replayed.bad is.stops none in
    let all : is.front ≡ told = sym (is.cut ∙ ap (λ (rest : List (ℕ × List ℕ)). is.front ++ rest) end ∙ append-nil is.front) in
    record {
      events = is.events;
      names = is.names;
      said = subst (λ (lines : List (ℕ × List ℕ)). AreLinesOf s.stack no_names lines is.events is.names) all is.said;
      state = is.state;
      run = is.run;
    }

pub no_bad_line : EventsAreApart → RunsHaveNoBadLine
no_bad_line lines = record {
  good = good;
  run = λ s told replayed named is tells.
      none_bad (scene s ledger_of) s.stack is.names is.state is.rest replayed.bad is.stops
      (behind (scene s ledger_of) s.stack no_names is.names (start s) is.state is.front is.rest is.events lines named
      (runs_lead_to_one_state.apart s ledger_of [] (start s) refl) is.said is.run (record {
        events = tells.events;
        last = tells.names;
        said = subst (λ (all : List (ℕ × List ℕ)). AreLinesOf s.stack no_names all tells.events tells.names) is.cut tells.said;
        final = tells.state;
        run = tells.run;
      }));
}

-- what a replay says from an opened core it says from the start of its scenario
pub from_start : (s : Scenario) (core : CoreState) (told : List (ℕ × List ℕ)) (replayed : Replayed) → IsOpenedCore s core
    → IsReplay (scene_of_core core) s.stack (state_of_core core) told replayed → IsReplayOf s told replayed
from_start s core told replayed opened is =
    subst (λ (from : State). IsReplay (scene s ledger_of) s.stack from told replayed) opened.state
    (subst (λ (sc : Scene). IsReplay sc s.stack (state_of_core core) told replayed) opened.scene is)
