-- The state behind entries of a run.
use Rattle.std.proofs.Common.{◌≡◌, ◌≤◌, ◌==◌, ◌++◌, cond, ℕ, Bool, true, false, List, [], ◌∷◌, length, refl, sym, ◌∙◌, ap, subst, arith}
use Rattle.std.proofs.lemmas.Bool.{eq-eqb, eqb-true, eqb-false}
use Rattle.std.proofs.lemmas.List.{append-nil, append_assoc, get_or_past}
use Rattle.std.proofs.lemmas.List.Elements.{filter-append}
use mathlib.Core.Path.{path_j'}
use Rattle.elem_ledger.specs.Ledger.{LedgerId}
use Rattle.run_machine.specs.declared.event.Event.{Event}
use Rattle.run_machine.specs.Scene.{Setup, Scene}
use Rattle.run_machine.specs.Opened.{Scenario, scene, start, setup_in, opened_tasks, no_task}
use Rattle.run_machine.specs.Tasks.{TaskState, request, answered}
use Rattle.run_machine.specs.Runs.{State, Steps, IsRun}
use Rattle.run_machine.proofs.Frames.{upd_same, upd_other}
use Rattle.shared_objects.specs.Calls.{struck}
use Rattle.run_merge.specs.Entries.{Entry, entries_in}
use Rattle.run_merge.specs.Products.{entries_by, task_behind_entries, rounds_started, AreOfRun}
use Rattle.run_merge.proofs.products.LookLets.{round_after, started_more}
use Rattle.run_merge.proofs.products.Served.{serves_struck}

-- the entry of a step
abbrev pub entry_of : (scene : Scene) (old : State) (place : ℕ) (event : Event) (new : State) → Steps scene old place event new → Entry
entry_of scene old place event new steps = record { place = place; asked = struck (request scene.setup (old.task place)); reply = steps.reply }

-- one event more, behind a run
pub one_event : (scene : Scene) (old : State) (events : List Event) (mid : State) (run : IsRun scene old events mid) (place : ℕ) (event : Event) (new : State)
    (steps : Steps scene mid place event new)
    → (more : List Event) × (whole : IsRun scene old more new)
    × (entries_in scene old more new whole ≡ entries_in scene old events mid run ++ entry_of scene mid place event new steps ∷ [])
one_event scene old [] mid run place event new steps =
    path_j' (λ (x : State) (p : x ≡ old). (steps : Steps scene x place event new)
    → (more : List Event) × (whole : IsRun scene old more new) × (entries_in scene old more new whole ≡ entry_of scene x place event new steps ∷ []))
    (λ steps. (event ∷ [], (new, (place, steps), refl), refl)) run steps
one_event scene old (first ∷ events) mid (next, (at, step), run) place event new steps =
    let rest = one_event scene next events mid run place event new steps in
    (first ∷ rest.0, (next, (at, step), rest.1), ap (λ l. entry_of scene old at first next step ∷ l) rest.2)

led_more : (setup : Setup) (x : TaskState) (es : List Entry) (e : Entry) → task_behind_entries setup x (es ++ e ∷ []) ≡ answered setup (task_behind_entries setup x es) e.reply
led_more setup x [] e = refl
led_more setup x (first ∷ es) e = led_more setup (answered setup x first.reply) es e

pub record Behind (s : Scenario) (ledger : ℕ → LedgerId) (before : List Entry) (state : State) : Type 0 where
  pub reached : AreOfRun s ledger before state
  -- as many rounds have started as the tally says
  pub count : rounds_started before ≡ state.objects.tally.round
  -- each task is behind its own entries, and there is none behind the last
  pub mine : (place : ℕ) → state.task place ≡ task_behind_entries (setup_in s) ((start s).task place) (entries_by place before)
  pub outside : (place : ℕ) → length (opened_tasks s) ≤ place → state.task place ≡ no_task

module _ (s : Scenario) (ledger : ℕ → LedgerId) where
  abbrev sc : Scene
  sc = scene s ledger

  pub at_start : Behind s ledger [] (start s)
  at_start = record {
    reached = ([], refl, refl);
    count = refl;
    mine = λ place. refl;
    outside = λ place le. get_or_past (opened_tasks s) place no_task le;
  }

  module _ (before : List Entry) (state : State) (b : Behind s ledger before state) (place : ℕ) (event : Event) (next : State) (steps : Steps sc state place event next) where
    abbrev e : Entry
    e = entry_of sc state place event next steps

    by_more : (other : ℕ) (same : Bool) → (other == place) ≡ same → entries_by other (before ++ e ∷ []) ≡ entries_by other before ++ cond same (e ∷ []) []
    by_more other same is = filter-append (λ (x : Entry). other == x.place) before (e ∷ []) ∙ ap (λ b. entries_by other before ++ cond b (e ∷ []) []) is

    mine_more : (other : ℕ) (same : Bool) → (other == place) ≡ same → next.task other ≡ task_behind_entries (setup_in s) ((start s).task other) (entries_by other (before ++ e ∷ []))
    mine_more other true same =
        let is = eqb-true other place same in
        subst (λ p. next.task p ≡ task_behind_entries (setup_in s) ((start s).task p) (entries_by p (before ++ e ∷ []))) (sym is)
        (ap (λ (f : ℕ → TaskState). f place) steps.goes_on ∙ upd_same state.task place (answered (setup_in s) (state.task place) steps.reply)
        ∙ ap (λ x. answered (setup_in s) x steps.reply) (b.mine place)
        ∙ sym (led_more (setup_in s) ((start s).task place) (entries_by place before) e)
        ∙ ap (task_behind_entries (setup_in s) ((start s).task place)) (sym (by_more place true (eq-eqb place place refl))))
    mine_more other false same =
        ap (λ (f : ℕ → TaskState). f other) steps.goes_on
        ∙ upd_other state.task place (answered (setup_in s) (state.task place) steps.reply) other (eqb-false other place same) ∙ b.mine other
        ∙ ap (task_behind_entries (setup_in s) ((start s).task other)) (sym (by_more other false same ∙ append-nil (entries_by other before)))

    outside_more : (other : ℕ) (same : Bool) → (other == place) ≡ same → length (opened_tasks s) ≤ other → next.task other ≡ no_task
    outside_more other true same le = let is = eqb-true other place same in let lt = steps.here in absurd (omega (arith, is, lt, le))
    outside_more other false same le =
        ap (λ (f : ℕ → TaskState). f other) steps.goes_on
        ∙ upd_other state.task place (answered (setup_in s) (state.task place) steps.reply) other (eqb-false other place same) ∙ b.outside other le

    count_more : rounds_started (before ++ e ∷ []) ≡ next.objects.tally.round
    count_more =
        let serves = serves_struck ledger state.objects (request (setup_in s) (state.task place)) steps.reply next.objects steps.serves in
        omega (arith, started_more before e, b.count, round_after ledger state.objects e.asked steps.reply next.objects serves)

    pub one_more : Behind s ledger (before ++ e ∷ []) next
    one_more =
        let more = one_event sc (start s) b.reached.0 state b.reached.1 place event next steps in
        record {
          reached = (more.0, more.1, more.2 ∙ ap (λ l. l ++ e ∷ []) b.reached.2);
          count = count_more;
          mine = λ other. mine_more other (other == place) refl;
          outside = λ other le. outside_more other (other == place) refl le;
        }

  behind_all : (before : List Entry) (state : State) → Behind s ledger before state → (events : List Event) (last : State) (run : IsRun sc state events last)
      → Behind s ledger (before ++ entries_in sc state events last run) last
  behind_all before state b [] last run = subst (λ x. Behind s ledger (before ++ []) x) (sym run) (subst (λ l. Behind s ledger l state) (sym (append-nil before)) b)
  behind_all before state b (event ∷ events) last (next, (place, steps), run) =
      let first = entry_of sc state place event next steps in
      let rest = behind_all (before ++ first ∷ []) next (one_more before state b place event next steps) events last run in
      subst (λ l. Behind s ledger l last) (append_assoc before (first ∷ []) (entries_in sc next events last run)) rest

  pub behind_run : (before : List Entry) (state : State) → AreOfRun s ledger before state → Behind s ledger before state
  behind_run before state (events, run, is) = subst (λ l. Behind s ledger l state) is (behind_all [] (start s) at_start events state run)
