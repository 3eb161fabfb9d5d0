-- Each fragment of the layout is planned once and no other is, so none is completed twice.
use Rattle.std.proofs.Common.{◌≡◌, ◌≢◌, ◌<◌, ◌≤◌, if◌then◌else◌, ℕ, suc, Bool, true, false, List, [], ◌∷◌, length, Option, None, Some, inl, inr, refl, sym, ◌∙◌, ap, subst, arith}
use Rattle.std.specs.Prelude.{sum_by, All, Contains, zip}
use Rattle.std.specs.List.{AllPairs}
use Rattle.std.proofs.lemmas.Bool.{eq-eqb}
use Rattle.std.proofs.lemmas.List.Elements.{All-head, All-tail, All-from_get_or, All-contains, All-contains_itself, Contains-append_right}
use Rattle.std.proofs.lemmas.List.Sums.{sum_by-cons, get_or-le-sum_by}
use Rattle.elem_ledger.specs.Ledger.{LedgerId}
use Rattle.stack_base.specs.Tree.{tree}
use Rattle.layout_model.specs.declared.fragment.Fragment.{Fragment}
use Rattle.layout_model.specs.Fragments.{IsFragmentOf, AreOther}
use Rattle.layout_model.specs.Writes.{IsWrite}
use Rattle.layout_model.proofs.PlanLaws.{plan_gives_fragments, plan_fragments_differ, trees_are_sound}
use Rattle.model_disks.specs.Disks.{DiskState}
use Rattle.run_machine.specs.Scene.{Scene}
use Rattle.run_machine.specs.Tasks.{TaskState, Writer, Rescuer, Completer, Keeper, Gathered, NoBio, HasBio, HasBoth, Todo}
use Rattle.run_machine.specs.Opened.{Scenario, scene, todos, setup_in}
use Rattle.run_machine.specs.Runs.{State}
use Rattle.block_core.specs.Weights.{Weight, Pending, Rescued, one_if_same, total_weight, weigh_option, task_weight, gathered_weight, book_weight}
use Rattle.block_core.specs.Scenarios.{IsScenario}
use Rattle.block_core.specs.Fragments.{todo_fragments, to_come, planned, equal_fragments, is_it, fragment_count, IsOfScenario, SubmitsNothing, NothingComes, NoneIsCompletedTwice, NoOtherIsCompleted, EachIsCompletedOnce}
use Rattle.block_core.proofs.stuck.Idle.{sum_none}
use Rattle.block_core.proofs.moves.Sums.{one-same, same_or_not, yes}
use Rattle.block_core.proofs.start.InvariantAtStart.{sum_at-zero, todos_all, all_map}
use Rattle.block_core.proofs.start.StagesAtStart.{once, begins_sum}
use Rattle.block_core.proofs.images.StillToCome.{carried_none}
use Rattle.block_core.proofs.images.Completed.{fragments_add_up}
use Rattle.block_core.proofs.start.StartTotals.{flat_sum}

-- fragments that are told to be the same are
same_fragment : (f g : Fragment) → equal_fragments f g ≡ true → f ≡ g
same_fragment f g is = grind (arith, is)

same_itself : (f : Fragment) → equal_fragments f f ≡ true
same_itself f = rw (eq-eqb f.write f.write refl, eq-eqb f.offset f.offset refl, eq-eqb f.len f.len refl, eq-eqb f.disk.0 f.disk.0 refl, eq-eqb f.at f.at refl) refl

-- where none of a list is the fragment
none_times : (f : Fragment) (gs : List Fragment) → All (λ g. equal_fragments f g ≡ false) gs → fragment_count f gs ≡ 0
none_times f [] none = refl
none_times f (g ∷ gs) none =
    omega (
      arith,
      sum_by-cons (is_it f) g gs,
      ap yes (All-head (λ g. equal_fragments f g ≡ false) g gs none),
      none_times f gs (All-tail (λ g. equal_fragments f g ≡ false) g gs none),
    )

pub not_same : (f g : Fragment) → (f ≢ g) → equal_fragments f g ≡ false
not_same f g ne = by_test (equal_fragments f g) refl
  where
    by_test : (v : Bool) → equal_fragments f g ≡ v → v ≡ false
    by_test true is = absurd (ne (same_fragment f g is))
    by_test false is = refl

pub pairs_first : (g : Fragment) (gs : List Fragment) → AllPairs AreOther (g ∷ gs) → All (AreOther g) gs
pairs_first g gs pairs = All-from_get_or (AreOther g) gs g (λ i lt. pairs 0 (suc i) g (omega arith) (omega (arith, lt)))

pub pairs_rest : (g : Fragment) (gs : List Fragment) → AllPairs AreOther (g ∷ gs) → AllPairs AreOther gs
pairs_rest g gs pairs = λ i j d lt within. pairs (suc i) (suc j) d (omega (arith, lt)) (omega (arith, within))

-- of fragments that differ each is there once
at_most_once : (f : Fragment) (gs : List Fragment) → AllPairs AreOther gs → fragment_count f gs ≤ 1
at_most_once f [] pairs = omega arith
at_most_once f (g ∷ gs) pairs = by_test (equal_fragments f g) refl (at_most_once f gs (pairs_rest g gs pairs))
  where
    others : f ≡ g → All (λ h. equal_fragments f h ≡ false) gs
    others same = all_map (AreOther g) (λ h. equal_fragments f h ≡ false) (λ h other. not_same f h (λ e.
        other (ap (λ (x : Fragment). x.offset) (sym same ∙ e)) (ap (λ (x : Fragment). x.disk.0) (sym same ∙ e)))) gs (pairs_first g gs pairs)

    by_test : (v : Bool) → equal_fragments f g ≡ v → fragment_count f gs ≤ 1 → fragment_count f (g ∷ gs) ≤ 1
    by_test true is rest =
        let here : is_it f g ≡ 1 = ap yes is in
        omega (arith, sum_by-cons (is_it f) g gs, here, none_times f gs (others (same_fragment f g is)))
    by_test false is rest =
        let here : is_it f g ≡ 0 = ap yes is in
        omega (arith, sum_by-cons (is_it f) g gs, here, rest)

-- and only among those of its own write
within_write : (f : Fragment) (number : ℕ) (gs : List Fragment) → All (λ (g : Fragment). g.write ≡ number) gs → AllPairs AreOther gs → fragment_count f gs ≤ one_if_same number f.write
within_write f number gs all pairs = elim (same_or_not number f.write) [
  | inl e ↦ let here : one_if_same number f.write ≡ 1 = subst (λ k. one_if_same number k ≡ 1) e (one-same number) in omega (arith, here, at_most_once f gs pairs)
  | inr ne ↦ omega (
    arith,
    none_times f gs (all_map (λ (g : Fragment). g.write ≡ number) (λ g. equal_fragments f g ≡ false) (λ g of. not_same f g (λ e. ne (sym of ∙ ap (λ (x : Fragment). x.write) (sym e)))) gs all),
  )
]

pub some_times : (f : Fragment) (gs : List Fragment) → 0 < fragment_count f gs → Contains gs f
some_times f [] lt = absurd (omega (arith, lt))
some_times f (g ∷ gs) lt = by_test (equal_fragments f g) refl (some_times f gs)
  where
    by_test : (v : Bool) → equal_fragments f g ≡ v → (0 < fragment_count f gs → Contains gs f) → Contains (g ∷ gs) f
    by_test true is rest = (0, omega arith, sym (same_fragment f g is))
    by_test false is rest =
        let here : is_it f g ≡ 0 = ap yes is in
        Contains-append_right (g ∷ []) gs f (rest (omega (arith, lt, sum_by-cons (is_it f) g gs, here)))

pub term_in : {X : Type 0} (h : X → ℕ) (xs : List X) (x : X) → Contains xs x → h x ≤ sum_by h xs
term_in h xs x (k, within, is) = subst (λ y. h y ≤ sum_by h xs) is (get_or-le-sum_by h xs k x within)

pub times_some : (f : Fragment) (gs : List Fragment) → Contains gs f → 1 ≤ fragment_count f gs
times_some f gs c = let here : is_it f f ≡ 1 = ap yes (same_itself f) in omega (arith, here, term_in (is_it f) gs f c)

some_sum : {X : Type 0} (h : X → ℕ) (xs : List X) → 0 < sum_by h xs → (x : X) × Contains xs x × (0 < h x)
some_sum h [] lt = absurd (omega (arith, lt))
some_sum h (x ∷ xs) lt = elim (same_or_not (h x) 0) [
  | inl e ↦ let rest = some_sum h xs (omega (arith, lt, e, sum_by-cons h x xs)) in (rest.0, Contains-append_right (x ∷ []) xs rest.0 rest.1, rest.2)
  | inr ne ↦ (x, (0, omega arith, refl), omega (arith, ne))
]

pub all_le : {X : Type 0} (P : X → Type 0) (f g : X → ℕ) (xs : List X) → ((x : X) → P x → f x ≤ g x) → All P xs → sum_by f xs ≤ sum_by g xs
all_le P f g [] le all = omega arith
all_le P f g (x ∷ xs) le all =
    omega (arith, sum_by-cons f x xs, sum_by-cons g x xs, le x (All-head P x xs all), all_le P f g xs le (All-tail P x xs all))

module _ (s : Scenario) (good : IsScenario s) (ledger : ℕ → LedgerId) where
  todo_sound : (todo : Todo) → IsWrite s.stack todo.write → (f : Fragment)
      → (Contains (todo_fragments (setup_in s) todo) f → IsFragmentOf (tree s.stack todo.write.dev.0) todo.number 0 todo.write.start todo.write.count f)
      × (IsFragmentOf (tree s.stack todo.write.dev.0) todo.number 0 todo.write.start todo.write.count f → Contains (todo_fragments (setup_in s) todo) f)
  todo_sound todo is f =
      let sound = trees_are_sound s.stack todo.write.dev.0 good.stack is.known in
      let some = is.some in
      let law = plan_gives_fragments (tree s.stack todo.write.dev.0) todo.number 0 todo.write.start todo.write.count sound (omega arith) f in
      law

  todo_once : (f : Fragment) (todo : Todo) → IsWrite s.stack todo.write → fragment_count f (todo_fragments (setup_in s) todo) ≤ one_if_same todo.number f.write
  todo_once f todo is =
      let gs = todo_fragments (setup_in s) todo in
      let some = is.some in
      within_write f todo.number gs (all_map (Contains gs) (λ (g : Fragment). g.write ≡ todo.number) (λ g c. ((todo_sound todo is g).0 c).of_write) gs (All-contains_itself gs))
      (plan_fragments_differ s.stack todo.write.dev.0 todo.number 0 todo.write.start todo.write.count good.stack is.known (omega arith))

  pub planned_once : (f : Fragment) → fragment_count f (planned s) ≤ 1
  planned_once f =
      omega (
        arith,
        flat_sum (is_it f) (todo_fragments (setup_in s)) (todos s),
        all_le (λ (todo : Todo). IsWrite s.stack todo.write) (λ todo. fragment_count f (todo_fragments (setup_in s) todo)) (λ todo. one_if_same todo.number f.write) (todos s) (todo_once f)
            (todos_all s (IsWrite s.stack) good.writes),
        begins_sum f.write (todos s),
        once f.write 0 (length s.writes) (zip s.rounds s.writes),
      )

  is_write : (todo : Todo) → Contains (todos s) todo → IsWrite s.stack todo.write
  is_write todo c = All-contains (λ (todo : Todo). IsWrite s.stack todo.write) (todos s) todo (todos_all s (IsWrite s.stack) good.writes) c

  pub planned_is : (f : Fragment) → 0 < fragment_count f (planned s) → IsOfScenario s f
  planned_is f lt =
      let some = some_sum (λ todo. fragment_count f (todo_fragments (setup_in s) todo)) (todos s) (omega (arith, lt, flat_sum (is_it f) (todo_fragments (setup_in s)) (todos s))) in
      (some.0, some.1, (todo_sound some.0 (is_write some.0 some.1) f).0 (some_times f (todo_fragments (setup_in s) some.0) some.2))

  pub is_planned : (f : Fragment) → IsOfScenario s f → fragment_count f (planned s) ≡ 1
  is_planned f (todo, c, is) =
      let part = times_some f (todo_fragments (setup_in s) todo) ((todo_sound todo (is_write todo c) f).1 is) in
      omega (
        arith,
        part,
        term_in (λ todo. fragment_count f (todo_fragments (setup_in s) todo)) (todos s) todo c,
        flat_sum (is_it f) (todo_fragments (setup_in s)) (todos s),
        planned_once f,
      )

pub node_none : {X : Type 0} (held : Option X) → weigh_option (λ (x : X). 0) held ≡ 0
node_none None = refl
node_none (Some x) = refl

module _ (scene : Scene) (state : State) (value : Fragment → ℕ) where
  abbrev w : Weight
  w = to_come scene.setup value

  taken_none : (taken : Gathered) → gathered_weight w taken ≡ 0
  taken_none NoBio = refl
  taken_none (HasBio bio) = refl
  taken_none (HasBoth bio vector) = refl

  task_none : (place : ℕ) (x : TaskState) → SubmitsNothing x → task_weight w place x ≡ 0
  task_none place (Writer number todos taken submission) h = rw (h.0, h.1) (omega (arith, taken_none taken))
  task_none place (Rescuer dev submission) h = rw h refl
  task_none place (Completer disk carried) h = carried_none scene.setup value place carried
  task_none place (Keeper keeping) h = refl

  pub nothing_comes : NothingComes scene state → total_weight scene w state ≡ 0
  nothing_comes n =
      omega (
        arith,
        sum_none (task_weight w) scene.tasks state.task (λ place lt. task_none place (state.task place) (n.tasks place lt)),
        sum_none (λ dev bios. sum_by (w.bio Rescued) bios) scene.setup.count state.objects.rescue (λ dev lt. ap (sum_by (w.bio Rescued)) (n.rescued dev lt)),
        sum_none (λ dev (disk : DiskState). sum_by (w.bio Pending) disk.pending) scene.setup.count state.objects.disk (λ dev lt. ap (sum_by (w.bio Pending)) (n.pending dev lt)),
        sum_none (book_weight w) scene.books state.objects.book (λ writer lt. sum_at-zero (λ place. weigh_option (w.node writer place)) _ _ (λ place. node_none _)),
      )

pub none_is_completed_twice : NoneIsCompletedTwice
none_is_completed_twice s ledger events state good naming run f =
    omega (arith, fragments_add_up s ledger events state good naming run (is_it f), planned_once s good ledger f)

pub no_other_is_completed : NoOtherIsCompleted
no_other_is_completed s ledger events state good naming run f lt =
    planned_is s good ledger f (omega (arith, lt, fragments_add_up s ledger events state good naming run (is_it f)))

pub each_is_completed_once : EachIsCompletedOnce
each_is_completed_once s ledger events state good naming run none f is =
    omega (arith, fragments_add_up s ledger events state good naming run (is_it f), is_planned s good ledger f is, nothing_comes (scene s ledger) state (is_it f) none)
