-- Two rounds of one write each, and a reserve that changes between them: the entries of that run, and lists that miss a part of a product.
use Rattle.std.proofs.Common.{◌≡◌, ◌++◌, ◌==◌, cond, ℕ, Bool, true, false, List, [], ◌∷◌, None, Some, refl, sym, ◌∙◌, ap, subst, arith}
use Rattle.std.specs.Prelude.{filter}
use Rattle.std.specs.Global.{Global}
use Rattle.std.proofs.lemmas.Bool.{eqb-true, true≢false}
use Rattle.std.proofs.lemmas.List.Elements.{filter-append}
use Rattle.elem_ledger.specs.Ledger.{LedgerId}
use Rattle.stack_base.specs.declared.ids.PoolId.TheVariants.{FsBios}
use Rattle.stack_base.specs.declared.ids.SetId.TheVariants.{Fs}
use Rattle.stack_base.specs.declared.ids.Status.TheVariants.{Ok}
use Rattle.stack_base.specs.Tree.{tree_below, over_shape}
use Rattle.layout_model.specs.Need.{needed, elements_begun}
use Rattle.bio_books.specs.Drops as end
use Rattle.bio_books.specs.Links.{Made}
use Rattle.run_machine.specs.declared.event.Event.{Event}
use Rattle.run_machine.specs.declared.event.Got.TheVariants.{Spare}
use Rattle.run_machine.specs.Laws.{Object, object_of}
use Rattle.run_machine.specs.Maps.{upd}
use Rattle.run_machine.specs.Objects.{clear_bio}
use Rattle.run_machine.specs.Opened.{Scenario}
use Rattle.run_machine.specs.Requests.{Request, Reply, Write, TakeBio, GiveBio, Push, Complete, Link, Drop, Done, Resize, NextRound, HadBio, Did, Completed, LinkedTo, DroppedTo, OutIs}
use Rattle.run_machine.specs.Runs.{State, IsRun}
use Rattle.run_machine.specs.Scene.{Scene}
use Rattle.run_machine.proofs.Turns.{follow, turns_run, does_step}
use Rattle.run_machine.proofs.cases.RoundsRun.{bio, closed, events, ledger, rounds_run, scenario, scene, scene_is, setup, start, start_is, turns}
use Rattle.run_machine.proofs.cases.OneDisk.{a}
use Rattle.shared_objects.specs.Calls.{is_same_object}
use Rattle.shared_objects.proofs.SameNames.{same_is}
use Rattle.run_merge.specs.Entries.{Entry, entries_in}
use Rattle.run_merge.specs.Machines.{entries_at}
use Rattle.run_merge.specs.Products.{entries_by, IsProduct, AreOfRun}
use Rattle.run_merge.proofs.cases.RoundsScenario.{is_scenario}
use Rattle.run_merge.proofs.products.RunIsProduct.{runs_are_products}

abbrev entry : ℕ → Request → Reply → Entry
entry place asked reply = record { place = place; asked = asked; reply = reply }

-- the tasks: two writers, the completer of the disk, and the keeper
module _ (some : LedgerId) where
  abbrev take : ℕ → Entry
  take number = entry number (TakeBio Fs true) (HadBio Spare (clear_bio (ledger some 65)))

  abbrev written : ℕ → List Entry
  written number =
      entry number (Link number (Write number None)) (LinkedTo (Made 0))
      ∷ entry number (Push (bio some number)) Did
      ∷ entry 2 (Complete a) (Completed 0 (bio some number) Ok)
      ∷ entry 2 (Drop number 0 Ok (Some (bio some number))) (DroppedTo (end.Top (closed some number)))
      ∷ entry 2 (GiveBio (clear_bio (ledger some 65))) Did
      ∷ []

  abbrev done : ℕ → Entry
  done number = entry 2 (Done number Ok) Did

  abbrev resize : Entry
  resize = entry 3 (Resize FsBios 3) (OutIs 0)

  abbrev round : Entry
  round = entry 3 (NextRound 0) Did

  abbrev good : List Entry
  good = take 0 ∷ written 0 ++ done 0 ∷ resize ∷ round ∷ take 1 ∷ written 1 ++ done 1 ∷ []

  good_is : entries_in (scene some) start (events some) (follow setup start (turns some)) (rounds_run some) ≡ good
  unfolding upd turns_run does_step rounds_run
  good_is = refl

  -- before the write of round 1 is done, or its round has started
  abbrev take_early : List Entry
  take_early = take 0 ∷ written 0 ++ done 0 ∷ resize ∷ take 1 ∷ round ∷ written 1 ++ done 1 ∷ []

  abbrev round_early : List Entry
  round_early = take 0 ∷ written 0 ++ resize ∷ round ∷ done 0 ∷ take 1 ∷ written 1 ++ done 1 ∷ []

  abbrev resize_early : List Entry
  resize_early = take 0 ∷ written 0 ++ resize ∷ done 0 ∷ round ∷ take 1 ∷ written 1 ++ done 1 ∷ []

  -- a writer links before it has a bio
  abbrev other_asked : List Entry
  other_asked = written 0 ++ take 0 ∷ done 0 ∷ resize ∷ round ∷ take 1 ∷ written 1 ++ done 1 ∷ []

-- entries of different tasks at different objects change places, and neither a task nor an object sees it
swapped : (p : Entry → Bool) (x y : Entry) → (p x ≡ true → p y ≡ true → ⊥) → (xs ys : List Entry) → filter p (xs ++ x ∷ y ∷ ys) ≡ filter p (xs ++ y ∷ x ∷ ys)
swapped p x y apart xs ys = filter-append p xs (x ∷ y ∷ ys) ∙ ap (λ l. filter p xs ++ l) (by_tests (p x) (p y) refl refl) ∙ sym (filter-append p xs (y ∷ x ∷ ys))
  where
    rest : List Entry
    rest = filter p ys

    by_tests : (u v : Bool) → p x ≡ u → p y ≡ v → filter p (x ∷ y ∷ ys) ≡ filter p (y ∷ x ∷ ys)
    by_tests true true a b = absurd (apart a b)
    by_tests true false a b =
        ap (λ u. cond u (x ∷ filter p (y ∷ ys)) (filter p (y ∷ ys))) a ∙ ap (λ v. x ∷ cond v (y ∷ rest) rest) b
        ∙ sym (ap (λ v. cond v (y ∷ filter p (x ∷ ys)) (filter p (x ∷ ys))) b ∙ ap (λ u. cond u (x ∷ rest) rest) a)
    by_tests false v a b =
        ap (λ u. cond u (x ∷ filter p (y ∷ ys)) (filter p (y ∷ ys))) a
        ∙ sym (ap (λ u. cond (p y) (y ∷ cond u (x ∷ rest) rest) (cond u (x ∷ rest) rest)) a)

same_object : (name a b : Object) → is_same_object a b ≡ false → is_same_object name a ≡ true → is_same_object name b ≡ true → ⊥
same_object name a b apart x y = true≢false (sym (subst (λ n. is_same_object n b ≡ true) (same_is name a x) y) ∙ apart)

module _ (memory : Global) (some : LedgerId) where
  abbrev s : Scenario
  s = scenario memory

  -- the first list is that of a run, so it is a product
  abbrev Lists : Scene × State → Type 0
  Lists x = (events : List Event) × (run : IsRun x.0 x.1 events (follow setup start (turns some))) × (entries_in x.0 x.1 events (follow setup start (turns some)) run ≡ good some)

  good_is_of_run : AreOfRun s (ledger some) (good some) (follow setup start (turns some))
  good_is_of_run = subst Lists (λ k. (scene_is memory some k, start_is memory k)) (events some, rounds_run some, good_is some)

  good_is_product : IsProduct s (ledger some) (good some) (follow setup start (turns some))
  good_is_product = (runs_are_products s (ledger some) (good some) (follow setup start (turns some)) (is_scenario memory) (λ number. refl)).0 good_is_of_run

  module _ (last : State) where
    -- the others are none: the first take of a write stands before the start of its round,
    take_missed : IsProduct s (ledger some) (take_early some) last → ⊥
    unfolding upd tree_below over_shape needed elements_begun
    take_missed p = let come = p.takes (take some 0 ∷ written some 0 ++ done some 0 ∷ resize some ∷ []) (round some ∷ written some 1 ++ done some 1 ∷ []) (take some 1) refl in omega (arith, come)

    -- the start of a round before the end of a write of an earlier one,
    round_missed : IsProduct s (ledger some) (round_early some) last → ⊥
    round_missed p = true≢false (sym (p.rounds (take some 0 ∷ written some 0 ++ resize some ∷ []) (done some 0 ∷ take some 1 ∷ written some 1 ++ done some 1 ∷ []) (round some) refl refl 0 (omega arith) (omega arith)))

    -- a change of a reserve before it,
    resize_missed : IsProduct s (ledger some) (resize_early some) last → ⊥
    resize_missed p = true≢false (sym (p.resizes (take some 0 ∷ written some 0) (done some 0 ∷ round some ∷ take some 1 ∷ written some 1 ++ done some 1 ∷ []) (resize some) refl refl 0 (omega arith) (omega arith)))

    -- or an entry answers another request.
    asked_missed : IsProduct s (ledger some) (other_asked some) last → ⊥
    unfolding upd tree_below over_shape needed elements_begun
    asked_missed p = absurd (let is = (p.tasks 0).0 in cc)

    -- So they are of no run.
    no_run : (entries : List Entry) → (IsProduct s (ledger some) entries last → ⊥) → AreOfRun s (ledger some) entries last → ⊥
    no_run entries none run = none ((runs_are_products s (ledger some) entries last (is_scenario memory) (λ number. refl)).0 run)

    take_runs_not : AreOfRun s (ledger some) (take_early some) last → ⊥
    take_runs_not = no_run (take_early some) take_missed

    round_runs_not : AreOfRun s (ledger some) (round_early some) last → ⊥
    round_runs_not = no_run (round_early some) round_missed

    resize_runs_not : AreOfRun s (ledger some) (resize_early some) last → ⊥
    resize_runs_not = no_run (resize_early some) resize_missed

    asked_runs_not : AreOfRun s (ledger some) (other_asked some) last → ⊥
    asked_runs_not = no_run (other_asked some) asked_missed

  -- Though at each object and of each task the entries are the same where a take or a change of a reserve comes too early.
  take_at : (name : Object) → entries_at name (take_early some) ≡ entries_at name (good some)
  take_at name =
      swapped (λ (e : Entry). is_same_object name (object_of e.asked)) (take some 1) (round some) (same_object name (object_of (take some 1).asked) (object_of (round some).asked) refl)
      (take some 0 ∷ written some 0 ++ done some 0 ∷ resize some ∷ []) (written some 1 ++ done some 1 ∷ [])

  take_by : (place : ℕ) → entries_by place (take_early some) ≡ entries_by place (good some)
  take_by place =
      swapped (λ (e : Entry). place == e.place) (take some 1) (round some) (λ a b. omega (arith, eqb-true place 1 a, eqb-true place 3 b))
      (take some 0 ∷ written some 0 ++ done some 0 ∷ resize some ∷ []) (written some 1 ++ done some 1 ∷ [])

  resize_at : (name : Object) → entries_at name (resize_early some) ≡ entries_at name (good some)
  resize_at name =
      swapped (λ (e : Entry). is_same_object name (object_of e.asked)) (resize some) (done some 0) (same_object name (object_of (resize some).asked) (object_of (done some 0).asked) refl)
      (take some 0 ∷ written some 0) (round some ∷ take some 1 ∷ written some 1 ++ done some 1 ∷ [])

  resize_by : (place : ℕ) → entries_by place (resize_early some) ≡ entries_by place (good some)
  resize_by place =
      swapped (λ (e : Entry). place == e.place) (resize some) (done some 0) (λ a b. omega (arith, eqb-true place 3 a, eqb-true place 2 b))
      (take some 0 ∷ written some 0) (round some ∷ take some 1 ∷ written some 1 ++ done some 1 ∷ [])
