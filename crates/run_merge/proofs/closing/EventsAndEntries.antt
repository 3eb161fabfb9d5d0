-- A run has as many events as entries, and the merge as many entries as the histories.
use Rattle.std.proofs.Common.{◌≡◌, ◌+◌, cond, ℕ, Bool, true, false, List, [], ◌∷◌, length, refl, sym, ◌∙◌, ap, arith}
use Rattle.std.specs.Prelude.{nat_lt}
use Rattle.std.proofs.lemmas.List.{length-map}
use Rattle.elem_ledger.specs.Ledger.{LedgerId}
use Rattle.run_machine.specs.declared.event.Event.{Event}
use Rattle.run_machine.specs.Opened.{Scenario, scene, start}
use Rattle.run_machine.specs.Runs.{State, IsRun}
use Rattle.run_machine.specs.Scene.{Scene}
use Rattle.run_merge.specs.Entries.{Entry, entries_in}
use Rattle.run_merge.specs.Merging.{Ticketed, without_tickets, insert, sorted_by_ticket}
use Rattle.run_merge.specs.Products.{AreOfRun}

run_length : (scene : Scene) (old : State) (events : List Event) (new : State) (run : IsRun scene old events new) → length (entries_in scene old events new run) ≡ length events
run_length scene old [] new run = refl
run_length scene old (event ∷ events) new (next, (place, steps), run) = let rest = run_length scene next events new run in omega (arith, rest)

insert_length : (n : Ticketed) (ns : List Ticketed) → length (insert n ns) ≡ length ns + 1
insert_length n [] = refl
insert_length n (x ∷ xs) = by_test (nat_lt x.ticket n.ticket) (insert_length n xs)
  where
    by_test : (b : Bool) → length (insert n xs) ≡ length xs + 1 → length (cond b (x ∷ insert n xs) (n ∷ x ∷ xs)) ≡ length (x ∷ xs) + 1
    by_test true rest = omega (arith, rest)
    by_test false rest = omega arith

pub sorted_length : (ns : List Ticketed) → length (sorted_by_ticket ns) ≡ length ns
sorted_length [] = refl
sorted_length (n ∷ ns) = let a = insert_length n (sorted_by_ticket ns) in let b = sorted_length ns in omega (arith, a, b)

pub merge_length : (s : Scenario) (ledger : ℕ → LedgerId) (ns : List Ticketed) (last : State) → (run : AreOfRun s ledger (without_tickets (sorted_by_ticket ns)) last) → length run.0 ≡ length ns
merge_length s ledger ns last (events, run, is) =
    sym (run_length (scene s ledger) (start s) events last run) ∙ ap (λ (l : List Entry). length l) is
    ∙ length-map (sorted_by_ticket ns) (λ (n : Ticketed). n.entry) ∙ sorted_length ns
