-- At the start each book has a place for each node that its writer's writes will open.
use Rattle.std.proofs.Common.{◌≤◌, ℕ, Option, None, arith}
use Rattle.std.specs.Prelude.{sum_by}
use Rattle.std.proofs.lemmas.List.{length-replicate}
use Rattle.elem_ledger.specs.Ledger.{LedgerId}
use Rattle.bio_books.specs.Books.{Node}
use Rattle.run_machine.specs.Opened.{Scenario, scene, start, todos_of, places_of, setup_in}
use Rattle.block_core.specs.Weights.{total_weight}
use Rattle.block_core.specs.Rooms.{todo_need, room, HasRoomInBooks}
use Rattle.block_core.specs.Scenarios.{IsScenario}
use Rattle.block_core.proofs.start.StartTotals.{worth_at_start, own_share}

module _ (s : Scenario) (good : IsScenario s) (ledger : ℕ → LedgerId) where
  abbrev to_begin : ℕ → ℕ
  to_begin writer = sum_by (todo_need (setup_in s)) (todos_of s writer)

  total_room : (w : ℕ) → total_weight (scene s ledger) (room (setup_in s) w) (start s) ≤ places_of s w
  total_room w = omega (arith, worth_at_start s good ledger (room (setup_in s) w), own_share s w to_begin)

  pub start_roomy : HasRoomInBooks (scene s ledger) (start s)
  start_roomy = record {
    places = λ w. length-replicate {A = Option Node} (places_of s w) None;
    room = total_room;
  }
