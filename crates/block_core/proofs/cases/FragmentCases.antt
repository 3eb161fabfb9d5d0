-- The fragments of a write to a mirror of two, which are still to come behind each event up to the link of its first leg; and what a sector
-- holds behind two fragments.
use Rattle.std.proofs.Common.{◌≡◌, ℕ, List, [], ◌∷◌, true, refl}
use Rattle.stack_base.specs.declared.ids.Bad.{Bad}
use Rattle.stack_base.specs.declared.ids.Status.TheVariants as status
use Rattle.stack_base.specs.declared.stack.Stack.{Stack}
use Rattle.stack_base.specs.Words.{sector_data, zero_sector}
use Rattle.layout_model.specs.declared.write.Write.{Write}
use Rattle.run_machine.specs.Opened.{Scenario}
use Rattle.block_core.specs.Images.{held_after}
use Rattle.elem_ledger.specs.Ledger.{LedgerId}
use Rattle.layout_model.specs.declared.fragment.Fragment.{Fragment}
use Rattle.layout_model.specs.May.{bads_of}
use Rattle.layout_model.specs.Plan.{plans_of, plan, leaves}
use Rattle.run_machine.specs.Maps.{upd}
use Rattle.run_machine.specs.Scene.{Scene}
use Rattle.run_machine.specs.Runs.{State}
use Rattle.run_machine.proofs.Turns.{Turn, behind}
use Rattle.run_machine.proofs.cases.MirrorRun.{setup, todo, start, ledger, begun}
use Rattle.block_core.specs.Weights.{sum_at, total_weight}
use Rattle.block_core.specs.Fragments.{todo_fragments, to_come, is_it, fragment_count}

-- the write's one sector on a disk
abbrev on : ℕ → Fragment
on disk = record { write = 0; offset = 0; len = 1; disk = record { 0 = disk }; at = 0 }

-- one on each disk
of_the_write : todo_fragments (setup true) todo ≡ on 0 ∷ on 1 ∷ []
unfolding plans_of plan leaves
of_the_write = refl

-- each of them once
each_once : fragment_count (on 1) (on 0 ∷ on 1 ∷ []) ≡ 1
each_once = refl

module _ (some : LedgerId) where
  abbrev scene : Scene
  scene = record { setup = setup true; tasks = 4; books = 1; writes = 1; ledger = ledger some }

  abbrev left : (Fragment → ℕ) → State → List Turn → List ℕ
  left value s [] = total_weight scene (to_come (setup true) value) s ∷ []
  left value s (turn ∷ turns) = total_weight scene (to_come (setup true) value) s ∷ left value (behind scene.setup s turn) turns

  -- both are to come all the time, in the writer's hand, in its submission, and then the first in the submission and the second in the legs that are left
  both_to_come : left (λ f. 1) start (begun some) ≡ 2 ∷ 2 ∷ 2 ∷ 2 ∷ 2 ∷ 2 ∷ 2 ∷ []
  unfolding sum_at upd plans_of plan leaves
  both_to_come = refl

  second_to_come : left (is_it (on 1)) start (begun some) ≡ 1 ∷ 1 ∷ 1 ∷ 1 ∷ 1 ∷ 1 ∷ 1 ∷ []
  unfolding sum_at upd plans_of plan leaves
  second_to_come = refl

-- a disk of which sector 5 is bad, and three writes to it of two sectors each, of which two follow at a sector's distance
abbrev bad : Bad
bad = record { range = record { start = 5; len = 1 }; kind = status.Medium }

module _ (stack : Stack) (bads : bads_of stack 0 ≡ bad ∷ []) (scenario : Scenario) where
  abbrev write : ℕ → ℕ → Write
  write first tag = record { task = 0; dev = record { 0 = 0 }; start = first; count = 2; tag = tag }

  abbrev s : Scenario
  s = record scenario { stack = stack; writes = write 2 700 ∷ write 3 900 ∷ write 4 500 ∷ [] }

  abbrev part : ℕ → ℕ → Fragment
  part number first = record { write = number; offset = 0; len = 2; disk = record { 0 = 0 }; at = first }

  -- the first write alone, then over it the second, and then the third, which the bad sector fails
  after_one : held_after s 0 3 (part 0 2 ∷ []) zero_sector ≡ sector_data 700 1
  after_one = rw bads refl

  after_two : held_after s 0 3 (part 0 2 ∷ part 1 3 ∷ []) zero_sector ≡ sector_data 900 0
  after_two = rw bads refl

  the_other_way : held_after s 0 3 (part 1 3 ∷ part 0 2 ∷ []) zero_sector ≡ sector_data 700 1
  the_other_way = rw bads refl

  after_three : held_after s 0 4 (part 0 2 ∷ part 1 3 ∷ part 2 4 ∷ []) zero_sector ≡ sector_data 900 1
  after_three = rw bads refl

  beside : held_after s 0 5 (part 0 2 ∷ part 1 3 ∷ part 2 4 ∷ []) zero_sector ≡ zero_sector
  beside = rw bads refl
