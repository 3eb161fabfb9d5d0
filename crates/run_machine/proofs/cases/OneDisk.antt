-- A stack of one disk, a, for examples: what the runs over it begin with, place by place.
use Rattle.std.proofs.Common.{◌≡◌, ◌+◌, ℕ, zero, suc, Bool, List, [], ◌∷◌, slice_get, slice_index_or, codes, refl, arith, false}
use Rattle.std.specs.Global.{Global}
use Rattle.std.specs.Option.{option_map_or}
use Rattle.fail_script.specs.Script.{Answers}
use Rattle.stack_base.specs.declared.ids.PoolId.{PoolId}
use Rattle.stack_base.specs.declared.ids.PoolId.TheVariants.{FsBios, FsVecs, Bios, Records}
use Rattle.stack_base.specs.declared.stack.Device.{Device}
use Rattle.stack_base.specs.declared.stack.Stack.{Stack}
use Rattle.stack_base.specs.Tree.{Tree, Leaf, tree, tree_below, over_shape}
use Rattle.stack_base.specs.declared.ids.DevId.{DevId}
use Rattle.decl_text.specs.Known.{Change}
use Rattle.layout_model.specs.declared.write.Write.{Write}
use Rattle.layout_model.specs.May.{bads_of}
use Rattle.run_machine.specs.Scene.{Setup, rescuer_at}
use Rattle.run_machine.specs.Objects.{TallyState}
use Rattle.run_machine.specs.Opened.{Scenario, places_of, records_of, reserve_of, device_at}
use Rattle.run_machine.specs.Opened as texts
use Rattle.run_machine.proofs.Beginnings.{IsOfScenario, reserves_are}
use Rattle.run_machine.proofs.Texts.{stack_of, disk}

abbrev pub a : DevId
a = device_at 0

abbrev tree_of : ℕ → ℕ → Tree
tree_of sectors dev = slice_index_or (Leaf 0 sectors ∷ []) dev (Leaf dev 0)

abbrev rescuer_of : ℕ → Bool
rescuer_of dev = false

-- runs over it begin with this, where the books have these places
abbrev pub setup_over : ℕ → (ℕ → ℕ) → Setup
setup_over sectors places = record { count = 1; tree = tree_of sectors; rescuer = rescuer_of; places = places }

-- only the writers' pools have a reserve
abbrev pub reserve : PoolId → ℕ
reserve FsBios = 2
reserve FsVecs = 2
reserve (Bios dev) = 0
reserve (Records dev) = 0

module _ (memory : Global) (sectors : ℕ) where
  abbrev pub stack : Stack
  stack = stack_of memory (disk memory (codes "a") sectors ∷ []) refl (sectors ∷ []) 2

  tree_is : (dev : ℕ) → tree_of sectors dev ≡ tree stack dev
  unfolding tree_below over_shape
  tree_is zero = refl
  tree_is (suc n) = let e : suc n + 1 ≡ suc (suc n) = omega arith in rw e refl

  rescuer_is : (dev : ℕ) → rescuer_of dev ≡ rescuer_at (slice_get stack.devices.items dev)
  rescuer_is zero = refl
  rescuer_is (suc n) = refl

  bads_are : (dev : ℕ) → [] ≡ bads_of stack dev
  bads_are zero = refl
  bads_are (suc n) = refl

  no_bios : (dev : ℕ) → 0 ≡ option_map_or (λ (device : Device). device.reserve) (slice_get stack.devices.items dev) 0
  no_bios zero = refl
  no_bios (suc n) = refl

  no_records : (dev : ℕ) → 0 ≡ option_map_or (λ (device : Device). records_of device.kind) (slice_get stack.devices.items dev) 0
  no_records zero = refl
  no_records (suc n) = refl

  reserve_is : (pool : PoolId) → reserve pool ≡ reserve_of stack pool
  reserve_is = reserves_are reserve stack refl refl no_bios no_records

  -- so the runs of a scenario over it begin, where each book has a place for each node of its writer's writes
  pub is_of_scenario : (scripts : List (PoolId × Answers)) (writes : List Write) (rounds : List ℕ) (changes : List Change)
      → let s : Scenario = record { stack = stack; scripts = scripts; writes = writes; rounds = rounds; changes = changes } in
      (places : ℕ → ℕ) → ((writer : ℕ) → places writer ≡ places_of s writer) → (tally : TallyState) → tally ≡ (texts.objects s).tally
      → IsOfScenario (setup_over sectors places) reserve tally s
  is_of_scenario scripts writes rounds changes places places_are tally tally_is = record {
    count_is = refl;
    tree_is = tree_is;
    rescuer_is = rescuer_is;
    places_are = places_are;
    reserve_is = reserve_is;
    bads_are = bads_are;
    tally_is = tally_is;
  }
