-- A mirror of two disks of eight sectors, with one bio and one record in reserve and no ordinary memory, and one write of its first sector: what
-- runs with a rescuer for the mirror's set and without one have in common.
use Rattle.std.proofs.Common.{◌≡◌, ◌+◌, ◌==◌, if◌then◌else◌, ℕ, zero, suc, Bool, List, [], ◌∷◌, slice_index_or, codes, refl, arith, false, true}
use Rattle.std.specs.Global.{Global}
use Rattle.fail_script.specs.Script.{Answers, only_tail}
use Rattle.stack_base.specs.declared.ids.DevId.{DevId}
use Rattle.stack_base.specs.declared.ids.PoolId.{PoolId}
use Rattle.stack_base.specs.declared.ids.PoolId.TheVariants.{FsBios, FsVecs, Bios, Records}
use Rattle.stack_base.specs.declared.stack.Kind.TheVariants.{Mirror}
use Rattle.stack_base.specs.declared.stack.Stack.{Stack}
use Rattle.stack_base.specs.Tree.{Tree, Leaf, Mirrored, tree, tree_below, over_shape, member_at}
use Rattle.layout_model.specs.declared.write.Write.{Write}
use Rattle.layout_model.specs.May.{bads_of}
use Rattle.layout_model.specs.Need.{needed, elements_begun as begins}
use Rattle.layout_model.specs.NeedCounts.{nodes as nodes_of}
use Rattle.run_machine.specs.Scene.{Setup}
use Rattle.run_machine.specs.Tasks.{Todo}
use Rattle.run_machine.specs.Objects.{Objects}
use Rattle.run_machine.specs.Opened.{Scenario, device_at, reserve_of}
use Rattle.run_machine.specs.Opened as texts
use Rattle.run_machine.proofs.Beginnings.{IsOfScenario, objects_by, reserves_are, first_places, one_left}
use Rattle.run_machine.proofs.Beginnings as begins
use Rattle.run_machine.proofs.Texts.{device, disk as disk_of, stack_of}

abbrev pub b : DevId
b = device_at 1

abbrev pub m : DevId
m = device_at 2

abbrev pub mirror : Tree
mirror = Mirrored 2 (8 ∷ 8 ∷ []) (member_at 2 (Leaf 0 8 ∷ Leaf 1 8 ∷ []))

-- whether the mirror's set has a rescuer
abbrev pub setup : Bool → Setup
setup rescuer = record {
  count = 3;
  tree = λ dev. slice_index_or (Leaf 0 8 ∷ Leaf 1 8 ∷ mirror ∷ []) dev (Leaf dev 0);
  rescuer = λ dev. slice_index_or (false ∷ false ∷ rescuer ∷ []) dev false;
  places = λ writer. if 0 == writer then 4 else 0;
}

abbrev pub write : Write
write = record { task = 0; dev = m; start = 0; count = 1; tag = 0 }

abbrev pub todo : Todo
todo = record { number = 0; round = 0; write = write }

-- the reserves of the writers' pools, and those of the mirror's bios and records
abbrev pub reserve : PoolId → ℕ
reserve FsBios = 2
reserve FsVecs = 2
reserve (Bios dev) = slice_index_or (0 ∷ 0 ∷ 1 ∷ []) dev.0 0
reserve (Records dev) = slice_index_or (0 ∷ 0 ∷ 1 ∷ []) dev.0 0

-- no pool has ordinary memory
abbrev pub scripts : List (PoolId × Answers)
scripts =
    (FsBios, only_tail false)
    ∷ (FsVecs, only_tail false)
    ∷ (Records m, only_tail false)
    ∷ (Bios m, only_tail false)
    ∷ []

-- the objects as runs begin with them, with a rescuer and without
abbrev pub objects : Objects
objects = objects_by (setup true) reserve scripts one_left

-- The scenario with a rescuer for the mirror's set, and without one: runs of both begin with these objects.
module _ (memory : Global) where
  abbrev pub stack : Bool → Stack
  stack rescuer =
      stack_of memory
      (disk_of memory (codes "a") 8 ∷ disk_of memory (codes "b") 8 ∷ device memory (codes "m") (Mirror 1) (0 ∷ 1 ∷ []) 1 rescuer ∷ [])
      refl (8 ∷ 8 ∷ 8 ∷ []) 2

  abbrev pub scenario : Bool → Scenario
  scenario rescuer = record { stack = stack rescuer; scripts = scripts; writes = write ∷ []; rounds = 0 ∷ []; changes = [] }

  module _ (rescuer : Bool) where
    tree_is : (dev : ℕ) → (setup rescuer).tree dev ≡ tree (stack rescuer) dev
    unfolding tree_below over_shape
    tree_is zero = refl
    tree_is (suc zero) = refl
    tree_is (suc (suc zero)) = refl
    tree_is (suc (suc (suc n))) = let e : suc (suc (suc n)) + 1 ≡ suc (suc (suc (suc n))) = omega arith in rw e refl

    rescuer_is : (dev : ℕ) → (setup rescuer).rescuer dev ≡ (texts.setup_in (scenario rescuer)).rescuer dev
    rescuer_is zero = refl
    rescuer_is (suc zero) = refl
    rescuer_is (suc (suc zero)) = refl
    rescuer_is (suc (suc (suc n))) = refl

    four_nodes : 4 ≡ nodes_of (stack rescuer) write
    unfolding tree_below over_shape needed begins
    four_nodes = refl

    bads_are : (dev : ℕ) → [] ≡ bads_of (stack rescuer) dev
    bads_are zero = refl
    bads_are (suc zero) = refl
    bads_are (suc (suc zero)) = refl
    bads_are (suc (suc (suc n))) = refl

    bios_are : (dev : ℕ) → reserve (Bios (device_at dev)) ≡ reserve_of (stack rescuer) (Bios (device_at dev))
    bios_are zero = refl
    bios_are (suc zero) = refl
    bios_are (suc (suc zero)) = refl
    bios_are (suc (suc (suc n))) = refl

    records_are : (dev : ℕ) → reserve (Records (device_at dev)) ≡ reserve_of (stack rescuer) (Records (device_at dev))
    records_are zero = refl
    records_are (suc zero) = refl
    records_are (suc (suc zero)) = refl
    records_are (suc (suc (suc n))) = refl

    pub is_of_scenario : IsOfScenario (setup rescuer) reserve one_left (scenario rescuer)
    is_of_scenario = record {
      count_is = refl;
      tree_is = tree_is;
      rescuer_is = rescuer_is;
      places_are = first_places (stack rescuer) todo 4 four_nodes;
      reserve_is = reserves_are reserve (stack rescuer) refl refl bios_are records_are;
      bads_are = bads_are;
      tally_is = refl;
    }

    pub setup_is : setup rescuer ≡ texts.setup_in (scenario rescuer)
    setup_is = begins.setup_is (setup rescuer) reserve one_left (scenario rescuer) is_of_scenario

    pub objects_are : objects ≡ texts.objects (scenario rescuer)
    objects_are = begins.objects_are (setup rescuer) reserve one_left (scenario rescuer) is_of_scenario
