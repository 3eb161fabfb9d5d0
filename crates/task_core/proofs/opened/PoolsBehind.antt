-- A pool that the declarations of a text have is one of its stack.
use Rattle.std.proofs.Common.{◌≡◌, ◌+◌, ◌*◌, ◌/◌, ◌%◌, ◌^◌, ◌<◌, ◌≤◌, ◌==◌, ◌&&◌, ◌||◌, ℕ, Bool, true, false, true≢false, length, Option, None, Some, refl, sym, ap, subst, ◌∙◌, arith}
use Rattle.std.specs.Prelude.{All, slice_get}
use Rattle.std.specs.Option.{option_and_then, option_map}
use Rattle.std.proofs.lemmas.Bool.Decides.{nat_tests}
use Rattle.std.proofs.lemmas.List.Elements.{All-nil, All-weaker}
use Rattle.std.proofs.lemmas.Option.{none-some, slice_get-map, slice_get_within}
use Rattle.std.proofs.lemmas.Bool.{lt-ltb, or_right}
use Rattle.stack_base.specs.declared.ids.DevId.{DevId}
use Rattle.stack_base.specs.declared.ids.PoolId.{PoolId}
use Rattle.stack_base.specs.declared.ids.PoolId.TheVariants.{FsBios, FsVecs, Bios, Records}
use Rattle.stack_base.specs.declared.stack.Device.{Device}
use Rattle.stack_base.specs.declared.stack.Kind.{Kind}
use Rattle.stack_base.specs.declared.stack.Kind.TheVariants.{Disk, Linear, Stripe, Zoned, Limit, Mirror}
use Rattle.stack_base.specs.declared.stack.Stack.{Stack}
use Rattle.stack_base.specs.PoolId.{IsOfStack, pool_number}
use Rattle.stack_base.specs.Stack.{IsStack}
use Rattle.stack_base.specs.Tree.{Shape, Keeps, Cuts, Copies, shape_of, size, tree}
use Rattle.stack_base.specs.Fault.{bads_of_kind}
use Rattle.layout_model.proofs.ByShape.{cuts_is, copies_is, keeps_is}
use Rattle.model_disks.specs.Disks.{IsBadRange}
use Rattle.decl_text.specs.Accepting.{declared_form, shown_devices, what_of_kind}
use Rattle.decl_text.specs.Fit.{HasReserves, IsFitBad}
use Rattle.decl_text.specs.Known.{Declared, bios_pool_of, pool_if, records_pool_of, sectors_of}
use Rattle.decl_text.specs.declared.item.What.{What}
use Rattle.work_text.specs.Fit.{IsPoolIn}
use Rattle.run_machine.specs.Opened.{records_of as records_at}
use Rattle.task_core.specs.opened.Openings.{has_pool}
use Rattle.task_steps.specs.Routed.{Routing, copies_bios, keeps, routing_setup}
use Rattle.run_machine.specs.Scene.{has_set, is_mirror, keeps_data}
use Rattle.task_steps.specs.Stage.{Stage, is_pool, has_mirror_in}

-- kinds
pub kind_sets : (kind : Kind) (number : ℕ) (pool : PoolId) → bios_pool_of number (what_of_kind kind) ≡ Some pool → keeps (shape_of kind) ≡ false
kind_sets (Disk sectors bad) number pool e = absurd (none-some pool e)
kind_sets Linear number pool e = refl
kind_sets (Stripe chunk) number pool e = refl
kind_sets (Zoned chunk) number pool e = refl
kind_sets (Limit longest chunk) number pool e = refl
kind_sets (Mirror records) number pool e = refl

pub kind_slips : (kind : Kind) (number : ℕ) (pool : PoolId) → records_pool_of number (what_of_kind kind) ≡ Some pool → copies_bios (shape_of kind) ≡ true
kind_slips (Disk sectors bad) number pool e = absurd (none-some pool e)
kind_slips Linear number pool e = absurd (none-some pool e)
kind_slips (Stripe chunk) number pool e = absurd (none-some pool e)
kind_slips (Zoned chunk) number pool e = absurd (none-some pool e)
kind_slips (Limit longest chunk) number pool e = absurd (none-some pool e)
kind_slips (Mirror records) number pool e = refl

pub bios_kept : (kind : Kind) (reserve : ℕ) (rescuer : Bool) → keeps (shape_of kind) ≡ false → HasReserves (what_of_kind kind) reserve rescuer → 1 ≤ reserve
bios_kept (Disk sectors bad) reserve rescuer e fit = absurd (true≢false e)
bios_kept Linear reserve rescuer e fit = fit.0
bios_kept (Stripe chunk) reserve rescuer e fit = fit.0
bios_kept (Zoned chunk) reserve rescuer e fit = fit.0
bios_kept (Limit longest chunk) reserve rescuer e fit = fit.0
bios_kept (Mirror records) reserve rescuer e fit = fit.1.0

pub slips_kept : (kind : Kind) (reserve : ℕ) (rescuer : Bool) → copies_bios (shape_of kind) ≡ true → HasReserves (what_of_kind kind) reserve rescuer → 1 ≤ records_at kind
slips_kept (Disk sectors bad) reserve rescuer e fit = absurd (true≢false (sym e))
slips_kept Linear reserve rescuer e fit = absurd (true≢false (sym e))
slips_kept (Stripe chunk) reserve rescuer e fit = absurd (true≢false (sym e))
slips_kept (Zoned chunk) reserve rescuer e fit = absurd (true≢false (sym e))
slips_kept (Limit longest chunk) reserve rescuer e fit = absurd (true≢false (sym e))
slips_kept (Mirror records) reserve rescuer e fit = fit.0.0

pub disks_keep_none : (kind : Kind) (reserve : ℕ) (rescuer : Bool) → keeps (shape_of kind) ≡ true → HasReserves (what_of_kind kind) reserve rescuer → reserve ≡ 0
disks_keep_none (Disk sectors bad) reserve rescuer e fit = fit.0
disks_keep_none Linear reserve rescuer e fit = absurd (true≢false (sym e))
disks_keep_none (Stripe chunk) reserve rescuer e fit = absurd (true≢false (sym e))
disks_keep_none (Zoned chunk) reserve rescuer e fit = absurd (true≢false (sym e))
disks_keep_none (Limit longest chunk) reserve rescuer e fit = absurd (true≢false (sym e))
disks_keep_none (Mirror records) reserve rescuer e fit = absurd (true≢false (sym e))

pub others_have_none : (kind : Kind) → copies_bios (shape_of kind) ≡ false → records_at kind ≡ 0
others_have_none (Disk sectors bad) e = refl
others_have_none Linear e = refl
others_have_none (Stripe chunk) e = refl
others_have_none (Zoned chunk) e = refl
others_have_none (Limit longest chunk) e = refl
others_have_none (Mirror records) e = absurd (true≢false e)

-- devices
module _ (stack : Stack) (good : IsStack stack) (number : ℕ) (device : Device) (found : slice_get stack.devices.items number ≡ Some device) where
  pub data_by : (shape : Shape) → shape_of device.kind ≡ shape → keeps_data (tree stack number) ≡ keeps shape
  data_by (Keeps sectors) e = ap keeps_data (keeps_is stack good number device found sectors e)
  data_by Cuts e = ap keeps_data (cuts_is stack good number device found e)
  data_by Copies e = ap keeps_data (copies_is stack good number device found e)

  pub mirror_by : (shape : Shape) → shape_of device.kind ≡ shape → is_mirror (tree stack number) ≡ copies_bios shape
  mirror_by (Keeps sectors) e = ap is_mirror (keeps_is stack good number device found sectors e)
  mirror_by Cuts e = ap is_mirror (cuts_is stack good number device found e)
  mirror_by Copies e = ap is_mirror (copies_is stack good number device found e)

  pub bads_by : (kind : Kind) → device.kind ≡ kind → All (λ bad. IsFitBad (sectors_of (what_of_kind kind)) bad) (bads_of_kind kind)
      → All (IsBadRange (size (tree stack number))) (bads_of_kind kind)
  bads_by (Disk sectors bad) e all =
      let wide : size (tree stack number) ≡ sectors = ap size (keeps_is stack good number device found sectors (ap shape_of e)) in
      All-weaker (λ bad. IsFitBad sectors bad) (IsBadRange (size (tree stack number)))
      (λ one fit. record { some = fit.some; within = subst (λ n. one.range.start + one.range.len ≤ n) (sym wide) fit.within; fails = fit.kind }) bad.items all
  bads_by Linear e all = All-nil (IsBadRange (size (tree stack number)))
  bads_by (Stripe chunk) e all = All-nil (IsBadRange (size (tree stack number)))
  bads_by (Zoned chunk) e all = All-nil (IsBadRange (size (tree stack number)))
  bads_by (Limit longest chunk) e all = All-nil (IsBadRange (size (tree stack number)))
  bads_by (Mirror records) e all = All-nil (IsBadRange (size (tree stack number)))

-- what a number is told to have is what the device with it has
told_device : (own : ℕ → What → Option PoolId) (stack : Stack) (number : ℕ) (pool : PoolId) → pool_if own (shown_devices stack) number ≡ Some pool
    → (device : Device) × (slice_get stack.devices.items number ≡ Some device) × (own number (what_of_kind device.kind) ≡ Some pool)
told_device own stack number pool is = by_found (slice_get stack.devices.items number) refl
  where
    at_found : (o : Option Device) → slice_get stack.devices.items number ≡ o → option_and_then (λ (d : Declared). own number d.what) (option_map declared_form o) ≡ Some pool
    at_found o q =
        ap (option_and_then (λ (d : Declared). own number d.what)) (sym (slice_get-map declared_form stack.devices.items number ∙ ap (option_map declared_form) q)) ∙ is

    by_found : (o : Option Device) → slice_get stack.devices.items number ≡ o
        → (device : Device) × (slice_get stack.devices.items number ≡ Some device) × (own number (what_of_kind device.kind) ≡ Some pool)
    by_found None q = absurd (none-some pool (at_found None q))
    by_found (Some device) q = (device, q, at_found (Some device) q)

module _ (routing : Routing) (good : IsStack routing.stack) where
  set_in : (dev : DevId) → IsPoolIn (shown_devices routing.stack) (Bios dev) → has_set (routing_setup routing) dev.0 ≡ true
  set_in dev is =
      let told = told_device bios_pool_of routing.stack dev.0 (Bios dev) is in
      let lt = slice_get_within routing.stack.devices.items dev.0 told.0 told.1 in
      let keeps_none = data_by routing.stack good dev.0 told.0 told.1 (shape_of told.0.kind) refl ∙ kind_sets told.0.kind dev.0 (Bios dev) told.2 in
      rw (lt-ltb dev.0 (length routing.stack.devices.items) lt, keeps_none) refl

  slips_in : (dev : DevId) → IsPoolIn (shown_devices routing.stack) (Records dev) → has_mirror_in routing dev.0 ≡ true
  slips_in dev is =
      let told = told_device records_pool_of routing.stack dev.0 (Records dev) is in
      let lt = slice_get_within routing.stack.devices.items dev.0 told.0 told.1 in
      let copies_all = mirror_by routing.stack good dev.0 told.0 told.1 (shape_of told.0.kind) refl ∙ kind_slips told.0.kind dev.0 (Records dev) told.2 in
      rw (lt-ltb dev.0 (length routing.stack.devices.items) lt, copies_all) refl

  or_middle : (a b c d : Bool) → c ≡ true → (a || (b || c) || d) ≡ true
  or_middle true b c d e = refl
  or_middle false true c d e = refl
  or_middle false false true d e = refl
  or_middle false false false d e = absurd (true≢false (sym e))

  even_is : (n : ℕ) → (2 * n % 2 == 0) ≡ true
  even_is n = let e : 2 * n % 2 ≡ 0 = omega arith in by_number (2 * n % 2) e
    where
      by_number : (m : ℕ) → m ≡ 0 → (m == 0) ≡ true
      by_number m e = grind (e, arith, nat_tests)

  odd_is : (n : ℕ) → ((2 * n + 1) % 2 == 1) ≡ true
  odd_is n = let e : (2 * n + 1) % 2 ≡ 1 = omega arith in by_number ((2 * n + 1) % 2) e
    where
      by_number : (m : ℕ) → m ≡ 1 → (m == 1) ≡ true
      by_number m e = grind (e, arith, nat_tests)

  -- a pool that the declarations have is one of the stack
  pub pool_there : (pool : PoolId) → IsPoolIn (shown_devices routing.stack) pool → has_pool routing (pool_number pool) ≡ true
  pool_there FsBios is = refl
  pool_there FsVecs is = refl
  pool_there (Bios dev) is =
      let half : 2 * dev.0 / 2 ≡ dev.0 = omega arith in
      let set : has_set (routing_setup routing) (2 * dev.0 / 2) ≡ true = ap (has_set (routing_setup routing)) half ∙ set_in dev is in
      let even = even_is dev.0 in
      let both : (2 * dev.0 % 2 == 0 && has_set (routing_setup routing) (2 * dev.0 / 2)) ≡ true = rw (even, set) refl in
      or_middle (2 * dev.0 == 64) (2 * dev.0 == 65) (2 * dev.0 % 2 == 0 && has_set (routing_setup routing) (2 * dev.0 / 2))
      (2 * dev.0 % 2 == 1 && has_mirror_in routing (2 * dev.0 / 2)) both
  pool_there (Records dev) is =
      let half : (2 * dev.0 + 1) / 2 ≡ dev.0 = omega arith in
      let slips : has_mirror_in routing ((2 * dev.0 + 1) / 2) ≡ true = ap (has_mirror_in routing) half ∙ slips_in dev is in
      let odd = odd_is dev.0 in
      let both : ((2 * dev.0 + 1) % 2 == 1 && has_mirror_in routing ((2 * dev.0 + 1) / 2)) ≡ true = rw (odd, slips) refl in
      or_right (2 * dev.0 + 1 == 64 || (2 * dev.0 + 1 == 65 || (2 * dev.0 + 1) % 2 == 0 && has_set (routing_setup routing) ((2 * dev.0 + 1) / 2)))
      ((2 * dev.0 + 1) % 2 == 1 && has_mirror_in routing ((2 * dev.0 + 1) / 2)) both

-- one that objects of the stack have
pub pool_known : (stage : Stage) → IsStack stage.routing.stack → (pool : PoolId) → IsPoolIn (shown_devices stage.routing.stack) pool
    → is_pool stage pool ≡ true
pool_known stage good FsBios is = refl
pool_known stage good FsVecs is = refl
pool_known stage good (Bios dev) is = set_in stage.routing good dev is
pool_known stage good (Records dev) is = slips_in stage.routing good dev is

-- and has a small number
pub number_small : (stack : Stack) → IsStack stack → (pool : PoolId) → IsPoolIn (shown_devices stack) pool → pool_number pool < 2 ^ 32
number_small stack good FsBios is = omega arith
number_small stack good FsVecs is = omega arith
number_small stack good (Bios dev) is =
    let told = told_device bios_pool_of stack dev.0 (Bios dev) is in
    let lt = slice_get_within stack.devices.items dev.0 told.0 told.1 in
    let few = good.few in omega (arith, lt, few)
number_small stack good (Records dev) is =
    let told = told_device records_pool_of stack dev.0 (Records dev) is in
    let lt = slice_get_within stack.devices.items dev.0 told.0 told.1 in
    let few = good.few in omega (arith, lt, few)

-- and one that a stack can have
pub of_stack : (stack : Stack) → IsStack stack → (pool : PoolId) → IsPoolIn (shown_devices stack) pool → IsOfStack pool
of_stack stack good FsBios is = tt
of_stack stack good FsVecs is = tt
of_stack stack good (Bios dev) is =
    let told = told_device bios_pool_of stack dev.0 (Bios dev) is in
    let lt = slice_get_within stack.devices.items dev.0 told.0 told.1 in
    let few = good.few in omega (arith, lt, few)
of_stack stack good (Records dev) is =
    let told = told_device records_pool_of stack dev.0 (Records dev) is in
    let lt = slice_get_within stack.devices.items dev.0 told.0 told.1 in
    let few = good.few in omega (arith, lt, few)
