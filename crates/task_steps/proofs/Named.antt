-- What is told of a task names what the stack has.
use Rattle.std.proofs.Common.{◌≡◌, ◌/◌, ◌%◌, ◌<◌, ◌==◌, ◌&&◌, ◌||◌, ℕ, Bool, true, false, true≢false, length, Option, None, Some, inl, inr, refl, sym, ap, ◌∙◌, subst, arith}
use Rattle.std.specs.Prelude.{IsTrue, nat_lt, not, slice_get}
use Rattle.std.specs.Option.{option_map_or}
use Rattle.std.proofs.lemmas.Option.{slice_get_cases, same_Some, none-some}
use Rattle.std.proofs.lemmas.Bool.Decides.{nat_tests}
use Rattle.stack_base.specs.declared.ids.DevId.{DevId}
use Rattle.stack_base.specs.declared.ids.PoolId.{PoolId}
use Rattle.stack_base.specs.declared.ids.PoolId.TheVariants.{FsBios, FsVecs, Bios, Records}
use Rattle.stack_base.specs.declared.ids.SetId.{SetId}
use Rattle.stack_base.specs.declared.ids.SetId.TheVariants.{Fs, Of}
use Rattle.stack_base.specs.declared.stack.Kind.{Kind}
use Rattle.stack_base.specs.declared.stack.Kind.TheVariants.{Disk, Linear, Stripe, Zoned, Limit, Mirror}
use Rattle.stack_base.specs.declared.stack.Device.{Device}
use Rattle.stack_base.specs.Stack.{IsStack}
use Rattle.stack_base.specs.Tree.{shape_of, tree}
use Rattle.layout_model.proofs.ByShape.{cuts_is, copies_is, keeps_is}
use Rattle.bioset_pools.specs.Sets.{bios_of}
use Rattle.bio_books.specs.Drops as end
use Rattle.bio_books.specs.Links.{Made, NoRoom, Stray}
use Rattle.run_machine.specs.declared.event.Got.{Got}
use Rattle.run_machine.specs.declared.event.What.{What}
use Rattle.run_machine.specs.Scene.{is_device, has_set, is_mirror, keeps_data}
use Rattle.run_machine.specs.Requests as requests
use Rattle.run_machine.specs.Requests.{Request, Reply}
use Rattle.run_machine.specs.Tasks.{TaskState, Writer, Rescuer, Completer, Keeper, request}
use Rattle.run_machine.specs.Events.{id_of, take_of, miss_of, resize_of, pool_of, what_of}
use Rattle.run_machine.specs.Named.{is_disk_kind, is_mirror_kind, is_stacked_kind, is_any, HasDevice, HasPool, HasTask, HasWhat}
use Rattle.task_steps.specs.Homes.{IsTaskOf}
use Rattle.task_steps.specs.Named.{TasksNameTheStack}
use Rattle.task_steps.specs.Routed.{routing_setup}
use Rattle.task_steps.specs.Stage.{Stage, has_disk, has_mirror, is_set, is_pool, is_bios, is_vecs, is_slips, RequestFits}
use Rattle.task_steps.proofs.TaskHomes.{tasks_stay_home}

is_left : (a b : Bool) → (a && b) ≡ true → a ≡ true
is_left true b both = refl
is_left false b both = absurd (true≢false (sym both))

is_right : (a b : Bool) → (a && b) ≡ true → b ≡ true
is_right true b both = both
is_right false b both = absurd (true≢false (sym both))

below : (a b : ℕ) → IsTrue (nat_lt a b) → a < b
below a b is = grind (is, arith, nat_tests)

module _ (stage : Stage) (good : IsStack stage.routing.stack) where
  -- the device of a number, and what its tree says of its kind
  record IsThere (dev : ℕ) : Type 0 where
    device : Device
    found : slice_get stage.routing.stack.devices.items dev ≡ Some device
    keeps : keeps_data (tree stage.routing.stack dev) ≡ is_disk_kind device.kind
    copies : is_mirror (tree stage.routing.stack dev) ≡ is_mirror_kind device.kind

  by_kind : (dev : ℕ) (device : Device) → slice_get stage.routing.stack.devices.items dev ≡ Some device → (kind : Kind) → device.kind ≡ kind
      → (keeps_data (tree stage.routing.stack dev) ≡ is_disk_kind kind) × (is_mirror (tree stage.routing.stack dev) ≡ is_mirror_kind kind)
  by_kind dev device found (Disk sectors bad) e =
      let t = keeps_is stage.routing.stack good dev device found sectors (ap shape_of e) in (ap keeps_data t, ap is_mirror t)
  by_kind dev device found Linear e = let t = cuts_is stage.routing.stack good dev device found (ap shape_of e) in (ap keeps_data t, ap is_mirror t)
  by_kind dev device found (Stripe chunk) e = let t = cuts_is stage.routing.stack good dev device found (ap shape_of e) in (ap keeps_data t, ap is_mirror t)
  by_kind dev device found (Zoned chunk) e = let t = cuts_is stage.routing.stack good dev device found (ap shape_of e) in (ap keeps_data t, ap is_mirror t)
  by_kind dev device found (Limit longest chunk) e =
      let t = cuts_is stage.routing.stack good dev device found (ap shape_of e) in (ap keeps_data t, ap is_mirror t)
  by_kind dev device found (Mirror records) e = let t = copies_is stage.routing.stack good dev device found (ap shape_of e) in (ap keeps_data t, ap is_mirror t)

  there : (dev : ℕ) → IsTrue (is_device (routing_setup stage.routing) dev) → IsThere dev
  there dev is = elim ((slice_get_cases stage.routing.stack.devices.items dev).1) [
    | inl x ↦ let kinds = by_kind dev x.0 x.2 x.0.kind refl in record { device = x.0; found = x.2; keeps = kinds.0; copies = kinds.1 }
    | inr past ↦ absurd (let h = past.0 in let lt = below dev (length stage.routing.stack.devices.items) is in omega (arith, h, lt))
  ]

  suited : (suits : Kind → Bool) (dev : DevId) (device : Device) → slice_get stage.routing.stack.devices.items dev.0 ≡ Some device → suits device.kind ≡ true
      → HasDevice suits stage.routing.stack dev
  suited suits dev device found is = ap (λ o. option_map_or (λ (d : Device). suits d.kind) o false) found ∙ is

  any_device : (dev : DevId) → IsTrue (is_device (routing_setup stage.routing) dev.0) → HasDevice is_any stage.routing.stack dev
  any_device dev is = let at = there dev.0 is in suited is_any dev at.device at.found refl

  disk_device : (dev : DevId) → IsTrue (has_disk stage dev) → HasDevice is_disk_kind stage.routing.stack dev
  disk_device dev is =
      let at = there dev.0 (is_left _ _ is) in suited is_disk_kind dev at.device at.found (sym at.keeps ∙ is_right (is_device (routing_setup stage.routing) dev.0) _ is)

  set_device : (dev : DevId) → IsTrue (has_set (routing_setup stage.routing) dev.0) → HasDevice is_stacked_kind stage.routing.stack dev
  set_device dev is =
      let at = there dev.0 (is_left _ _ is) in
      suited is_stacked_kind dev at.device at.found (ap not (sym at.keeps) ∙ is_right (is_device (routing_setup stage.routing) dev.0) _ is)

  mirror_device : (dev : DevId) → IsTrue (has_mirror stage dev) → HasDevice is_mirror_kind stage.routing.stack dev
  mirror_device dev is =
      let at = there dev.0 (is_left _ _ is) in suited is_mirror_kind dev at.device at.found (sym at.copies ∙ is_right (is_device (routing_setup stage.routing) dev.0) _ is)

  -- pools
  set_pool : (set : SetId) → IsTrue (is_set stage set) → HasPool stage.routing.stack (bios_of set)
  set_pool Fs is = tt
  set_pool (Of dev) is = set_device dev is

  any_pool : (pool : PoolId) → IsTrue (is_pool stage pool) → HasPool stage.routing.stack pool
  any_pool FsBios is = tt
  any_pool FsVecs is = tt
  any_pool (Bios dev) is = set_device dev is
  any_pool (Records dev) is = mirror_device dev is

  bios_pool : (number : ℕ) → IsTrue (is_bios stage number) → HasPool stage.routing.stack (pool_of number)
  bios_pool number is = by_test (number == 65) refl (number == 64) refl (number % 2 == 0) refl is
    where
      by_test : (a : Bool) → (number == 65) ≡ a → (b : Bool) → (number == 64) ≡ b → (c : Bool) → (number % 2 == 0) ≡ c
          → IsTrue (number == 65 || (number % 2 == 0 && has_set (routing_setup stage.routing) (number / 2)))
          → HasPool stage.routing.stack (pool_of number)
      by_test true p b q c r is = rw (p) tt
      by_test false p true q c r is = rw (p, q) tt
      by_test false p false q true r is =
          rw (p, q, r) (set_device (record { 0 = number / 2 }) (subst (λ b. IsTrue (b && has_set (routing_setup stage.routing) (number / 2))) r
          (subst (λ b. IsTrue (b || (number % 2 == 0 && has_set (routing_setup stage.routing) (number / 2)))) p is)))
      by_test false p false q false r is =
          absurd (true≢false (sym (subst (λ b. IsTrue (b && has_set (routing_setup stage.routing) (number / 2))) r
          (subst (λ b. IsTrue (b || (number % 2 == 0 && has_set (routing_setup stage.routing) (number / 2)))) p is))))

  vecs_pool : (number : ℕ) → IsTrue (is_vecs stage number) → HasPool stage.routing.stack (pool_of number)
  vecs_pool number is =
      let p : (number == 65) ≡ false = other number is in rw (p, is) tt
    where
      other : (number : ℕ) → (number == 64) ≡ true → (number == 65) ≡ false
      other number e = grind (e, arith, nat_tests)

  slips_pool : (number : ℕ) → IsTrue (is_slips stage number) → HasPool stage.routing.stack (pool_of number)
  slips_pool number is =
      by_test (number == 65) refl (number == 64) refl (is_left (number % 2 == 1) _ is) (is_right (number % 2 == 1) _ is)
    where
      even_not : (number : ℕ) → (number % 2 == 1) ≡ true → (number % 2 == 0) ≡ false
      even_not number e = grind (e, arith, nat_tests)

      by_test : (a : Bool) → (number == 65) ≡ a → (b : Bool) → (number == 64) ≡ b → (number % 2 == 1) ≡ true
          → IsTrue (has_mirror stage (record { 0 = number / 2 })) → HasPool stage.routing.stack (pool_of number)
      by_test true p b q odd is = rw (p) tt
      by_test false p true q odd is = rw (p, q) tt
      by_test false p false q odd is = rw (p, q, even_not number odd) (mirror_device (record { 0 = number / 2 }) is)

  -- what is told of a request that fits
  abbrev Names : Option What → Type 0
  Names told = (what : What) → told ≡ Some what → HasWhat stage.routing.stack what

  names_some : (what : What) → HasWhat stage.routing.stack what → Names (Some what)
  names_some what has other e = subst (HasWhat stage.routing.stack) (same_Some what other e) has

  names_none : Names None
  names_none other e = absurd (none-some other e)

  takes : (waits : Bool) (pool : PoolId) (got : Got) → HasPool stage.routing.stack pool → Names (Some (take_of waits pool got))
  takes true pool got has = names_some _ has
  takes false pool got has = names_some _ has

  misses : (waits used : Bool) (pool : PoolId) → HasPool stage.routing.stack pool → Names (miss_of waits used pool)
  misses true true pool has = names_some _ has
  misses true false pool has = names_none
  misses false used pool has = names_some _ has

  resized : (none : Bool) (pool : PoolId) (min : ℕ) → HasPool stage.routing.stack pool → Names (resize_of none pool min)
  resized true pool min has = names_some _ has
  resized false pool min has = names_none

  names : (asked : Request) (reply : Reply) → RequestFits stage asked → Names (what_of asked reply)
  -- takes, and misses
  names (requests.TakeBio set waits) (requests.HadBio got bio) fits = takes waits (bios_of set) got (set_pool set fits)
  names (requests.TakeBio set waits) (requests.Missed used) fits = misses waits used (bios_of set) (set_pool set fits)
  names requests.TakeVec (requests.HadVec got vector) fits = names_some _ tt
  names requests.TakeVec (requests.Missed used) fits = misses true used FsVecs tt
  names (requests.TakeSlip dev) (requests.HadSlip got slip) fits = names_some _ (mirror_device dev fits)
  names (requests.TakeSlip dev) (requests.Missed used) fits = misses true used (Records dev) (mirror_device dev fits)
  -- elements that are given back
  names (requests.GiveBio bio) requests.Did fits = names_some _ (bios_pool bio.share.no fits.kind)
  names (requests.GiveVec vector) requests.Did fits = names_some _ (vecs_pool vector.share.no fits.kind)
  names (requests.GiveSlip slip) requests.Did fits = names_some _ (slips_pool slip.share.no fits.kind)
  -- lists of rescuers
  names (requests.Punt dev moved) requests.Did fits = names_some _ (any_device dev (is_left _ _ fits.0))
  names (requests.Pop dev) (requests.Popped bio) fits = names_some _ (any_device dev (is_left _ _ fits))
  -- disks
  names (requests.Push bio) requests.Did fits = names_some _ (disk_device bio.bio.dev fits.1)
  names (requests.Complete disk) (requests.Completed index bio status) fits = names_some _ (disk_device disk fits)
  -- nodes: a refused one is not told
  names (requests.Link writer opening) (requests.LinkedTo (Made node)) fits = names_some _ tt
  names (requests.Link writer opening) (requests.LinkedTo (NoRoom back)) fits = names_none
  names (requests.Link writer opening) (requests.LinkedTo (Stray back)) fits = names_none
  names (requests.Drop writer node status part) (requests.DroppedTo end.Left) fits = names_some _ tt
  names (requests.Drop writer node status part) (requests.DroppedTo (end.Up closed)) fits = names_some _ tt
  names (requests.Drop writer node status part) (requests.DroppedTo (end.Top closed)) fits = names_some _ tt
  names (requests.Drop writer node status part) (requests.DroppedTo (end.Stray back)) fits = names_none
  -- the tally, and reserves
  names (requests.Done write status) requests.Did fits = names_some _ tt
  names (requests.Resize pool min) (requests.OutIs out) fits = resized (out == 0) pool min (any_pool pool fits.0)
  names (requests.NextRound round) requests.Did fits = names_some _ tt
  -- of all else nothing is told
  names asked reply fits = names_none

  names_task : (task : TaskState) → IsTaskOf stage task → HasTask stage.routing.stack (id_of task)
  names_task (Writer number todo taken submission) is = tt
  names_task (Rescuer dev submission) is = any_device dev (is_left _ _ is.0)
  names_task (Completer disk carried) is = disk_device disk is.0
  names_task (Keeper keeping) is = tt

pub tasks_name_the_stack : TasksNameTheStack
tasks_name_the_stack stage task reply event good home by told = record {
  task = subst (HasTask stage.routing.stack) (sym by) (names_task stage good task home);
  what = names stage good (request (routing_setup stage.routing) task) reply (tasks_stay_home.asks stage task good home) event.what told;
}
