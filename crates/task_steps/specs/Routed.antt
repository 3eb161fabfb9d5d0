-- The drivers of a stack, and what they say of a bio.
use Rattle.std.specs.Prelude.{◌≡◌, ◌+◌, ◌-◌, ◌^◌, ◌<◌, ◌≤◌, ℕ, Bool, true, false, List, [], ◌∷◌, length, replicate, slice_get, slice_index_or, IsSomeAnd, Option, None, Some}
use Rattle.stack_base.specs.declared.ids.DevId.{DevId}
use Rattle.stack_base.specs.declared.ids.SetId.TheVariants.{Of}
use Rattle.stack_base.specs.declared.mapping.Piece.{Piece}
use Rattle.stack_base.specs.declared.stack.Device.{Device}
use Rattle.stack_base.specs.declared.stack.Kind.{Kind}
use Rattle.stack_base.specs.declared.stack.Kind.TheVariants as kind
use Rattle.stack_base.specs.declared.stack.Stack.{Stack}
use Rattle.stack_base.specs.Mapping.{size_of, smallest}
use Rattle.stack_base.specs.Piece.{IsPiece}
use Rattle.stack_base.specs.Tree.{Tree, Leaf, Split, Mirrored, Shape, Keeps, Cuts, Copies, shape_of, size, tree, sizes_at}
use Rattle.stack_base.specs.Stack.{IsStack}
use Rattle.bio_records.specs.declared.bio.Bio.{Bio}
use Rattle.bio_records.specs.declared.bio.Pad.{Pad}
use Rattle.bio_records.specs.declared.tasks.TaskLists.{TaskLists}
use Rattle.bio_records.specs.Items.{Item}
use Rattle.bio_split.specs.Split.{split_front, split_rest}
use Rattle.bio_lists.specs.Submission.{submitted}
use Rattle.mirror_map.specs.Legs.{clone_of}
use Rattle.task_steps.specs.declared.routes.Cut.{Cut}
use Rattle.task_steps.specs.declared.routes.driver.Driver.{Driver}
use Rattle.task_steps.specs.declared.routes.driver.Driver.TheVariants as driver
use Rattle.task_steps.specs.declared.routes.driver.Manner.{Manner}
use Rattle.task_steps.specs.declared.routes.driver.Manner.TheVariants as manner
use Rattle.task_steps.specs.declared.routes.Route.{Route}
use Rattle.run_machine.specs.Scene.{Setup, setup_of, tree_at}
use Rattle.bioset_pools.specs.Sets.{waits_first}
use Rattle.run_machine.specs.Submissions.{Doing, Drives, ToPush, ToCut, ToRecord, Takes, landed, asks_at, cut_at, leg_at, goes_on}
use Rattle.task_steps.specs.Within.{IsWithinDevice, first_cut, is_handed_on}

-- a stack, and how many places the book of each writer has
pub record Routing : Type 0 where
  pub stack : Stack
  pub places : List ℕ

abbrev pub places_at : List ℕ → ℕ → ℕ
places_at places writer = slice_index_or places writer 0

-- what tasks know of it
abbrev pub routing_setup : Routing → Setup
routing_setup r = setup_of r.stack (places_at r.places)

-- a device with all that is below it
abbrev pub routed_tree : Routing → DevId → Tree
routed_tree r dev = tree_at (routing_setup r) dev

abbrev pub keeps : Shape → Bool
keeps (Keeps sectors) = true
keeps Cuts = false
keeps Copies = false

abbrev pub copies_bios : Shape → Bool
copies_bios (Keeps sectors) = false
copies_bios Cuts = false
copies_bios Copies = true

-- a driver is that of a device
abbrev pub IsDriver : Stack → Device → Driver → Type 0
IsDriver stack device driver.Disk = keeps (shape_of device.kind) ≡ true
IsDriver stack device (driver.Linear sizes) = (device.kind ≡ kind.Linear) × (sizes ≡ sizes_at stack device)
IsDriver stack device (driver.Stripe stripe) =
    (device.kind ≡ kind.Stripe stripe.chunk) × (stripe.members ≡ length (sizes_at stack device)) × (stripe.smallest ≡ smallest (sizes_at stack device))
IsDriver stack device (driver.Zoned zoned) = (device.kind ≡ kind.Zoned zoned.chunk) × (zoned.sizes ≡ sizes_at stack device)
IsDriver stack device (driver.Limit limit) = (device.kind ≡ kind.Limit limit.longest limit.chunk) × (limit.sectors ∷ [] ≡ sizes_at stack device)
IsDriver stack device (driver.Mirror mirror) =
    (copies_bios (shape_of device.kind) ≡ true) × (mirror.members ≡ device.members.items) × (mirror.size ≡ smallest (sizes_at stack device))

-- what is kept of a device
pub record IsRoute (stack : Stack) (device : Device) (route : Route) : Type 0 where
  pub driver : IsDriver stack device route.driver
  pub members : route.members.items ≡ device.members.items
  pub rescuer : route.rescuer ≡ device.rescuer

-- these are the first of the stack's devices, and these are all of them
abbrev pub AreRoutes : Stack → List Route → Type 0
AreRoutes stack routes = (number : ℕ) (device : Device) (route : Route) → slice_get stack.devices.items number ≡ Some device
    → slice_get routes number ≡ Some route → IsRoute stack device route

pub record IsRouted (stack : Stack) (routes : List Route) : Type 0 where
  pub stack_is : IsStack stack
  pub each : AreRoutes stack routes
  pub all : length routes ≡ length stack.devices.items

-- the route of the device with this number
pub record IsRouteOf (stack : Stack) (number : ℕ) (route : Route) : Type 0 where
  pub stack_is : IsStack stack
  pub device : Device
  pub found : slice_get stack.devices.items number ≡ Some device
  pub is : IsRoute stack device route

-- what a driver that cuts goes by: a kind, and sizes of members
pub record MapOf : Type 0 where
  pub kind : Kind
  pub sizes : List ℕ

abbrev pub map_of : Driver → Option MapOf
map_of driver.Disk = None
map_of (driver.Linear sizes) = Some (record { kind = kind.Linear; sizes = sizes })
map_of (driver.Stripe stripe) = Some (record { kind = kind.Stripe stripe.chunk; sizes = replicate stripe.members stripe.smallest })
map_of (driver.Zoned zoned) = Some (record { kind = kind.Zoned zoned.chunk; sizes = zoned.sizes })
map_of (driver.Limit limit) = Some (record { kind = kind.Limit limit.longest limit.chunk; sizes = limit.sectors ∷ [] })
map_of (driver.Mirror mirror) = None

abbrev pub MapHas : Option MapOf → ℕ → Type 0
MapHas None end = Unit {0}
MapHas (Some m) end = end ≤ size_of m.kind m.sizes

-- a driver that cuts has a first piece of a run, and no other has
abbrev pub IsFirstPiece : Option MapOf → ℕ → ℕ → Option Piece → Type 0
IsFirstPiece None start len None = Unit {0}
IsFirstPiece (Some m) start len (Some piece) = IsPiece m.kind m.sizes start len piece
IsFirstPiece m start len piece = ⊥

-- what a driver does with a bio that it does not hand on, and how many legs it makes of it
abbrev pub manner_by : Driver → Manner
manner_by driver.Disk = manner.Keeps
manner_by (driver.Linear sizes) = manner.Cuts
manner_by (driver.Stripe stripe) = manner.Cuts
manner_by (driver.Zoned zoned) = manner.Cuts
manner_by (driver.Limit limit) = manner.Cuts
manner_by (driver.Mirror mirror) = manner.Copies

-- how many legs a driver makes of a bio: a mirror one for each member, the others none
abbrev pub legs_by : Driver → ℕ
legs_by driver.Disk = 0
legs_by (driver.Linear sizes) = 0
legs_by (driver.Stripe stripe) = 0
legs_by (driver.Zoned zoned) = 0
legs_by (driver.Limit limit) = 0
legs_by (driver.Mirror mirror) = length mirror.members

-- a leg, as a mirror's driver makes it
abbrev pub IsLegBy : Driver → Bio → ℕ → ℕ → Bio × Pad → Type 0
IsLegBy (driver.Mirror mirror) bio leg node made =
    IsSomeAnd (slice_get mirror.members leg) (λ member. made ≡ clone_of bio member leg (Of bio.dev) node)
IsLegBy driver.Disk bio leg node made = ⊥
IsLegBy (driver.Linear sizes) bio leg node made = ⊥
IsLegBy (driver.Stripe stripe) bio leg node made = ⊥
IsLegBy (driver.Zoned zoned) bio leg node made = ⊥
IsLegBy (driver.Limit limit) bio leg node made = ⊥

-- the bio as the member gets it that its first piece goes to
abbrev pub handed : Cut → Bio → Bio
handed cut bio = record bio { dev = cut.dev; range = record bio.range { start = cut.start } }

-- and the bio of the first piece alone
abbrev pub bio_of_first_piece : Cut → Bio → Bio
bio_of_first_piece cut bio = record bio { dev = cut.dev; range = record { start = cut.start; len = cut.sectors } }

-- the first piece of a bio at its device: it has a sector, lies within a device of a smaller number, and if it is the whole bio, this comes
-- to where it comes from there
pub record IsFirstCut (stack : Stack) (bio : Bio) (cut : Cut) : Type 0 where
  pub first : first_cut (tree stack bio.dev.0) bio.range ≡ Some cut
  pub some : 1 ≤ cut.sectors
  pub most : cut.sectors ≤ bio.range.len
  pub below : cut.dev.0 < bio.dev.0
  pub within : IsWithinDevice stack (bio_of_first_piece cut bio)
  pub lands : cut.sectors ≡ bio.range.len → landed (tree stack bio.dev.0) bio ≡ landed (tree stack cut.dev.0) (handed cut bio)

-- the device is not one that cuts
abbrev pub HasNoFirst : Stack → Bio → Type 0
HasNoFirst stack bio = first_cut (tree stack bio.dev.0) bio.range ≡ None

-- what a bio is one device further down, where it is one piece
pub record IsBelow (stack : Stack) (bio next : Bio) : Type 0 where
  pub next_is : IsSomeAnd (first_cut (tree stack bio.dev.0) bio.range) (λ cut. next ≡ handed cut bio)
  pub lands : landed (tree stack bio.dev.0) bio ≡ landed (tree stack next.dev.0) next
  pub below : next.dev.0 < bio.dev.0
  pub within : IsWithinDevice stack next

-- the device does not hand the bio on
abbrev pub Stays : Stack → Bio → Type 0
Stays stack bio = is_handed_on (tree stack bio.dev.0) bio.range ≡ false

-- where a bio comes to
pub record IsLanded (stack : Stack) (start bio : Bio) : Type 0 where
  pub comes : bio ≡ landed (tree stack start.dev.0) start
  pub within : IsWithinDevice stack bio
  pub stays : Stays stack bio
  pub same : landed (tree stack bio.dev.0) bio ≡ bio

-- what the driver of a device does with a bio that is not handed on
abbrev pub manner_of : Tree → Manner
manner_of (Leaf number sectors) = manner.Keeps
manner_of (Split number kind sizes members) = manner.Cuts
manner_of (Mirrored number sizes members) = manner.Copies

abbrev pub asked_by : Manner → Setup → TaskLists → Item Pad → Doing
asked_by manner.Keeps setup lists item = Drives item ToPush
asked_by manner.Cuts setup lists item = Drives item (ToCut (Takes (waits_first (setup.rescuer item.bio.dev.0) lists)))
asked_by manner.Copies setup lists item = Drives item ToRecord

pub record IsManner (setup : Setup) (dev : DevId) (t : Tree) (manner : Manner) : Type 0 where
  pub is : manner ≡ manner_of t
  pub asks : (lists : TaskLists) (item : Item Pad) → asks_at setup lists item t ≡ asked_by manner setup lists item

-- the bio of a first piece, where it goes
abbrev pub sent : Cut → Item Pad → Item Pad
sent cut front = record front { bio = handed cut front.bio }

-- the front that a cut makes of a bio, in an element at hand and with the node at this place, where it goes
abbrev pub cut_front : Cut → Item Pad → Item Pad → ℕ → Item Pad
cut_front cut item hand node = sent cut (split_front item hand cut.sectors (Of item.bio.dev) node)

-- The device cuts the bio: the first piece has a sector and fewer than the bio, and it and the rest lie within their devices.
pub record IsCutAt (setup : Setup) (stack : Stack) (bio : Bio) (cut : Cut) : Type 0 where
  pub first : first_cut (tree stack bio.dev.0) bio.range ≡ Some cut
  pub some : 1 ≤ cut.sectors
  pub fewer : cut.sectors < bio.range.len
  pub within : IsWithinDevice stack (bio_of_first_piece cut bio)
  pub rest : IsWithinDevice stack (record bio { range = record { start = bio.range.start + cut.sectors; len = bio.range.len - cut.sectors } })
  pub small : bio.range.start + bio.range.len ≤ 2 ^ 64 - 1
  -- how the submission goes on
  pub made : (lists : TaskLists) (item hand : Item Pad) (node : ℕ) → item.bio.dev ≡ bio.dev → item.bio.range ≡ bio.range
      → cut_at setup lists item hand node (tree stack bio.dev.0)
      ≡ goes_on setup item.bio.dev (submitted (split_rest item cut.sectors) (submitted (cut_front cut item hand node) lists))

-- a leg of a bio: what it becomes in the element that it gets, and it is within the member
pub record IsLegAt (stack : Stack) (bio : Bio) (leg node : ℕ) (made : Bio × Pad) : Type 0 where
  pub made_is : (hand : Item Pad) → leg_at bio hand leg node (tree stack bio.dev.0) ≡ record hand { bio = made.0; pad = made.1 }
  pub within : IsWithinDevice stack made.0
