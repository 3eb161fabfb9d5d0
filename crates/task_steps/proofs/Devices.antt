-- What the driver of a device says of the device's tree.
use Rattle.std.proofs.Common.{◌≡◌, ◌≢◌, inl, inr, ℕ, ◌<◌, ◌≤◌, ◌==◌, true, false, List, [], ◌∷◌, length, map, replicate, IsSomeAnd, Option, None, Some, refl, sym, ap, ◌∙◌, subst, unwrap_or, get_or, arith}
use Rattle.std.specs.Prelude.{not, slice_get}
use Rattle.std.specs.Option.{option_map_or}
use Rattle.std.proofs.lemmas.List.{length-map, get_or-map}
use Rattle.std.proofs.lemmas.Option.{slice_get-get_or, slice_get_cases, slice_get_within, get_or_from_slice_get}
use Rattle.stack_base.specs.declared.ids.DevId.{DevId}
use Rattle.stack_base.specs.declared.ids.Range.{Range}
use Rattle.stack_base.specs.declared.ids.SetId.TheVariants.{Of}
use Rattle.stack_base.specs.declared.mapping.Piece.{Piece}
use Rattle.stack_base.specs.declared.stack.Device.{Device}
use Rattle.stack_base.specs.declared.stack.Kind.{Kind}
use Rattle.stack_base.specs.declared.stack.Kind.TheVariants as kind
use Rattle.stack_base.specs.declared.stack.Stack.{Stack}
use Rattle.stack_base.specs.Mapping.{size_of, smallest}
use Rattle.stack_base.specs.Piece.{IsPiece}
use Rattle.stack_base.specs.Stack.{IsStack}
use Rattle.stack_base.specs.Tree.{Tree, Leaf, Split, Mirrored, Shape, Keeps, Cuts, Copies, shape_of, member_at, size, tree, sizes_at}
use Rattle.stack_base.proofs.MemberSizes.{device_small}
use Rattle.stack_base.proofs.Smallest.{smallest_le}
use Rattle.stack_base.proofs.EvenMembers.{stripes_go_by_smallest}
use Rattle.layout_model.proofs.ByShape.{cuts_is, copies_is, keeps_is, member_is}
use Rattle.bio_records.specs.declared.bio.Bio.{Bio}
use Rattle.bio_records.specs.declared.bio.Pad.{Pad}
use Rattle.bio_records.specs.declared.tasks.TaskLists.{TaskLists}
use Rattle.bio_records.specs.Items.{Item}
use Rattle.bio_split.specs.Split.{split_front, split_rest}
use Rattle.bio_lists.specs.Submission.{submitted}
use Rattle.mirror_map.specs.Legs.{clone_of}
use Rattle.task_steps.specs.declared.routes.Cut.{Cut}
use Rattle.task_steps.specs.declared.routes.driver.Driver.{Driver}
use Rattle.task_steps.specs.declared.routes.driver.Driver.TheVariants as driver
use Rattle.task_steps.specs.declared.routes.driver.Manner.{Manner}
use Rattle.task_steps.specs.declared.routes.driver.Manner.TheVariants as manner
use Rattle.run_machine.specs.Scene.{Setup, tree_number}
use Rattle.run_machine.specs.Submissions.{asks_at, cut_at, leg_at, legs_of, goes_on, is_cut}
use Rattle.task_steps.specs.Within.{IsWithinDevice, first_cut}
use Rattle.task_steps.specs.Routed.{keeps, copies_bios, IsDriver, MapOf, map_of, IsFirstCut, HasNoFirst, manner_by, legs_by, IsLegBy, manner_of, asked_by, IsManner, sent, IsCutAt, IsLegAt}
use Rattle.run_machine.proofs.TreeNumbers.{number_of_tree}
use Rattle.task_steps.proofs.StripeSizes.{piece_of_equal}

-- shapes
keeps_then : (shape : Shape) → keeps shape ≡ true → (sectors : ℕ) × (shape ≡ Keeps sectors)
keeps_then (Keeps sectors) e = (sectors, refl)
keeps_then Cuts e = absurd cc
keeps_then Copies e = absurd cc

copies_then : (shape : Shape) → copies_bios shape ≡ true → shape ≡ Copies
copies_then (Keeps sectors) e = absurd cc
copies_then Cuts e = absurd cc
copies_then Copies e = refl

-- what a map says of a device's pieces
pub record GoesBy (stack : Stack) (device : Device) (m : MapOf) : Type 0 where
  pub cuts : shape_of device.kind ≡ Cuts
  pub wide : size_of m.kind m.sizes ≡ size_of device.kind (sizes_at stack device)
  pub piece : (start len : ℕ) (piece : Piece) → IsPiece m.kind m.sizes start len piece → IsPiece device.kind (sizes_at stack device) start len piece

-- a driver that cuts goes by its device's kind and the sizes of its members
pub goes_by : (stack : Stack) (device : Device) (d : Driver) (m : MapOf) → IsDriver stack device d → map_of d ≡ Some m → GoesBy stack device m
goes_by stack device driver.Disk m is e = absurd cc
goes_by stack device (driver.Mirror mirror) m is e = absurd cc
goes_by stack device (driver.Linear sizes) m is e =
    let same : record { kind = kind.Linear; sizes = sizes } ≡ m = cc in
    subst (GoesBy stack device) same (record {
      cuts = ap shape_of is.0;
      wide = ap (λ k. size_of k sizes) (sym is.0) ∙ ap (size_of device.kind) is.1;
      piece = λ start len piece p. subst (λ k. IsPiece k (sizes_at stack device) start len piece) (sym is.0) (subst (λ s. IsPiece kind.Linear s start len piece) is.1 p);
    })
goes_by stack device (driver.Zoned zoned) m is e =
    let k : Kind = kind.Zoned zoned.chunk in
    let same : record { kind = k; sizes = zoned.sizes } ≡ m = cc in
    subst (GoesBy stack device) same (record {
      cuts = ap shape_of is.0;
      wide = ap (λ k. size_of k zoned.sizes) (sym is.0) ∙ ap (size_of device.kind) is.1;
      piece = λ start len piece p. subst (λ k. IsPiece k (sizes_at stack device) start len piece) (sym is.0) (subst (λ s. IsPiece k s start len piece) is.1 p);
    })
goes_by stack device (driver.Limit limit) m is e =
    let k : Kind = kind.Limit limit.longest limit.chunk in
    let same : record { kind = k; sizes = limit.sectors ∷ [] } ≡ m = cc in
    subst (GoesBy stack device) same (record {
      cuts = ap shape_of is.0;
      wide = ap (λ k. size_of k (limit.sectors ∷ [])) (sym is.0) ∙ ap (size_of device.kind) is.1;
      piece = λ start len piece p. subst (λ k. IsPiece k (sizes_at stack device) start len piece) (sym is.0) (subst (λ s. IsPiece k s start len piece) is.1 p);
    })
goes_by stack device (driver.Stripe stripe) m is e =
    let k : Kind = kind.Stripe stripe.chunk in
    let sizes = sizes_at stack device in
    let equal : replicate stripe.members stripe.smallest ≡ replicate (length sizes) (smallest sizes) = ap (λ n. replicate n stripe.smallest) is.1 ∙ ap (replicate (length sizes)) is.2 in
    let same : record { kind = k; sizes = replicate stripe.members stripe.smallest } ≡ m = cc in
    subst (GoesBy stack device) same (record {
      cuts = ap shape_of is.0;
      wide = ap (size_of k) equal ∙ sym (stripes_go_by_smallest.sizes stripe.chunk sizes) ∙ ap (λ k. size_of k sizes) (sym is.0);
      piece = λ start len piece p. subst (λ k. IsPiece k sizes start len piece) (sym is.0)
          (piece_of_equal stripe.chunk sizes start len piece (subst (λ s. IsPiece k s start len piece) equal p));
    })

-- what cuts has a map, and what has none does not cut
pub other_shape : (stack : Stack) (device : Device) (d : Driver) → IsDriver stack device d → map_of d ≡ None → shape_of device.kind ≢ Cuts
other_shape stack device driver.Disk is e cuts = let k = (keeps_then (shape_of device.kind) is).1 in absurd cc
other_shape stack device (driver.Mirror mirror) is e cuts = let k = copies_then (shape_of device.kind) is.0 in absurd cc
other_shape stack device (driver.Linear sizes) is e cuts = absurd cc
other_shape stack device (driver.Stripe stripe) is e cuts = absurd cc
other_shape stack device (driver.Zoned zoned) is e cuts = absurd cc
other_shape stack device (driver.Limit limit) is e cuts = absurd cc

-- what a device does with a bio that it does not hand on
pub asks_manner : (setup : Setup) (lists : TaskLists) (item : Item Pad) (t : Tree) → asks_at setup lists item t ≡ asked_by (manner_of t) setup lists item
asks_manner setup lists item (Leaf number sectors) = refl
asks_manner setup lists item (Split number kind sizes members) = refl
asks_manner setup lists item (Mirrored number sizes members) = refl

pub is_manner : (setup : Setup) (dev : DevId) (t : Tree) (manner : Manner) → manner ≡ manner_of t → IsManner setup dev t manner
is_manner setup dev t manner is =
    record { is = is; asks = λ lists item. asks_manner setup lists item t ∙ ap (λ m. asked_by m setup lists item) (sym is) }

module _ (stack : Stack) (good : IsStack stack) (number : ℕ) (device : Device) (found : slice_get stack.devices.items number ≡ Some device) where
  -- by the shape of its kind
  pub disk_manner : keeps (shape_of device.kind) ≡ true → manner.Keeps ≡ manner_of (tree stack number)
  disk_manner is = let k = keeps_then (shape_of device.kind) is in ap manner_of (sym (keeps_is stack good number device found k.0 k.1))

  pub mirror_manner : copies_bios (shape_of device.kind) ≡ true → manner.Copies ≡ manner_of (tree stack number)
  mirror_manner is = ap manner_of (sym (copies_is stack good number device found (copies_then (shape_of device.kind) is)))

  pub map_manner : shape_of device.kind ≡ Cuts → manner.Cuts ≡ manner_of (tree stack number)
  map_manner is = ap manner_of (sym (cuts_is stack good number device found is))

  -- how many legs it has
  pub mirror_legs : copies_bios (shape_of device.kind) ≡ true → legs_of (tree stack number) ≡ length device.members.items
  mirror_legs is =
      ap legs_of (copies_is stack good number device found (copies_then (shape_of device.kind) is))
      ∙ length-map device.members.items (λ (m : DevId). size (tree stack m.0))

  pub disk_legs : keeps (shape_of device.kind) ≡ true → legs_of (tree stack number) ≡ 0
  disk_legs is = let k = keeps_then (shape_of device.kind) is in ap legs_of (keeps_is stack good number device found k.0 k.1)

  pub map_legs : shape_of device.kind ≡ Cuts → legs_of (tree stack number) ≡ 0
  map_legs is = ap legs_of (cuts_is stack good number device found is)

  -- so its driver says of it
  pub driver_manner : (d : Driver) → IsDriver stack device d → manner_by d ≡ manner_of (tree stack number)
  driver_manner driver.Disk is = disk_manner is
  driver_manner (driver.Linear sizes) is = map_manner (ap shape_of is.0)
  driver_manner (driver.Stripe stripe) is = map_manner (ap shape_of is.0)
  driver_manner (driver.Zoned zoned) is = map_manner (ap shape_of is.0)
  driver_manner (driver.Limit limit) is = map_manner (ap shape_of is.0)
  driver_manner (driver.Mirror mirror) is = mirror_manner is.0

  pub driver_legs : (d : Driver) → IsDriver stack device d → legs_by d ≡ legs_of (tree stack number)
  driver_legs driver.Disk is = sym (disk_legs is)
  driver_legs (driver.Linear sizes) is = sym (map_legs (ap shape_of is.0))
  driver_legs (driver.Stripe stripe) is = sym (map_legs (ap shape_of is.0))
  driver_legs (driver.Zoned zoned) is = sym (map_legs (ap shape_of is.0))
  driver_legs (driver.Limit limit) is = sym (map_legs (ap shape_of is.0))
  driver_legs (driver.Mirror mirror) is = ap length is.1 ∙ sym (mirror_legs is.0)

-- what has legs is a mirror
pub legs_copy : (stack : Stack) → IsStack stack → (number : ℕ) (device : Device) → slice_get stack.devices.items number ≡ Some device
    → 0 < legs_of (tree stack number) → copies_bios (shape_of device.kind) ≡ true
legs_copy stack good number device found some = by_shape (shape_of device.kind) refl
  where
    by_shape : (shape : Shape) → shape_of device.kind ≡ shape → copies_bios shape ≡ true
    by_shape (Keeps sectors) e = absurd (omega (arith, ap legs_of (keeps_is stack good number device found sectors e)))
    by_shape Cuts e = absurd (omega (arith, map_legs stack good number device found e))
    by_shape Copies e = refl

-- a leg is within its member, as its bio is within the mirror
pub leg_is : (stack : Stack) → IsStack stack → (bio : Bio) (device : Device) → slice_get stack.devices.items bio.dev.0 ≡ Some device
    → copies_bios (shape_of device.kind) ≡ true → IsWithinDevice stack bio → (leg node : ℕ) (m : DevId) → slice_get device.members.items leg ≡ Some m
    → IsLegAt stack bio leg node (clone_of bio m leg (Of bio.dev) node)
leg_is stack good bio device found is within leg node m at_leg =
    let number = bio.dev.0 in
    let items = device.members.items in
    let sizes = sizes_at stack device in
    let members : ℕ → Tree = member_at number (map (λ (m : DevId). tree stack m.0) items) in
    let whole : tree stack number ≡ Mirrored number sizes members = copies_is stack good number device found (copies_then (shape_of device.kind) is) in
    let here : members leg ≡ tree stack m.0 = member_is stack good number device found leg m at_leg in
    let there : leg < length items = slice_get_within items leg m at_leg in
    let known : number < length stack.devices.items = slice_get_within stack.devices.items number device found in
    let below : m.0 < number = (good.each number device found).below leg m at_leg in
    let wide : get_or sizes leg 0 ≡ size (tree stack m.0) =
    get_or-map (λ (m : DevId). size (tree stack m.0)) items leg m 0 there
    ∙ ap (λ (m : DevId). size (tree stack m.0)) (get_or_from_slice_get items leg m m at_leg) in
    let least : smallest sizes ≤ get_or sizes leg 0 = smallest_le sizes leg (omega (arith, length-map items (λ (m : DevId). size (tree stack m.0)))) in
    record {
      made_is = λ hand.
          let placed : ℕ → Item Pad = λ dev. record hand { pad = record { leg = leg }; bio = record bio { dev = record { 0 = dev }; set = Of bio.dev; node = node } } in
          ap (leg_at bio hand leg node) whole ∙ ap (λ t. placed (tree_number t)) here ∙ ap placed (number_of_tree stack m.0);
      within = record { device = omega arith; some = within.some; within = omega (arith, within.within, ap size whole) };
    }

pub driver_leg : (stack : Stack) → IsStack stack → (bio : Bio) (device : Device) → slice_get stack.devices.items bio.dev.0 ≡ Some device
    → (d : Driver) → IsDriver stack device d → IsWithinDevice stack bio → (leg node : ℕ) (made : Bio × Pad) → IsLegBy d bio leg node made
    → IsLegAt stack bio leg node made
driver_leg stack good bio device found driver.Disk is within leg node made by = absurd by
driver_leg stack good bio device found (driver.Linear sizes) is within leg node made by = absurd by
driver_leg stack good bio device found (driver.Stripe stripe) is within leg node made by = absurd by
driver_leg stack good bio device found (driver.Zoned zoned) is within leg node made by = absurd by
driver_leg stack good bio device found (driver.Limit limit) is within leg node made by = absurd by
driver_leg stack good bio device found (driver.Mirror mirror) is within leg node made by =
    by_member (slice_get mirror.members leg) refl by
  where
    by_member : (o : Option DevId) → slice_get mirror.members leg ≡ o → IsSomeAnd o (λ member. made ≡ clone_of bio member leg (Of bio.dev) node)
        → IsLegAt stack bio leg node made
    by_member None e by = absurd by
    by_member (Some m) e by =
        let P : Bio × Pad → Type 0 = IsLegAt stack bio leg node in
        subst P (sym by) (leg_is stack good bio device found is.0 within leg node m (subst (λ (items : List DevId). slice_get items leg ≡ Some m) is.1 e))

-- a bio has each leg of its mirror
pub leg_there : (stack : Stack) → IsStack stack → (bio : Bio) → IsWithinDevice stack bio → (leg node : ℕ) → leg < legs_of (tree stack bio.dev.0)
    → (made : Bio × Pad) × IsLegAt stack bio leg node made
leg_there stack good bio within leg node lt =
    elim (slice_get_cases stack.devices.items bio.dev.0).1 [
      | inl there ↦
          let device = there.0 in
          let is = legs_copy stack good bio.dev.0 device there.2 (omega arith) in
          let m = get_or device.members.items leg (record { 0 = 0 }) in (
            clone_of bio m leg (Of bio.dev) node,
            leg_is stack good bio device there.2 is within leg node m
                (slice_get-get_or device.members.items leg (record { 0 = 0 }) (omega (arith, mirror_legs stack good bio.dev.0 device there.2 is))),
          )
      | inr past ↦ absurd (omega (arith, past.0, within.device))
    ]

-- how a submission goes on with a bio that is cut
pub cut_made : (setup : Setup) (lists : TaskLists) (item hand : Item Pad) (node : ℕ) (t : Tree) (cut : Cut) → first_cut t item.bio.range ≡ Some cut
    → cut_at setup lists item hand node t
    ≡ goes_on setup item.bio.dev (submitted (split_rest item cut.sectors) (submitted (sent cut (split_front item hand cut.sectors (Of item.bio.dev) node)) lists))
cut_made setup lists item hand node (Leaf number sectors) cut e = absurd cc
cut_made setup lists item hand node (Mirrored number sizes members) cut e = absurd cc
cut_made setup lists item hand node (Split number kind sizes members) cut e =
    ap (λ (c : Cut). goes_on setup item.bio.dev (submitted (split_rest item c.sectors) (submitted (sent c (split_front item hand c.sectors (Of item.bio.dev) node)) lists)))
    (ap (λ (o : Option Cut). unwrap_or o cut) e)

not_same : (a b : ℕ) → not (a == b) ≡ true → a ≢ b
not_same a b n e = absurd (search (n, e, arith))

-- a run is cut where its first piece is not all of it
cut_by_first : (t : Tree) (range : Range) → is_cut t range ≡ option_map_or (λ (cut : Cut). not (cut.sectors == range.len)) (first_cut t range) false
cut_by_first (Leaf number sectors) range = refl
cut_by_first (Mirrored number sizes members) range = refl
cut_by_first (Split number kind sizes members) range = refl

-- the first piece of a bio that is cut
pub cut_is : (setup : Setup) (stack : Stack) → IsStack stack → (bio : Bio) → IsWithinDevice stack bio → (cut : Cut) → IsFirstCut stack bio cut
    → is_cut (tree stack bio.dev.0) bio.range ≡ true → IsCutAt setup stack bio cut
cut_is setup stack good bio within cut is more =
    let other : cut.sectors ≢ bio.range.len =
    not_same cut.sectors bio.range.len
    (sym (cut_by_first (tree stack bio.dev.0) bio.range ∙ ap (λ o. option_map_or (λ (cut : Cut). not (cut.sectors == bio.range.len)) o false) is.first) ∙ more) in
    let fewer : cut.sectors < bio.range.len = omega (arith, is.most, other) in
    record {
      first = is.first;
      some = is.some;
      fewer = fewer;
      within = is.within;
      rest = record { device = within.device; some = omega arith; within = omega (arith, within.within) };
      small = omega (arith, within.within, device_small stack good bio.dev.0 within.device);
      made = λ lists item hand node dev range.
          cut_made setup lists item hand node (tree stack bio.dev.0) cut (ap (first_cut (tree stack bio.dev.0)) range ∙ is.first);
    }

-- what is cut has a first piece
pub cut_not_none : (stack : Stack) (bio : Bio) → HasNoFirst stack bio → is_cut (tree stack bio.dev.0) bio.range ≢ true
cut_not_none stack bio none more =
    let e : is_cut (tree stack bio.dev.0) bio.range ≡ false =
    cut_by_first (tree stack bio.dev.0) bio.range ∙ ap (λ o. option_map_or (λ (cut : Cut). not (cut.sectors == bio.range.len)) o false) none in
    absurd cc
