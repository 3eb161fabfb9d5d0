-- Over a valid stack: where bios land, how they are cut and copied, and what they are worth.
use Rattle.std.proofs.Common.{◌≡◌, ◌≢◌, ◌+◌, ◌<◌, ◌≤◌, ◌==◌, not, ℕ, zero, suc, Bool, true, false, IsTrue, List, length, map, Some, inl, inr, refl, sym, ◌∙◌, ap, subst, arith, cond, get_or}
use Rattle.std.specs.Prelude.{slice_get}
use Rattle.stack_base.specs.declared.ids.DevId.{DevId}
use Rattle.stack_base.specs.declared.ids.Range.{Range}
use Rattle.stack_base.specs.declared.ids.SetId.TheVariants.{Of}
use Rattle.stack_base.specs.declared.stack.Kind.{Kind}
use Rattle.stack_base.specs.Cutting.{piece_end, IsCut as HeadsCut}
use Rattle.stack_base.specs.Mapping.{slot, head}
use Rattle.stack_base.specs.Tree.{Tree, Leaf, Split, Mirrored, size}
use Rattle.bio_records.specs.declared.bio.Bio.{Bio}
use Rattle.bio_records.specs.declared.bio.Pad.{Pad}
use Rattle.bio_records.specs.Items.{Item}
use Rattle.bio_split.specs.Split.{split_rest}
use Rattle.run_machine.specs.Scene.{Setup, tree_at, tree_number}
use Rattle.run_machine.specs.Submissions.{first_length, mapped, landed, legs_of, leg_at, is_cut}
use Rattle.block_core.specs.Weights.{one_if_same}
use Rattle.std.proofs.lemmas.Option.{slice_get-get_or, slice_get_cases}
use Rattle.std.proofs.lemmas.List.{length-map}
use Rattle.stack_base.specs.declared.mapping.Piece.{Piece}
use Rattle.stack_base.specs.declared.stack.Device.{Device}
use Rattle.stack_base.specs.declared.stack.Kind.TheVariants as kind
use Rattle.stack_base.specs.declared.stack.Stack.{Stack}
use Rattle.stack_base.specs.Stack.{IsStack, HasShape}
use Rattle.stack_base.specs.Tree.{Shape, Keeps as KeeperManned, Cuts, Copies as Copying_, shape_of, member_at, sizes_at, tree}
use Rattle.stack_base.proofs.KindCuts.{kind_cuts}
use Rattle.stack_base.proofs.Pieces.{is_piece}
use Rattle.layout_model.specs.Pieces.{IsFirstRun}
use Rattle.layout_model.specs.Need.{needed, fragments_in_run}
use Rattle.layout_model.proofs.FromMembers.{can_cut}
use Rattle.layout_model.proofs.ByShape.{cuts_is, copies_is, keeps_is, member_is}
use Rattle.layout_model.proofs.FirstRuns.{member_there, first_run_is}
use Rattle.layout_model.proofs.MirrorLemmas.{leg_size}
use Rattle.run_machine.specs.Scene.{setup_of}
use Rattle.run_machine.proofs.TreeNumbers.{number_of_tree}
use Rattle.block_core.proofs.moves.Moves.{piece}

-- a bio that its device can serve
pub record IsThere (setup : Setup) (bio : Bio) : Type 0 where
  pub device : bio.dev.0 < setup.count
  pub some : 1 ≤ bio.range.len
  pub within : bio.range.start + bio.range.len ≤ size (tree_at setup bio.dev)

-- a bio stays at a disk, at a mirror, or where it is cut
abbrev pub Settles : Tree → Range → Type 0
Settles (Leaf number sectors) range = Unit {0}
Settles (Split number kind sizes members) range = IsTrue (is_cut (Split number kind sizes members) range)
Settles (Mirrored number sizes members) range = Unit {0}

-- a mirror has a leg at least, and eight at most
abbrev pub IsCopied : Tree → Type 0
IsCopied (Leaf number sectors) = Unit {0}
IsCopied (Split number kind sizes members) = Unit {0}
IsCopied (Mirrored number sizes members) = (1 ≤ length sizes) × (length sizes ≤ 8)

pub record Lands (setup : Setup) (bio to : Bio) : Type 0 where
  pub there : IsThere setup to
  pub low : to.dev.0 ≤ bio.dev.0
  pub settles : Settles (tree_at setup to.dev) to.range

abbrev pub members_at : Stack → ℕ → Device → ℕ → Tree
members_at stack number device = member_at number (map (λ (m : DevId). tree stack m.0) device.members.items)

-- the first piece of a bio at a device that cuts
abbrev pub first_piece : Stack → Device → Range → Piece
first_piece stack device range = record {
  member = (slot device.kind (sizes_at stack device) range.start).member;
  at = (slot device.kind (sizes_at stack device) range.start).at;
  len = first_length device.kind (sizes_at stack device) range;
}

-- a device that cuts does so at its heads
pub heads_cut : (stack : Stack) → IsStack stack → (number : ℕ) (device : Device) → slice_get stack.devices.items number ≡ Some device → shape_of device.kind ≡ Cuts
    → HeadsCut (head device.kind (sizes_at stack device)) (piece_end device.kind (sizes_at stack device)) (slot device.kind (sizes_at stack device))
heads_cut stack good number device found cuts =
    let shape_is : HasShape device.kind (length device.members.items) = (good.each number device found).shape in
    kind_cuts device.kind (sizes_at stack device) (can_cut device.kind (length device.members.items) shape_is cuts)

-- where it goes
pub record Goes (stack : Stack) (number : ℕ) (device : Device) (range : Range) : Type 0 where
  pub dev : DevId
  pub run : IsFirstRun stack number range.start range.len (record { dev = dev; at = (first_piece stack device range).at; len = (first_piece stack device range).len })
  pub is : members_at stack number device (first_piece stack device range).member ≡ tree stack dev.0

pub goes : (stack : Stack) → IsStack stack → (number : ℕ) (device : Device) → slice_get stack.devices.items number ≡ Some device → shape_of device.kind ≡ Cuts
    → (range : Range) → 1 ≤ range.len → range.start + range.len ≤ size (tree stack number) → Goes stack number device range
goes stack good number device found cuts range some within =
    let first = first_piece stack device range in
    let is = is_piece device.kind (sizes_at stack device) range.start range.len first (heads_cut stack good number device found cuts) some refl refl in
    let there = member_there stack good number device found cuts range.start range.len first is within in
    let m : DevId = get_or device.members.items first.member (record { 0 = 0 }) in
    let at : slice_get device.members.items first.member ≡ Some m = slice_get-get_or device.members.items first.member (record { 0 = 0 }) there in
    record {
      dev = m;
      run = first_run_is stack good number device found cuts range.start range.len first is within m at;
      is = member_is stack good number device found first.member m at;
    }

module _ (stack : Stack) (good : IsStack stack) (places : ℕ → ℕ) where
  abbrev setup : Setup
  setup = setup_of stack places

  -- the device that a bio is at
  pub at_device : (number : ℕ) → number < length stack.devices.items → (device : Device) × (slice_get stack.devices.items number ≡ Some device)
  at_device number lt = elim ((slice_get_cases stack.devices.items number).1) [
    | inl x ↦ (x.0, x.2)
    | inr past ↦ absurd (let h = past.0 in omega arith)
  ]

  -- what holds of a tree of each shape holds of the tree of a device
  pub of_each_shape : (P : Tree → Type 0) (number : ℕ) → number < length stack.devices.items → ((sectors : ℕ) → P (Leaf number sectors))
      → ((device : Device) → slice_get stack.devices.items number ≡ Some device → shape_of device.kind ≡ Cuts
      → P (Split number device.kind (sizes_at stack device) (members_at stack number device)))
      → ((device : Device) → slice_get stack.devices.items number ≡ Some device → shape_of device.kind ≡ Copying_
      → P (Mirrored number (sizes_at stack device) (members_at stack number device)))
      → P (tree stack number)
  of_each_shape P number there leaf split mirror = let d = at_device number there in by_shape d.0 d.1 (shape_of d.0.kind) refl
    where
      by_shape : (device : Device) → slice_get stack.devices.items number ≡ Some device → (shape : Shape) → shape_of device.kind ≡ shape → P (tree stack number)
      by_shape device found (KeeperManned sectors) e = subst P (sym (keeps_is stack good number device found sectors e)) (leaf sectors)
      by_shape device found Cuts e = subst P (sym (cuts_is stack good number device found e)) (split device found e)
      by_shape device found Copying_ e = subst P (sym (copies_is stack good number device found e)) (mirror device found e)

  -- what a bio becomes in the member that it goes to as a whole
  abbrev next_bio : Bio → DevId → ℕ → Bio
  next_bio bio dev at = record bio { dev = dev; range = record { start = at; len = bio.range.len } }

  -- a bio at a device that cuts: whole it lands where the member's bio lands, and else it stays
  landed_whole : (bio : Bio) (device : Device) → slice_get stack.devices.items bio.dev.0 ≡ Some device → shape_of device.kind ≡ Cuts → (to : Goes stack bio.dev.0 device bio.range)
      → (first_length device.kind (sizes_at stack device) bio.range == bio.range.len) ≡ true
      → landed (tree stack bio.dev.0) bio ≡ landed (tree stack to.dev.0) (next_bio bio to.dev (first_piece stack device bio.range).at)
  landed_whole bio device found cuts to one_if_same =
      let sizes = sizes_at stack device in
      let members = members_at stack bio.dev.0 device in
      ap (λ t. landed t bio) (cuts_is stack good bio.dev.0 device found cuts)
      ∙ ap (λ b. cond b (landed (members (slot device.kind sizes bio.range.start).member) (mapped (slot device.kind sizes bio.range.start) members bio)) bio) one_if_same
      ∙ ap (λ t. landed t (record bio { dev = record { 0 = tree_number t }; range = record { start = (first_piece stack device bio.range).at; len = bio.range.len } })) to.is
      ∙ ap (λ n. landed (tree stack to.dev.0) (record bio { dev = record { 0 = n }; range = record { start = (first_piece stack device bio.range).at; len = bio.range.len } })) (number_of_tree stack to.dev.0)

  landed_here : (bio : Bio) (device : Device) → slice_get stack.devices.items bio.dev.0 ≡ Some device → shape_of device.kind ≡ Cuts
      → (first_length device.kind (sizes_at stack device) bio.range == bio.range.len) ≡ false → landed (tree stack bio.dev.0) bio ≡ bio
  landed_here bio device found cuts many =
      let sizes = sizes_at stack device in
      let members = members_at stack bio.dev.0 device in
      ap (λ t. landed t bio) (cuts_is stack good bio.dev.0 device found cuts)
      ∙ ap (λ b. cond b (landed (members (slot device.kind sizes bio.range.start).member) (mapped (slot device.kind sizes bio.range.start) members bio)) bio) many

  -- a value that a whole piece keeps is kept by landing, and a bio lands where it stays or is cut
  pub record Falls (value : Bio → ℕ) (bio to : Bio) : Type 0 where
    pub lands : Lands setup bio to
    pub same : value to ≡ value bio

  abbrev pub IsWhole : (Bio → ℕ) → Type 0
  IsWhole value = (bio : Bio) (device : Device) → slice_get stack.devices.items bio.dev.0 ≡ Some device → shape_of device.kind ≡ Cuts → (to : Goes stack bio.dev.0 device bio.range)
      → (first_piece stack device bio.range).len ≡ bio.range.len → value (next_bio bio to.dev (first_piece stack device bio.range).at) ≡ value bio

  pub falls : (value : Bio → ℕ) → IsWhole value → (bound : ℕ) (bio : Bio) → bio.dev.0 < bound → IsThere setup bio → Falls value bio (landed (tree stack bio.dev.0) bio)
  falls value whole zero bio lt there = absurd (omega arith)
  falls value whole (suc bound) bio lt there = let d = at_device bio.dev.0 there.device in by_shape d.0 d.1 (shape_of d.0.kind) refl (λ next lt there. falls value whole bound next lt there)
    where
      stays : Settles (tree stack bio.dev.0) bio.range → landed (tree stack bio.dev.0) bio ≡ bio → Falls value bio (landed (tree stack bio.dev.0) bio)
      stays settles same = subst (Falls value bio) (sym same) (record { lands = record { there = there; low = omega arith; settles = settles }; same = refl })

      cut : (device : Device) → slice_get stack.devices.items bio.dev.0 ≡ Some device → shape_of device.kind ≡ Cuts → (more : Bool)
          → (first_length device.kind (sizes_at stack device) bio.range == bio.range.len) ≡ more
          → ((next : Bio) → next.dev.0 < bound → IsThere setup next → Falls value next (landed (tree stack next.dev.0) next)) → Falls value bio (landed (tree stack bio.dev.0) bio)
      cut device found cuts true one_if_same again =
          let to = goes stack good bio.dev.0 device found cuts bio.range there.some there.within in
          let first = first_piece stack device bio.range in
          let len : first.len ≡ bio.range.len = search (one_if_same, arith) in
          let next = next_bio bio to.dev first.at in
          let run = to.run in
          let below = run.below in
          let inside = run.inside in
          let some = there.some in
          let next_there : IsThere setup next = record { device = run.known; some = there.some; within = omega arith } in
          let fall = again next (omega arith) next_there in
          let low = fall.lands.low in
          let falls_next : Falls value bio (landed (tree stack to.dev.0) next) =
          record { lands = record { there = fall.lands.there; low = omega arith; settles = fall.lands.settles }; same = fall.same ∙ whole bio device found cuts to len } in
          subst (Falls value bio) (sym (landed_whole bio device found cuts to one_if_same)) falls_next
      cut device found cuts false many again =
          let settles : Settles (tree stack bio.dev.0) bio.range =
          subst (λ t. Settles t bio.range) (sym (cuts_is stack good bio.dev.0 device found cuts)) (ap (λ b. not b) many) in
          stays settles (landed_here bio device found cuts many)

      by_shape : (device : Device) → slice_get stack.devices.items bio.dev.0 ≡ Some device → (shape : Shape) → shape_of device.kind ≡ shape
          → ((next : Bio) → next.dev.0 < bound → IsThere setup next → Falls value next (landed (tree stack next.dev.0) next)) → Falls value bio (landed (tree stack bio.dev.0) bio)
      by_shape device found (KeeperManned sectors) e again =
          let leaf = keeps_is stack good bio.dev.0 device found sectors e in
          stays (subst (λ t. Settles t bio.range) (sym leaf) tt) (ap (λ t. landed t bio) leaf)
      by_shape device found Copying_ e again =
          let mirror = copies_is stack good bio.dev.0 device found e in
          stays (subst (λ t. Settles t bio.range) (sym mirror) tt) (ap (λ t. landed t bio) mirror)
      by_shape device found Cuts e again =
          cut device found e (first_length device.kind (sizes_at stack device) bio.range == bio.range.len) refl again

  -- what a bio needs besides itself: the nodes that it still opens
  abbrev pub needs : Bio → ℕ
  needs bio = needed (tree stack bio.dev.0) bio.range.start bio.range.len

  whole_needs : IsWhole needs
  whole_needs bio device found cuts to len = let run = to.run in sym (run.alone len ∙ ap (needed (tree stack to.dev.0) (first_piece stack device bio.range).at) len)

  pub lands : (bio : Bio) → IsThere setup bio → Lands setup bio (landed (tree_at setup bio.dev) bio)
  lands bio there = (falls needs whole_needs (bio.dev.0 + 1) bio (omega arith) there).lands

  -- how many fragments a bio has
  abbrev pub parts : Bio → ℕ
  parts bio = fragments_in_run (tree stack bio.dev.0) bio.range.start bio.range.len

  pub lands_needs : (bio : Bio) → IsThere setup bio → needs (landed (tree_at setup bio.dev) bio) ≡ needs bio
  lands_needs bio there = (falls needs whole_needs (bio.dev.0 + 1) bio (omega arith) there).same

  -- what a cut makes of a bio
  pub record IsCut (bio hand : Item Pad) (key : ℕ) (kind : Kind) (sizes : List ℕ) (members : ℕ → Tree) : Type 0 where
    pub piece_there : IsThere setup (piece bio hand (first_length kind sizes bio.bio.range) key kind sizes members).bio
    pub low : (piece bio hand (first_length kind sizes bio.bio.range) key kind sizes members).bio.dev.0 < bio.bio.dev.0
    pub rest_there : IsThere setup (split_rest bio (first_length kind sizes bio.bio.range)).bio
    pub needs_part : needs bio.bio ≡ needs (piece bio hand (first_length kind sizes bio.bio.range) key kind sizes members).bio
        + (1 + needs (split_rest bio (first_length kind sizes bio.bio.range)).bio)
    pub parts_part : parts bio.bio ≡ parts (piece bio hand (first_length kind sizes bio.bio.range) key kind sizes members).bio
        + parts (split_rest bio (first_length kind sizes bio.bio.range)).bio

  abbrev CutOf : Item Pad → Item Pad → ℕ → Tree → Type 0
  CutOf bio hand key (Split number kind sizes members) = IsTrue (is_cut (Split number kind sizes members) bio.bio.range) → IsCut bio hand key kind sizes members
  CutOf bio hand key (Leaf number sectors) = Unit {0}
  CutOf bio hand key (Mirrored number sizes members) = Unit {0}

  cut_of : (bio hand : Item Pad) (key : ℕ) → IsThere setup bio.bio → CutOf bio hand key (tree stack bio.bio.dev.0)
  cut_of bio hand key there = of_each_shape (CutOf bio hand key) bio.bio.dev.0 there.device (λ sectors. tt) here (λ device found e. tt)
    where
      here : (device : Device) → slice_get stack.devices.items bio.bio.dev.0 ≡ Some device → shape_of device.kind ≡ Cuts
          → IsTrue (is_cut (Split bio.bio.dev.0 device.kind (sizes_at stack device) (members_at stack bio.bio.dev.0 device)) bio.bio.range)
          → IsCut bio hand key device.kind (sizes_at stack device) (members_at stack bio.bio.dev.0 device)
      here device found e is =
          let range = bio.bio.range in
          let first = first_piece stack device range in
          let to = goes stack good bio.bio.dev.0 device found e range there.some there.within in
          let run = to.run in
          let ne : first.len ≢ range.len = λ q. search (is, q, arith) in
          let some = run.some in
          let less = run.within in
          let below = run.below in
          let inside = run.inside in
          let within = there.within in
          let fewer : first.len < range.len = omega (arith, ne) in
          let child = (piece bio hand first.len key device.kind (sizes_at stack device) (members_at stack bio.bio.dev.0 device)).bio in
          let dev : child.dev.0 ≡ to.dev.0 = ap tree_number to.is ∙ number_of_tree stack to.dev.0 in
          let wide : size (tree stack child.dev.0) ≡ size (tree stack to.dev.0) = ap (λ n. size (tree stack n)) dev in
          let known = run.known in
          let same : needs child ≡ needed (tree stack to.dev.0) first.at first.len = ap (λ n. needed (tree stack n) first.at first.len) dev in
          let same_parts : parts child ≡ fragments_in_run (tree stack to.dev.0) first.at first.len = ap (λ n. fragments_in_run (tree stack n) first.at first.len) dev in
          record {
            piece_there = record { device = omega arith; some = run.some; within = omega arith };
            low = omega arith;
            rest_there = record { device = there.device; some = omega arith; within = omega arith };
            needs_part = run.more fewer ∙ ap (λ n. n + (1 + needs (split_rest bio first.len).bio)) (sym same);
            parts_part = run.counts ∙ ap (λ n. n + parts (split_rest bio first.len).bio) (sym same_parts);
          }

  pub cuts : (bio hand : Item Pad) (key number : ℕ) (kind : Kind) (sizes : List ℕ) (members : ℕ → Tree) → IsThere setup bio.bio
      → tree_at setup bio.bio.dev ≡ Split number kind sizes members → IsTrue (is_cut (Split number kind sizes members) bio.bio.range) → IsCut bio hand key kind sizes members
  cuts bio hand key number kind sizes members there at is =
      let a : CutOf bio hand key (Split number kind sizes members) = subst (CutOf bio hand key) at (cut_of bio hand key there) in a is

  -- a leg of a mirror's bio lies in its member
  pub record IsLegged (bio : Bio) (hand : Item Pad) (leg key : ℕ) : Type 0 where
    pub there : IsThere setup (leg_at bio hand leg key (tree_at setup bio.dev)).bio
    pub low : (leg_at bio hand leg key (tree_at setup bio.dev)).bio.dev.0 < bio.dev.0
    pub set : (leg_at bio hand leg key (tree_at setup bio.dev)).bio.set ≡ Of bio.dev
    pub share : (leg_at bio hand leg key (tree_at setup bio.dev)).share ≡ hand.share

  LegOf : Bio → Item Pad → ℕ → ℕ → Tree → Type 0
  LegOf bio hand leg key t = leg < legs_of t → IsThere setup (leg_at bio hand leg key t).bio × ((leg_at bio hand leg key t).bio.dev.0 < bio.dev.0)
      × ((leg_at bio hand leg key t).bio.set ≡ Of bio.dev) × ((leg_at bio hand leg key t).share ≡ hand.share)

  leg_of : (bio : Bio) (hand : Item Pad) (leg key : ℕ) → IsThere setup bio → LegOf bio hand leg key (tree stack bio.dev.0)
  unfolding LegOf
  leg_of bio hand leg key there =
      of_each_shape (LegOf bio hand leg key) bio.dev.0 there.device (λ sectors lt. absurd (omega (arith, lt))) (λ device found e lt. absurd (omega (arith, lt))) here
    where
      here : (device : Device) → slice_get stack.devices.items bio.dev.0 ≡ Some device → shape_of device.kind ≡ Copying_
          → LegOf bio hand leg key (Mirrored bio.dev.0 (sizes_at stack device) (members_at stack bio.dev.0 device))
      here device found e lt =
          let items = device.members.items in
          let few : leg < length items = omega (arith, lt, length-map items (λ (m : DevId). size (tree stack m.0))) in
          let m : DevId = get_or items leg (record { 0 = 0 }) in
          let at : slice_get items leg ≡ Some m = slice_get-get_or items leg (record { 0 = 0 }) few in
          let member : members_at stack bio.dev.0 device leg ≡ tree stack m.0 = member_is stack good bio.dev.0 device found leg m at in
          let dev : tree_number (members_at stack bio.dev.0 device leg) ≡ m.0 = ap tree_number member ∙ number_of_tree stack m.0 in
          let below : m.0 < bio.dev.0 = (good.each bio.dev.0 device found).below leg m at in
          let wide = leg_size stack good bio.dev.0 device found e leg m at in
          let same_size : size (tree stack (tree_number (members_at stack bio.dev.0 device leg))) ≡ size (tree stack m.0) = ap (λ n. size (tree stack n)) dev in
          let within = there.within in
          let known = there.device in
          (record { device = omega (arith, dev, below, known); some = there.some; within = omega (arith, wide, same_size, within) }, omega (arith, dev, below), refl, refl)

  pub legs : (bio : Bio) (hand : Item Pad) (leg key : ℕ) → IsThere setup bio → leg < legs_of (tree_at setup bio.dev) → IsLegged bio hand leg key
  unfolding LegOf
  legs bio hand leg key there lt = let all = leg_of bio hand leg key there lt in record { there = all.0; low = all.1; set = all.2; share = all.3 }

  -- a mirror of the stack has a leg at least, and eight at most
  pub copied : (bio : Bio) → IsThere setup bio → IsCopied (tree_at setup bio.dev)
  copied bio there = let d = at_device bio.dev.0 there.device in by_kind d.0 d.1 d.0.kind refl ((good.each bio.dev.0 d.0 d.1).shape)
    where
      mirror : (device : Device) → slice_get stack.devices.items bio.dev.0 ≡ Some device → shape_of device.kind ≡ Copying_ → (1 ≤ length device.members.items) × (length device.members.items ≤ 8) → IsCopied (tree stack bio.dev.0)
      mirror device found e some =
          let few = some.0 in
          let many = some.1 in
          let long = length-map device.members.items (λ (m : DevId). size (tree stack m.0)) in
          subst IsCopied (sym (copies_is stack good bio.dev.0 device found e)) (omega (arith, few, long), omega (arith, many, long))

      by_kind : (device : Device) → slice_get stack.devices.items bio.dev.0 ≡ Some device → (k : Kind) → device.kind ≡ k → HasShape device.kind (length device.members.items) → IsCopied (tree stack bio.dev.0)
      by_kind device found (kind.Disk sectors bad) is shape = subst IsCopied (sym (keeps_is stack good bio.dev.0 device found sectors (ap shape_of is))) tt
      by_kind device found kind.Linear is shape = subst IsCopied (sym (cuts_is stack good bio.dev.0 device found (ap shape_of is))) tt
      by_kind device found (kind.Stripe chunk) is shape = subst IsCopied (sym (cuts_is stack good bio.dev.0 device found (ap shape_of is))) tt
      by_kind device found (kind.Zoned chunk) is shape = subst IsCopied (sym (cuts_is stack good bio.dev.0 device found (ap shape_of is))) tt
      by_kind device found (kind.Limit longest chunk) is shape = subst IsCopied (sym (cuts_is stack good bio.dev.0 device found (ap shape_of is))) tt
      by_kind device found (kind.Mirror records) is shape =
          let h : HasShape (kind.Mirror records) (length device.members.items) = subst (λ k. HasShape k (length device.members.items)) is shape in
          mirror device found (ap shape_of is) h
