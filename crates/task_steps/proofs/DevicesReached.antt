-- Where a bio comes to, device by device.
use Rattle.std.proofs.Common.{◌≡◌, ◌≢◌, ◌⊎◌, inl, inr, ℕ, zero, suc, ◌<◌, ◌≤◌, ◌==◌, true, false, cond, length, map, IsSomeAnd, Option, Some, refl, sym, ap, ◌∙◌, subst, get_or, arith}
use Rattle.std.specs.Prelude.{slice_get}
use Rattle.std.specs.Option.{option_map_or}
use Rattle.std.proofs.lemmas.Bool.{cases_lt, eq-eqb, ne_eqb}
use Rattle.std.proofs.lemmas.Option.{slice_get-get_or, slice_get_cases}
use Rattle.stack_base.specs.declared.ids.DevId.{DevId}
use Rattle.stack_base.specs.declared.mapping.Piece.{Piece}
use Rattle.stack_base.specs.declared.stack.Device.{Device}
use Rattle.stack_base.specs.declared.stack.Stack.{Stack}
use Rattle.stack_base.specs.Cutting.{IsCut, piece_end}
use Rattle.stack_base.specs.Mapping.{Slot, slot, head}
use Rattle.stack_base.specs.Piece.{IsPiece}
use Rattle.stack_base.specs.Stack.{IsStack}
use Rattle.stack_base.specs.Tree.{Tree, Leaf, Split, Mirrored, Shape, Keeps, Cuts, Copies, shape_of, member_at, tree, sizes_at}
use Rattle.stack_base.proofs.KindCuts.{kind_cuts}
use Rattle.stack_base.proofs.Pieces.{is_piece, piece_len}
use Rattle.layout_model.proofs.ByShape.{cuts_is, copies_is, keeps_is, member_is}
use Rattle.layout_model.proofs.FirstRuns.{member_there, first_run_is}
use Rattle.layout_model.proofs.FromMembers.{can_cut}
use Rattle.bio_records.specs.declared.bio.Bio.{Bio}
use Rattle.task_steps.specs.declared.routes.Cut.{Cut}
use Rattle.run_machine.specs.Scene.{tree_number}
use Rattle.run_machine.specs.Submissions.{first_length, mapped, landed}
use Rattle.run_machine.proofs.TreeNumbers.{number_of_tree}
use Rattle.task_steps.specs.Within.{IsWithinDevice, first_cut, is_handed_on}
use Rattle.task_steps.specs.Routed.{handed, IsFirstCut, HasNoFirst, IsBelow, Stays, IsLanded}

-- a bio that is not handed on stays where it is
pub lands_here : (t : Tree) (bio : Bio) → is_handed_on t bio.range ≡ false → landed t bio ≡ bio
lands_here (Leaf number sectors) bio stays = refl
lands_here (Mirrored number sizes members) bio stays = refl
lands_here (Split number kind sizes members) bio stays =
    ap (λ b. cond b (landed (members (slot kind sizes bio.range.start).member) (mapped (slot kind sizes bio.range.start) members bio)) bio) stays

-- at a device of a stack
module _ (stack : Stack) (good : IsStack stack) (bio : Bio) (device : Device) (found : slice_get stack.devices.items bio.dev.0 ≡ Some device) where
  -- a disk or a mirror cuts nothing
  pub no_first : (shape_of device.kind ≢ Cuts) → HasNoFirst stack bio
  no_first other = by_shape (shape_of device.kind) refl
    where
      by_shape : (shape : Shape) → shape_of device.kind ≡ shape → HasNoFirst stack bio
      by_shape (Keeps sectors) e = ap (λ t. first_cut t bio.range) (keeps_is stack good bio.dev.0 device found sectors e)
      by_shape Cuts e = absurd (other e)
      by_shape Copies e = ap (λ t. first_cut t bio.range) (copies_is stack good bio.dev.0 device found e)

  module _ (cuts : shape_of device.kind ≡ Cuts) (within : IsWithinDevice stack bio) (piece : Piece)
      (is : IsPiece device.kind (sizes_at stack device) bio.range.start bio.range.len piece) where
    pub piece_there : piece.member < length device.members.items
    piece_there = member_there stack good bio.dev.0 device found cuts bio.range.start bio.range.len piece is within.within

    -- the piece of a driver is the first one that the definitions have
    pub is_first : (m : DevId) → slice_get device.members.items piece.member ≡ Some m
        → IsFirstCut stack bio (record { sectors = piece.len; dev = m; start = piece.at })
    is_first m at_member =
        let number = bio.dev.0 in
        let kind = device.kind in
        let sizes = sizes_at stack device in
        let start = bio.range.start in
        let members : ℕ → Tree = member_at number (map (λ (m : DevId). tree stack m.0) device.members.items) in
        let to : Slot = slot kind sizes start in
        let split : tree stack number ≡ Split number kind sizes members = cuts_is stack good number device found cuts in
        let leg : members piece.member ≡ tree stack m.0 = member_is stack good number device found piece.member m at_member in
        let length_is : piece.len ≡ first_length kind sizes bio.range =
        piece_len kind sizes start bio.range.len piece
        (kind_cuts kind sizes (can_cut kind (length device.members.items) (good.each number device found).shape cuts)) is in
        let run = first_run_is stack good number device found cuts start bio.range.len piece is within.within m at_member in
        let placed : ℕ → ℕ → ℕ → Option Cut = λ n dev at. Some (record { sectors = n; dev = record { 0 = dev }; start = at }) in
        record {
          first = ap (λ t. first_cut t bio.range) split
              ∙ ap (λ n. placed n (tree_number (members to.member)) to.at) (sym length_is)
              ∙ ap (λ (to : Slot). placed piece.len (tree_number (members to.member)) to.at) is.place
              ∙ ap (λ t. placed piece.len (tree_number t) piece.at) leg
              ∙ ap (λ n. placed piece.len n piece.at) (number_of_tree stack m.0);
          some = is.some;
          most = is.within;
          below = run.below;
          within = record { device = run.known; some = is.some; within = run.inside };
          lands = λ whole.
              let one : (first_length kind sizes bio.range == bio.range.len) ≡ true =
              eq-eqb (first_length kind sizes bio.range) bio.range.len (sym length_is ∙ whole) in
              ap (λ t. landed t bio) split
              ∙ ap (λ b. cond b (landed (members to.member) (mapped to members bio)) bio) one
              ∙ ap (λ (to : Slot). landed (members to.member) (mapped to members bio)) is.place
              ∙ ap (λ t. landed t (record bio { dev = record { 0 = tree_number t }; range = record bio.range { start = piece.at } })) leg
              ∙ ap (λ n. landed (tree stack m.0) (record bio { dev = record { 0 = n }; range = record bio.range { start = piece.at } })) (number_of_tree stack m.0);
        }

module _ (stack : Stack) (bio : Bio) (within : IsWithinDevice stack bio) (cut : Cut) (is : IsFirstCut stack bio cut) where
  -- one piece: it comes to where the member's bio comes to
  pub lands_below : bio.range.len ≤ cut.sectors → IsBelow stack bio (handed cut bio)
  lands_below whole =
      let len : cut.sectors ≡ bio.range.len = omega (arith, is.most) in
      record {
        next_is = subst (λ o. IsSomeAnd o (λ cut'. handed cut bio ≡ handed cut' bio)) (sym is.first) refl;
        lands = is.lands len;
        below = is.below;
        within = record { device = is.within.device; some = within.some; within = omega (arith, is.within.within) };
      }

  -- more than one: it stays
  pub stays_if_cut : cut.sectors < bio.range.len → Stays stack bio
  stays_if_cut fewer =
      ap (λ o. option_map_or (λ (cut : Cut). cut.sectors == bio.range.len) o false) is.first
      ∙ ne_eqb cut.sectors bio.range.len (λ e. omega arith)

-- a device that does not cut hands nothing on
pub stays_if_none : (stack : Stack) (bio : Bio) → HasNoFirst stack bio → Stays stack bio
stays_if_none stack bio none = ap (λ o. option_map_or (λ (cut : Cut). cut.sectors == bio.range.len) o false) none

-- a bio has a first piece at its device, or its device does not cut
pub first_at : (stack : Stack) → IsStack stack → (bio : Bio) → IsWithinDevice stack bio → HasNoFirst stack bio ⊎ ((cut : Cut) × IsFirstCut stack bio cut)
first_at stack good bio within =
    elim (slice_get_cases stack.devices.items bio.dev.0).1 [
      | inl there ↦ at_device there.0 there.2
      | inr past ↦ absurd (omega (arith, past.0, within.device))
    ]
  where
    at_device : (device : Device) → slice_get stack.devices.items bio.dev.0 ≡ Some device → HasNoFirst stack bio ⊎ ((cut : Cut) × IsFirstCut stack bio cut)
    at_device device found = by_shape (shape_of device.kind) refl
      where
        by_shape : (shape : Shape) → shape_of device.kind ≡ shape → HasNoFirst stack bio ⊎ ((cut : Cut) × IsFirstCut stack bio cut)
        by_shape (Keeps sectors) e = inl (no_first stack good bio device found (λ c. absurd cc))
        by_shape Copies e = inl (no_first stack good bio device found (λ c. absurd cc))
        by_shape Cuts e =
            let kind = device.kind in
            let sizes = sizes_at stack device in
            let to : Slot = slot kind sizes bio.range.start in
            let piece : Piece = record { len = first_length kind sizes bio.range; member = to.member; at = to.at } in
            let cut : IsCut (head kind sizes) (piece_end kind sizes) (slot kind sizes) =
            kind_cuts kind sizes (can_cut kind (length device.members.items) (good.each bio.dev.0 device found).shape e) in
            let is : IsPiece kind sizes bio.range.start bio.range.len piece =
            is_piece kind sizes bio.range.start bio.range.len piece cut within.some refl refl in
            let there = piece_there stack good bio device found e within piece is in
            let m = get_or device.members.items piece.member (record { 0 = 0 }) in
            inr (
              record { sectors = piece.len; dev = m; start = piece.at },
              is_first stack good bio device found e within piece is m
                  (slice_get-get_or device.members.items piece.member (record { 0 = 0 }) there),
            )

-- where it stays, it has landed
pub landed_here : (stack : Stack) (bio : Bio) → IsWithinDevice stack bio → Stays stack bio → IsLanded stack bio (landed (tree stack bio.dev.0) bio)
landed_here stack bio within stays =
    let same = lands_here (tree stack bio.dev.0) bio stays in
    let P : Bio → Type 0 = IsLanded stack bio in
    subst P (sym same) (record { comes = sym same; within = within; stays = stays; same = same })

-- what landed below, landed
pub landed_from : (stack : Stack) (bio next end : Bio) → landed (tree stack bio.dev.0) bio ≡ landed (tree stack next.dev.0) next
    → IsLanded stack next end → IsLanded stack bio end
landed_from stack bio next end lands is = record { comes = is.comes ∙ sym lands; within = is.within; stays = is.stays; same = is.same }

-- a bio within the stack comes to one within the stack, which stays where it is
landed_below : (stack : Stack) → IsStack stack → (bound : ℕ) (bio : Bio) → bio.dev.0 < bound → IsWithinDevice stack bio
    → IsLanded stack bio (landed (tree stack bio.dev.0) bio)
landed_below stack good zero bio low within = absurd (omega arith)
landed_below stack good (suc bound) bio low within =
    elim (first_at stack good bio within) [
      | inl none ↦ landed_here stack bio within (stays_if_none stack bio none)
      | inr first ↦ elim (cases_lt first.0.sectors bio.range.len) [
        | inl fewer ↦ landed_here stack bio within (stays_if_cut stack bio within first.0 first.1 fewer)
        | inr whole ↦
            let next = handed first.0 bio in
            let is : IsBelow stack bio next = lands_below stack bio within first.0 first.1 whole in
            let P : Bio → Type 0 = IsLanded stack bio in
            subst P (sym is.lands) (landed_from stack bio next (landed (tree stack next.dev.0) next) is.lands
            (landed_below stack good bound next (omega (arith, is.below)) is.within))
      ]
    ]

pub lands_within : (stack : Stack) → IsStack stack → (bio : Bio) → IsWithinDevice stack bio → IsLanded stack bio (landed (tree stack bio.dev.0) bio)
lands_within stack good bio within = landed_below stack good (suc bio.dev.0) bio (omega arith) within
