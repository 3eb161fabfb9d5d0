-- What the first piece of a run becomes in its member.
use Rattle.std.proofs.Common.{◌≡◌, ℕ, ◌+◌, ◌-◌, ◌<◌, ◌≤◌, length, get_or, map, Some, sym, ap, ◌∙◌, subst, arith}
use Rattle.std.specs.Prelude.{slice_get}
use Rattle.std.proofs.lemmas.List.{length-map, get_or-map}
use Rattle.std.proofs.lemmas.Option.{slice_get_within, get_or_from_slice_get}
use Rattle.stack_base.specs.declared.ids.DevId.{DevId}
use Rattle.stack_base.specs.declared.mapping.Piece.{Piece}
use Rattle.stack_base.specs.declared.stack.Device.{Device}
use Rattle.stack_base.specs.declared.stack.Stack.{Stack}
use Rattle.stack_base.specs.Mapping.{size_of}
use Rattle.stack_base.specs.Piece.{IsPiece}
use Rattle.stack_base.specs.Tree.{Cuts, shape_of, member_at, size, tree}
use Rattle.stack_base.specs.Stack.{HasShape, IsStack}
use Rattle.stack_base.proofs.KindCuts.{kind_cuts}
use Rattle.stack_base.proofs.Unfolded.{size-tree}
use Rattle.layout_model.specs.Way.{FitsWay, place}
use Rattle.layout_model.specs.Need.{needed, fragments_in_run}
use Rattle.layout_model.specs.Pieces.{IsFirstRun}
use Rattle.layout_model.specs.Shown.{shown_sector}
use Rattle.layout_model.proofs.FromMembers.{can_cut}
use Rattle.layout_model.proofs.Steps.{cut_piece}
use Rattle.layout_model.proofs.ByShape.{cuts_is, member_is}
use Rattle.layout_model.proofs.PieceLemmas.{piece_inside}
use Rattle.layout_model.proofs.ByPiece.{needed_alone, needed_and_more, fragments_of_both, place_of_piece, fits_of_piece, shown_of_piece}

module _ (stack : Stack) (good : IsStack stack) (number : ℕ) (device : Device) (found : slice_get stack.devices.items number ≡ Some device)
    (cuts : shape_of device.kind ≡ Cuts) (start len : ℕ) (piece : Piece)
    (is : IsPiece device.kind (map (λ (m : DevId). size (tree stack m.0)) device.members.items) start len piece)
    (within : start + len ≤ size (tree stack number)) where
  -- the kind's numbers are not 0, and it has so many members
  shape_is : HasShape device.kind (length device.members.items)
  shape_is = (good.each number device found).shape

  -- the piece lies within a member
  in_member : (piece.member < length device.members.items)
      × (piece.at + piece.len ≤ get_or (map (λ (m : DevId). size (tree stack m.0)) device.members.items) piece.member 0)
  in_member =
      let sizes = map (λ (m : DevId). size (tree stack m.0)) device.members.items in
      let count : length sizes ≡ length device.members.items = length-map device.members.items (λ (m : DevId). size (tree stack m.0)) in
      let fits : start + len ≤ size_of device.kind sizes = omega (arith, size-tree stack good number device found) in
      let inside = piece_inside device.kind sizes start len piece (can_cut device.kind (length device.members.items) shape_is cuts)
      (subst (HasShape device.kind) (sym count) shape_is) fits is in
      (omega (arith, inside.0), inside.1)

  -- there is such a member
  pub member_there : piece.member < length device.members.items
  member_there = in_member.0

  -- and what the piece becomes there
  pub first_run_is : (m : DevId) → slice_get device.members.items piece.member ≡ Some m
      → IsFirstRun stack number start len (record { dev = m; at = piece.at; len = piece.len })
  first_run_is m at_member =
      let items = device.members.items in
      let sizes = map (λ (m : DevId). size (tree stack m.0)) items in
      let members = member_at number (map (λ (m : DevId). tree stack m.0) items) in
      let whole = cuts_is stack good number device found cuts in
      let leg : members piece.member ≡ tree stack m.0 = member_is stack good number device found piece.member m at_member in
      let cut = kind_cuts device.kind sizes (can_cut device.kind (length items) shape_is cuts) in
      let known : number < length stack.devices.items = slice_get_within stack.devices.items number device found in
      let below : m.0 < number = (good.each number device found).below piece.member m at_member in
      let wide : get_or sizes piece.member 0 ≡ size (tree stack m.0) =
      get_or-map (λ (m : DevId). size (tree stack m.0)) items piece.member m 0 member_there
      ∙ ap (λ (m : DevId). size (tree stack m.0)) (get_or_from_slice_get items piece.member m m at_member) in
      record {
        below = below;
        known = omega arith;
        some = is.some;
        within = is.within;
        inside = omega (arith, in_member.1);
        rest = λ write offset. cut_piece stack good number device found known cuts write offset start len piece m at_member is;
        counts = cc (
          ap (λ t. fragments_in_run t start len) whole,
          ap (λ t. fragments_in_run t (start + piece.len) (len - piece.len)) whole,
          ap (λ t. fragments_in_run t piece.at piece.len) leg,
          fragments_of_both number device.kind sizes members cut start len piece is,
        );
        alone = λ ends. ap (λ t. needed t start len) whole
            ∙ needed_alone number device.kind sizes members cut start len piece is ends
            ∙ ap (λ t. needed t piece.at piece.len) leg;
        more = λ goes_on. cc (
          ap (λ t. needed t start len) whole,
          ap (λ t. needed t (start + piece.len) (len - piece.len)) whole,
          ap (λ t. needed t piece.at piece.len) leg,
          needed_and_more number device.kind sizes members cut start len piece is goes_on,
        );
        shows = λ i lt. ap (λ t. shown_sector t (start + i)) whole
            ∙ shown_of_piece number device.kind sizes members cut start len piece is i lt
            ∙ ap (λ t. shown_sector t (piece.at + i)) leg;
        leads = λ choices. ap (λ t. place t start choices) whole
            ∙ place_of_piece number device.kind sizes members cut start len piece is choices
            ∙ ap (λ t. place t piece.at choices) leg;
        asks = λ choices fits. subst (λ t. FitsWay t piece.at choices) leg
            (fits_of_piece number device.kind sizes members cut start len piece is choices (subst (λ t. FitsWay t start choices) whole fits));
      }
