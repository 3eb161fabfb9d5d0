-- The number of fragments that the definition counts is that of the fragments in the list.
use Rattle.std.proofs.Common.{◌≡◌, ◌+◌, ◌-◌, ◌<◌, min, ℕ, List, ◌++◌, length, sym, ap, ◌∙◌, arith}
use Rattle.std.specs.List.{range_with_len}
use Rattle.std.proofs.lemmas.List.{append-nil, length-append}
use Rattle.std.proofs.lemmas.List.Concat.{length-flat_map}
use Rattle.stack_base.specs.declared.stack.Kind.{Kind}
use Rattle.stack_base.specs.Mapping.{slot}
use Rattle.stack_base.specs.Cutting.{piece_end}
use Rattle.stack_base.specs.Tree.{Tree, Leaf, Split, Mirrored}
use Rattle.layout_model.specs.Need.{fragments_in_run}
use Rattle.layout_model.specs.Plan.{frags}
use Rattle.layout_model.specs.Sound.{Sound}
use Rattle.layout_model.proofs.RangeSums.{sum_same}
use Rattle.layout_model.proofs.PieceInduction.{by_pieces}
use Rattle.layout_model.proofs.NeedsByPieces.{fragments_of_disk, fragments_of_piece, fragments_of_more, fragments_of_legs}
use Rattle.layout_model.proofs.Cutting.{frags_first, frags_none}

-- a run that is one piece has the fragments of the piece
pub frags_piece : (number : ℕ) (kind : Kind) (sizes : List ℕ) (members : ℕ → Tree) (write offset r len n : ℕ)
    → Sound (Split number kind sizes members) → 0 < len → n ≡ min (piece_end kind sizes r - r) len → n ≡ len
    → frags (Split number kind sizes members) write offset r len ≡ frags (members (slot kind sizes r).member) write offset (slot kind sizes r).at len
frags_piece number kind sizes members write offset r len n sound some is whole =
    let split : Tree = Split number kind sizes members in
    let member : Tree = members (slot kind sizes r).member in
    let left : len - len ≡ 0 = omega arith in
    frags_first number kind sizes members sound write offset r len len some (sym whole ∙ is)
    ∙ ap (λ rest. frags member write offset (slot kind sizes r).at len ++ frags split write (offset + len) (r + len) rest) left
    ∙ ap (λ rest. frags member write offset (slot kind sizes r).at len ++ rest) (frags_none number kind sizes members write (offset + len) (r + len))
    ∙ append-nil _

-- a run has as many fragments as the list of them is long
pub fragments_of_is_length : (t : Tree) (write offset r len : ℕ) → Sound t → 0 < len → fragments_in_run t r len ≡ length (frags t write offset r len)
unfolding Sound frags
fragments_of_is_length (Leaf number sectors) write offset r len sound some = fragments_of_disk number sectors r len some
fragments_of_is_length (Split number kind sizes members) write offset r len sound some =
    by_pieces (piece_end kind sizes)
    (λ r len. (offset : ℕ) → fragments_in_run (Split number kind sizes members) r len ≡ length (frags (Split number kind sizes members) write offset r len))
    sound.0.ahead
    (λ r len n is begins whole offset.
    fragments_of_piece number kind sizes members r len n sound.0 is whole
    ∙ fragments_of_is_length (members (slot kind sizes r).member) write offset (slot kind sizes r).at len (sound.1 (slot kind sizes r).member) (omega arith)
    ∙ sym (ap length (frags_piece number kind sizes members write offset r len n sound (omega arith) is whole)))
    (λ r len n is begins more rest offset.
    omega (
      arith,
      fragments_of_more number kind sizes members r len n sound.0 is more,
      fragments_of_is_length (members (slot kind sizes r).member) write offset (slot kind sizes r).at n (sound.1 (slot kind sizes r).member) begins,
      rest (offset + n),
      ap length (frags_first number kind sizes members sound write offset r len n (omega arith) is),
      length-append (frags (members (slot kind sizes r).member) write offset (slot kind sizes r).at n)
          (frags (Split number kind sizes members) write (offset + n) (r + n) (len - n)),
    ))
    r len some offset
fragments_of_is_length (Mirrored number sizes members) write offset r len sound some =
    fragments_of_legs number sizes members r len
    ∙ sum_same (λ k. fragments_in_run (members k) r len) (λ k. length (frags (members k) write offset r len)) (range_with_len 0 (length sizes))
    (λ k. fragments_of_is_length (members k) write offset r len (sound.1 k) some)
    ∙ sym (length-flat_map (λ k. frags (members k) write offset r len) (range_with_len 0 (length sizes)))
