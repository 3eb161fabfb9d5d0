-- The plan of a run, step by step, against the layout and against what the run needs.
use Rattle.std.proofs.Common.{◌≡◌, ◌+◌, ◌-◌, ◌<◌, min, ℕ, List, length, sum_by, refl, sym, ap, ◌∙◌, arith}
use Rattle.std.specs.List.{range_with_len}
use Rattle.std.proofs.lemmas.List.FromFn.{length-range_with_len}
use Rattle.stack_base.specs.declared.stack.Kind.{Kind}
use Rattle.stack_base.specs.Mapping.{slot, head}
use Rattle.stack_base.specs.Cutting.{piece_end, IsCut}
use Rattle.stack_base.specs.Tree.{Tree, Leaf, Split, Mirrored}
use Rattle.layout_model.specs.declared.fragment.Fragment.{Fragment}
use Rattle.layout_model.specs.Need.{needed}
use Rattle.layout_model.specs.Plan.{Part, cuts_in, cuts, frags, Plan, Plans, OneFragment, Pieces, Legs, none, also, plans_of, plan, leaves, takes, all_takes, count_of}
use Rattle.layout_model.specs.Sound.{Sound}
use Rattle.layout_model.specs.Laws.{IsCutOff}
use Rattle.layout_model.proofs.RangeSums.{sum_same}
use Rattle.layout_model.proofs.PieceInduction.{by_pieces}
use Rattle.layout_model.proofs.NeedsByPieces.{needed_disk, needed_piece, needed_more, needed_legs}
use Rattle.layout_model.proofs.Cutting.{cuts_first}
use Rattle.layout_model.proofs.PlanLists.{leaves_of_each, takes_of_each, count_of_each}

-- the plan of a part, in the member that it lies in
abbrev pub part_plan : Kind → List ℕ → (ℕ → Tree) → ℕ → Part → Plan
part_plan kind sizes members write p = plan (members (slot kind sizes p.start).member) write p.offset (slot kind sizes p.start).at p.len

-- the plans of the pieces of a run
abbrev pub piece_plans : Kind → List ℕ → (ℕ → Tree) → ℕ → ℕ → ℕ → ℕ → Plans
piece_plans kind sizes members write offset r len = plans_of (part_plan kind sizes members write) (cuts (piece_end kind sizes) offset r len)

-- a run of no sectors has no pieces
pub piece_plans_none : (kind : Kind) (sizes : List ℕ) (members : ℕ → Tree) (write offset r : ℕ) → piece_plans kind sizes members write offset r 0 ≡ none
unfolding plans_of cuts cuts_in
piece_plans_none kind sizes members write offset r = refl

-- the first piece, and the pieces of the rest
pub piece_plans_first : (kind : Kind) (sizes : List ℕ) (members : ℕ → Tree) (write offset r len n : ℕ)
    → IsCut (head kind sizes) (piece_end kind sizes) (slot kind sizes) → 0 < len → n ≡ min (piece_end kind sizes r - r) len
    → piece_plans kind sizes members write offset r len
    ≡ also (plan (members (slot kind sizes r).member) write offset (slot kind sizes r).at n) (piece_plans kind sizes members write (offset + n) (r + n) (len - n))
unfolding plans_of
piece_plans_first kind sizes members write offset r len n cut some is =
    rw is (ap (plans_of (part_plan kind sizes members write)) (cuts_first (piece_end kind sizes) cut.ahead offset r len some))

-- a run that is one piece
pub piece_plans_one : (kind : Kind) (sizes : List ℕ) (members : ℕ → Tree) (write offset r len n : ℕ)
    → IsCut (head kind sizes) (piece_end kind sizes) (slot kind sizes) → 0 < len → n ≡ min (piece_end kind sizes r - r) len → n ≡ len
    → piece_plans kind sizes members write offset r len ≡ also (plan (members (slot kind sizes r).member) write offset (slot kind sizes r).at n) none
piece_plans_one kind sizes members write offset r len n cut some is whole =
    let first : Plan = plan (members (slot kind sizes r).member) write offset (slot kind sizes r).at n in
    let left : len - n ≡ 0 = omega arith in
    piece_plans_first kind sizes members write offset r len n cut some is
    ∙ ap (λ l. also first (piece_plans kind sizes members write (offset + n) (r + n) l)) left
    ∙ ap (λ rest. also first rest) (piece_plans_none kind sizes members write (offset + n) (r + n))

-- the plan of a run at a disk is one fragment
pub whole_is : (number sectors write offset r len : ℕ)
    → plan (Leaf number sectors) write offset r len ≡ OneFragment (record { write = write; offset = offset; len = len; disk = record { 0 = number }; at = r })
unfolding plan
whole_is number sectors write offset r len = refl

-- at a device that cuts, the plans of the pieces
pub pieces_are : (number : ℕ) (kind : Kind) (sizes : List ℕ) (members : ℕ → Tree) (write offset r len : ℕ)
    → plan (Split number kind sizes members) write offset r len ≡ Pieces number (piece_plans kind sizes members write offset r len)
unfolding plan
pieces_are number kind sizes members write offset r len = refl

-- the first piece stands before the plans of the rest, which are those of the rest as a run of its own
pub pieces_first : (number : ℕ) (kind : Kind) (sizes : List ℕ) (members : ℕ → Tree) (write offset r len n : ℕ)
    → IsCut (head kind sizes) (piece_end kind sizes) (slot kind sizes) → 0 < len → n ≡ min (piece_end kind sizes r - r) len
    → IsCutOff number kind sizes members write offset r len (slot kind sizes r).member (slot kind sizes r).at n
pieces_first number kind sizes members write offset r len n cut some is = record {
  rest = piece_plans kind sizes members write (offset + n) (r + n) (len - n);
  whole = pieces_are number kind sizes members write offset r len ∙ ap (Pieces number) (piece_plans_first kind sizes members write offset r len n cut some is);
  goes_on = λ more. pieces_are number kind sizes members write (offset + n) (r + n) (len - n);
  ends = λ all. let none_left : len - n ≡ 0 = omega arith in
      ap (piece_plans kind sizes members write (offset + n) (r + n)) none_left ∙ piece_plans_none kind sizes members write (offset + n) (r + n);
}

-- at a mirror, the plan of the same run in each member
pub legs_are : (number : ℕ) (sizes : List ℕ) (members : ℕ → Tree) (write offset r len : ℕ)
    → plan (Mirrored number sizes members) write offset r len ≡ Legs number (plans_of (λ k. plan (members k) write offset r len) (range_with_len 0 (length sizes)))
unfolding plan
legs_are number sizes members write offset r len = refl

-- the fragments of a plan are those of the layout, in the same order
pub leaves_plan : (t : Tree) (write offset r len : ℕ) → leaves (plan t write offset r len) ≡ frags t write offset r len
unfolding plan leaves frags
leaves_plan (Leaf number sectors) write offset r len = refl
leaves_plan (Split number kind sizes members) write offset r len =
    leaves_of_each (part_plan kind sizes members write)
    (λ p. frags (members (slot kind sizes p.start).member) write p.offset (slot kind sizes p.start).at p.len) (cuts (piece_end kind sizes) offset r len)
    (λ p. leaves_plan (members (slot kind sizes p.start).member) write p.offset (slot kind sizes p.start).at p.len)
leaves_plan (Mirrored number sizes members) write offset r len =
    leaves_of_each (λ k. plan (members k) write offset r len) (λ k. frags (members k) write offset r len) (range_with_len 0 (length sizes))
    (λ k. leaves_plan (members k) write offset r len)

-- one fragment takes nothing
takes_whole : (fragment : Fragment) → takes (OneFragment fragment) ≡ 0
unfolding takes
takes_whole fragment = refl

-- a plan of one piece takes what the piece takes
takes_one : (number : ℕ) (p : Plan) → takes (Pieces number (also p none)) ≡ takes p
unfolding takes all_takes count_of
takes_one number p = omega arith

-- a plan of more pieces takes what the first takes, a bio for it, and what the others take
takes_more : (number : ℕ) (p q : Plan) (others rest : Plans) → rest ≡ also q others
    → takes (Pieces number (also p rest)) ≡ takes p + (1 + takes (Pieces number rest))
takes_more number p q others rest is = rw is (unfold takes all_takes count_of in omega arith)

-- a plan of legs takes a record, a bio for each, and what each takes
takes_legs : (number : ℕ) (f : ℕ → Plan) (count : ℕ)
    → takes (Legs number (plans_of f (range_with_len 0 count))) ≡ 1 + count + sum_by (λ k. takes (f k)) (range_with_len 0 count)
unfolding takes
takes_legs number f count =
    omega (arith, count_of_each f (range_with_len 0 count), length-range_with_len 0 count, takes_of_each f (range_with_len 0 count))

-- a plan takes what its run needs
pub takes_plan : (t : Tree) (write offset r len : ℕ) → Sound t → 0 < len → takes (plan t write offset r len) ≡ needed t r len
unfolding Sound plan
takes_plan (Leaf number sectors) write offset r len sound some = takes_whole _ ∙ sym (needed_disk number sectors r len)
takes_plan (Split number kind sizes members) write offset r len sound some =
    by_pieces (piece_end kind sizes)
    (λ r len. (offset : ℕ) → takes (Pieces number (piece_plans kind sizes members write offset r len)) ≡ needed (Split number kind sizes members) r len)
    sound.0.ahead
    (λ r len n is begins whole offset.
    ap (λ plans. takes (Pieces number plans)) (piece_plans_one kind sizes members write offset r len n sound.0 (omega arith) is whole)
    ∙ takes_one number (plan (members (slot kind sizes r).member) write offset (slot kind sizes r).at n)
    ∙ takes_plan (members (slot kind sizes r).member) write offset (slot kind sizes r).at n (sound.1 (slot kind sizes r).member) begins
    ∙ ap (needed (members (slot kind sizes r).member) (slot kind sizes r).at) whole
    ∙ sym (needed_piece number kind sizes members r len n sound.0 is whole))
    (λ r len n is begins more rest offset.
    let first = plan (members (slot kind sizes r).member) write offset (slot kind sizes r).at n in
    let second = piece_plans_first kind sizes members write (offset + n) (r + n) (len - n) (min (piece_end kind sizes (r + n) - (r + n)) (len - n)) sound.0 (omega arith) refl in
    ap (λ plans. takes (Pieces number plans)) (piece_plans_first kind sizes members write offset r len n sound.0 (omega arith) is)
    ∙ takes_more number first _ _ (piece_plans kind sizes members write (offset + n) (r + n) (len - n)) second
    ∙ ap (λ taken. taken + (1 + takes (Pieces number (piece_plans kind sizes members write (offset + n) (r + n) (len - n)))))
    (takes_plan (members (slot kind sizes r).member) write offset (slot kind sizes r).at n (sound.1 (slot kind sizes r).member) begins)
    ∙ ap (λ left. needed (members (slot kind sizes r).member) (slot kind sizes r).at n + (1 + left)) (rest (offset + n))
    ∙ sym (needed_more number kind sizes members r len n sound.0 is more))
    r len some offset
takes_plan (Mirrored number sizes members) write offset r len sound some =
    takes_legs number (λ k. plan (members k) write offset r len) (length sizes)
    ∙ ap (λ legs. 1 + length sizes + legs)
    (sum_same (λ k. takes (plan (members k) write offset r len)) (λ k. needed (members k) r len) (range_with_len 0 (length sizes))
    (λ k. takes_plan (members k) write offset r len (sound.1 k) some))
    ∙ sym (needed_legs number sizes members r len some)
