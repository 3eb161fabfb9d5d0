-- The laws of the plan, over every sound tree.
use Rattle.std.proofs.Common.{◌↔◌, Contains, length, sym, ap, ◌∙◌, subst, arith}
use Rattle.std.specs.List.{AllPairs}
use Rattle.stack_base.specs.Mapping.{slot, head}
use Rattle.stack_base.specs.Cutting.{piece_end}
use Rattle.stack_base.specs.Tree.{tree}
use Rattle.stack_base.proofs.Heads.{piece_only}
use Rattle.layout_model.specs.Fragments.{IsFragmentOf, AreOther}
use Rattle.layout_model.specs.Laws.{IsCutOff, PlanOfPieces, PlanOfLegs, PlanOfDisk, PlanGivesFragments, PlanKeepsOrder, PlanTakesNeeded, FragmentsAreCounted, TreesAreSound, PlanFragmentsDiffer}
use Rattle.layout_model.proofs.Sound.{cut_of_split}
use Rattle.layout_model.proofs.PiecesGiveFragments.{frags_are}
use Rattle.layout_model.proofs.Apart.{frags_distinct}
use Rattle.layout_model.proofs.CountFrags.{fragments_of_is_length}
use Rattle.layout_model.proofs.Stacks.{tree_sound, tree_apart}
use Rattle.layout_model.proofs.Planned.{pieces_first, legs_are, whole_is, leaves_plan, takes_plan}

-- a run's first piece, wherever its number of sectors comes from
pub plan_of_pieces : PlanOfPieces
plan_of_pieces number kind sizes members write offset start len piece sound is =
    let cut = cut_of_split number kind sizes members sound in
    subst (λ place. IsCutOff number kind sizes members write offset start len place.member place.at piece.len) is.place
    (pieces_first number kind sizes members write offset start len piece.len cut (omega (arith, is.some, is.within))
    (piece_only (head kind sizes) (piece_end kind sizes) (slot kind sizes) cut start len piece.len is.some is.within is.exact))

-- a mirror's plan
pub plan_of_legs : PlanOfLegs
plan_of_legs = legs_are

-- a disk's plan
pub plan_of_disk : PlanOfDisk
plan_of_disk = whole_is

-- the plan's fragments, one by one
pub plan_gives_fragments : PlanGivesFragments
plan_gives_fragments t write offset start len sound some f =
    subst (λ fragments. Contains fragments f ↔ IsFragmentOf t write offset start len f) (sym (leaves_plan t write offset start len))
    (frags_are t sound write offset start len some f)

-- the plan's fragments, in their order
pub plan_keeps_order : PlanKeepsOrder
plan_keeps_order = leaves_plan

-- what the plan takes
pub plan_takes_needed : PlanTakesNeeded
plan_takes_needed = takes_plan

-- how many fragments there are
pub fragments_are_counted : FragmentsAreCounted
fragments_are_counted t write offset start len sound some =
    fragments_of_is_length t write offset start len sound some ∙ sym (ap length (leaves_plan t write offset start len))

-- the trees of a stack
pub trees_are_sound : TreesAreSound
trees_are_sound stack number good within = tree_sound stack good number within

-- no two fragments at one place of the write and on one disk
pub plan_fragments_differ : PlanFragmentsDiffer
plan_fragments_differ stack number write offset start len good within some =
    subst (AllPairs AreOther) (sym (leaves_plan (tree stack number) write offset start len))
    (frags_distinct (tree stack number) (tree_sound stack good number within) (tree_apart stack good number within) write offset start len some)
