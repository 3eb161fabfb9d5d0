-- One more number.
use Rattle.std.proofs.Common.{◌∷◌, [], ◌++◌, length, sym, ap, ◌∙◌, arith}
use Rattle.std.proofs.lemmas.List.FromFn.{length-range_with_len}
use Rattle.stack_base.proofs.ListLemmas.{range_more}
use Rattle.model_disks.proofs.pages.in_turn.Goals as goal

pub push_reserved-requires : goal.push_reserved-requires
push_reserved-requires c =
    omega (
      arith,
      c.numbering.numbers.ok.0,
      c.numbering.invariant.room,
      ap length c.numbering.invariant.made,
      length-range_with_len 0 c.numbering.number,
      c.numbering-test.true,
    )

pub numbering-preserved : goal.numbering-preserved
numbering-preserved c = record {
  made = c.push_reserved.ensures.items
      ∙ ap (λ xs. xs ++ c.numbering.number ∷ []) c.numbering.invariant.made
      ∙ sym (range_more c.numbering.number);
  room = omega (arith, c.push_reserved.ensures.capacity, c.numbering.invariant.room);
}
