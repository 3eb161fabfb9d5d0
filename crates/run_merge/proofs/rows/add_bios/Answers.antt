use Rattle.std.proofs.Common.{◌-◌, ◌∙◌, ap, sym, inl, length, slice_get}
use Rattle.std.specs.Option.{option_copied}
use Rattle.run_merge.proofs.leaving.Falls.{last_is}
use Rattle.run_merge.proofs.rows.add_bios.Goals as goal

-- src/rows.rt
pub returns-then-is_of-clause-moved : goal.returns-then-is_of-clause-moved
returns-then-is_of-clause-moved c =
    let move = c.add_last.ensures.moved in
    let last = last_is c.args.bios.now.items c.add_last.new.row.items move.last c.in-Some.last.now move.was
    (sym (ap option_copied c.in-Some.is) ∙ c.last.ensures.value ∙ ap (λ xs. slice_get xs (length xs - 1)) c.deref.ensures.value) in
    inl (move, sym (ap (λ e. e.0) last) ∙ c.is_of.ensures.0 c.if-is_of.true)
