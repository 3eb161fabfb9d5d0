use Rattle.std.proofs.Common.{◌-◌, ◌∙◌, ap, sym, inl, length, slice_get}
use Rattle.std.specs.Option.{option_copied}
use Rattle.std.proofs.lemmas.Bool.{eqb-true}
use Rattle.run_machine.specs.Opened.{device_at}
use Rattle.run_merge.proofs.leaving.Falls.{last_is}
use Rattle.run_merge.proofs.rows.add_records.Goals as goal

-- src/rows.rt
pub returns-then-eq-clause-moved : goal.returns-then-eq-clause-moved
returns-then-eq-clause-moved c =
    let move = c.add_last.ensures.moved in
    let last = last_is c.args.records.now.items c.add_last.new.row.items move.last c.in-Some.last.now move.was
    (sym (ap option_copied c.in-Some.is) ∙ c.last.ensures.value ∙ ap (λ xs. slice_get xs (length xs - 1)) c.deref.ensures.value) in
    inl (move, sym (ap (λ e. e.0) last) ∙ ap device_at (eqb-true c.in-Some.last.now.0.0 c.args.dev.0 (sym c.eq.ensures ∙ c.if-eq.true)))
