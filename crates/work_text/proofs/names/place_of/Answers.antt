-- The one device with the name, or none.
use Rattle.std.proofs.Common.{◌≡◌, ◌-◌, Some, sym, ap, ◌∙◌, arith}
use Rattle.std.specs.Prelude.{slice_get}
use Rattle.std.proofs.lemmas.Option.{slice_get-get_or}
use Rattle.work_text.proofs.NameLemmas.{named_place, unnamed_more, unnamed_place}
use Rattle.work_text.proofs.names.place_of.Goals as goal
use Rattle.work_text.proofs.names.place_of.Goals.{After-index}

-- the device that is looked at
found : (c : After-index) → slice_get c.args.stack.now.devices.items (c.searching.place - 1) ≡ Some c.index.result.now
found c =
    slice_get-get_or c.args.stack.now.devices.items (c.searching.place - 1) c.index.result.now (omega (arith, c.searching.invariant.1, c.searching-test.true))
    ∙ ap Some (sym c.index.ensures)

pub returns-then-is_named : goal.returns-then-is_named
returns-then-is_named c =
    sym (named_place c.args.stack.now c.args.name.now (c.searching.place - 1) c.index.result.now c.requires
    (found (goal.at.returns-then-is_named c).After-index) (sym c.is_named.ensures ∙ c.if-is_named.true))

pub searching-preserved : goal.searching-preserved
searching-preserved c = (
  unnamed_more c.args.stack.now.devices.items c.args.name.now (c.searching.place - 1) c.index.result.now
      (found (goal.at.searching-preserved c).After-index) (sym c.is_named.ensures ∙ c.if-is_named.false)
      (λ k device from also. c.searching.invariant.0 k device (omega (arith, from, c.searching-test.true)) also),
  omega (arith, c.searching.invariant.1),
)

pub returns : goal.returns
returns c =
    sym (unnamed_place c.args.stack.now c.args.name.now
    (λ k device also. c.searching.invariant.0 k device (omega (arith, c.searching-test.false)) also))
