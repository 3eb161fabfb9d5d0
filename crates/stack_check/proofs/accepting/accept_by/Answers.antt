use Rattle.std.proofs.Common.{sym, subst}
use Rattle.decl_text.specs.Read.{Read}
use Rattle.stack_check.specs.Accept.{AcceptsBy}
use Rattle.stack_check.proofs.Lines.{declared_by, declared_loosely}
use Rattle.stack_check.proofs.RefusalLemmas.{accepts_closed}
use Rattle.stack_check.proofs.accepting.accept_by.Goals as goal

pub returns-in-Ok : goal.returns-in-Ok
returns-in-Ok c =
    let parts = c.parts-items.result in
    let read : Read = record { items = parts.items.items; fault = parts.fault; rest = parts.rest; line = parts.line } in
    subst (λ (decl : Read). AcceptsBy c.args.loose decl c.close.result) (sym c.parts-items.ensures.parts)
    (accepts_closed c.args.loose read c.in-Ok.draft c.close.result c.parts-items.ensures.lines c.in-Ok.ensures c.close.ensures)

pub close-requires : goal.close-requires
close-requires c =
    let parts = c.parts-items.result in
    λ none. declared_loosely c.args.loose c.in-Ok.draft
    (declared_by c.args.loose parts.items.items parts.fault c.in-Ok.draft c.parts-items.ensures.lines c.in-Ok.ensures none)
