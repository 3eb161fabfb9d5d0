-- The declarations and the rest decide of the whole text.
use Rattle.std.proofs.Common.{refl}
use Rattle.std.proofs.lemmas.Result.{err_from_is_err_and}
use Rattle.biostack_top.proofs.SceneLemmas.{accept_refuses, rest_begins, work_refuses, says_all}
use Rattle.biostack_top.proofs.scene.read_scene.Goals as goal

pub returns-in_err-accepted : goal.returns-in_err-accepted
returns-in_err-accepted c =
    let p = err_from_is_err_and c.from_residual-in_err-accepted.result c.from_residual-in_err-accepted.ensures.1 in
    rw (p.1, p.2) (accept_refuses c.args.loose c.args.text.now c.in_ok-decl.decl c.in_err-accepted.field-0.0 c.in_ok-decl.ensures c.in_err-accepted.ensures)

pub read_work-requires-clause-work : goal.read_work-requires-clause-work
read_work-requires-clause-work c = rest_begins c.args.loose c.args.text.now c.in_ok-decl.decl c.in_ok-accepted.accepted c.in_ok-decl.ensures c.in_ok-accepted.ensures

pub returns-in_err-work : goal.returns-in_err-work
returns-in_err-work c =
    let p = err_from_is_err_and c.from_residual-in_err-work.result c.from_residual-in_err-work.ensures.1 in
    rw (p.1, p.2) (work_refuses c.args.loose c.args.text.now c.in_ok-decl.decl c.in_ok-accepted.accepted c.in_err-work.field-0.0 c.in_ok-decl.ensures c.in_ok-accepted.ensures c.in_err-work.ensures.read)

pub returns : goal.returns
returns c = (refl, says_all c.args.loose c.args.text.now c.in_ok-decl.decl (record { text = c.args.text; accepted = c.in_ok-accepted.accepted; work = c.in_ok-work.work }) c.in_ok-decl.ensures c.in_ok-accepted.ensures c.in_ok-work.ensures.read c.in_ok-work.ensures.served refl)
