use Rattle.std.proofs.Common.{sym, ◌∙◌}
use Rattle.shared_tests.proofs.Turned.{goes_back, goes_behind, its_home, may_go_back}
use Rattle.shared_tests.proofs.turns.turn.Goals as goal

pub stepped_at_desk-ran-requires : goal.stepped_at_desk-ran-requires
stepped_at_desk-ran-requires g c =
    let shared = c.args.shared.now in
    its_home shared.told.value shared c.args.ran c.args.out.now.items c.requires ∙ sym c.locks.ensures

pub put_task-requires-clause-out : goal.put_task-requires-clause-out
put_task-requires-clause-out g c =
    let shared = c.args.shared.now in
    may_go_back shared.told.value shared c.args.ran c.args.out.now.items c.requires c.stepped_at_desk-ran.result c.stepped_at_desk-ran.ensures

pub returns-then-stopped : goal.returns-then-stopped
returns-then-stopped g c =
    let shared = c.args.shared.now in
    goes_back shared.told.value shared c.args.ran c.args.out.now.items c.requires c.stepped_at_desk-ran.result c.stepped_at_desk-ran.ensures c.put_task.new.self
    (sym c.stopped.ensures ∙ c.if-stopped.true) c.put_task.ensures.holds c.put_task.ensures.back

pub returns : goal.returns
returns g c =
    let shared = c.args.shared.now in
    goes_behind shared.told.value shared c.args.ran c.args.out.now.items c.requires c.stepped_at_desk-ran.result c.stepped_at_desk-ran.ensures c.push_back.new.self.items c.in_ok-push_back.ensures.items
