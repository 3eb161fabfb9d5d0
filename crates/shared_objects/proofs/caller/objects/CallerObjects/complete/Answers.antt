use Rattle.std.proofs.Common.{arith}
use Rattle.object_things.specs.Stamps.{or_unmade}
use Rattle.shared_objects.specs.Holding.{desk_of}
use Rattle.shared_objects.proofs.asking.DiskChoices.{none_waits, some_waited}
use Rattle.shared_objects.proofs.caller.objects.CallerObjects.complete.Goals as goal

pub returns-then-pending-eq0-clause-chosen : goal.returns-then-pending-eq0-clause-chosen
returns-then-pending-eq0-clause-chosen g c =
    none_waits g.C.Chooser.chooses c.args.disk (desk_of c.args.self.now.seats.now) (desk_of c.look_at-pending.new.self.seats.now) c.look_at-pending.result
    c.args.chooser.now c.look_at-pending.ensures.called.calls c.if-pending-eq0.true

pub returns-clause-chosen : goal.returns-clause-chosen
returns-clause-chosen g c =
    some_waited g.C.Chooser.chooses c.args.disk (desk_of c.args.self.now.seats.now) (desk_of c.look_at-pending.new.self.seats.now) c.look_at-pending.result
    c.args.chooser.now c.look_at-pending.ensures.called.calls (omega (arith, c.if-pending-eq0.false)) c.choose-index.result
    (desk_of c.complete_at.new.self.seats.now) c.choose-index.new.self
    c.choose-index.ensures.chooses c.or_unmade.result (or_unmade c.complete_at.result) c.or_unmade.ensures
    c.complete_at.ensures.called.called.calls c.complete_at.ensures.says.2 c.complete_at.ensures.called.choice
