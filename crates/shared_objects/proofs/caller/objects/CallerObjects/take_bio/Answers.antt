use Rattle.std.proofs.Common.{sym, subst, rules}
use Rattle.run_machine.specs.Requests.{TakeBio}
use Rattle.task_steps.specs.Views.{took_bio}
use Rattle.object_things.specs.Stamps.{or_unmade}
use Rattle.shared_objects.specs.Desks.{HasCalled}
use Rattle.shared_objects.specs.Holding.{desk_of, stage_at}
use Rattle.shared_objects.proofs.asking.PoolReplies.{bio_served}
use Rattle.shared_objects.proofs.caller.objects.CallerObjects.take_bio.Goals as goal

pub returns-clause-serves : goal.returns-clause-serves
returns-clause-serves g c = (
  subst (λ said. HasCalled (desk_of c.args.self.now.seats.now) (TakeBio c.args.set c.args.waits) (took_bio said) (desk_of c.ask_bios.new.self.seats.now)) (sym c.or_unmade.ensures)
      (bio_served (desk_of c.args.self.now.seats.now) (desk_of c.ask_bios.new.self.seats.now) c.bios_of-pool.result c.in-Took.pool c.in-Took.ensures.says.0 c.args.set c.args.waits
      ((stage_at c.args.self.now.locks.now).ledger c.no.result) (or_unmade c.in-Took.result) c.bios_of-pool.ensures c.in-Took.ensures.says.1 c.in-Took.ensures.called.calls),
  c.in-Took.ensures.called.same,
  c.in-Took.ensures.called.lent,
)
