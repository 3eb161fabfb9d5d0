use Rattle.std.proofs.Common.{sym, ap, subst}
use Rattle.bio_records.specs.Items.{item_of}
use Rattle.run_machine.specs.Requests.{Pop}
use Rattle.task_steps.specs.Stage.{Owes}
use Rattle.object_things.specs.Lists.{list_replied}
use Rattle.object_things.specs.Stamps.{stage_in}
use Rattle.object_things.specs.declared.list.ListSaid.{ListSaid}
use Rattle.object_things.specs.declared.stamp.Replied.{Replied}
use Rattle.object_things.proofs.Pops.{first_served, rest_served}
use Rattle.object_things.proofs.list.pop.Goals as goal

pub returns-clause-owed : goal.returns-clause-owed
returns-clause-owed c =
    subst (λ said. Owes (stage_in c.args.stamp.now.common) (Pop c.args.dev) (list_replied said)) (sym (ap (λ (r : Replied ListSaid). r.said) c.reply-2.ensures))
    (first_served (stage_in c.args.stamp.now.common) (item_of c.in-Some-pop.el) c.pop.new.self.bios c.args.list.now.bios c.in-Some-pop.ensures.bios.0 c.requires.of)

pub returns-clause-of : goal.returns-clause-of
returns-clause-of c =
    rest_served (stage_in c.args.stamp.now.common) (item_of c.in-Some-pop.el) c.pop.new.self.bios c.args.list.now.bios c.in-Some-pop.ensures.bios.0 c.requires.of
