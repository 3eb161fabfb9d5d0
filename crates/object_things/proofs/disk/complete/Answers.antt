use Rattle.std.proofs.Common.{rules, ◌≤◌, Ok, Some, sym, ◌∙◌, ap, subst}
use Rattle.bio_records.specs.Items.{item_of}
use Rattle.run_machine.specs.Opened.{device_at}
use Rattle.object_things.specs.Disks.{DiskSays, KeepsChoice, disk_replied}
use Rattle.object_things.specs.Stamps.{stage_in}
use Rattle.object_things.specs.declared.disk.DiskAsk.TheVariants as ask
use Rattle.object_things.specs.declared.disk.DiskSaid.{DiskSaid}
use Rattle.object_things.specs.declared.disk.DiskSaid.TheVariants as says
use Rattle.object_things.specs.declared.stamp.Replied.{Replied}
use Rattle.task_core.proofs.Keeping.{completed_is, waits_there}
use Rattle.object_things.proofs.disk.complete.Goals as goal

pub returns-clause-of : goal.returns-clause-of
returns-clause-of c =
    completed_is (stage_in c.args.stamp.now.common) c.args.disk.now.dev.0 c.min-at.result (item_of c.complete-done.result.el) c.complete-done.result.status c.args.disk.now c.complete-done.new.self c.requires.of
    c.complete-done.ensures.completes

pub returns-clause-says : goal.returns-clause-says
returns-clause-says c =
    let there = waits_there (stage_in c.args.stamp.now.common) c.args.disk.now.dev.0 c.min-at.result (item_of c.complete-done.result.el) c.args.disk.now c.requires.of c.complete-done.ensures.completes.taken in
    let up : c.min-at.result ≤ c.args.index = search rules in
    let is : DiskSays (stage_in c.args.stamp.now.common) (ask.Complete c.args.dev c.args.index) (says.Completed (Ok (Some (c.min-at.result, c.complete-done.result)))) =
    (c.complete-done.ensures.alone, tt, up, (there.0, there.1 ∙ ap device_at (sym c.requires.own))) in
    subst (DiskSays (stage_in c.args.stamp.now.common) (ask.Complete c.args.dev c.args.index)) (sym (ap (λ (r : Replied DiskSaid). r.said) c.reply-2.ensures)) is

pub returns-clause-choice : goal.returns-clause-choice
returns-clause-choice c =
    subst (λ (r : Replied DiskSaid). KeepsChoice (ask.Complete c.args.dev c.args.index) (disk_replied r.said) r.chosen.value) (sym c.reply-2.ensures)
    c.choosing.ensures.chosen
