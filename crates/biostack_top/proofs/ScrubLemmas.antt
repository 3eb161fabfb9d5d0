-- What a scrub compares is what the run of a text leaves, and that is laid out.
use Rattle.std.proofs.Common.{◌≡◌, ◌==◌, ◌<◌, ◌++◌, ℕ, true, List, length, Some, refl, sym, ap, ◌∙◌, subst}
use Rattle.std.specs.Prelude.{Option, Result, find, IsErr, IsSomeAnd, OnErr, OnOk}
use Rattle.outside_io.specs.declared.sink.Sink.{Ghosts as SinkGhosts}
use Rattle.outside_io.specs.Saying.{Writes}
use Rattle.stack_base.specs.Tree.{size, tree}
use Rattle.layout_model.proofs.Stacks.{element}
use Rattle.layout_model.specs.Laid.{IsLaid}
use Rattle.layout_model.specs.Shown.{keeps_data}
use Rattle.decl_text.specs.declared.accepted.Accepted.{Accepted}
use Rattle.work_text.specs.declared.Work.{Work}
use Rattle.model_disks.specs.Disks.{DiskState}
use Rattle.task_core.specs.declared.ended.Ended.{Ended}
use Rattle.run_machine.specs.declared.event.Event.{Event}
use Rattle.run_machine.specs.Scenario.{scenario_of}
use Rattle.block_core.specs.Images.{HasLaidImages}
use Rattle.mirror_scrub.specs.Seen.{AreDisksOf, held}
use Rattle.mirror_scrub.specs.Text.{all_alike, scrub_text}
use Rattle.mirror_scrub.proofs.SeenLemmas.{held_is}
use Rattle.report_text.specs.CheckText.{steps_bound}
use Rattle.report_text.specs.Report.{steps_line}
use Rattle.report_text.specs.Views.{told_of}
use Rattle.biostack_words.specs.declared.order.Order.TheVariants.{Scrub}
use Rattle.biostack_top.specs.declared.ending.Ending.{Ending}
use Rattle.biostack_top.specs.Ending.{EndsWritten, IsOutputOf, TextEndsBy, refusal_for}
use Rattle.biostack_top.specs.Running.{ByNumber, HasRun}
use Rattle.biostack_top.specs.Scene.{TextSays}
use Rattle.biostack_top.specs.Scrubbed.{AreLaidImages}
use Rattle.biostack_top.specs.Streams.{SinkStream}
use Rattle.biostack_top.proofs.LeftDisks.{left_disk}
use Rattle.biostack_top.proofs.RunningLemmas.{every_run, is_told}
use Rattle.biostack_top.proofs.ServeLemmas.{ends_written}
use Rattle.biostack_top.proofs.TraceLemmas.{writes_then}

module _ (text : List ℕ) (accepted : Accepted) (work : Work) (says : TextSays text accepted work) (number : ℕ) (events : List Event) (ended : Ended)
    (has : HasRun (scenario_of accepted work) (ByNumber number) events ended) where
  -- the images of its end
  laid_images : HasLaidImages (scenario_of accepted work) has.state
  laid_images = (every_run text accepted work says has.ledger events has.state has.naming has.run).0.images has.ends

  -- each disk is there
  disk_is : (disk : ℕ) → disk < length accepted.stack.devices.items → keeps_data (tree accepted.stack disk) ≡ true
      → find (λ (d : DiskState). d.dev.0 == disk) ended.disks.items ≡ Some (has.state.objects.disk disk)
  disk_is disk known keeps =
      let device = element accepted.stack.devices.items disk known in
      ap (find (λ (d : DiskState). d.dev.0 == disk)) has.left.disks
      ∙ left_disk has.state.objects has.disks accepted.stack says.stack disk device.0 device.1 keeps

  pub are_disks : AreDisksOf accepted.stack ended.disks.items
  are_disks disk known keeps =
      subst (λ (o : Option DiskState). IsSomeAnd o (λ d. length d.image ≡ size (tree accepted.stack disk))) (sym (disk_is disk known keeps)) (laid_images.sized disk)

  -- and holds what is laid out on it
  pub are_laid : AreLaidImages (scenario_of accepted work) (held ended.disks.items)
  are_laid disk at known keeps within =
      subst (IsLaid accepted.stack work.writes.items work.rounds.items disk at)
      (sym (held_is ended.disks.items disk (has.state.objects.disk disk) (disk_is disk known keeps) at))
      (laid_images.laid disk at within)

  tells_scrub : IsOutputOf (Scrub number) text
      (scrub_text accepted.stack (held ended.disks.items) ++ steps_line ended.steps (steps_bound work.bound)) (all_alike accepted.stack (held ended.disks.items))
  tells_scrub = (
    accepted,
    work,
    events,
    told_of ended (steps_bound work.bound),
    says,
    every_run text accepted work says,
    is_told text accepted work says (ByNumber number) events ended has,
    are_laid,
    refl,
    refl,
  )

module _ {text : List ℕ} {accepted : Accepted} {work : Work} {number : ℕ} {events : List Event} {ended : Ended} (says : TextSays text accepted work)
    (has : HasRun (scenario_of accepted work) (ByNumber number) events ended) where
  -- what is told of the disks of a run, and of its steps
  abbrev told : List DiskState → List ℕ
  told disks = scrub_text accepted.stack (held disks) ++ steps_line ended.steps (steps_bound work.bound)

  -- the one was written, and behind it the other, if that could be
  pub scrub_written : {K E : Type 0} {sink : SinkGhosts K} {a b c : K} {disks : List DiskState} (first second : Result Unit E) → disks ≡ ended.disks.items
      → Writes sink a b first (scrub_text accepted.stack (held disks)) → OnOk first (Writes sink b c second (steps_line ended.steps (steps_bound work.bound)))
      → OnErr first (IsErr second × (c ≡ b)) → Writes sink a c second (told ended.disks.items)
  scrub_written {sink = sink} {a} {b} {c} {disks} first second same wrote then other =
      subst (λ (ds : List DiskState). Writes sink a c second (told ds)) same
      (writes_then (scrub_text accepted.stack (held disks)) (steps_line ended.steps (steps_bound work.bound)) first second wrote then other)

  -- and ends the call so
  pub scrub_ends : {K : Type 0} (out : SinkStream K) (ending : Ending) → EndsWritten ending (told ended.disks.items) (all_alike accepted.stack (held ended.disks.items)) out
      → TextEndsBy ending (Scrub number) text out
  scrub_ends out ending =
      ends_written ending (refusal_for (Scrub number) text) (IsOutputOf (Scrub number) text) (told ended.disks.items) (all_alike accepted.stack (held ended.disks.items)) out
      says.fine (tells_scrub text accepted work says number events ended has)
