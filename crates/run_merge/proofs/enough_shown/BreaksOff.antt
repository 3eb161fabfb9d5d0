-- A task that was refused, or had no ticket, breaks off, by what its call shows.
use Rattle.std.proofs.Common.{◌≡◌, true, sym, ◌∙◌, ap}
use Rattle.run_machine.specs.Laws.{OfNone, object_of}
use Rattle.run_machine.specs.Requests.{Request, Reply}
use Rattle.run_machine.specs.Scene.{Setup}
use Rattle.run_machine.specs.Tasks.{TaskState, request, answered, is_broken}
use Rattle.shared_objects.specs.Calls.{struck}
use Rattle.shared_objects.specs.Logs.{is_stop}
use Rattle.shared_objects.proofs.steps.BrokenRests as tasks
use Rattle.shared_objects.proofs.steps.GlanceStays.{stop_struck}

-- whatever stops a task breaks it off
pub stop_breaks : (setup : Setup) (task : TaskState) (asked : Request) (reply : Reply) → asked ≡ struck (request setup task) → (object_of asked ≡ OfNone → ⊥)
    → is_stop asked reply ≡ true → is_broken (answered setup task reply) ≡ true
stop_breaks setup task asked reply is apart stop =
    let stops : is_stop (request setup task) reply ≡ true = sym (stop_struck (request setup task) reply) ∙ sym (ap (λ a. is_stop a reply) is) ∙ stop in
    tasks.stop_breaks setup task reply (λ rests. apart (ap object_of (is ∙ ap struck rests))) stops
