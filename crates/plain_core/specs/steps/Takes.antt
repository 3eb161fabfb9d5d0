-- Attempts at bios, vectors and records, as tasks see them.
use Rattle.std.specs.Prelude.{◌≡◌, Bool, Option, Some, None, Result, Ok, Err}
use Rattle.stack_base.specs.declared.ids.DevId.{DevId}
use Rattle.stack_base.specs.declared.ids.SetId.{SetId}
use Rattle.stack_base.specs.declared.ids.SetId.TheVariants.{Of}
use Rattle.bio_records.specs.declared.bio.Pad.{Pad}
use Rattle.bio_records.specs.Items.{Item}
use Rattle.bio_books.specs.Books.{VectorItem, SlipItem}
use Rattle.run_machine.specs.declared.event.Got.{Got}
use Rattle.run_machine.specs.declared.event.What.{What}
use Rattle.run_machine.specs.Requests.{Reply, TakeBio, TakeVec, TakeSlip, HadBio, HadVec, HadSlip, Missed}
use Rattle.run_machine.specs.Submissions as submission
use Rattle.plain_core.specs.declared.steps.task.PlainWant.{PlainWant}
use Rattle.plain_core.specs.objects.Plain.{CoreObjects}
use Rattle.plain_core.specs.steps.Views.{want_of_plain}
use Rattle.plain_core.specs.steps.Answers.{IsAnswer, Refuses}
use Rattle.plain_core.specs.declared.fault.CoreFault.{CoreFault}
use Rattle.plain_core.specs.declared.fault.CoreFault.TheVariants as fault
use Rattle.task_steps.specs.Answers.{WantsOn}

-- an attempt at a bio of a set had one, or missed
abbrev pub TakesPart : CoreObjects → SetId → Bool → What → Result (Option (Item Pad)) CoreFault → CoreObjects → Type 0
TakesPart old set waits what (Ok (Some part)) new = (got : Got) × IsAnswer old (TakeBio set waits) what (HadBio got part) new
TakesPart old set waits what (Ok None) new = (used : Bool) × IsAnswer old (TakeBio set waits) what (Missed used) new
TakesPart old set waits what (Err fault.NotEnabled) new = (new ≡ old) × Refuses old (TakeBio set waits) what
TakesPart old set waits what (Err fault.Memory) new = ⊥

-- an attempt at a record of a mirror
abbrev pub TakesSlip : CoreObjects → DevId → What → Result (Option SlipItem) CoreFault → CoreObjects → Type 0
TakesSlip old dev what (Ok (Some slip)) new = (got : Got) × IsAnswer old (TakeSlip dev) what (HadSlip got slip) new
TakesSlip old dev what (Ok None) new = (used : Bool) × IsAnswer old (TakeSlip dev) what (Missed used) new
TakesSlip old dev what (Err fault.NotEnabled) new = (new ≡ old) × Refuses old (TakeSlip dev) what
TakesSlip old dev what (Err fault.Memory) new = ⊥

-- an attempt at a vector
abbrev pub TakesVector : CoreObjects → What → Result (Option VectorItem) CoreFault → CoreObjects → Type 0
TakesVector old what (Ok (Some vector)) new = (got : Got) × IsAnswer old TakeVec what (HadVec got vector) new
TakesVector old what (Ok None) new = (used : Bool) × IsAnswer old TakeVec what (Missed used) new
TakesVector old what (Err fault.NotEnabled) new = (new ≡ old) × Refuses old TakeVec what
TakesVector old what (Err fault.Memory) new = ⊥

abbrev pub TakesWant : CoreObjects → DevId → Bool → What → Result PlainWant CoreFault → CoreObjects → Type 0
TakesWant old dev waits what (Ok want) new =
    (reply : Reply) × IsAnswer old (TakeBio (Of dev) waits) what reply new × WantsOn waits reply (want_of_plain want)
TakesWant old dev waits what (Err fault.NotEnabled) new = (new ≡ old) × Refuses old (TakeBio (Of dev) waits) what
TakesWant old dev waits what (Err fault.Memory) new = ⊥
