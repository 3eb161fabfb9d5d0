-- Steps of submissions, of what their calls answered.
use Rattle.std.proofs.Common.{◌≡◌, ◌+◌, ℕ, true, refl, sym, ap, ◌∙◌, subst, None, Some, Ok, Err}
use Rattle.stack_base.specs.declared.ids.DevId.{DevId}
use Rattle.stack_base.specs.declared.ids.SetId.TheVariants.{Of}
use Rattle.stack_base.specs.Tree.{tree}
use Rattle.bio_records.specs.declared.bio.Bio.{Bio}
use Rattle.bio_records.specs.declared.bio.Pad.{Pad}
use Rattle.bio_records.specs.declared.tasks.TaskLists.{TaskLists}
use Rattle.bio_records.specs.Items.{Item}
use Rattle.bio_lists.specs.Submission.{submitted}
use Rattle.bio_lists.specs.Punt.{punted, unpunted}
use Rattle.bio_books.specs.Books.{SlipItem}
use Rattle.bio_books.specs.Links.{Made}
use Rattle.run_machine.specs.declared.event.What.{What}
use Rattle.run_machine.specs.Requests.{Chain, Master, Leg, Punt, TakeSlip, HadSlip, Missed, Did, LinkedTo}
use Rattle.run_machine.specs.Submissions as submission
use Rattle.task_steps.specs.Routed.{Routing, routing_setup}
use Rattle.plain_core.specs.declared.steps.task.DriverAsk.{DriverAsk}
use Rattle.plain_core.specs.declared.steps.task.DriverAsk.TheVariants as ask
use Rattle.plain_core.specs.declared.steps.task.PlainWant.{PlainWant}
use Rattle.plain_core.specs.declared.steps.task.PlainWant.TheVariants as want
use Rattle.plain_core.specs.declared.steps.submission.Continuation.{Continuation}
use Rattle.plain_core.specs.declared.steps.submission.Continuation.TheVariants as next
use Rattle.plain_core.specs.declared.steps.task.Copying.{Copying}
use Rattle.plain_core.specs.objects.Plain.{CoreObjects}
use Rattle.plain_core.specs.objects.Told.{Punts, Pushes, LinksWithRoom}
use Rattle.plain_core.specs.steps.Views.{want_of_plain, ask_of_plain}
use Rattle.plain_core.specs.steps.Answers.{IsAnswer, Lacks}
use Rattle.plain_core.specs.steps.Takes.{TakesSlip}
use Rattle.plain_core.specs.steps.Submissions.{SubmissionSteps, turned, cuts_for, drives_for, copies_for}
use Rattle.plain_core.specs.declared.fault.CoreFault.{CoreFault}
use Rattle.plain_core.specs.declared.fault.CoreFault.TheVariants as fault
use Rattle.plain_core.proofs.object_lemmas.Served.{push, joined, punt_answer, punt_failed, push_failed, join_failed}

-- a request of a submission that was not answered
failed : (r : Routing) (old new : CoreObjects) (doing : submission.Doing) (lists rest : TaskLists) (what : What) (e : CoreFault) → rest ≡ lists
    → Lacks old (submission.submission_request (routing_setup r) doing lists) what e new → SubmissionSteps r old doing lists what (Err e) new doing rest
failed r old new doing lists rest what fault.NotEnabled same f = (f.0, refl, same, f.1)
failed r old new doing lists rest what fault.Memory same f = (f.0, refl, same, f.1)

-- a punt, as an answer
punted_to : (old new : CoreObjects) (lists rest : TaskLists) (dev other : DevId) (what : What) → dev ≡ other → Punts old lists dev what (Ok (tt {0})) new rest
    → IsAnswer old (Punt other (punted (Of other) lists)) what Did new × (rest ≡ unpunted (Of other) lists)
punted_to old new lists rest dev other what is p =
    let q = subst (λ d. Punts old lists d what (Ok (tt {0})) new rest) is p in
    (punt_answer old new other lists what q.0 q.1 q.2, q.3)

pub cut_punted : (r : Routing) (old new : CoreObjects) (part : Item Pad) (w : PlainWant) (lists rest : TaskLists) (what : What) (dev : DevId) (n : Continuation) (after : submission.Want)
    → w ≡ want.Punts → dev ≡ part.bio.dev → Punts old lists dev what (Ok (tt {0})) new rest → n ≡ next.Stays → after ≡ submission.Takes true
    → SubmissionSteps r old (cuts_for part (want_of_plain w)) lists what (Ok n) new (cuts_for part after) rest
cut_punted r old new part w lists rest what dev n after is_want is_dev p stays takes =
    let q = punted_to old new lists rest dev part.bio.dev what is_dev p in
    subst (λ m. SubmissionSteps r old (cuts_for part (want_of_plain w)) lists what (Ok m) new (cuts_for part after) rest) (sym stays)
    (subst (λ v. SubmissionSteps r old (cuts_for part (want_of_plain v)) lists what (Ok next.Stays) new (cuts_for part after) rest) (sym is_want)
    (Did, q.0, λ k. record { doing = cuts_for part (sym takes k); lists = sym q.1 k }))

pub cut_not_punted : (r : Routing) (old new : CoreObjects) (part : Item Pad) (w : PlainWant) (lists rest : TaskLists) (what : What) (dev : DevId) (e : CoreFault)
    → w ≡ want.Punts → dev ≡ part.bio.dev → Punts old lists dev what (Err e) new rest
    → SubmissionSteps r old (cuts_for part (want_of_plain w)) lists what (Err e) new (cuts_for part (want_of_plain w)) rest
cut_not_punted r old new part w lists rest what dev e is_want is_dev p =
    let q = punt_failed old new dev part.bio.dev lists rest what e is_dev p in
    subst (λ v. SubmissionSteps r old (cuts_for part (want_of_plain v)) lists what (Err e) new (cuts_for part (want_of_plain v)) rest) (sym is_want)
    (failed r old new (cuts_for part submission.WantsPunt) lists rest what e q.1 q.0)

pub copy_not_punted : (r : Routing) (old new : CoreObjects) (copying : Copying) (w : PlainWant) (lists rest : TaskLists) (what : What) (e : CoreFault)
    → w ≡ want.Punts → Punts old lists copying.bio.dev what (Err e) new rest
    → SubmissionSteps r old (copies_for copying (want_of_plain w)) lists what (Err e) new (copies_for copying (want_of_plain w)) rest
copy_not_punted r old new copying w lists rest what e is_want p =
    let q = punt_failed old new copying.bio.dev copying.bio.dev lists rest what e refl p in
    subst (λ v. SubmissionSteps r old (copies_for copying (want_of_plain v)) lists what (Err e) new (copies_for copying (want_of_plain v)) rest) (sym is_want)
    (failed r old new (copies_for copying submission.WantsPunt) lists rest what e q.1 q.0)

pub copy_punted : (r : Routing) (old new : CoreObjects) (copying : Copying) (w : PlainWant) (lists rest : TaskLists) (what : What) (n : Continuation) (after : submission.Want)
    → w ≡ want.Punts → Punts old lists copying.bio.dev what (Ok (tt {0})) new rest → n ≡ next.Stays → after ≡ submission.Takes true
    → SubmissionSteps r old (copies_for copying (want_of_plain w)) lists what (Ok n) new (copies_for copying after) rest
copy_punted r old new copying w lists rest what n after is_want p stays takes =
    let q = punted_to old new lists rest copying.bio.dev copying.bio.dev what refl p in
    subst (λ m. SubmissionSteps r old (copies_for copying (want_of_plain w)) lists what (Ok m) new (copies_for copying after) rest) (sym stays)
    (subst (λ v. SubmissionSteps r old (copies_for copying (want_of_plain v)) lists what (Ok next.Stays) new (copies_for copying after) rest) (sym is_want)
    (Did, q.0, λ k. record { doing = copies_for copying (sym takes k); lists = sym q.1 k }))

-- A link. The lists are the same behind the room that is made in them.
pub cut_linked : (r : Routing) (old new : CoreObjects) (part hand : Item Pad) (w : PlainWant) (lists wide rest : TaskLists) (what : What) (after : submission.Doing) (bio : Bio) (node : ℕ)
    → w ≡ want.Links hand → bio ≡ part.bio → wide ≡ lists
    → submission.cut_at (routing_setup r) wide part hand node (tree r.stack part.bio.dev.0) ≡ submission.goes_on (routing_setup r) part.bio.dev rest
    → LinksWithRoom old bio.writer (Chain bio.node) what (Ok node) new
    → SubmissionSteps r old (cuts_for part (want_of_plain w)) lists what (Ok (next.Returns bio.dev)) new after rest
cut_linked r old new part hand w lists wide rest what after bio node is_want is_bio same is_after l =
    let m = subst (λ (b : Bio). LinksWithRoom old b.writer (Chain b.node) what (Ok node) new) is_bio l in
    subst (λ v. SubmissionSteps r old (cuts_for part (want_of_plain v)) lists what (Ok (next.Returns bio.dev)) new after rest) (sym is_want) (
      LinkedTo (Made node),
      joined old new part.bio.writer node (Chain part.bio.node) what m,
      ap (λ ls. submission.cut_at (routing_setup r) ls part hand node (tree r.stack part.bio.dev.0)) (sym same) ∙ is_after ∙ ap (λ (b : Bio). submission.goes_on (routing_setup r) b.dev rest) (sym is_bio),
    )

pub cut_not_linked : (r : Routing) (old new : CoreObjects) (part hand : Item Pad) (w : PlainWant) (lists rest : TaskLists) (what : What) (bio : Bio) (e : CoreFault)
    → w ≡ want.Links hand → bio ≡ part.bio → rest ≡ lists → LinksWithRoom old bio.writer (Chain bio.node) what (Err e) new
    → SubmissionSteps r old (cuts_for part (want_of_plain w)) lists what (Err e) new (cuts_for part (submission.Links hand)) rest
cut_not_linked r old new part hand w lists rest what bio e is_want is_bio same l =
    let m = subst (λ (b : Bio). LinksWithRoom old b.writer (Chain b.node) what (Err e) new) is_bio l in
    subst (λ v. SubmissionSteps r old (cuts_for part (want_of_plain v)) lists what (Err e) new (cuts_for part (submission.Links hand)) rest) (sym is_want)
    (failed r old new (cuts_for part (submission.Links hand)) lists rest what e same (join_failed old new part.bio.writer (Chain part.bio.node) what e m))

pub copy_linked : (r : Routing) (old new : CoreObjects) (copying : Copying) (hand : Item Pad) (w : PlainWant) (lists wide rest : TaskLists) (what : What) (n : Continuation) (after : submission.Doing) (node : ℕ)
    → w ≡ want.Links hand → wide ≡ lists → rest ≡ submitted (submission.leg_at copying.bio hand copying.leg node (tree r.stack copying.bio.dev.0)) wide
    → submission.copies (routing_setup r) rest copying.bio copying.master (copying.leg + 1) ≡ turned (routing_setup r) after rest n
    → LinksWithRoom old copying.bio.writer (Leg copying.master) what (Ok node) new → SubmissionSteps r old (copies_for copying (want_of_plain w)) lists what (Ok n) new after rest
copy_linked r old new copying hand w lists wide rest what n after node is_want same is_rest is_after l =
    subst (λ v. SubmissionSteps r old (copies_for copying (want_of_plain v)) lists what (Ok n) new after rest) (sym is_want) (
      LinkedTo (Made node),
      joined old new copying.bio.writer node (Leg copying.master) what l,
      ap (λ ls. submission.copies (routing_setup r) ls copying.bio copying.master (copying.leg + 1))
          (sym (is_rest ∙ ap (submitted (submission.leg_at copying.bio hand copying.leg node (tree r.stack copying.bio.dev.0))) same)) ∙ is_after,
    )

pub copy_not_linked : (r : Routing) (old new : CoreObjects) (copying : Copying) (hand : Item Pad) (w : PlainWant) (lists rest : TaskLists) (what : What) (e : CoreFault)
    → w ≡ want.Links hand → rest ≡ lists → LinksWithRoom old copying.bio.writer (Leg copying.master) what (Err e) new
    → SubmissionSteps r old (copies_for copying (want_of_plain w)) lists what (Err e) new (copies_for copying (submission.Links hand)) rest
copy_not_linked r old new copying hand w lists rest what e is_want same l =
    subst (λ v. SubmissionSteps r old (copies_for copying (want_of_plain v)) lists what (Err e) new (copies_for copying (submission.Links hand)) rest) (sym is_want)
    (failed r old new (copies_for copying (submission.Links hand)) lists rest what e same (join_failed old new copying.bio.writer (Leg copying.master) what e l))

pub drive_pushed : (r : Routing) (old new : CoreObjects) (part : Item Pad) (a : DriverAsk) (lists rest : TaskLists) (what : What) (after : submission.Doing) (dev : DevId)
    → a ≡ ask.ToPush → dev ≡ part.bio.dev → rest ≡ lists → Pushes old part what (Ok (tt {0})) new
    → SubmissionSteps r old (drives_for part (ask_of_plain a)) lists what (Ok (next.Returns dev)) new after rest
drive_pushed r old new part a lists rest what after dev is_ask is_dev same p =
    subst (λ v. SubmissionSteps r old (drives_for part (ask_of_plain v)) lists what (Ok (next.Returns dev)) new after rest) (sym is_ask)
    (Did, push old new part what p, ap (λ d. submission.goes_on (routing_setup r) d lists) (sym is_dev) ∙ ap (submission.goes_on (routing_setup r) dev) (sym same))

pub drive_not_pushed : (r : Routing) (old new : CoreObjects) (part : Item Pad) (a : DriverAsk) (lists rest : TaskLists) (what : What) (e : CoreFault)
    → a ≡ ask.ToPush → rest ≡ lists → Pushes old part what (Err e) new
    → SubmissionSteps r old (drives_for part (ask_of_plain a)) lists what (Err e) new (drives_for part (ask_of_plain a)) rest
drive_not_pushed r old new part a lists rest what e is_ask same p =
    subst (λ v. SubmissionSteps r old (drives_for part (ask_of_plain v)) lists what (Err e) new (drives_for part (ask_of_plain v)) rest) (sym is_ask)
    (failed r old new (drives_for part submission.ToPush) lists rest what e same (push_failed old new part what e p))

pub drive_mastered : (r : Routing) (old new : CoreObjects) (part : Item Pad) (slip : SlipItem) (a : DriverAsk) (lists rest : TaskLists) (what : What) (after : submission.Doing) (bio : Bio) (legs node : ℕ)
    → a ≡ ask.ToMaster slip → bio ≡ part.bio → legs ≡ submission.legs_of (tree r.stack part.bio.dev.0) → rest ≡ lists
    → LinksWithRoom old part.bio.writer (Master part.bio.node part slip legs) what (Ok node) new
    → SubmissionSteps r old (drives_for part (ask_of_plain a)) lists what (Ok (next.Copies bio node)) new after rest
drive_mastered r old new part slip a lists rest what after bio legs node is_ask is_bio is_legs same l =
    let m = subst (λ n. LinksWithRoom old part.bio.writer (Master part.bio.node part slip n) what (Ok node) new) is_legs l in
    subst (λ v. SubmissionSteps r old (drives_for part (ask_of_plain v)) lists what (Ok (next.Copies bio node)) new after rest) (sym is_ask) (
      LinkedTo (Made node),
      joined old new part.bio.writer node (Master part.bio.node part slip (submission.legs_of (tree r.stack part.bio.dev.0))) what m,
      ap (λ (b : Bio). submission.copies (routing_setup r) lists b node 0) (sym is_bio) ∙ ap (λ ls. submission.copies (routing_setup r) ls bio node 0) (sym same),
    )

pub drive_not_mastered : (r : Routing) (old new : CoreObjects) (part : Item Pad) (slip : SlipItem) (a : DriverAsk) (lists rest : TaskLists) (what : What) (legs : ℕ) (e : CoreFault)
    → a ≡ ask.ToMaster slip → legs ≡ submission.legs_of (tree r.stack part.bio.dev.0) → rest ≡ lists
    → LinksWithRoom old part.bio.writer (Master part.bio.node part slip legs) what (Err e) new
    → SubmissionSteps r old (drives_for part (ask_of_plain a)) lists what (Err e) new (drives_for part (submission.ToMaster slip)) rest
drive_not_mastered r old new part slip a lists rest what legs e is_ask is_legs same l =
    let m = subst (λ n. LinksWithRoom old part.bio.writer (Master part.bio.node part slip n) what (Err e) new) is_legs l in
    subst (λ v. SubmissionSteps r old (drives_for part (ask_of_plain v)) lists what (Err e) new (drives_for part (submission.ToMaster slip)) rest) (sym is_ask)
    (failed r old new (drives_for part (submission.ToMaster slip)) lists rest what e same
    (join_failed old new part.bio.writer (Master part.bio.node part slip (submission.legs_of (tree r.stack part.bio.dev.0))) what e m))

pub drive_missed : (r : Routing) (old new : CoreObjects) (part : Item Pad) (a : DriverAsk) (lists : TaskLists) (what : What) (dev : DevId)
    → a ≡ ask.ToRecord → dev ≡ part.bio.dev → TakesSlip old dev what (Ok None) new
    → SubmissionSteps r old (drives_for part (ask_of_plain a)) lists what (Ok next.Stays) new (drives_for part (ask_of_plain a)) lists
drive_missed r old new part a lists what dev is_ask is_dev t =
    subst (λ v. SubmissionSteps r old (drives_for part (ask_of_plain v)) lists what (Ok next.Stays) new (drives_for part (ask_of_plain v)) lists) (sym is_ask)
    (Missed t.0, subst (λ d. IsAnswer old (TakeSlip d) what (Missed t.0) new) is_dev t.1, refl)

pub drive_recorded : (r : Routing) (old new : CoreObjects) (part : Item Pad) (slip : SlipItem) (a : DriverAsk) (lists : TaskLists) (what : What) (dev : DevId)
    → a ≡ ask.ToRecord → dev ≡ part.bio.dev → TakesSlip old dev what (Ok (Some slip)) new
    → SubmissionSteps r old (drives_for part (ask_of_plain a)) lists what (Ok next.Stays) new (drives_for part (submission.ToMaster slip)) lists
drive_recorded r old new part slip a lists what dev is_ask is_dev t =
    subst (λ v. SubmissionSteps r old (drives_for part (ask_of_plain v)) lists what (Ok next.Stays) new (drives_for part (submission.ToMaster slip)) lists) (sym is_ask)
    (HadSlip t.0 slip, subst (λ d. IsAnswer old (TakeSlip d) what (HadSlip t.0 slip) new) is_dev t.1, refl)
