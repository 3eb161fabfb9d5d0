-- What a text that was read makes of the call.
use Rattle.std.proofs.Common.{◌≡◌, ℕ, Bool, List, true, false, true≢false, Option, None, refl, sym, ap, ◌∙◌, subst}
use Rattle.std.specs.Prelude.{Result, Ok, Err}
use Rattle.std.specs.Io.KnownBytes.{Appends}
use Rattle.outside_io.specs.Causes.{Rose}
use Rattle.outside_io.specs.declared.sink.Sink.{Ghosts as SinkGhosts}
use Rattle.outside_io.specs.Saying.{AppendsFront, StopsAtFault, Writes}
use Rattle.biostack_words.specs.declared.order.Order.{Order}
use Rattle.biostack_words.specs.declared.order.Order.TheVariants.{Run, Workers, Check, Layout, Gen, Replay, Scrub}
use Rattle.work_text.specs.Whole.{text_refusal}
use Rattle.work_text.proofs.GeneratedTexts.{never_refused}
use Rattle.biostack_top.specs.Orders.{is_shown}
use Rattle.decl_text.specs.declared.reason.Refusal.{Refusal}
use Rattle.biostack_top.specs.declared.ending.Ending.{Ending}
use Rattle.biostack_top.specs.declared.ending.Ending.TheVariants.{Usage, ReadFault, Memory, Refused, WriteFault, Done, NotAllWell}
use Rattle.bio_workers.specs.Gates.{Showing}
use Rattle.biostack_top.specs.Ending.{EndsWith, EndsWritten, SharedEndsBy, IsOutputOf, TellsShown, refusal_for}
use Rattle.biostack_top.specs.Streams.{SinkStream}
use Rattle.biostack_top.specs.Input.{IsMadeText, made_by}

-- a text that a number made is shown whole, and is not refused
pub shown_is : (order : Order) (text : List ℕ) → is_shown order ≡ true → IsMadeText (made_by order) text → (refusal_for order text ≡ None) × IsOutputOf order text text true
shown_is (Gen number true) text is made = (ap text_refusal made ∙ never_refused number, (refl, refl))
shown_is (Gen number false) text is made = absurd (true≢false (sym is))
shown_is (Run number trace) text is made = absurd (true≢false (sym is))
shown_is (Workers n trace) text is made = absurd (true≢false (sym is))
shown_is Check text is made = absurd (true≢false (sym is))
shown_is Layout text is made = absurd (true≢false (sym is))
shown_is Replay text is made = absurd (true≢false (sym is))
shown_is (Scrub number) text is made = absurd (true≢false (sym is))

-- a text that was written, by how that ended
pub written_whole : {K E : Type 0} {sink : SinkGhosts K} {a b : K} {text : List ℕ} {result : Result Unit E} {done : Unit}
    → result ≡ Ok done → Writes sink a b result text → (sink.faults b ≡ sink.faults a) × Appends (sink.held a) (sink.held b) text
written_whole {E = E} {sink} {a} {b} {text} is written =
    let whole = subst (λ (r : Result Unit E). Writes sink a b r text) is written in (whole.cause.quiet, whole.whole)

pub written_front : {K E : Type 0} {sink : SinkGhosts K} {a b : K} {text : List ℕ} {result : Result Unit E} {fault : E}
    → result ≡ Err fault → Writes sink a b result text
    → Rose (sink.faults a) (sink.faults b) × StopsAtFault sink a b × AppendsFront (sink.held a) (sink.held b) text
written_front {E = E} {sink} {a} {b} {text} is written =
    let front = subst (λ (r : Result Unit E). Writes sink a b r text) is written in (front.cause.failed, front.stops, front.front)

-- all that is told of a text was written, or a front of it
pub ends_written : {K : Type 0} (ending : Ending) (first : Option Refusal) (tells : List ℕ → Bool → Type 0) (told : List ℕ) (well : Bool) (out : SinkStream K)
    → first ≡ None → tells told well → EndsWritten ending told well out → EndsWith ending first tells out
ends_written WriteFault first tells told well out fine is written = (written.0, written.1, fine, (told, well, is, written.2))
ends_written Done first tells told well out fine is written = (written.1, fine, (told, subst (tells told) written.0 is, written.2))
ends_written NotAllWell first tells told well out fine is written = (written.1, fine, (told, subst (tells told) written.0 is, written.2))
ends_written Usage first tells told well out fine is written = absurd written
ends_written ReadFault first tells told well out fine is written = absurd written
ends_written Memory first tells told well out fine is written = absurd written
ends_written (Refused refusal) first tells told well out fine is written = absurd written

-- of a text that threads have run
pub ends_shared : {K : Type 0} (ending : Ending) (trace : Bool) (shown : Option Showing) (text told : List ℕ) (well : Bool) (out : SinkStream K)
    → text_refusal text ≡ None → TellsShown trace shown text told well → EndsWritten ending told well out → SharedEndsBy ending trace shown text out
ends_shared WriteFault trace shown text told well out fine is written =
    ends_written WriteFault (text_refusal text) (TellsShown trace shown text) told well out fine is written
ends_shared Done trace shown text told well out fine is written =
    ends_written Done (text_refusal text) (TellsShown trace shown text) told well out fine is written
ends_shared NotAllWell trace shown text told well out fine is written =
    ends_written NotAllWell (text_refusal text) (TellsShown trace shown text) told well out fine is written
ends_shared Usage trace shown text told well out fine is written = absurd written
ends_shared ReadFault trace shown text told well out fine is written = absurd written
ends_shared Memory trace shown text told well out fine is written = absurd written
ends_shared (Refused refusal) trace shown text told well out fine is written = absurd written
