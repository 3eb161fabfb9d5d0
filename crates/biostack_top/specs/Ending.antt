-- How a call of the program may end, and what stands then.
use Rattle.std.specs.Prelude.{◌≡◌, ◌⊎◌, All, Bool, true, false, List, [], ◌∷◌, ◌++◌, ℕ, length, codes, decimal, Option, None, Some, is_some, Result, Ok, Err}
use Rattle.std.specs.List.{list_all}
use Rattle.std.specs.Io.KnownBytes.{Appends}
use Rattle.stack_base.specs.declared.ids.Status.{Status}
use Rattle.stack_base.specs.declared.ids.Status.TheVariants.{Ok as no_error}
use Rattle.stack_base.specs.Fault.{status_eq}
use Rattle.layout_model.specs.declared.fragment.Fragment.{Fragment}
use Rattle.outside_io.specs.declared.source.Failed.{Failed}
use Rattle.outside_io.specs.Reading.{IsRead}
use Rattle.outside_io.specs.Saying.{AppendsFront, StopsAtFault, Writes, joined_text}
use Rattle.decl_text.specs.Reasons.{name_of_number}
use Rattle.decl_text.specs.declared.accepted.Accepted.{Accepted}
use Rattle.decl_text.specs.declared.reason.Refusal.{Refusal}
use Rattle.run_machine.specs.declared.event.Event.{Event}
use Rattle.work_text.specs.declared.Work.{Work}
use Rattle.work_text.specs.Whole.{text_refusal}
use Rattle.report_text.specs.Report.{Reported, gen_text, report, steps_line}
use Rattle.run_machine.specs.Named.{FitsEvent}
use Rattle.run_machine.specs.Scenario.{scenario_of}
use Rattle.bio_workers.specs.Gates.{Showing}
use Rattle.mirror_scrub.specs.Seen.{images_of}
use Rattle.mirror_scrub.specs.Text.{all_alike, scrub_text}
use Rattle.biostack_top.specs.Scrubbed.{AreLaidImages}
use Rattle.report_text.specs.CheckText.{check_text, steps_bound}
use Rattle.report_text.specs.LayoutText.{layout_text}
use Rattle.report_text.specs.Views.{told_of}
use Rattle.task_core.specs.declared.ended.Ended.{Ended}
use Rattle.biostack_words.specs.declared.order.Order.{Order}
use Rattle.biostack_words.specs.declared.order.Order.TheVariants.{Run, Workers, Check, Layout, Gen, Replay, Scrub}
use Rattle.biostack_top.specs.Input.{HasNoInput, IsGivenText, IsInput, limit, made_by}
use Rattle.biostack_top.specs.LayoutText.{AreLaid}
use Rattle.biostack_words.specs.Grammar.{order_meant}
use Rattle.biostack_top.specs.Orders.{is_alone}
use Rattle.biostack_top.specs.Replaying.{TellsReplay, replay_refusal}
use Rattle.biostack_top.specs.Running.{ByNumber, ByThreads, EveryRunOfTextIsAsClaimed, IsShownOf, IsRunTold, Maker, sectors_of_writes}
use Rattle.biostack_top.specs.Scene.{TextSays}
use Rattle.biostack_top.specs.Streams.{CallStreams, SinkFails, SinkStays, SinkStream, SourceFails, SourceStays, sink_stream}
use Rattle.biostack_top.specs.Tracing.{traced}
use Rattle.biostack_top.specs.declared.scene.Scene.{Scene}
use Rattle.biostack_top.specs.declared.ending.Ending.{Ending}
use Rattle.biostack_top.specs.declared.ending.Ending.TheVariants.{Usage, ReadFault, Memory, Refused, WriteFault, Done, NotAllWell}

abbrev pub exit_of : Ending → ℕ
exit_of Done = 0
exit_of NotAllWell = 1
exit_of Usage = 2
exit_of (Refused refusal) = 3
exit_of ReadFault = 4
exit_of WriteFault = 5
exit_of Memory = 6

-- `biostack: line L: NUMBER NAME`
abbrev pub refusal_text : Refusal → List ℕ → List ℕ
refusal_text refusal name =
    joined_text (codes "biostack: line " ∷ decimal refusal.line ∷ codes ": " ∷ decimal refusal.number ∷ codes " " ∷ name ∷ codes "\n" ∷ [])

abbrev pub refusal_line : Refusal → List ℕ
refusal_line refusal = refusal_text refusal (name_of_number refusal.number)

-- the line on errors
abbrev pub error_line : Ending → List ℕ
error_line Done = []
error_line NotAllWell = []
error_line Usage = codes "biostack: usage: run [--seed N | --workers N] [--trace] | check | layout | gen N [--text] | replay | scrub [--seed N]\n"
error_line (Refused refusal) = refusal_line refusal
error_line ReadFault = codes "biostack: read fault\n"
error_line WriteFault = codes "biostack: write fault\n"
error_line Memory = codes "biostack: want of memory\n"

-- whether each write ended well
abbrev pub all_well : List Status → Bool
all_well statuses = list_all (λ end. status_eq end no_error) statuses

-- This is told of the run of a text that was made so, and whether each write of it ended well: its lines, where there is a
-- trace, and the report of what it left. Each of the lines is read back as its event, which has numbers that fit its fields.
abbrev pub TellsRun : Maker → Bool → List ℕ → List ℕ → Bool → Type 0
TellsRun maker trace text told well =
    (accepted : Accepted) × (work : Work) × (events : List Event) × (left : Reported)
    × TextSays text accepted work × EveryRunOfTextIsAsClaimed accepted work × IsRunTold accepted work maker events left × (trace ≡ true → All FitsEvent events)
    × (told ≡ traced trace accepted.stack events ++ report accepted.stack left) × (well ≡ all_well left.statuses)

-- What is written of a text, and whether all is well: the lines of a run, where there is a trace, and the report of what it left; the devices of
-- the text and what it needs; its fragments; the text itself, where a number made it, or what a run of that left; what its lines of events come
-- to; or where the members of mirrors differ behind a run, and its steps.
abbrev pub IsOutputOf : Order → List ℕ → List ℕ → Bool → Type 0
IsOutputOf (Run number trace) text told well = TellsRun (ByNumber number) trace text told well
IsOutputOf Check text told well =
    (accepted : Accepted) × (work : Work) × TextSays text accepted work × (told ≡ check_text accepted.stack work.bound) × (well ≡ true)
IsOutputOf Layout text told well =
    (accepted : Accepted) × (work : Work) × (fragments : List Fragment)
    × TextSays text accepted work × AreLaid accepted.stack 0 work.writes.items fragments × (told ≡ layout_text accepted.stack fragments) × (well ≡ true)
IsOutputOf (Gen number true) text told well = (told ≡ text) × (well ≡ true)
IsOutputOf (Gen number false) text told well =
    (accepted : Accepted) × (work : Work) × (events : List Event) × (left : Reported)
    × TextSays text accepted work × EveryRunOfTextIsAsClaimed accepted work × IsRunTold accepted work (ByNumber number) events left
    × (told ≡ gen_text number (length work.writes.items) (sectors_of_writes work.writes.items) accepted.stack left) × (well ≡ true)
IsOutputOf (Workers n trace) text told well = ⊥
IsOutputOf Replay text told well = TellsReplay text told well
IsOutputOf (Scrub number) text told well =
    (accepted : Accepted) × (work : Work) × (events : List Event) × (left : Reported)
    × TextSays text accepted work × EveryRunOfTextIsAsClaimed accepted work × IsRunTold accepted work (ByNumber number) events left
    × AreLaidImages (scenario_of accepted work) (images_of left.disks)
    × (told ≡ scrub_text accepted.stack (images_of left.disks) ++ steps_line left.steps left.bound)
    × (well ≡ all_alike accepted.stack (images_of left.disks))

-- what refuses the text of an order, if anything does
abbrev pub refusal_for : Order → List ℕ → Option Refusal
refusal_for Replay text = replay_refusal text
refusal_for order text = text_refusal text

-- All that is told of a text was written, and all is well, or it is not; or the output failed, and has a front of it and
-- nothing behind the fault.
abbrev pub EndsWritten : {K : Type 0} → Ending → List ℕ → Bool → SinkStream K → Type 0
EndsWritten WriteFault told well out = SinkFails out × StopsAtFault out.of out.old out.new × AppendsFront (out.of.held out.old) (out.of.held out.new) told
EndsWritten Done told well out = (well ≡ true) × (out.of.faults out.new ≡ out.of.faults out.old) × Appends (out.of.held out.old) (out.of.held out.new) told
EndsWritten NotAllWell told well out = (well ≡ false) × (out.of.faults out.new ≡ out.of.faults out.old) × Appends (out.of.held out.old) (out.of.held out.new) told
EndsWritten ending told well out = ⊥

-- the report of what a run of the scene left
abbrev pub report_left : Scene → Ended → List ℕ
report_left scene ended = report scene.accepted.stack (told_of ended (steps_bound scene.work.bound))

-- A call ends so, whose lines before this step ended so: behind them is the report, whatever they are.
abbrev pub EndsReported : {K : Type 0} → Ending → Result Unit Failed → Scene → Ended → SinkStream K → Type 0
EndsReported {K} ending traced scene ended out =
    (before : K) (lines : List ℕ) → Writes out.of before out.old traced lines
    → EndsWritten ending (lines ++ report_left scene ended) (all_well ended.statuses.items) (sink_stream out.of before out.new)

-- a text has no refusal, and all that is told of it was written, without a fault; all of it is well, or it is not
abbrev pub WritesAll : {K : Type 0} → Option Refusal → (List ℕ → Bool → Type 0) → Bool → SinkStream K → Type 0
WritesAll first tells well out =
    (out.of.faults out.new ≡ out.of.faults out.old) × (first ≡ None) × ((told : List ℕ) × tells told well × Appends (out.of.held out.old) (out.of.held out.new) told)

-- A text, by its first refusal and by what is told of it, ends a call so only where this holds of the output: it is refused, or there was no
-- memory, and nothing was written; or all that is told was, or a front of it where the output failed, and nothing behind the fault.
abbrev pub EndsWith : {K : Type 0} → Ending → Option Refusal → (List ℕ → Bool → Type 0) → SinkStream K → Type 0
EndsWith (Refused refusal) first tells out = (first ≡ Some refusal) × SinkStays out
EndsWith Memory first tells out = SinkStays out
EndsWith WriteFault first tells out =
    SinkFails out × StopsAtFault out.of out.old out.new × (first ≡ None)
    × ((told : List ℕ) × (well : Bool) × tells told well × AppendsFront (out.of.held out.old) (out.of.held out.new) told)
EndsWith Done first tells out = WritesAll first tells true out
EndsWith NotAllWell first tells out = WritesAll first tells false out
EndsWith Usage first tells out = ⊥
EndsWith ReadFault first tells out = ⊥

-- an order ends so over its text
abbrev pub TextEndsBy : {K : Type 0} → Ending → Order → List ℕ → SinkStream K → Type 0
TextEndsBy ending order text out = EndsWith ending (refusal_for order text) (IsOutputOf order text) out

-- there was a text, and it ends the call so
abbrev pub OfText : {S K : Type 0} → Ending → Order → CallStreams S K → Type 0
OfText ending order c = (text : List ℕ) × IsInput (made_by order) c.source text × TextEndsBy ending order text c.out

-- a call with this order ends so only where this holds
abbrev pub OrderEndsBy : {S K : Type 0} → Ending → Order → CallStreams S K → Type 0
OrderEndsBy Usage order c = ⊥
OrderEndsBy ReadFault order c = HasNoInput ReadFault (made_by order) c.source × SinkStays c.out
OrderEndsBy Memory order c = HasNoInput Memory (made_by order) c.source × SinkStays c.out
OrderEndsBy (Refused refusal) order c = OfText (Refused refusal) order c
OrderEndsBy WriteFault order c = OfText WriteFault order c
OrderEndsBy Done order c = OfText Done order c
OrderEndsBy NotAllWell order c = OfText NotAllWell order c

-- This is told of a text that threads have run, with a trace or with none, by what a gate was shown of it: where it was
-- shown nothing, nothing is told.
abbrev pub TellsShown : Bool → Option Showing → List ℕ → List ℕ → Bool → Type 0
TellsShown trace None text told well = ⊥
TellsShown trace (Some shown) text told well = TellsRun (ByThreads shown) trace text told well

-- What a gate may have been shown of a text for whose run memory was wanting: nothing; or where there is to be a trace,
-- what threads have left of the text.
abbrev pub MayLack : Bool → Option Showing → List ℕ → Type 0
MayLack trace shown text =
    (shown ≡ None)
    ⊎ ((trace ≡ true) × ((accepted : Accepted) × (work : Work) × (left : Showing)
    × TextSays text accepted work × IsShownOf (scenario_of accepted work) left × (shown ≡ Some left)))

-- A text that threads are to run ends so, and this is what the gate was shown then.
abbrev pub SharedEndsBy : {K : Type 0} → Ending → Bool → Option Showing → List ℕ → SinkStream K → Type 0
SharedEndsBy Memory trace shown text out = SinkStays out × MayLack trace shown text
SharedEndsBy (Refused refusal) trace shown text out = EndsWith (Refused refusal) (text_refusal text) (TellsShown trace shown text) out × (shown ≡ None)
SharedEndsBy ending trace shown text out = EndsWith ending (text_refusal text) (TellsShown trace shown text) out

-- there was a text, and it ends the call so
abbrev pub OfSharedText : {S K : Type 0} → Ending → Bool → Option Showing → CallStreams S K → Type 0
OfSharedText ending trace shown c = (text : List ℕ) × IsInput None c.source text × SharedEndsBy ending trace shown text c.out

-- a call with an order for threads ends so only where this holds
abbrev pub WorkersEndBy : {S K : Type 0} → Ending → Bool → Option Showing → CallStreams S K → Type 0
WorkersEndBy Usage trace shown c = ⊥
WorkersEndBy ReadFault trace shown c = HasNoInput ReadFault None c.source × SinkStays c.out × (shown ≡ None)
WorkersEndBy Memory trace shown c = (HasNoInput Memory None c.source × SinkStays c.out × (shown ≡ None)) ⊎ OfSharedText Memory trace shown c
WorkersEndBy (Refused refusal) trace shown c = OfSharedText (Refused refusal) trace shown c
WorkersEndBy WriteFault trace shown c = OfSharedText WriteFault trace shown c
WorkersEndBy Done trace shown c = OfSharedText Done trace shown c
WorkersEndBy NotAllWell trace shown c = OfSharedText NotAllWell trace shown c

-- What a status may be behind a run that a gate was shown: memory may have been wanting for a trace.
abbrev pub MayFollowRun : Bool → ℕ → Type 0
MayFollowRun trace exit = (exit ≡ 0) ⊎ (exit ≡ 1) ⊎ (exit ≡ 5) ⊎ ((exit ≡ 6) × (trace ≡ true))

-- words end a call so: they give no order, or there was no memory to read them
abbrev pub WordsEndBy : Ending → List (List ℕ) → Type 0
WordsEndBy Usage words = order_meant words ≡ None
WordsEndBy Memory words = Unit {0}
WordsEndBy ending words = ⊥

-- they give this order, or end a call so
abbrev pub IsOrderAsked : List (List ℕ) → Result Order Ending → Type 0
IsOrderAsked words (Ok order) = order_meant words ≡ Some order
IsOrderAsked words (Err ending) = WordsEndBy ending words

-- An order ends a call so, whose gate was shown this: one without threads shows it nothing.
abbrev pub AskedEndsBy : {S K : Type 0} → Ending → Order → Option Showing → CallStreams S K → Type 0
AskedEndsBy ending order shown c =
    ((is_alone order ≡ true) × OrderEndsBy ending order c × (shown ≡ None))
    ⊎ ((n : ℕ) × (trace : Bool) × (order ≡ Workers n trace) × WorkersEndBy ending trace shown c)

-- words that a call was given ended it so and nothing was done, or they are an order that ends so
abbrev pub EndsBy : {S K : Type 0} → Ending → List (List ℕ) → Option Showing → CallStreams S K → Type 0
EndsBy ending words shown c =
    (WordsEndBy ending words × SourceStays c.source × SinkStays c.out × (shown ≡ None))
    ⊎ ((order : Order) × (order_meant words ≡ Some order) × AskedEndsBy ending order shown c)

-- errors got the line of an ending, or a front of it where they failed
abbrev pub IsToldTo : {E : Type 0} → Ending → SinkStream E → Type 0
IsToldTo ending errors = (told : Result Unit Failed) × Writes errors.of errors.old errors.new told (error_line ending)

-- what a source had, to the limit, is refused for an order
abbrev pub HadRefusedText : Order → Option (List ℕ) → Type 0
HadRefusedText order left = (text : List ℕ) × IsRead limit left text × (is_some (refusal_for order text) ≡ true)

-- an order is given a text that is not refused, and neither the source nor the output fails
pub record MeetsNoFault {S K : Type 0} (order : Order) (text : List ℕ) (c : CallStreams S K) : Type 0 where
  pub given : IsGivenText (made_by order) (c.source.of.left c.source.old) text
  pub fine : refusal_for order text ≡ None
  pub read : ¬ SourceFails c.source
  pub written : ¬ SinkFails c.out
