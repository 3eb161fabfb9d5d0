-- The tally as a thing.
use Rattle.std.specs.Prelude.{◌≡◌, ◌<◌, ℕ, length, sum, slice_index_or, IfErr}
use Rattle.task_steps.specs.declared.objects.Unmade.TheVariants as unmade
use Rattle.run_machine.specs.Requests.{Request, Reply, Done, NextRound, LookRound, LookLeft, Did, Present, LeftOver, NoTicket}
use Rattle.run_machine.specs.Objects.{TallyState, done_one}
use Rattle.task_core.specs.ObjectsOf.{IsTallyOf}
use Rattle.task_core.specs.Plains.{Advances}
use Rattle.run_machine.specs.Laws.{OfTally}
use Rattle.task_steps.specs.Stage.{RequestFits, Owes}
use Rattle.task_steps.specs.Views.{did}
use Rattle.object_things.specs.declared.stamp.Asking.{Asking}
use Rattle.object_things.specs.declared.stamp.Replied.{Replied}
use Rattle.object_things.specs.declared.tally.TallyAsk.{TallyAsk}
use Rattle.object_things.specs.declared.tally.TallyAsk.TheVariants as ask
use Rattle.object_things.specs.declared.tally.TallySaid.{TallySaid}
use Rattle.object_things.specs.declared.tally.TallySaid.TheVariants as said
use Rattle.object_things.specs.Stamps.{Stamped, MarkState, mark_of, Told, ThingState, ThingAnswers, ChoosesNone, PassByReply, FindsNone, stage_in, OnlyLooks, StampState, or_unmade, thing_state, CommonState, opened_tally, told_by, AskingFits}

-- the numbers of the rounds behind the present one are as they were opened
pub record IsLater (opened tally : TallyState) : Type 0 where
  pub rounds : length tally.left ≡ length opened.left
  pub later : (round : ℕ) → tally.round < round → slice_index_or tally.left round 0 ≡ slice_index_or opened.left round 0

-- a tally of these objects, with the rounds behind the present one as they were opened
abbrev pub IsTallyIn : CommonState → TallyState → Type 0
IsTallyIn common tally = IsTallyOf (stage_in common) tally × IsLater (opened_tally common) tally

-- a round that is started has no number in the history
abbrev pub tally_asked : TallyAsk → Request
tally_asked (ask.Done write status) = Done write status
tally_asked ask.Next = NextRound 0
tally_asked ask.Round = LookRound
tally_asked ask.Left = LookLeft

abbrev pub tally_replied : TallySaid → Reply
tally_replied (said.Did result) = did (or_unmade result)
tally_replied (said.Round round) = Present round
tally_replied (said.Left count) = LeftOver count

abbrev pub tally_told : Replied TallySaid → Told
tally_told = told_by tally_replied

abbrev pub TallyServes : TallyState → Request → Reply → TallyState → Type 0
TallyServes old (Done write status) Did new = new ≡ done_one write status old
TallyServes old (NextRound round) Did new = Advances old new
TallyServes old request reply new = ⊥

abbrev pub TallyLooks : ThingState TallyState → Request → Reply → ThingState TallyState → Type 0
TallyLooks old LookRound (Present round) new = (round ≡ old.object.round) × OnlyLooks old new
TallyLooks old LookLeft (LeftOver count) new = (count ≡ sum old.object.left) × OnlyLooks old new
TallyLooks old (Done write status) NoTicket new = FindsNone old new
TallyLooks old (NextRound round) NoTicket new = FindsNone old new
TallyLooks old request reply new = ⊥

abbrev pub TallyAnswers : ThingState TallyState → Request → Told → ThingState TallyState → Type 0
TallyAnswers = ThingAnswers TallyServes TallyLooks ChoosesNone

-- the same of the tally with its stamp, which gave this reply
abbrev pub TallyReplies : TallyState → StampState → Request → Replied TallySaid → TallyState → StampState → Type 0
TallyReplies old stamp asked replied new after = TallyAnswers (thing_state old stamp) asked (tally_told replied) (thing_state new after)

abbrev pub TallyFits : MarkState → Asking TallyAsk → Type 0
TallyFits mark asking = AskingFits tally_asked mark asking (RequestFits (stage_in mark.common) (tally_asked asking.ask))

abbrev pub TallySays : TallyAsk → TallySaid → Type 0
TallySays (ask.Done write status) (said.Did result) = IfErr (or_unmade result) (λ back. back ≡ unmade.Nothing)
TallySays ask.Next (said.Did result) = IfErr (or_unmade result) (λ back. back ≡ unmade.Nothing)
TallySays ask.Round (said.Round round) = Unit {0}
TallySays ask.Left (said.Left count) = Unit {0}
TallySays asked reply = ⊥

pub record TallyOwes (mark : MarkState) (asking : Asking TallyAsk) (replied : Replied TallySaid) : Type 0 where
  pub pass : PassByReply tally_replied asking.pass replied
  pub owed : Owes (stage_in mark.common) (tally_asked asking.ask) (tally_replied replied.said)
  pub says : TallySays asking.ask replied.said

abbrev pub tally_mark : Stamped TallyState → MarkState
tally_mark held = mark_of OfTally held
