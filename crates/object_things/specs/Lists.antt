-- The list of a rescuer as a thing.
use Rattle.std.specs.Prelude.{◌≡◌, ◌≢◌, ◌++◌, [], ◌∷◌, List, IfErr, Result, Ok, Err}
use Rattle.bio_records.specs.Rescue.{Rescue}
use Rattle.bio_records.specs.declared.bio.Pad.{Pad}
use Rattle.bio_records.specs.Items.{Item}
use Rattle.task_steps.specs.declared.objects.Unmade.{Unmade}
use Rattle.task_steps.specs.declared.objects.Unmade.TheVariants as unmade
use Rattle.run_machine.specs.Requests.{Request, Reply, Punt, Pop, Did, Popped, Nothing, NoTicket}
use Rattle.run_machine.specs.Laws.{OfRescuer}
use Rattle.task_steps.specs.Stage.{RequestFits, Owes}
use Rattle.task_steps.specs.Views.{did, popped_reply, PoppedAlone}
use Rattle.object_things.specs.declared.stamp.Asking.{Asking}
use Rattle.object_things.specs.declared.stamp.Replied.{Replied}
use Rattle.object_things.specs.declared.list.ListAsk.{ListAsk}
use Rattle.object_things.specs.declared.list.ListAsk.TheVariants as ask
use Rattle.object_things.specs.declared.list.ListSaid.{ListSaid}
use Rattle.object_things.specs.declared.list.ListSaid.TheVariants as said
use Rattle.object_things.specs.Stamps.{Stamped, MarkState, mark_of, Told, ThingState, ThingAnswers, ChoosesNone, PassByReply, FindsNone, OnlyLooks, stage_in, StampState, or_unmade, thing_state, told_by, AskingFits}

abbrev pub list_asked : ListAsk → Request
list_asked (ask.Punt dev moved) = Punt dev moved
list_asked (ask.Pop dev) = Pop dev

-- what came of a punt, as the objects say it: the bios come back where there was no ticket
abbrev pub punt_or_unmade : Result (Unit {0}) (List (Item Pad)) → Result (Unit {0}) Unmade
punt_or_unmade (Ok done) = Ok done
punt_or_unmade (Err moved) = Err (unmade.List moved)

abbrev pub list_replied : ListSaid → Reply
list_replied (said.Punted result) = did (punt_or_unmade result)
list_replied (said.Popped result) = popped_reply (or_unmade result)

abbrev pub list_told : Replied ListSaid → Told
list_told = told_by list_replied

abbrev pub ListServes : Rescue → Request → Reply → Rescue → Type 0
ListServes old (Punt dev moved) Did new = (dev.0 ≡ old.dev.0) × (new ≡ record old { bios = old.bios ++ moved })
ListServes old (Pop dev) (Popped bio) new = (dev.0 ≡ old.dev.0) × (old.bios ≡ bio ∷ new.bios) × (new.dev ≡ old.dev)
ListServes old request reply new = ⊥

-- where the list is empty, nothing needs a ticket
abbrev pub ListLooks : ThingState Rescue → Request → Reply → ThingState Rescue → Type 0
ListLooks old (Pop dev) Nothing new = (old.object.bios ≡ []) × OnlyLooks old new
ListLooks old (Punt dev moved) NoTicket new = FindsNone old new
ListLooks old (Pop dev) NoTicket new = (old.object.bios ≢ []) × FindsNone old new
ListLooks old request reply new = ⊥

abbrev pub ListAnswers : ThingState Rescue → Request → Told → ThingState Rescue → Type 0
ListAnswers = ThingAnswers ListServes ListLooks ChoosesNone

-- the same of a list with its stamp, which gave this reply
abbrev pub ListReplies : Rescue → StampState → Request → Replied ListSaid → Rescue → StampState → Type 0
ListReplies old stamp asked replied new after = ListAnswers (thing_state old stamp) asked (list_told replied) (thing_state new after)

abbrev pub ListFits : MarkState → Asking ListAsk → Type 0
ListFits mark asking = AskingFits list_asked mark asking (RequestFits (stage_in mark.common) (list_asked asking.ask))

abbrev pub ListSays : ListAsk → ListSaid → Type 0
ListSays (ask.Punt dev moved) (said.Punted result) = IfErr (punt_or_unmade result) (λ back. back ≡ unmade.List moved)
ListSays (ask.Pop dev) (said.Popped result) = PoppedAlone (or_unmade result) × IfErr (or_unmade result) (λ back. back ≡ unmade.Nothing)
ListSays asked reply = ⊥

pub record ListOwes (mark : MarkState) (asking : Asking ListAsk) (replied : Replied ListSaid) : Type 0 where
  pub pass : PassByReply list_replied asking.pass replied
  pub owed : Owes (stage_in mark.common) (list_asked asking.ask) (list_replied replied.said)
  pub says : ListSays asking.ask replied.said

abbrev pub list_mark : Stamped Rescue → MarkState
list_mark held = mark_of (OfRescuer held.object.dev.0) held
