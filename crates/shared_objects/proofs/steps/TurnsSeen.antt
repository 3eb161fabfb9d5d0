-- A step over objects is one over what is seen of them, and keeps what each call keeps.
use Rattle.std.proofs.Common.{◌≡◌, ap, inl, inr, sym, subst}
use Rattle.run_machine.specs.Requests.{Request, Reply}
use Rattle.run_machine.specs.Scene.{Setup}
use Rattle.run_machine.specs.Tasks.{TaskState, request}
use Rattle.task_steps.specs.declared.step.Step.{Step}
use Rattle.task_steps.specs.Service.{Service, Owing}
use Rattle.task_steps.specs.Turns.{Asks, Turns, Rested, Waited, Asked, Saw}

module _ {S X : Type 0} (from : Service S) (sees : S → X) (serves : Service X)
    (shows : (old : S) (asked : Request) (reply : Reply) (new : S) → from old asked reply new → serves (sees old) asked reply (sees new))
    (owes : Owing) (setup : Setup) where
  asks_seen : (task next : TaskState) (old new : S) (step : Step) → Asks from owes setup task old next new step
      → Asks serves owes setup task (sees old) next (sees new) step
  asks_seen task next old new step it = record {
    reply = it.reply;
    middle = sees it.middle;
    any = it.any;
    replied = shows old (request setup task) it.reply it.middle it.replied;
    owed = it.owed;
    goes_on = it.goes_on;
    follows = elim it.follows [
      | inl told ↦ inl (told.0, ap sees told.1, told.2)
      | inr nothing ↦ inr (nothing.0, (nothing.1.0, shows it.middle _ _ new nothing.1.1, nothing.1.2))
    ];
  }

  pub turns_seen : (task next : TaskState) (old new : S) (step : Step) → Turns from owes setup task old next new step
      → Turns serves owes setup task (sees old) next (sees new) step
  turns_seen task next old new step (Rested rests same stays tells) = Rested rests same (ap sees stays) tells
  turns_seen task next old new step (Waited look seen looks saw early same tells) = Waited look seen looks (shows old look seen new saw) early same tells
  turns_seen task next old new step (Asked none asks) = Asked none (asks_seen task next old new step asks)
  turns_seen task next old new step (Saw look seen between looks saw due asks) =
      Saw look seen (sees between) looks (shows old look seen between saw) due (asks_seen task next between new step asks)

module _ {S : Type 0} (serves : Service S) (Keeps : S → S → Type 0) (none : (old : S) → Keeps old old)
    (both : (old middle new : S) → Keeps old middle → Keeps middle new → Keeps old new)
    (one : (old : S) (asked : Request) (reply : Reply) (new : S) → serves old asked reply new → Keeps old new)
    (owes : Owing) (setup : Setup) where
  same : (old new : S) → new ≡ old → Keeps old new
  same old new e = subst (Keeps old) (sym e) (none old)

  asks_keep : (task next : TaskState) (old new : S) (step : Step) → Asks serves owes setup task old next new step → Keeps old new
  asks_keep task next old new step asks =
      both old asks.middle new (one old (request setup task) asks.reply asks.middle asks.replied)
      (elim asks.follows [ inl told ↦ same asks.middle new told.1 | inr nothing ↦ one asks.middle _ _ new nothing.1.1 ])

  -- what a call keeps, and two one after the other, a step keeps
  pub turns_keep : (task next : TaskState) (old new : S) (step : Step) → Turns serves owes setup task old next new step → Keeps old new
  turns_keep task next old new step (Rested rests is stays tells) = same old new stays
  turns_keep task next old new step (Waited look seen looks saw early is tells) = one old look seen new saw
  turns_keep task next old new step (Asked none asks) = asks_keep task next old new step asks
  turns_keep task next old new step (Saw look seen between looks saw due asks) =
      both old between new (one old look seen between saw) (asks_keep task next between new step asks)
