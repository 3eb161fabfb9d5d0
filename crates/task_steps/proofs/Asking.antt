-- What a task has asked, from what an object has replied.
use Rattle.std.proofs.Common.{◌≡◌, ◌≢◌, Bool, true, false, List, ◌∷◌, inl, refl, sym, ap, ◌∙◌, subst, true≢false}
use Rattle.stack_base.specs.declared.ids.DevId.{DevId}
use Rattle.run_machine.specs.declared.event.TaskId.TheVariants as id
use Rattle.task_steps.specs.declared.step.Step.{Step}
use Rattle.run_machine.specs.Scene.{Setup}
use Rattle.run_machine.specs.Requests.{Request, Reply, Rest, Nothing}
use Rattle.run_machine.specs.Tasks.{TaskState, Completer, Keeper, Keeping, Keeps, Resizes, Starts, Duty, Carried, carried_request, carried_answered, duty_request, keeper_answered, request, answered}
use Rattle.run_machine.specs.Events.{id_of}
use Rattle.task_steps.specs.Service.{Service, Owing}
use Rattle.task_steps.specs.Turns.{step_of, Asks, Turns, Asked}
use Rattle.task_steps.specs.Answers.{finds}

-- a request that asks for something
abbrev pub asks_any : Request → Bool
asks_any Rest = false
asks_any request = true

pub any_asked : (asked : Request) → asks_any asked ≡ true → asked ≢ Rest
any_asked asked any rests = true≢false (sym any ∙ ap asks_any rests)

pub found_any : (reply : Reply) → finds reply ≡ true → reply ≢ Nothing
found_any reply found none = true≢false (sym found ∙ ap finds none)

module _ {S : Type 0} (serves : Service S) (owes : Owing) (setup : Setup) where
  -- a reply that no look follows
  pub asks_once : (task : TaskState) (asked : Request) (old : S) (next : TaskState) (new : S) (step : Step) (reply : Reply)
      → request setup task ≡ asked → asks_any asked ≡ true → serves old asked reply new → owes asked reply → finds reply ≡ true
      → next ≡ answered setup task reply → step ≡ step_of setup (id_of task) asked reply → Asks serves owes setup task old next new step
  asks_once task asked old next new step reply is any replied owed found goes_on tells = record {
    reply = reply;
    middle = new;
    any = any_asked (request setup task) (ap asks_any is ∙ any);
    replied = subst (λ (r : Request). serves old r reply new) (sym is) replied;
    owed = subst (λ (r : Request). owes r reply) (sym is) owed;
    goes_on = goes_on;
    follows = inl (found_any reply found, refl, tells ∙ ap (λ (r : Request). step_of setup (id_of task) r reply) (sym is));
  }

  -- completers
  pub completer_once : (disk : DevId) (carried after : Carried) (old new : S) (step : Step) (reply : Reply)
      → serves old (carried_request disk carried) reply new → owes (carried_request disk carried) reply
      → asks_any (carried_request disk carried) ≡ true → finds reply ≡ true → Completer disk after ≡ Completer disk (carried_answered carried reply)
      → step ≡ step_of setup (id.Completer disk) (carried_request disk carried) reply
      → Turns serves owes setup (Completer disk carried) old (Completer disk after) new step
  completer_once disk carried after old new step reply replied owed any found goes_on tells =
      Asked refl (asks_once (Completer disk carried) (carried_request disk carried) old (Completer disk after) new step reply refl any replied owed found goes_on tells)

  -- the keeper, of its next duty
  duty_any : (duty : Duty) → asks_any (duty_request duty) ≡ true
  duty_any (Resizes pool min later) = refl
  duty_any (Starts round later) = refl

  pub duty_once : (duty : Duty) (duties : List Duty) (after : Keeping) (old new : S) (step : Step) (reply : Reply)
      → serves old (duty_request duty) reply new → owes (duty_request duty) reply → finds reply ≡ true
      → Keeper after ≡ Keeper (keeper_answered (Keeps (duty ∷ duties)) reply) → step ≡ step_of setup id.Keeper (duty_request duty) reply
      → Asks serves owes setup (Keeper (Keeps (duty ∷ duties))) old (Keeper after) new step
  duty_once duty duties after old new step reply replied owed found goes_on tells =
      asks_once (Keeper (Keeps (duty ∷ duties))) (duty_request duty) old (Keeper after) new step reply refl (duty_any duty) replied owed found goes_on tells
