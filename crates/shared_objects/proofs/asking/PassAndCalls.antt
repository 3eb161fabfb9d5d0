-- What one call of an object makes of the pass and the calls of a task.
use Rattle.std.proofs.Common.{◌≡◌, ◌+◌, ◌++◌, ℕ, Bool, true, false, List, [], ◌∷◌, Option, None, Some, refl, sym, ap, subst, ◌∙◌}
use Rattle.atomic_table.specs.Seated.{TableId}
use Rattle.tick_clock.specs.Tickets.{PassState}
use Rattle.seat_lock.specs.declared.view.Known.{Known}
use Rattle.seat_lock.specs.Seats.{own}
use Rattle.run_machine.specs.Laws.{Object, object_of}
use Rattle.run_machine.specs.Requests.{Request, Reply}
use Rattle.object_things.specs.declared.stamp.Asking.{Asking}
use Rattle.object_things.specs.declared.stamp.Replied.{Replied}
use Rattle.object_things.specs.Stamps.{Told, PassBy, PassByReply, is_spent, told_by}
use Rattle.shared_objects.specs.Calling.{FitsWith, HasAsked}
use Rattle.shared_objects.specs.Calls.{CallsAt, with_call}
use Rattle.shared_objects.specs.Desks.{HasCalled, PassGoesOn}
use Rattle.shared_objects.specs.Holding.{IsPassOf}
use Rattle.shared_objects.specs.Joins.{IsNumbered}

-- the pass is at home, so it goes with what is asked
pub fits_with : {Q : Type 0} (fits : Asking Q → Type 0) (clock : TableId) (held : Option PassState) (ask : Q) → IsPassOf clock held
    → ((pass : PassState) → pass.clock ≡ clock → fits (record { pass = pass; ask = ask })) → FitsWith fits held ask
fits_with fits clock None ask home all = home
fits_with fits clock (Some pass) ask home all = all pass home

-- a call leaves the number of a seat
pub numbered_stays : {T A R : Type 0} (task : ℕ) (old new : Known T A R) → new ≡ record old { seen = new.seen } → IsNumbered task old → IsNumbered task new
numbered_stays {T = T} {A = A} {R = R} task old new same is =
    subst (λ (k : Known T A R). IsNumbered task k) (sym same) (record { rank = is.rank; joined = is.joined; number = is.number; numbers = is.numbers })

-- a call leaves the clock of a pass
clock_stays : (pass after : PassState) (note : ℕ) (spent drew : Bool) (ticket : Option ℕ) → PassBy pass note spent drew ticket after → after.clock ≡ pass.clock
clock_stays pass after note spent drew (Some n) by = ap (λ (p : PassState). p.clock) by.2
clock_stays pass after note true drew None by = ap (λ (p : PassState). p.clock) by.0
clock_stays pass after note false drew None by = ap (λ (p : PassState). p.clock) by

pass_comes_home : (clock : TableId) (before after : Option PassState) (note : ℕ) (spent drew : Bool) (ticket : Option ℕ)
    → PassGoesOn before note spent drew ticket after → IsPassOf clock before → IsPassOf clock after
pass_comes_home clock None after note spent drew ticket on home = absurd home
pass_comes_home clock (Some pass) None note spent drew ticket on home = absurd on
pass_comes_home clock (Some pass) (Some after) note spent drew ticket on home = clock_stays pass after note spent drew ticket on ∙ home

-- One call was made by a task's seat, with its pass.
pub record SeatCalls {T : Type 0} (task : ℕ) (old new : Known T Request Told) (before : Option PassState) (asked : Request) (reply : Reply) (after : Option PassState) : Type 0 where
  pub told : Told
  pub replies : told.reply ≡ reply
  pub calls : own new ≡ own old ++ record { by = task + 1; asked = asked; told = told } ∷ []
  pub pass : PassGoesOn before told.note (is_spent told.reply) told.drew told.drawn after

module _ {Q S T : Type 0} (asked_of : Q → Request) (reply_of : S → Reply) {owes : Asking Q → Replied S → Type 0} {old new : Known T Request Told}
    {before after : Option PassState} {ask : Q} {said : S}
    (made : HasAsked (λ (asking : Asking Q). asked_of asking.ask) (told_by reply_of) owes old before ask said new after) where
  abbrev asking : Asking Q
  asking = record { pass = made.pass; ask = ask }

  -- where the pass is owed, the task has made a call
  abbrev pub seat_calls : (task : ℕ) → IsNumbered task old → (owes asking made.replied → PassByReply reply_of asking.pass made.replied)
      → SeatCalls task old new before (asked_of ask) (reply_of said) after
  seat_calls task is passes =
      let told : Told = told_by reply_of made.replied in
      record {
        told = told;
        replies = ap reply_of made.says;
        calls = made.calls ∙ ap (λ n. own old ++ record { by = n; asked = asked_of ask; told = told } ∷ []) is.number;
        pass =
            subst (λ b. PassGoesOn b told.note (is_spent told.reply) told.drew told.drawn after) (sym made.held)
            (subst (λ a. PassGoesOn (Some made.pass) told.note (is_spent told.reply) told.drew told.drawn a) (sym made.back) (passes made.owed));
      }

  -- what is owed of what was said
  pub owed_of : (P : S → Type 0) → (owes asking made.replied → P made.replied.said) → P said
  owed_of P owed = subst P made.says (owed made.owed)

-- A call that stands last among those of its object is a call of the task.
abbrev pub has_called : {T : Type 0} {task : ℕ} {old new : Known T Request Told} {before after : Option PassState} {asked : Request} {reply : Reply} (name : Object)
    (calls next : CallsAt) → object_of asked ≡ name → (made : SeatCalls task old new before asked reply after)
    → next ≡ with_call calls name (record { by = task + 1; asked = asked; told = made.told })
    → HasCalled (record { number = task + 1; pass = before; calls = calls }) asked reply (record { number = task + 1; pass = after; calls = next })
has_called {task = task} {asked = asked} name calls next named made is = record {
  told = made.told;
  replies = made.replies;
  number = refl;
  calls = is ∙ ap (λ (o : Object). with_call calls o (record { by = task + 1; asked = asked; told = made.told })) (sym named);
  pass = made.pass;
}

-- and leaves the pass at home
pub home_again : {T : Type 0} {task : ℕ} {old new : Known T Request Told} {before after : Option PassState} {asked : Request} {reply : Reply} (clock : TableId)
    → SeatCalls task old new before asked reply after → IsPassOf clock before → IsPassOf clock after
home_again {before = before} {after = after} clock made home =
    pass_comes_home clock before after made.told.note (is_spent made.told.reply) made.told.drew made.told.drawn made.pass home
