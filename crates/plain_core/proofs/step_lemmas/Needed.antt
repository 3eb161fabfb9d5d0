-- What tasks need is what their requests do, and when what they look at lets them ask.
use Rattle.std.proofs.Common.{◌≡◌, ℕ, Bool, true, false, nat_le, ◌==◌, List, ◌∷◌, sum, refl, sym, ap, ◌∙◌, subst, IsTrue}
use Rattle.stack_base.specs.declared.ids.DevId.{DevId}
use Rattle.run_machine.specs.Submissions as submission
use Rattle.run_machine.specs.Objects.{Serves}
use Rattle.run_machine.specs.Requests.{Reply, Present, LeftOver, LookRound, LookLeft}
use Rattle.run_machine.specs.Scene.{Setup}
use Rattle.run_machine.specs.Tasks as task
use Rattle.plain_core.specs.objects.Questions.{IsDecisionOf}
use Rattle.plain_core.specs.steps.Free.{TaskIsLet}
use Rattle.plain_core.specs.objects.Ledgers.{ledger_of}
use Rattle.plain_core.specs.objects.Plain.{CoreObjects, objects_of_core}
use Rattle.plain_core.specs.steps.Submissions.{IsSubmitting}

-- a busy task asks for what its submission does
pub busy_writer : (s : Setup) (n : ℕ) (todo : List task.Todo) (taken : task.Gathered) (doing : submission.Doing) (l : submission.Submission) → IsSubmitting doing
    → task.writer_request s n todo taken doing l ≡ submission.submission_request s doing l.lists
busy_writer s n todo taken submission.Rests l busy = absurd busy
busy_writer s n todo taken (submission.Drives part ask) l busy = refl
busy_writer s n todo taken (submission.Copies bio master leg want) l busy = refl
busy_writer s n todo taken (submission.Breaks breach kept) l busy = refl

pub busy_rescuer : (s : Setup) (dev : DevId) (doing : submission.Doing) (l : submission.Submission) → IsSubmitting doing
    → task.rescuer_request s dev doing l ≡ submission.submission_request s doing l.lists
busy_rescuer s dev submission.Rests l busy = absurd busy
busy_rescuer s dev (submission.Drives part ask) l busy = refl
busy_rescuer s dev (submission.Copies bio master leg want) l busy = refl
busy_rescuer s dev (submission.Breaks breach kept) l busy = refl

-- the look of a writer whose next write has no bio yet
round_let : (old : CoreObjects) (n : ℕ) (next : task.Todo) (later : List task.Todo) (lists : _) (answer : Bool) → nat_le next.round old.tally.round ≡ answer
    → IsDecisionOf answer (TaskIsLet old (task.Writer n (next ∷ later) task.NoBio (record { doing = submission.Rests; lists = lists })))
round_let old n next later lists true is = (Present old.tally.round, (refl, refl), is)
round_let old n next later lists false is = λ seen. by seen.0 seen.1 seen.2
  where
    by : (reply : Reply) → Serves ledger_of (objects_of_core old) LookRound reply (objects_of_core old)
        → IsTrue (task.lets (task.Writer n (next ∷ later) task.NoBio (record { doing = submission.Rests; lists = lists })) reply) → ⊥
    by (Present round) serves lets = no_both (sym (ap (nat_le next.round) serves.0 ∙ is) ∙ lets)
      where
        no_both : false ≡ true → ⊥
        no_both e = cc
    by _ serves lets = absurd serves

pub writer_let : (old : CoreObjects) (n : ℕ) (todo : List task.Todo) (next : task.Todo) (later : List task.Todo) (taken : task.Gathered) (l : submission.Submission) (answer : Bool)
    → todo ≡ next ∷ later → taken ≡ task.NoBio → l.doing ≡ submission.Rests → nat_le next.round old.tally.round ≡ answer → IsDecisionOf answer (TaskIsLet old (task.Writer n todo taken l))
writer_let old n todo next later taken l answer is none rests test =
    subst (λ ts. IsDecisionOf answer (TaskIsLet old (task.Writer n ts taken l))) (sym is)
    (subst (λ t. IsDecisionOf answer (TaskIsLet old (task.Writer n (next ∷ later) t l))) (sym none)
    (subst (λ d. IsDecisionOf answer (TaskIsLet old (task.Writer n (next ∷ later) task.NoBio (record { doing = d; lists = l.lists })))) (sym rests)
    (round_let old n next later l.lists answer test)))

-- the look of the keeper
left_let : (old : CoreObjects) (duty : task.Duty) (duties : List task.Duty) (answer : Bool) → (sum old.tally.left == task.later_of duty) ≡ answer
    → IsDecisionOf answer (TaskIsLet old (task.Keeper (task.Keeps (duty ∷ duties))))
left_let old duty duties true is = (LeftOver (sum old.tally.left), (refl, refl), is)
left_let old duty duties false is = λ seen. by seen.0 seen.1 seen.2
  where
    by : (reply : Reply) → Serves ledger_of (objects_of_core old) LookLeft reply (objects_of_core old) → IsTrue (task.lets (task.Keeper (task.Keeps (duty ∷ duties))) reply) → ⊥
    by (LeftOver count) serves lets = no_both (sym (ap (λ n. n == task.later_of duty) serves.0 ∙ is) ∙ lets)
      where
        no_both : false ≡ true → ⊥
        no_both e = cc
    by _ serves lets = absurd serves

pub keeper_let : (old : CoreObjects) (all : List task.Duty) (duty : task.Duty) (duties : List task.Duty) (answer : Bool) → all ≡ duty ∷ duties
    → (sum old.tally.left == task.later_of duty) ≡ answer → IsDecisionOf answer (TaskIsLet old (task.Keeper (task.Keeps all)))
keeper_let old all duty duties answer is test = subst (λ ds. IsDecisionOf answer (TaskIsLet old (task.Keeper (task.Keeps ds)))) (sym is) (left_let old duty duties answer test)

-- both answers together
pub tells_both : (A B : Type 0) (b : Bool) → A → IsDecisionOf b B → IsDecisionOf b (A × B)
tells_both A B true a so = (a, so)
tells_both A B false a never = λ both. never both.1
