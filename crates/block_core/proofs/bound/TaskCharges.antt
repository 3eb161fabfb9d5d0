-- What tasks are charged and have spent, and what the completers tell.
use Rattle.std.proofs.Common.{◌≡◌, ◌+◌, ◌*◌, ◌<◌, ◌≤◌, ◌==◌, if◌then◌else◌, ℕ, Bool, true, false, List, [], ◌∷◌, filter, Option, None, Some, inl, inr, refl, sym, ◌∙◌, ap, subst, arith}
use Rattle.std.specs.Prelude.{sum_by, nat_lt}
use Rattle.std.proofs.lemmas.Bool.Decides.{nat_tests}
use Rattle.std.proofs.lemmas.List.Sums.{sum_by-cons}
use Rattle.stack_base.specs.declared.ids.DevId.{DevId}
use Rattle.stack_base.specs.declared.ids.Status.{Status}
use Rattle.stack_base.specs.declared.ids.SetId.TheVariants.{Of}
use Rattle.stack_base.proofs.ListLemmas.{Each}
use Rattle.bio_records.specs.declared.bio.Bio.{Bio}
use Rattle.bio_records.specs.declared.bio.Pad.{Pad}
use Rattle.bio_records.specs.declared.tasks.TaskLists.{TaskLists}
use Rattle.bio_records.specs.Items.{Item}
use Rattle.bio_records.specs.Sorting.{is_of}
use Rattle.bio_books.specs.Books.{Holding, later_part}
use Rattle.run_machine.specs.Maps.{upd}
use Rattle.run_machine.specs.Scene.{Setup, Scene, tree_at}
use Rattle.run_machine.specs.Submissions.{Want, Takes, ToPush, ToCut, ToRecord, ToMaster, Doing, Rests, Drives, Copies, Breaks, Submission, copies, legs_of}
use Rattle.run_machine.specs.Tasks.{TaskState, Writer, Rescuer, Completer, Keeper, Todo, NoBio, Carried, Empty, Brings, Carries, Fails}
use Rattle.run_machine.specs.Runs.{State}
use Rattle.block_core.specs.Weights.{Rescued, Lined, sum_at, submission_weight, carried_weight}
use Rattle.block_core.specs.Charges.{may_pop, bio_charge, legs_charge, one_if_some, write_charge, todo_charge, end_charge, give_charge, held_charge, close_charge, charge, want_spent, doing_spent, task_spent, task_duties, task_charge}
use Rattle.block_core.specs.Paying.{end_carried}
use Rattle.block_core.specs.Payers.{payer_at, Paid, MissesAtOnce, IsPunted, IsPopped}
use Rattle.block_core.specs.Payers as paid
use Rattle.block_core.proofs.moves.Moves.{with_submission, HasSubmission, Wants, with_want, TellsNode, Releases}
use Rattle.block_core.proofs.moves.Sums.{sum_at-upd}
use Rattle.block_core.proofs.sound.Orders.{IsPlaced, DoingPlaced, each_map, each_filter, of_set}
use Rattle.block_core.proofs.bound.DeviceCharges.{Priced}
use Rattle.block_core.proofs.moves.Landings.{AreThere, IsLanding, copies_there}
use Rattle.block_core.proofs.sound.SumParts.{unless_less}

module _ (price : Paid → ℕ) where
  -- bios are charged the same where they land
  pub charge_lands : (was_master : ℕ → Bool) (setup : Setup) → Priced price setup → IsLanding setup (charge price was_master setup)
  charge_lands was_master setup p limit item is = ap (λ v. end_charge price (payer_at item.share.no) + may_pop price limit item.share.no + v) (p.lands item.bio is)

  pub copies_charge : (was_master : ℕ → Bool) (setup : Setup) → Priced price setup → (limit : ℕ) (lists : TaskLists) (bio : Bio) (master leg : ℕ) → AreThere setup lists.list0 → AreThere setup lists.list1
      → submission_weight (charge price was_master setup) limit (copies setup lists bio master leg)
      ≤ legs_charge price setup bio leg + sum_by (bio_charge price setup (Lined limit)) lists.list0 + sum_by (bio_charge price setup (Lined limit)) lists.list1
  copies_charge was_master setup p limit lists bio master leg first second =
      omega (
        arith,
        copies_there setup (charge price was_master setup) (charge_lands was_master setup p) limit lists bio master leg first second,
        unless_less (leg == legs_of (tree_at setup bio.dev)) (legs_charge price setup bio leg),
      )

  pub pops_once : (limit number : ℕ) → may_pop price limit number ≤ price IsPopped
  pops_once limit number = elim (nat_lt number (2 * limit)) as (λ v. (if v then price IsPopped else 0) ≤ price IsPopped) [ true ↦ omega arith | false ↦ omega arith ]

  pub pops_not : (limit number : ℕ) → 2 * limit ≤ number → may_pop price limit number ≡ 0
  pops_not limit number le = by_test (nat_lt number (2 * limit)) refl
    where
      by_test : (v : Bool) → nat_lt number (2 * limit) ≡ v → ◌≡◌ {A = ℕ} (if v then price IsPopped else 0) 0
      by_test true is = absurd (let lt : number < 2 * limit = grind (arith, nat_tests, is) in omega (arith, le, lt))
      by_test false is = refl

  pops_yet : (limit number : ℕ) → number < 2 * limit → may_pop price limit number ≡ price IsPopped
  pops_yet limit number lt = by_test (nat_lt number (2 * limit)) refl
    where
      by_test : (v : Bool) → nat_lt number (2 * limit) ≡ v → ◌≡◌ {A = ℕ} (if v then price IsPopped else 0) (price IsPopped)
      by_test true is = refl
      by_test false is = absurd (let le : 2 * limit ≤ number = grind (arith, nat_tests, is) in omega (arith, le, lt))

  each_le : {X : Type 0} (f g : X → ℕ) (xs : List X) → Each (λ x. f x ≤ g x) xs → sum_by f xs ≤ sum_by g xs
  each_le f g [] le = omega arith
  each_le f g (x ∷ xs) le = omega (arith, le.0, sum_by-cons f x xs, sum_by-cons g x xs, each_le f g xs le.1)

  -- a bio of a set that a task punts to was charged that it may come to the rescuer
  pub punts_charge : (setup : Setup) (limit : ℕ) (dev : DevId) (items : List (Item Pad)) → dev.0 < limit → Each (IsPlaced setup limit) items
      → sum_by (bio_charge price setup Rescued) (filter (is_of (Of dev)) items) ≤ sum_by (bio_charge price setup (Lined limit)) (filter (is_of (Of dev)) items)
  punts_charge setup limit dev items lt placed =
      each_le (bio_charge price setup Rescued) (bio_charge price setup (Lined limit)) (filter (is_of (Of dev)) items)
      (each_map (λ item. IsPlaced setup limit item × (is_of (Of dev) item ≡ true)) (λ (item : Item Pad). bio_charge price setup Rescued item ≤ bio_charge price setup (Lined limit) item)
      (λ item h.
      let same = of_set dev item.bio.set item h.1 in
      let here : item.share.no ≡ 2 * dev.0 = h.0.3 ∙ same in
      let pops = pops_yet limit item.share.no (omega (arith, here, lt)) in
      omega (arith, pops))
      (filter (is_of (Of dev)) items) (each_filter (IsPlaced setup limit) (is_of (Of dev)) items placed))

  -- what begins is charged as what is still to begin
  pub later_charge : (setup : Setup) (later : List Todo) → todo_charge price setup later NoBio ≡ sum_by (write_charge price setup) later
  later_charge setup [] = refl
  later_charge setup (todo ∷ later) = sym (sum_by-cons (write_charge price setup) todo later)

  -- what is wanted
  pub takes_spent : (waits : Bool) → want_spent price (Takes waits) ≤ price MissesAtOnce + price IsPunted
  takes_spent true = omega arith
  takes_spent false = omega arith

  pub want_spends : (doing : Doing) (dev : DevId) (want : Want) → Wants doing dev want → doing_spent price doing ≡ want_spent price want
  want_spends (Drives bio (ToCut has)) dev want h = ap (want_spent price) h.1
  want_spends (Copies bio master leg has) dev want h = ap (want_spent price) h.1
  want_spends (Drives bio ToPush) dev want h = absurd h
  want_spends (Drives bio ToRecord) dev want h = absurd h
  want_spends (Drives bio (ToMaster slip)) dev want h = absurd h
  want_spends Rests dev want h = absurd h
  want_spends (Breaks breach kept) dev want h = absurd h

  pub new_spends : (doing : Doing) (dev : DevId) (old new : Want) → Wants doing dev old → doing_spent price (with_want doing new) ≡ want_spent price new
  new_spends (Drives bio (ToCut has)) dev old new h = refl
  new_spends (Copies bio master leg has) dev old new h = refl
  new_spends (Drives bio ToPush) dev old new h = absurd h
  new_spends (Drives bio ToRecord) dev old new h = absurd h
  new_spends (Drives bio (ToMaster slip)) dev old new h = absurd h
  new_spends Rests dev old new h = absurd h
  new_spends (Breaks breach kept) dev old new h = absurd h

-- the device of what is wanted is below the task's limit
pub wants_below : (setup : Setup) (limit : ℕ) (doing : Doing) (dev : DevId) (want : Want) (lists : TaskLists) → Wants doing dev want → DoingPlaced setup limit doing lists → dev.0 < limit
wants_below setup limit (Drives bio (ToCut has)) dev want lists h d = subst (λ (e : DevId). e.0 < limit) (sym h.0) d.1.0.2
wants_below setup limit (Copies bio master leg has) dev want lists h d = subst (λ (e : DevId). e.0 < limit) (sym h.0) d.1
wants_below setup limit (Drives bio ToPush) dev want lists h d = absurd h
wants_below setup limit (Drives bio ToRecord) dev want lists h d = absurd h
wants_below setup limit (Drives bio (ToMaster slip)) dev want lists h d = absurd h
wants_below setup limit Rests dev want lists h d = absurd h
wants_below setup limit (Breaks breach kept) dev want lists h d = absurd h

-- a task goes on
pub on_tasks : (g : TaskState → ℕ) (scene : Scene) (s : State) (place : ℕ) (x y : TaskState) → place < scene.tasks → s.task place ≡ x
    → sum_at (λ place task. g task) scene.tasks (upd s.task place y) + g x ≡ sum_at (λ place task. g task) scene.tasks s.task + g y
on_tasks g scene s place x y lt is =
    let here : g (s.task place) ≡ g x = ap g is in
    omega (arith, here, sum_at-upd (λ place task. g task) scene.tasks s.task place y lt)

submission_spends : (price : Paid → ℕ) (x : TaskState) (doing : Doing) (lists : TaskLists) → HasSubmission x doing lists → task_spent price x ≡ doing_spent price doing
submission_spends price (Writer number todo taken submission) doing lists h = ap (λ (l : Submission). doing_spent price l.doing) h
submission_spends price (Rescuer dev submission) doing lists h = ap (λ (l : Submission). doing_spent price l.doing) h
submission_spends price (Completer disk carried) doing lists h = absurd h
submission_spends price (Keeper keeping) doing lists h = absurd h

-- a task that submits keeps no rounds
abbrev pub IsNoKeeper : TaskState → Type 0
IsNoKeeper x = (task_duties x ≡ 0) × ((price : Paid → ℕ) → task_charge price x ≡ 0)

pub submission_goes : (x : TaskState) (doing : Doing) (lists : TaskLists) (new : Submission) → HasSubmission x doing lists
    → ((price : Paid → ℕ) → task_spent price (with_submission x new) ≡ doing_spent price new.doing) × IsNoKeeper (with_submission x new) × IsNoKeeper x
submission_goes (Writer number todo taken submission) doing lists new h = (λ price. refl, (refl, λ price. refl), (refl, λ price. refl))
submission_goes (Rescuer dev submission) doing lists new h = (λ price. refl, (refl, λ price. refl), (refl, λ price. refl))
submission_goes (Completer disk carried) doing lists new h = absurd h
submission_goes (Keeper keeping) doing lists new h = absurd h

abbrev pub all_duties : Scene → (ℕ → TaskState) → ℕ
all_duties scene task = sum_at (λ place task. task_duties task) scene.tasks task

abbrev pub all_spent : (Paid → ℕ) → Scene → (ℕ → TaskState) → ℕ
all_spent price scene task = sum_at (λ place task. task_spent price task) scene.tasks task

abbrev pub all_kept : (Paid → ℕ) → Scene → (ℕ → TaskState) → ℕ
all_kept price scene task = sum_at (λ place task. task_charge price task) scene.tasks task

pub on_submission : (scene : Scene) (s : State) (place : ℕ) (x : TaskState) (doing : Doing) (lists : TaskLists) (new : Submission) → place < scene.tasks → s.task place ≡ x → HasSubmission x doing lists
    → ((price : Paid → ℕ) → (all_spent price scene (upd s.task place (with_submission x new)) + doing_spent price doing ≡ all_spent price scene s.task + doing_spent price new.doing)
    × (all_kept price scene (upd s.task place (with_submission x new)) ≡ all_kept price scene s.task))
    × (all_duties scene (upd s.task place (with_submission x new)) ≡ all_duties scene s.task)
on_submission scene s place x doing lists new lt is h =
    let b = submission_goes x doing lists new h in (
      λ price.
          let spends = submission_spends price x doing lists h in
          let goes = b.0 price in
          let first = b.1.1 price in
          let second = b.2.1 price in (
            omega (arith, spends, goes, on_tasks (task_spent price) scene s place x (with_submission x new) lt is),
            omega (arith, first, second, on_tasks (task_charge price) scene s place x (with_submission x new) lt is),
          ),
      let first = b.1.0 in
          let second = b.2.0 in
          omega (arith, first, second, on_tasks task_duties scene s place x (with_submission x new) lt is),
    )

-- an end that a completer tells is paid for by what it carries; and where it is that of a bio, the bio is given back later
pub tells_charge : (price : Paid → ℕ) (was_master : ℕ → Bool) (setup : Setup) (place : ℕ) (carried : Carried) (writer key : ℕ) (status : Status) (part : Option (Item Pad))
    → TellsNode carried writer key status part → carried_weight (charge price was_master setup) place carried ≡ price (end_carried (was_master place) carried) + give_charge price part
tells_charge price was_master setup place (Brings bio ending) writer key status part t = ap (λ p. price (paid.EndsItself (payer_at bio.share.no)) + give_charge price p) (sym t.3)
tells_charge price was_master setup place (Carries of closed) writer key status part t =
    let kind = end_carried (was_master place) (Carries of closed) in
    ap (λ parent. close_charge price (was_master place) parent + held_charge price closed.held) t.1 ∙ ap (λ n. n + held_charge price closed.held) (by_kind (was_master place))
    ∙ ap (λ held. price kind + held_charge price held) t.4 ∙ ap (λ p. price kind + give_charge price p) (sym t.3)
  where
    by_kind : (b : Bool) → close_charge price b (Some key) ≡ price (end_carried b (Carries of closed))
    by_kind true = refl
    by_kind false = refl
tells_charge price was_master setup place Empty writer key status part t = absurd t
tells_charge price was_master setup place (Fails breach kept) writer key status part t = absurd t

pub later_give : (price : Paid → ℕ) (held part : Option (Item Pad)) → give_charge price (later_part held part) ≤ give_charge price held + give_charge price part
later_give price held None = omega arith
later_give price held (Some part) = omega arith

pub released_charge : (number : ℕ) (old new : Holding) → Releases old number new
    → one_if_some new.bio + one_if_some new.vector + one_if_some new.slip + 1 ≡ one_if_some old.bio + one_if_some old.vector + one_if_some old.slip
released_charge number old new (inl h) = rw (h.3, h.1) (omega arith)
released_charge number old new (inr (inl h)) = rw (h.3, h.1) (omega arith)
released_charge number old new (inr (inr h)) = rw (h.3, h.1) (omega arith)

pub released_price : (price : Paid → ℕ) (number : ℕ) (old new : Holding) → Releases old number new → held_charge price new + price (paid.IsGiven (payer_at number)) ≡ held_charge price old
released_price price number old new (inl h) = rw (h.3, h.2, h.1) (omega arith)
released_price price number old new (inr (inl h)) = rw (h.3, h.2, h.1) (omega arith)
released_price price number old new (inr (inr h)) = rw (h.3, h.2, h.1) (omega arith)
