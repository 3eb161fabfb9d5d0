-- What is known of submissions and rescue lists, in the words of sets and devices.
use Rattle.std.proofs.Common.{◌≡◌, ◌+◌, ◌*◌, ◌<◌, ℕ, List, [], ◌∷◌, sym, ◌∙◌, subst, arith}
use Rattle.std.specs.Prelude.{All}
use Rattle.std.proofs.lemmas.List.Elements.{All-nil, All-cons}
use Rattle.stack_base.specs.declared.ids.DevId.{DevId}
use Rattle.stack_base.specs.declared.ids.SetId.{SetId}
use Rattle.stack_base.specs.declared.ids.SetId.TheVariants.{Fs, Of}
use Rattle.stack_base.specs.declared.ids.Status.{Status}
use Rattle.stack_base.specs.PoolId.{pool_number}
use Rattle.stack_base.specs.Tree.{Tree, Leaf, Split, Mirrored}
use Rattle.stack_base.proofs.ListLemmas.{Each}
use Rattle.layout_model.specs.declared.fragment.Fragment.{Fragment}
use Rattle.bio_records.specs.declared.bio.Pad.{Pad}
use Rattle.bio_records.specs.declared.tasks.TaskLists.{TaskLists}
use Rattle.bio_records.specs.Items.{Item}
use Rattle.bioset_pools.specs.Sets.{bios_of}
use Rattle.run_machine.specs.Scene.{Setup, Scene, tree_at}
use Rattle.run_machine.specs.Submissions.{Want, Takes, WantsPunt, Links, Driving, ToPush, ToCut, ToRecord, ToMaster, Doing, Rests, Drives, Copies, Breaks, Submission}
use Rattle.run_machine.specs.Tasks.{TaskState, Writer, Rescuer, Completer, Keeper, Gathered, NoBio, HasBio, HasBoth, Empty, Brings, Carries, Fails}
use Rattle.run_machine.specs.Runs.{State}
use Rattle.block_core.specs.Orders.{IsAbove, AreAbove, GoUp, IsSetOf, IsOwnBelow, IsLegOf, DoingInOrder, DoingBelow, AreBelow, TaskInOrder, AreInListOrder}
use Rattle.block_core.specs.Hands.{GatheredIsRight, WantIsRight, AskIsRight, DoingIsRight, HandIsRight, HandsAreRight}
use Rattle.block_core.proofs.sound.Invariant.{HandFits, DoingFits, TaskIsSound, Invariant}
use Rattle.block_core.proofs.sound.Orders.{Above, Ordered, IsPlaced, IsOwn, WantFits, AskFits, DoingPlaced, HandHome, TaskPlaced, Placed}
use Rattle.block_core.proofs.sound.LegLists.{HasLegs, TaskHasLegs, Legged}
use Rattle.block_core.proofs.sound.CarriedLevels.{TaskOne}
use Rattle.block_core.proofs.status.ToldEnds.{HasEnding}

all_of : {X : Type 0} (P Q : X → Type 0) → ((x : X) → P x → Q x) → (xs : List X) → Each P xs → All Q xs
all_of P Q more [] each = All-nil Q
all_of P Q more (x ∷ xs) each = All-cons Q x xs (more x each.0) (all_of P Q more xs each.1)

-- two facts of each
all_two : {X : Type 0} (P R Q : X → Type 0) → ((x : X) → P x → R x → Q x) → (xs : List X) → Each P xs → Each R xs → All Q xs
all_two P R Q more [] each also = All-nil Q
all_two P R Q more (x ∷ xs) each also = All-cons Q x xs (more x each.0 also.0) (all_two P R Q more xs each.1 also.1)

above_of : (set : SetId) (dev : ℕ) → 2 * dev + 1 < pool_number (bios_of set) → IsAbove set dev
above_of Fs dev lt = tt
above_of (Of other) dev lt = omega (arith, lt)

module _ (setup : Setup) where
  placed_above : (limit dev : ℕ) (item : Item Pad) → IsPlaced setup limit item → 2 * dev + 1 < item.share.no → IsAbove item.bio.set dev
  placed_above limit dev item p up = let set = p.3 in above_of item.bio.set dev (omega (arith, up, set))

  all_above : (limit dev : ℕ) (items : List (Item Pad)) → Each (IsPlaced setup limit) items → Above dev items → AreAbove dev items
  all_above limit dev items placed above =
      all_two (IsPlaced setup limit) (λ (item : Item Pad). 2 * dev + 1 < item.share.no) (λ (item : Item Pad). IsAbove item.bio.set dev) (λ item p up. placed_above limit dev item p up) items placed above

  go_up : (limit : ℕ) (items : List (Item Pad)) → Each (IsPlaced setup limit) items → Ordered items → GoUp items
  go_up limit [] placed ordered = tt
  go_up limit (item ∷ items) placed ordered = (all_above limit item.bio.dev.0 items placed.1 ordered.0, go_up limit items placed.1 ordered.1)

  own_below : (limit dev : ℕ) (item : Item Pad) → IsOwn setup dev limit item → IsOwnBelow dev item
  own_below limit dev item own =
      let set = own.0.3 in
      let share = own.1 in
      let up = own.0.1 in
      (by_set item.bio.set (sym set ∙ share), omega (arith, up, share))
    where
      by_set : (set : SetId) → pool_number (bios_of set) ≡ 2 * dev → IsSetOf dev set
      by_set Fs is = absurd (omega (arith, is))
      by_set (Of other) is = omega (arith, is)

  doing_in_order : (s : State) (limit : ℕ) (doing : Doing) (lists : TaskLists) → DoingFits setup doing lists → DoingPlaced setup limit doing lists → HasLegs s doing lists
      → DoingInOrder s doing lists
  doing_in_order s limit Rests lists fits d legs = fits
  doing_in_order s limit (Drives bio ask) lists fits d legs =
      (placed_above limit bio.bio.dev.0 bio d.1.0 d.1.0.1, d.0, all_above limit bio.bio.dev.0 lists.list1 d.1.1 d.2.0, go_up limit lists.list1 d.1.1 d.2.1)
  doing_in_order s limit (Copies bio master leg want) lists fits d legs = (
    above_of bio.set bio.dev.0 legs.1,
    all_two (IsLegOf s bio.writer master) (IsOwn setup bio.dev.0 limit) (λ item. IsLegOf s bio.writer master item × IsOwnBelow bio.dev.0 item)
        (λ item l own. (l, own_below limit bio.dev.0 item own)) lists.list0 legs.0 d.2,
    all_above limit bio.dev.0 lists.list1 d.3 d.4,
    go_up limit lists.list1 d.3 d.5,
  )
  doing_in_order s limit (Breaks breach kept) lists fits d legs = fits

  all_below : (limit : ℕ) (items : List (Item Pad)) → Each (IsPlaced setup limit) items → AreBelow limit items
  all_below limit items placed = all_of (IsPlaced setup limit) (λ (item : Item Pad). item.bio.dev.0 < limit) (λ item p. p.2) items placed

  -- what a rescuer has
  rescued_below : (dev : ℕ) (submission : Submission) → DoingFits setup submission.doing submission.lists → DoingPlaced setup dev submission.doing submission.lists
      → DoingBelow dev submission.doing × AreBelow dev submission.lists.list0 × AreBelow dev submission.lists.list1
  rescued_below dev submission fits d = by_doing submission.doing submission.lists fits d
    where
      below : Item Pad → Type 0
      below item = item.bio.dev.0 < dev

      by_doing : (doing : Doing) (lists : TaskLists) → DoingFits setup doing lists → DoingPlaced setup dev doing lists → DoingBelow dev doing × AreBelow dev lists.list0 × AreBelow dev lists.list1
      by_doing Rests lists fits d =
          (tt, subst (λ (l : TaskLists). AreBelow dev l.list0) (sym fits) (All-nil below), subst (λ (l : TaskLists). AreBelow dev l.list1) (sym fits) (All-nil below))
      by_doing (Drives bio ask) lists fits d = (d.1.0.2, subst (AreBelow dev) (sym d.0) (All-nil below), all_below dev lists.list1 d.1.1)
      by_doing (Copies bio master leg want) lists fits d = (
        d.1,
        all_of (IsOwn setup bio.dev.0 dev) below (λ item own. own.0.2) lists.list0 d.2,
        all_below dev lists.list1 d.3,
      )
      by_doing (Breaks breach kept) lists fits d = absurd fits

  -- hands
  want_right : (dev : DevId) (want : Want) → WantFits dev.0 want → WantIsRight dev want
  want_right dev (Takes waits) fits = tt
  want_right dev WantsPunt fits = tt
  want_right dev (Links hand) fits = fits

  doing_right : (limit : ℕ) (doing : Doing) (lists : TaskLists) → DoingFits setup doing lists → DoingPlaced setup limit doing lists → DoingIsRight setup doing
  doing_right limit Rests lists fits d = tt
  doing_right limit (Drives bio ask) lists fits d = by_tree (tree_at setup bio.bio.dev) ask d.3
    where
      by_tree : (t : Tree) (ask : Driving) → AskFits t bio.bio.range bio.bio.dev.0 ask → AskIsRight t bio.bio.dev ask
      by_tree (Leaf number sectors) ToPush a = tt
      by_tree (Leaf number sectors) (ToCut want) a = absurd a
      by_tree (Leaf number sectors) ToRecord a = absurd a
      by_tree (Leaf number sectors) (ToMaster slip) a = absurd a
      by_tree (Split number kind sizes members) ToPush a = absurd a
      by_tree (Split number kind sizes members) (ToCut want) a = want_right bio.bio.dev want a.1
      by_tree (Split number kind sizes members) ToRecord a = absurd a
      by_tree (Split number kind sizes members) (ToMaster slip) a = absurd a
      by_tree (Mirrored number sizes members) ToPush a = absurd a
      by_tree (Mirrored number sizes members) (ToCut want) a = absurd a
      by_tree (Mirrored number sizes members) ToRecord a = tt
      by_tree (Mirrored number sizes members) (ToMaster slip) a = a
  doing_right limit (Copies bio master leg want) lists fits d = (fits, want_right bio.dev want d.6)
  doing_right limit (Breaks breach kept) lists fits d = fits

  taken_right : (taken : Gathered) (submission : Submission) → HandFits taken submission → HandHome taken → GatheredIsRight taken submission
  taken_right NoBio submission fits home = tt
  taken_right (HasBio item) submission fits home = (home, fits)
  taken_right (HasBoth item vector) submission fits home = (home.0, home.1, fits)

module _ (scene : Scene) (s : State) (i : Invariant scene s) (p : Placed scene.setup s) where
  pub hands_right : (ends : Fragment → Status) → ((place : ℕ) → HasEnding ends (s.task place)) → ((place : ℕ) → TaskOne (s.task place)) → HandsAreRight scene ends s
  hands_right ends endings ones place = by_task (s.task place) (i.tasks place) (p.tasks place) (endings place) (ones place)
    where
      by_task : (x : TaskState) → TaskIsSound scene x → TaskPlaced scene.setup x → HasEnding ends x → TaskOne x → HandIsRight scene.setup ends x
      by_task (Writer number todo taken submission) fits t e one = (taken_right scene.setup taken submission fits.2 t.2, doing_right scene.setup 32 submission.doing submission.lists fits.1 t.1)
      by_task (Rescuer dev submission) fits t e one = doing_right scene.setup dev.0 submission.doing submission.lists fits.1 t
      by_task (Completer disk Empty) fits t e one = tt
      by_task (Completer disk (Brings bio status)) fits t e one = e
      by_task (Completer disk (Carries writer closed)) fits t e one = one
      by_task (Completer disk (Fails breach kept)) fits t e one = e
      by_task (Keeper keeping) fits t e one = tt

  pub in_list_order : Legged scene s → AreInListOrder scene s
  in_list_order l = record {
    tasks = λ place lt. by_task (s.task place) (i.tasks place) (p.tasks place) (l.tasks place lt);
    rescued = λ dev. all_of (IsOwn scene.setup dev dev) (IsOwnBelow dev) (own_below scene.setup dev dev) (s.objects.rescue dev) (p.rescued dev);
  }
    where
      by_task : (x : TaskState) → TaskIsSound scene x → TaskPlaced scene.setup x → TaskHasLegs s x → TaskInOrder s x
      by_task (Writer number todo taken submission) fits t legs = doing_in_order scene.setup s 32 submission.doing submission.lists fits.1 t.1 legs
      by_task (Rescuer dev submission) fits t legs = let below = rescued_below scene.setup dev.0 submission fits.1 t in (
        doing_in_order scene.setup s dev.0 submission.doing submission.lists fits.1 t legs,
        below.0,
        below.1,
        below.2,
      )
      by_task (Completer disk carried) fits t legs = tt
      by_task (Keeper keeping) fits t legs = tt
