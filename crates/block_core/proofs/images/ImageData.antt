-- Images hold the data of what a run has completed.
use Rattle.std.proofs.Common.{◌≡◌, ◌≢◌, ◌+◌, ◌-◌, ◌*◌, ◌%◌, ◌^◌, ◌<◌, ◌≤◌, ◌&&◌, ◌⊎◌, ◌++◌, if◌then◌else◌, ℕ, Bool, true, false, List, [], ◌∷◌, length, map, Some, inl, inr, refl, sym, ◌∙◌, ap, subst, arith, get_or, remove}
use Rattle.std.specs.Prelude.{sum_by, All, slice_get, slice_index_or, nat_le, nat_lt}
use Rattle.std.specs.List.{range_with_len}
use Rattle.std.proofs.lemmas.Bool.{ne_eqb}
use Rattle.std.proofs.lemmas.Bool.Decides.{nat_tests}
use Rattle.std.proofs.lemmas.List.Edits.{get_or-remove_below, get_or-remove_above, length-remove}
use Rattle.std.proofs.lemmas.List.Elements.{All-nil, All-push, All-get_or, All-from_get_or}
use Rattle.std.proofs.lemmas.List.Sums.{get_or-le-sum_by}
use Rattle.std.proofs.lemmas.Option.{get_or_from_slice_get, slice_get_within}
use Rattle.elem_ledger.specs.Ledger.{LedgerId}
use Rattle.stack_base.specs.declared.ids.Status.{Status}
use Rattle.stack_base.specs.declared.ids.Status.TheVariants as status
use Rattle.stack_base.specs.Fault.{status_eq, fault}
use Rattle.stack_base.specs.Tree.{size, tree}
use Rattle.stack_base.specs.Words.{sector_from, sector_data, zero_sector}
use Rattle.layout_model.specs.declared.fragment.Fragment.{Fragment}
use Rattle.layout_model.specs.May.{bads_of, fault_of}
use Rattle.bio_records.specs.declared.bio.Pad.{Pad}
use Rattle.bio_records.specs.Items.{Item}
use Rattle.model_disks.specs.Disks.{DiskState}
use Rattle.model_disks.specs.Moves.{pushed, written, Completes}
use Rattle.model_disks.proofs.MoveLemmas.{bios_write_their_sectors, size_after}
use Rattle.run_machine.specs.declared.event.Event.{Event}
use Rattle.run_machine.specs.Maps.{upd}
use Rattle.run_machine.specs.Scene.{Scene}
use Rattle.run_machine.specs.Submissions.{ToPush, Drives}
use Rattle.run_machine.specs.Tasks.{Todo, first_bio}
use Rattle.layout_model.specs.Writes.{IsWrite}
use Rattle.layout_model.proofs.RangeSums.{sum_of_two, sum_of_zero}
use Rattle.std.proofs.lemmas.List.{length-replicate, get_or-replicate}
use Rattle.run_machine.specs.Opened.{Scenario, scene, start, todos, setup_in}
use Rattle.run_machine.specs.Runs.{State, IsRun}
use Rattle.run_machine.proofs.Frames.{upd_keeps}
use Rattle.block_core.specs.Weights.{total_weight}
use Rattle.block_core.specs.Scenarios.{IsScenario}
use Rattle.block_core.specs.Fragments.{offset_of, fragment_of, completed_by, completed}
use Rattle.block_core.specs.Images.{tag_of, lies_at, sector_after, held_after, ImagesAreOfCompleted}
use Rattle.block_core.proofs.moves.Sums.{upd-same, upd-other, same_or_not, below_or}
use Rattle.block_core.proofs.moves.Totals.{part_of}
use Rattle.block_core.proofs.moves.Moves.{Move, Can, after, limit_of}
use Rattle.block_core.proofs.moves.Moves as moves
use Rattle.block_core.proofs.moves.Geometry.{IsThere}
use Rattle.block_core.proofs.sound.Orders.{DoingPlaced, Placed, DeviceGeometry}
use Rattle.block_core.proofs.sound.OrdersKept.{placed_at}
use Rattle.block_core.proofs.sound.Invariant.{LedgersAreNumbered}
use Rattle.block_core.proofs.moves.StepMoves.{step_is_move}
use Rattle.block_core.proofs.sound.EveryRun.{IsReachedWhole, runs_whole, start_whole}
use Rattle.block_core.proofs.moves.Devices.{ground}
use Rattle.block_core.proofs.start.InvariantAtStart.{todos_all}
use Rattle.block_core.proofs.images.Completed.{small}
use Rattle.block_core.proofs.start.StartTotals.{opened_total, all_sum}
use Rattle.block_core.proofs.moves.Misfits.{misfits, no_misfits}
use Rattle.block_core.proofs.images.StillToCome.{over, ended}
use Rattle.block_core.proofs.images.Completions.{step_completes}
use Rattle.block_core.specs.Images.{HasItsWord}
use Rattle.block_core.proofs.images.BioData.{loose, unfit, tied, not_loose, unfit_follows, own_tags, first_tied}

all_remove : {X : Type 0} (P : X → Type 0) (xs : List X) (n : ℕ) (d : X) → n < length xs → All P xs → All P (remove xs n)
all_remove P xs n d lt all =
    let long = length-remove xs n lt in
    All-from_get_or P (remove xs n) d (λ i within. elim (below_or i n) [
      | inl below ↦ subst P (sym (get_or-remove_below xs n d i below lt)) (All-get_or P xs i d (omega (arith, within, long)) all)
      | inr above ↦ subst P (sym (get_or-remove_above xs n d i above lt)) (All-get_or P xs (i + 1) d (omega (arith, within, long)) all)
    ])

-- words that are the same modulo 2 ^ 64 give the same sector
same_sector : (word tag o j : ℕ) → word % 2 ^ 64 ≡ (tag + 64 * o) % 2 ^ 64 → sector_from (word + 64 * j) ≡ sector_from (tag + 64 * (o + j))
unfolding sector_from
same_sector word tag o j is =
    let each : (i : ℕ) → (word + 64 * j + i) % 2 ^ 64 ≡ (tag + 64 * (o + j) + i) % 2 ^ 64 = λ i. omega (arith, is) in
    λ k. map (λ i. each i k) (range_with_len 0 64)

module _ (s : Scenario) where
  abbrev pub IsWaiting : ℕ → Item Pad → Type 0
  IsWaiting disk item = IsThere (setup_in s) item.bio × (item.bio.dev.0 ≡ disk)

  -- a disk with its bad ranges and its sectors, whose bios are all within it
  pub record IsOwn (number : ℕ) (disk : DiskState) : Type 0 where
    pub waiting : All (IsWaiting number) disk.pending
    pub bads : disk.bad ≡ bads_of s.stack number
    pub sized : length disk.image ≡ size (tree s.stack number)

  own_after : (number : ℕ) (old : DiskState) (index : ℕ) (bio : Item Pad) (ending : Status) (new : DiskState) → IsOwn number old → Completes old index bio ending new → IsOwn number new
  own_after number old index bio ending new own c =
      let lt = slice_get_within old.pending index bio c.taken in
      let fits : IsWaiting number bio = subst (IsWaiting number) (get_or_from_slice_get old.pending index bio bio c.taken) (All-get_or (IsWaiting number) old.pending index bio lt own.waiting) in
      let within = fits.0.within in
      let wide : size (tree s.stack bio.bio.dev.0) ≡ size (tree s.stack number) = ap (λ k. size (tree s.stack k)) fits.1 in
      let sized = own.sized in
      record {
        waiting = subst (All (IsWaiting number)) (sym (ap (λ (d : DiskState). d.pending) c.after)) (all_remove (IsWaiting number) old.pending index bio lt own.waiting);
        bads = ap (λ (d : DiskState). d.bad) c.after ∙ own.bads;
        sized = size_after old index bio ending new c (omega arith) ∙ own.sized;
      }

  -- a completed bio was one of its disk's,
  pub completed_waits : (number : ℕ) (old : DiskState) (index : ℕ) (bio : Item Pad) (ending : Status) (new : DiskState) → IsOwn number old → Completes old index bio ending new
      → IsWaiting number bio
  completed_waits number old index bio ending new own c =
      subst (IsWaiting number) (get_or_from_slice_get old.pending index bio bio c.taken)
      (All-get_or (IsWaiting number) old.pending index bio (slice_get_within old.pending index bio c.taken) own.waiting)

  -- and ends as its fragment ends
  pub completed_ends : (number : ℕ) (old : DiskState) (index : ℕ) (bio : Item Pad) (ending : Status) (new : DiskState) → IsOwn number old → Completes old index bio ending new
      → ending ≡ fault_of s.stack (fragment_of bio.bio)
  completed_ends number old index bio ending new own c =
      let fits = completed_waits number old index bio ending new own c in
      c.status ∙ ap (λ bads. fault bads bio.bio.range) own.bads ∙ ap (λ k. fault (bads_of s.stack k) bio.bio.range) (sym fits.1)

  -- what a completion makes of a sector of its disk
  completed_sector : (number x : ℕ) (old : DiskState) (index : ℕ) (bio : Item Pad) (ending : Status) (new : DiskState) → IsOwn number old → Completes old index bio ending new
      → HasItsWord s bio.bio → slice_index_or new.image x [] ≡ sector_after s number x (fragment_of bio.bio) (slice_index_or old.image x [])
  completed_sector number x old index bio ending new own c fits_data =
      let fits = completed_waits number old index bio ending new own c in
      let within = fits.0.within in
      let wide : size (tree s.stack bio.bio.dev.0) ≡ size (tree s.stack number) = ap (λ k. size (tree s.stack k)) fits.1 in
      let sized = own.sized in
      let f = fragment_of bio.bio in
      let ends : ending ≡ fault_of s.stack f = completed_ends number old index bio ending new own c in
      let image : new.image ≡ (if status_eq (fault_of s.stack f) status.Ok then written bio.bio old.image else old.image) =
      ap (λ (d : DiskState). d.image) c.after ∙ ap (λ e. if status_eq e status.Ok then written bio.bio old.image else old.image) ends in
      ap (λ i. slice_index_or i x []) image
      ∙ by_tests (lies_at f number x) (status_eq (fault_of s.stack f) status.Ok) refl fits.1 (omega arith)
    where
      start : ℕ
      start = bio.bio.range.start

      inside_at : lies_at (fragment_of bio.bio) number x ≡ true → (start ≤ x) × (x < start + bio.bio.range.len)
      inside_at is = (grind (arith, nat_tests, is), grind (arith, nat_tests, is))

      outside_at : lies_at (fragment_of bio.bio) number x ≡ false → bio.bio.dev.0 ≡ number → (x < start) ⊎ (start + bio.bio.range.len ≤ x)
      outside_at is dev = grind (arith, nat_tests, is, dev)

      by_tests : (lies well : Bool) → lies_at (fragment_of bio.bio) number x ≡ lies → bio.bio.dev.0 ≡ number → start + bio.bio.range.len ≤ length old.image
          → slice_index_or (if well then written bio.bio old.image else old.image) x []
          ≡ (if lies && well then sector_data (tag_of s bio.bio.write) (offset_of bio.bio + (x - start)) else slice_index_or old.image x [])
      by_tests true false is dev within = refl
      by_tests false false is dev within = refl
      by_tests false true is dev within = bios_write_their_sectors.outside bio.bio old.image within x (outside_at is dev)
      by_tests true true is dev within =
          let there = inside_at is in
          let at : start + (x - start) ≡ x = omega (arith, there.0) in
          let lt : x - start < bio.bio.range.len = omega (arith, there.0, there.1) in
          ap (λ i. slice_index_or (written bio.bio old.image) i []) (sym at)
          ∙ bios_write_their_sectors.inside bio.bio old.image within (x - start) lt
          ∙ same_sector bio.bio.word (tag_of s bio.bio.write) (offset_of bio.bio) (x - start) fits_data

  -- a fragment of another disk
  elsewhere : (number x : ℕ) (f : Fragment) (held : List ℕ) → f.disk.0 ≢ number → sector_after s number x f held ≡ held
  elsewhere number x f held ne = ap (λ b. if (b && (nat_le f.at x && nat_lt x (f.at + f.len))) && status_eq (fault_of s.stack f) status.Ok then sector_data (tag_of s f.write) (f.offset + (x - f.at)) else held) (ne_eqb f.disk.0 number ne)

module _ (s : Scenario) (ledger : ℕ → LedgerId) (st : State) (a : Placed (setup_in s) st) (own : (number : ℕ) → IsOwn s number (st.objects.disk number)) where
  abbrev here : Scene
  here = scene s ledger

  pushed_own : (bio : Item Pad) → IsThere (setup_in s) bio.bio → (number : ℕ) → IsOwn s number (upd st.objects.disk bio.bio.dev.0 (pushed bio (st.objects.disk bio.bio.dev.0)) number)
  pushed_own bio there =
      let old = own bio.bio.dev.0 in
      upd_keeps (IsOwn s) st.objects.disk bio.bio.dev.0 (pushed bio (st.objects.disk bio.bio.dev.0)) own
      (record { waiting = All-push (IsWaiting s bio.bio.dev.0) (st.objects.disk bio.bio.dev.0).pending bio old.waiting (there, refl); bads = old.bads; sized = old.sized })

  pub own_stays : (m : Move) → Can here st m → (number : ℕ) → IsOwn s number ((after here st m).objects.disk number)
  -- pushes: the bio is there, and goes to its own disk
  own_stays (moves.Pushes place x bio lists) c =
      let d : DoingPlaced (setup_in s) (limit_of x) (Drives bio ToPush) lists = placed_at (setup_in s) st a place x (Drives bio ToPush) lists c.1 c.2 in
      pushed_own bio d.1.0.0
  -- completions: the disk keeps its bad ranges and its size, and the other bios wait on
  own_stays (moves.Completed place disk index bio ending new) c =
      upd_keeps (IsOwn s) st.objects.disk disk.0 new own (own_after s disk.0 (st.objects.disk disk.0) index bio ending new (own disk.0) c.3)
  -- all others: no disk changes
  own_stays _ c = own

  -- the bio that is completed has its own data
  pending_tied : (disk index : ℕ) (bio : Item Pad) → disk < here.setup.count → slice_get (st.objects.disk disk).pending index ≡ Some bio → total_weight here (misfits (unfit s)) st ≡ 0 → HasItsWord s bio.bio
  pending_tied disk index bio lt at none =
      let g : Item Pad → ℕ = λ item. unfit s item.bio in
      let xs = (st.objects.disk disk).pending in
      let within = slice_get_within xs index bio at in
      let a = part_of (λ dev (disk : DiskState). sum_by g disk.pending) here.setup.count st.objects.disk disk lt in
      let b = get_or-le-sum_by g xs index bio within in
      let c : g (get_or xs index bio) ≡ g bio = ap g (get_or_from_slice_get xs index bio bio at) in
      tied s bio.bio (omega (arith, none, a, b, c))

  same_held : (number x i : ℕ) (v : DiskState) → slice_index_or v.image x [] ≡ slice_index_or (st.objects.disk i).image x []
      → slice_index_or (upd st.objects.disk i v number).image x [] ≡ slice_index_or (st.objects.disk number).image x []
  same_held number x i v same =
      elim (same_or_not number i) [
        | inl e ↦ subst (λ k. slice_index_or (upd st.objects.disk i v k).image x [] ≡ slice_index_or (st.objects.disk k).image x []) (sym e)
            (ap (λ (d : DiskState). slice_index_or d.image x []) (upd-same st.objects.disk i v) ∙ same)
        | inr ne ↦ ap (λ (d : DiskState). slice_index_or d.image x []) (upd-other st.objects.disk i v number ne)
      ]

  -- what an event makes of a sector
  pub event_holds : (m : Move) → Can here st m → total_weight here (misfits (unfit s)) st ≡ 0 → (number x : ℕ)
      → slice_index_or ((after here st m).objects.disk number).image x [] ≡ held_after s number x (ended m) (slice_index_or (st.objects.disk number).image x [])
  -- pushes: a bio waits in its disk, and no sector changes
  event_holds (moves.Pushes place x bio lists) c none number at = same_held number at bio.bio.dev.0 (pushed bio (st.objects.disk bio.bio.dev.0)) refl
  -- completions: the bio has its own data, and sectors of other disks stay as they are
  event_holds (moves.Completed place disk index bio ending new) c none number at =
      let old = own disk.0 in
      let sector : ℕ → List ℕ = λ k. slice_index_or (st.objects.disk k).image at [] in
      let P : ℕ → Type 0 = λ k. slice_index_or (upd st.objects.disk disk.0 new k).image at [] ≡ sector_after s k at (fragment_of bio.bio) (sector k) in
      let fits = All-get_or (IsWaiting s disk.0) (st.objects.disk disk.0).pending index bio (slice_get_within (st.objects.disk disk.0).pending index bio c.3.taken) old.waiting in
      let mine : IsWaiting s disk.0 bio = subst (IsWaiting s disk.0) (get_or_from_slice_get (st.objects.disk disk.0).pending index bio bio c.3.taken) fits in
      elim (same_or_not number disk.0) [
        | inl e ↦ subst P (sym e)
            (ap (λ (d : DiskState). slice_index_or d.image at []) (upd-same st.objects.disk disk.0 new)
            ∙ completed_sector s disk.0 at (st.objects.disk disk.0) index bio ending new old c.3 (pending_tied disk.0 index bio c.2 c.3.taken none))
        | inr ne ↦ ap (λ (d : DiskState). slice_index_or d.image at []) (upd-other st.objects.disk disk.0 new number ne)
            ∙ sym (elsewhere s number at (fragment_of bio.bio) (sector number) (λ q. ne (sym q ∙ mine.1)))
      ]
  -- all others: no disk changes
  event_holds _ c none number at = refl

-- one after the other
held_joined : (s : Scenario) (number x : ℕ) (first second : List Fragment) (held : List ℕ) → held_after s number x (first ++ second) held ≡ held_after s number x second (held_after s number x first held)
held_joined s number x [] second held = refl
held_joined s number x (f ∷ first) second held = held_joined s number x first second (sector_after s number x f held)

module _ (s : Scenario) (ledger : ℕ → LedgerId) (f : LedgersAreNumbered (scene s ledger)) (g : DeviceGeometry (setup_in s)) where
  pub runs_own : (st : State) (events : List Event) (new : State) → IsReachedWhole (scene s ledger) st → ((number : ℕ) → IsOwn s number (st.objects.disk number))
      → IsRun (scene s ledger) st events new → (number : ℕ) → IsOwn s number (new.objects.disk number)
  runs_own st [] new i own run number = subst (λ (t : State). IsOwn s number (t.objects.disk number)) (sym run) (own number)
  runs_own st (event ∷ events) new i own (next, (place, steps), run) number =
      let here = scene s ledger in
      let moved = step_is_move here st f i.kept place event next steps in
      let j = runs_whole here f g st (event ∷ []) next i (next, (place, steps), refl) in
      let owned : (k : ℕ) → IsOwn s k (next.objects.disk k) =
      λ k. subst (λ (t : State). IsOwn s k (t.objects.disk k)) (sym moved.is) (own_stays s ledger st i.placed own moved.move moved.can k) in
      runs_own next events new j owned run number

  pub runs_hold : (st : State) (events : List Event) (new : State) → IsReachedWhole (scene s ledger) st → total_weight (scene s ledger) (misfits (unfit s)) st ≡ 0
      → ((number : ℕ) → IsOwn s number (st.objects.disk number)) → (run : IsRun (scene s ledger) st events new) (number x : ℕ)
      → slice_index_or (new.objects.disk number).image x [] ≡ held_after s number x (completed (scene s ledger) st events new run) (slice_index_or (st.objects.disk number).image x [])
  runs_hold st [] new i none own run number x = ap (λ (t : State). slice_index_or (t.objects.disk number).image x []) run
  runs_hold st (event ∷ events) new i none own (next, (place, steps), run) number x =
      let here = scene s ledger in
      let moved = step_is_move here st f i.kept place event next steps in
      let j = runs_whole here f g st (event ∷ []) next i (next, (place, steps), refl) in
      let stays : total_weight here (misfits (unfit s)) next ≡ 0 = ap (total_weight here (misfits (unfit s))) moved.is ∙ no_misfits (unfit s) (unfit_follows s) here st i.kept none moved.move moved.can in
      let owned : (number : ℕ) → IsOwn s number (next.objects.disk number) =
      λ k. subst (λ (t : State). IsOwn s k (t.objects.disk k)) (sym moved.is) (own_stays s ledger st i.placed own moved.move moved.can k) in
      let old = slice_index_or (st.objects.disk number).image x [] in
      let one_event : slice_index_or (next.objects.disk number).image x [] ≡ held_after s number x (completed_by steps.reply) old =
      ap (λ (t : State). slice_index_or (t.objects.disk number).image x []) moved.is
      ∙ event_holds s ledger st i.placed own moved.move moved.can none number x
      ∙ ap (λ fragments. held_after s number x fragments old) (sym (step_completes here st place event next steps moved)) in
      runs_hold next events new j stays owned run number x
      ∙ ap (held_after s number x (completed here next events new run)) one_event
      ∙ sym (held_joined s number x (completed_by steps.reply) (completed here next events new run) old)

module _ (s : Scenario) (ledger : ℕ → LedgerId) (good : IsScenario s) where
  pub start_own : (number : ℕ) → IsOwn s number ((start s).objects.disk number)
  start_own number = record { waiting = All-nil (IsWaiting s number); bads = refl; sized = length-replicate (size (tree s.stack number)) zero_sector }

  pub start_fits : total_weight (scene s ledger) (misfits (unfit s)) (start s) ≡ 0
  start_fits =
      let over_first : Todo → ℕ = λ todo. over (first_bio 0 todo 0) in
      let loose_first : Todo → ℕ = λ todo. loose s (first_bio 0 todo 0) in
      omega (
        arith,
        opened_total s good ledger (misfits (unfit s)) (λ todo. over_first todo + loose_first todo) (λ n ts. refl),
        sum_of_two over_first loose_first (todos s),
        all_sum (λ (todo : Todo). IsWrite s.stack todo.write) over_first (λ todo. 0) (todos s) (λ todo is. small s good ledger todo is) (todos_all s (IsWrite s.stack) good.writes),
        all_sum (λ (todo : Todo). tag_of s todo.number ≡ todo.write.tag) loose_first (λ todo. 0) (todos s) (λ todo is. not_loose s (first_bio 0 todo 0) (first_tied s todo is)) (own_tags s),
        sum_of_zero (todos s),
      )

pub images_are_of_completed : ImagesAreOfCompleted
images_are_of_completed s ledger events state good naming run number x lt =
    let f : LedgersAreNumbered (scene s ledger) = record { named = naming } in
    let g = ground s.stack good.stack (setup_in s).places in
    runs_hold s ledger f g (start s) events state (start_whole s ledger good naming) (start_fits s ledger good) (start_own s ledger good) run number x
    ∙ ap (held_after s number x (completed (scene s ledger) (start s) events state run)) (get_or-replicate (size (tree s.stack number)) x zero_sector [] lt)
