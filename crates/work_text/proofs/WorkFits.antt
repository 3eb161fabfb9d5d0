-- Lines from the first write or `sync` line on that are not refused mean work as it has to be.
use Rattle.std.proofs.Common.{◌≡◌, ◌⊎◌, ℕ, ◌+◌, ◌<◌, ◌≤◌, ◌==◌, Bool, true, false, nat_lt, nat_le, cond, List, [], ◌∷◌, ◌++◌, length, map, get_or, Option, None, Some, inl, inr, refl, sym, ap, ◌∙◌, subst, arith}
use Rattle.std.specs.Prelude.{All, slice_get}
use Rattle.std.specs.List.{AllPairs, list_any}
use Rattle.std.specs.Prelude.{codes}
use Rattle.std.specs.Option.{option_and_then, option_map, option_or, option_to_list}
use Rattle.std.specs.Str.{bytes_eq}
use Rattle.std.proofs.lemmas.Bool.{both_ways, eq-eqb, eqb-false, ltb-false, leb-false, or_parts}
use Rattle.std.proofs.lemmas.List.{append-nil, length-map, length_push}
use Rattle.std.proofs.lemmas.List.Elements.{All-filter, All-nil, All-push, All-weaker}
use Rattle.std.proofs.lemmas.List.Quantifiers.{all_pairs_push}
use Rattle.std.proofs.lemmas.Option.{none-some, same_Some, slice_get-map}
use Rattle.stack_base.specs.declared.ids.DevId.{DevId}
use Rattle.stack_base.specs.declared.ids.PoolId.{PoolId}
use Rattle.stack_base.specs.declared.ids.PoolId.TheVariants.{FsBios, FsVecs, Bios, Records}
use Rattle.stack_base.specs.declared.stack.Device.{Device}
use Rattle.stack_base.specs.declared.stack.Stack.{Stack}
use Rattle.stack_base.proofs.ListLemmas.{any_not, unmapped}
use Rattle.layout_model.specs.declared.write.Write.{Write}
use Rattle.layout_model.specs.OneWay.{IsTop, DoNotOverlap}
use Rattle.decl_text.specs.Text.{words}
use Rattle.decl_text.specs.Items.{said}
use Rattle.decl_text.specs.Accepting.{shown_devices}
use Rattle.decl_text.specs.Checks.{is_among, not_a_top, reserve_zero, shares, too_large, too_many_segments}
use Rattle.decl_text.specs.Fit.{IsReserve}
use Rattle.decl_text.specs.Known.{Declarations, Declared, Change, Written, after_line, all_members, bios_pool_of, device_before, number_in, pool_if, declared_pool, records_pool_of}
use Rattle.decl_text.specs.Reading.{declarations}
use Rattle.decl_text.specs.Refusals.{check, known_after, refusal, said_reason}
use Rattle.decl_text.specs.Stands.{stand_of}
use Rattle.decl_text.specs.declared.item.Item.{Item}
use Rattle.decl_text.specs.declared.item.Item.TheVariants as item
use Rattle.decl_text.specs.declared.item.What.{What}
use Rattle.decl_text.specs.declared.item.What.TheVariants as what
use Rattle.decl_text.specs.declared.reason.Reason.TheVariants as reason
use Rattle.decl_text.specs.declared.stand.Stand.TheVariants.{Front}
use Rattle.decl_text.proofs.Unrefused.{finds_nothing, line_passes, none_refused}
use Rattle.work_text.specs.Fit.{IsPoolIn, WorkIsFit}
use Rattle.work_text.specs.Reading.{work_lines}
use Rattle.work_text.specs.Work.{all_checks, known_of, kept_resizes, last_round, change_of, as_written}
use Rattle.work_text.proofs.LoopLemmas.{first_works}
use Rattle.work_text.proofs.NameLemmas.{among_members}
use Rattle.work_text.proofs.Rests.{never_front, step}
use Rattle.work_text.proofs.RoundsApart.{rounds_apart}
use Rattle.work_text.proofs.WorkLines.{Works}
use Rattle.work_text.proofs.WorkLemmas.{last_few}

-- a write by a writer of a small number to a device that is no member
record IsFitWrite (devices : List Declared) (write : Written) : Type 0 where
  task : write.task ≤ 7
  top : is_among (all_members devices) write.dev ≡ false
  segments : write.count ≤ 2048

record IsFitResize (devices : List Declared) (resize : Change) : Type 0 where
  min : IsReserve resize.min
  pool : IsPoolIn devices resize.pool

record IsFit (known : Declarations) : Type 0 where
  paired : length known.rounds ≡ length known.writes
  writes : All (IsFitWrite known.devices) known.writes
  order : AllPairs (λ round later. round ≤ later) known.rounds
  past : All (λ round. round ≤ known.syncs) known.rounds
  syncs : known.syncs ≤ 1024
  reserves : All (IsFitResize known.devices) known.resizes
  few : length known.resizes ≤ 4096

-- the checks by their places
too_small : (known : Declarations) (said : Item) → said_reason all_checks known (Some said) ≡ None → too_large known said ≡ false
too_small known said none = finds_nothing all_checks known said 4 (check reason.TooLarge too_large) none refl

some_kept : (known : Declarations) (said : Item) → said_reason all_checks known (Some said) ≡ None → reserve_zero known said ≡ false
some_kept known said none = finds_nothing all_checks known said 6 (check reason.ReserveZero reserve_zero) none refl

is_top : (known : Declarations) (said : Item) → said_reason all_checks known (Some said) ≡ None → not_a_top known said ≡ false
is_top known said none = finds_nothing all_checks known said 8 (check reason.NotATop not_a_top) none refl

few_segments : (known : Declarations) (said : Item) → said_reason all_checks known (Some said) ≡ None → too_many_segments known said ≡ false
few_segments known said none = finds_nothing all_checks known said 11 (check reason.TooManySegments too_many_segments) none refl

-- a pool of a device is told by the device's number
bios_by : (number : ℕ) (does : What) (pool : PoolId) → bios_pool_of number does ≡ Some pool → Bios (record { 0 = number }) ≡ pool
bios_by number (what.Disk sectors) pool found = absurd (none-some pool found)
bios_by number _ pool found = same_Some (Bios (record { 0 = number })) pool found

records_by : (number : ℕ) (does : What) (pool : PoolId) → records_pool_of number does ≡ Some pool → Records (record { 0 = number }) ≡ pool
records_by number (what.Mirror records) pool found = same_Some (Records (record { 0 = number })) pool found
records_by number _ pool found = absurd (none-some pool found)

told_by : (own : ℕ → What → Option PoolId) (of : ℕ → PoolId) → ((number : ℕ) (does : What) (pool : PoolId) → own number does ≡ Some pool → of number ≡ pool)
    → (number : ℕ) (device : Option Declared) (pool : PoolId) → option_and_then (λ (d : Declared). own number d.what) device ≡ Some pool → of number ≡ pool
told_by own of by number None pool found = absurd (none-some pool found)
told_by own of by number (Some device) pool found = by number device.what pool found

bios_in : (devices : List Declared) (number : ℕ) (pool : PoolId) → pool_if bios_pool_of devices number ≡ Some pool → IsPoolIn devices pool
bios_in devices number pool found =
    let is = told_by bios_pool_of (λ n. Bios (record { 0 = n })) bios_by number (slice_get devices number) pool found in
    subst (IsPoolIn devices) is (found ∙ ap Some (sym is))

records_in : (devices : List Declared) (number : ℕ) (pool : PoolId) → pool_if records_pool_of devices number ≡ Some pool → IsPoolIn devices pool
records_in devices number pool found =
    let is = told_by records_pool_of (λ n. Records (record { 0 = n })) records_by number (slice_get devices number) pool found in
    subst (IsPoolIn devices) is (found ∙ ap Some (sym is))

-- a pool with a name is one of those that there are
some_of : {A : Type 0} (one other : Option A) (x : A) → option_or one other ≡ Some x → (one ≡ Some x) ⊎ (other ≡ Some x)
some_of None other x found = inr found
some_of (Some y) other x found = inl found

in_device : (devices : List Declared) (own : ℕ → What → Option PoolId)
    → ((number : ℕ) (pool : PoolId) → pool_if own devices number ≡ Some pool → IsPoolIn devices pool)
    → (at : Option ℕ) (pool : PoolId) → option_and_then (pool_if own devices) at ≡ Some pool → IsPoolIn devices pool
in_device devices own each None pool found = absurd (none-some pool found)
in_device devices own each (Some number) pool found = each number pool found

named_in : (devices : List Declared) (bios vecs : Bool) (of_set of_mirror : Option ℕ) (pool : PoolId)
    → cond bios (Some FsBios) (cond vecs (Some FsVecs) (option_or (option_and_then (pool_if bios_pool_of devices) of_set) (option_and_then (pool_if records_pool_of devices) of_mirror))) ≡ Some pool
    → IsPoolIn devices pool
named_in devices true vecs of_set of_mirror pool found = subst (IsPoolIn devices) (same_Some FsBios pool found) tt
named_in devices false true of_set of_mirror pool found = subst (IsPoolIn devices) (same_Some FsVecs pool found) tt
named_in devices false false of_set of_mirror pool found =
    elim (some_of (option_and_then (pool_if bios_pool_of devices) of_set) (option_and_then (pool_if records_pool_of devices) of_mirror) pool found) [
      | inl set ↦ in_device devices bios_pool_of (bios_in devices) of_set pool set
      | inr mirror ↦ in_device devices records_pool_of (records_in devices) of_mirror pool mirror
    ]

pool_in : (devices : List Declared) (word : List ℕ) (pool : PoolId) → declared_pool devices word ≡ Some pool → IsPoolIn devices pool
unfolding declared_pool
pool_in devices word pool found =
    named_in devices (bytes_eq word (codes "fs.bios")) (bytes_eq word (codes "fs.vecs")) (device_before (codes ".bios") devices word)
    (device_before (codes ".records") devices word) pool found

-- one more reserve
more_reserves : (known : Declarations) (pool : List ℕ) (min : ℕ) → IsFit known → IsReserve min → length known.resizes < 4096
    → All (IsFitResize known.devices) (after_line known (Some (item.Resize pool min))).resizes × (length (after_line known (Some (item.Resize pool min))).resizes ≤ 4096)
more_reserves known pool min fit one few = by_pool (declared_pool known.devices pool) (pool_in known.devices pool)
  where
    by_pool : (p : Option PoolId) → ((q : PoolId) → p ≡ Some q → IsPoolIn known.devices q) → All (IsFitResize known.devices) (known.resizes ++ option_to_list (option_map (λ p. record { round = known.syncs; pool = p; min = min }) p))
        × (length (known.resizes ++ option_to_list (option_map (λ p. record { round = known.syncs; pool = p; min = min }) p)) ≤ 4096)
    by_pool None is = rw (append-nil known.resizes) (fit.reserves, omega (arith, few))
    by_pool (Some p) is = (
      All-push (IsFitResize known.devices) known.resizes (record { round = known.syncs; pool = p; min = min }) fit.reserves (record { min = one; pool = is p refl }),
      let r : Change = record { round = known.syncs; pool = p; min = min } in omega (arith, few, length_push known.resizes r),
    )

-- a line that passes all checks keeps this
after_fit : (known : Declarations) (o : Option Item) → Works o → said_reason all_checks known o ≡ None → IsFit known → IsFit (after_line known o)
after_fit known None works none fit = fit
after_fit known (Some (item.Write task dev range tag)) works none fit =
    let said = item.Write task dev range tag in
    let write : Written = record { task = task; dev = number_in known.devices dev; start = range.start; count = range.len; tag = tag } in
    record {
      paired = omega (arith, fit.paired, length_push known.rounds known.syncs, length_push known.writes write);
      writes = All-push (IsFitWrite known.devices) known.writes write fit.writes (record { task = works.0; top = is_top known said none; segments = ltb-false 2048 range.len (few_segments known said none) });
      order = all_pairs_push (λ round later. round ≤ later) known.rounds known.syncs fit.order (λ k d lt. fit.past k d lt);
      past = All-push (λ round. round ≤ known.syncs) known.rounds known.syncs fit.past (omega arith);
      syncs = fit.syncs;
      reserves = fit.reserves;
      few = fit.few;
    }
after_fit known (Some item.Sync) works none fit =
    let more = (or_parts _ _ (too_small known item.Sync none)).0 in
    let lt = leb-false 1024 known.syncs more in
    record {
      paired = fit.paired;
      writes = fit.writes;
      order = fit.order;
      past = All-weaker (λ round. round ≤ known.syncs) (λ round. round ≤ known.syncs + 1) (λ round le. omega (arith, le)) known.rounds fit.past;
      syncs = omega (arith, lt);
      reserves = fit.reserves;
      few = fit.few;
    }
after_fit known (Some (item.Resize pool min)) works none fit =
    let said = item.Resize pool min in
    let small = or_parts _ _ (too_small known said none) in
    let lt = leb-false 4096 (length known.resizes) small.0 in
    let most = ltb-false 1024 min (or_parts _ _ small.1).0 in
    let never = eqb-false min 0 (or_parts _ _ (some_kept known said none)).0 in
    let more = more_reserves known pool min fit (omega (arith, never), most) (omega (arith, lt)) in
    record {
      paired = fit.paired;
      writes = fit.writes;
      order = fit.order;
      past = fit.past;
      syncs = fit.syncs;
      reserves = more.0;
      few = more.1;
    }
after_fit known _ works none fit = absurd works

lines_fit : (known : Declarations) (number : ℕ) (lines : List (List ℕ)) → (stand_of known ≡ Front → declarations lines ≡ []) → refusal all_checks known number lines ≡ None → IsFit known
    → IsFit (known_after known lines)
lines_fit known number [] begins none fit = fit
lines_fit known number (line ∷ lines) begins none fit =
    let parts = none_refused all_checks known number line lines none in
    let passes = line_passes all_checks known line parts.0 in
    let next = step known line fit.paired (λ front. first_works line lines (begins front)) passes.0 in
    lines_fit (after_line known (said (words line))) (number + 1) lines (λ front. absurd (never_front (after_line known (said (words line))) next.behind front)) parts.1
    (after_fit known (said (words line)) next.works passes.1 fit)

nothing_fits : (stack : Stack) → IsFit (known_of stack)
nothing_fits stack = record {
  paired = refl;
  writes = All-nil (IsFitWrite (known_of stack).devices);
  order = λ i j d lt within. absurd (omega (arith, within));
  past = All-nil (λ round. round ≤ 0);
  syncs = omega arith;
  reserves = All-nil (IsFitResize (known_of stack).devices);
  few = omega arith;
}

-- the devices stay those of the stack
after_devices : (known : Declarations) (o : Option Item) → Works o → (after_line known o).devices ≡ known.devices
after_devices known None works = refl
after_devices known (Some (item.Write task dev range tag)) works = refl
after_devices known (Some item.Sync) works = refl
after_devices known (Some (item.Resize pool min)) works = refl
after_devices known _ works = absurd works

lines_devices : (known : Declarations) (number : ℕ) (lines : List (List ℕ)) → (stand_of known ≡ Front → declarations lines ≡ []) → refusal all_checks known number lines ≡ None
    → length known.rounds ≡ length known.writes → (known_after known lines).devices ≡ known.devices
lines_devices known number [] begins none paired = refl
lines_devices known number (line ∷ lines) begins none paired =
    let parts = none_refused all_checks known number line lines none in
    let passes = line_passes all_checks known line parts.0 in
    let next = step known line paired (λ front. first_works line lines (begins front)) passes.0 in
    lines_devices (after_line known (said (words line))) (number + 1) lines (λ front. absurd (never_front (after_line known (said (words line))) next.behind front)) parts.1 next.paired
    ∙ after_devices known (said (words line)) next.works

-- a device that is among no members is no member
no_member : (stack : Stack) (number : ℕ) → is_among (all_members (shown_devices stack)) number ≡ false → IsTop stack number
no_member stack number none device place (at, found, is) =
    let of_device = any_not (λ (d : Device). list_any (λ (m : DevId). m.0 == number) d.members.items) stack.devices.items device at (among_members stack number ∙ none) found in
    let of_member = any_not (λ (m : DevId). m.0 == number) at.members.items place (record { 0 = number }) of_device is in
    both_ways (number == number) of_member (eq-eqb number number refl)

-- writes that share no sector are apart
apart_by : (a b : Write) → shares b.dev.0 b.start b.count (as_written a) ≡ false → DoNotOverlap a b
apart_by a b none dev = by_tests (nat_lt b.start (a.start + a.count)) (nat_lt a.start (b.start + b.count)) refl refl none
  where
    by_tests : (p q : Bool) → nat_lt b.start (a.start + a.count) ≡ p → nat_lt a.start (b.start + b.count) ≡ q → shares b.dev.0 b.start b.count (as_written a) ≡ false
        → (a.start + a.count ≤ b.start) ⊎ (b.start + b.count ≤ a.start)
    by_tests false q is also none = inl (ltb-false b.start (a.start + a.count) is)
    by_tests true false is also none = inr (ltb-false a.start (b.start + b.count) also)
    by_tests true true is also none = absurd (let same = eq-eqb a.dev.0 b.dev.0 dev in let all : shares b.dev.0 b.start b.count (as_written a) ≡ true = rw (same, is, also) refl in both_ways _ none all)

kept_few : (last : ℕ) (resizes : List Change) → length (kept_resizes last resizes) ≤ length resizes
kept_few last [] = omega arith
kept_few last (x ∷ xs) = by_test (nat_le x.round last) (kept_few last xs)
  where
    by_test : (b : Bool) → length (kept_resizes last xs) ≤ length xs → length (cond b (x ∷ kept_resizes last xs) (kept_resizes last xs)) ≤ length (x ∷ xs)
    by_test true few = omega (arith, few)
    by_test false few = omega (arith, few)

pub work_is_fit : WorkIsFit
work_is_fit text accepted work begins (none, is) =
    let stack = accepted.stack in
    let lines = work_lines text accepted in
    let known = known_after (known_of stack) lines in
    let fit = lines_fit (known_of stack) accepted.line lines (λ front. begins) none (nothing_fits stack) in
    let devices : known.devices ≡ shown_devices stack = lines_devices (known_of stack) accepted.line lines (λ front. begins) none refl in
    let resizes : All (λ resize. IsFitResize known.devices (change_of resize)) work.resizes.items = unmapped (IsFitResize known.devices) change_of work.resizes.items
    (subst (All (IsFitResize known.devices)) (sym is.resizes) (All-filter (λ (r : Change). nat_le r.round (last_round known.rounds)) (IsFitResize known.devices) known.resizes fit.reserves)) in
    let writes : All (λ write. IsFitWrite known.devices (as_written write)) work.writes.items = unmapped (IsFitWrite known.devices) as_written work.writes.items (subst (All (IsFitWrite known.devices)) (sym is.writes) fit.writes) in
    record {
      writers = All-weaker (λ write. IsFitWrite known.devices (as_written write)) (λ write. write.task ≤ 7) (λ write one. one.task) work.writes.items writes;
      paired = ap length is.rounds ∙ fit.paired ∙ ap length (sym is.writes) ∙ length-map work.writes.items as_written;
      order = subst (AllPairs (λ round later. round ≤ later)) (sym is.rounds) fit.order;
      apart = record {
        tops = All-weaker (λ write. IsFitWrite known.devices (as_written write)) (λ write. IsTop stack write.dev.0)
            (λ write one. no_member stack write.dev.0 (ap (λ ds. is_among (all_members ds) write.dev.0) (sym devices) ∙ one.top)) work.writes.items writes;
        apart = λ i j a b lt found other round.
            apart_by a b (rounds_apart stack accepted.line lines i j (as_written a) (as_written b) none lt
            (shown_at is.writes i a found) (shown_at is.writes j b other)
            (ap (λ rs. get_or rs i 0) (sym is.rounds) ∙ round ∙ ap (λ rs. get_or rs j 0) is.rounds));
      };
      reserves = All-weaker (λ resize. IsFitResize known.devices (change_of resize)) (λ resize. IsReserve resize.min) (λ resize one. one.min) work.resizes.items resizes;
      last = last_few work.rounds.items (subst (All (λ round. round ≤ 1024)) (sym is.rounds)
          (All-weaker (λ round. round ≤ known.syncs) (λ round. round ≤ 1024) (λ round le. omega (arith, le, fit.syncs)) known.rounds fit.past));
      few = omega (arith, length-map work.resizes.items change_of, ap length is.resizes, kept_few (last_round known.rounds) known.resizes, fit.few);
      segments = All-weaker (λ write. IsFitWrite known.devices (as_written write)) (λ write. write.count ≤ 2048) (λ write one. one.segments) work.writes.items writes;
      pools = All-weaker (λ resize. IsFitResize known.devices (change_of resize)) (λ resize. IsPoolIn (shown_devices stack) resize.pool)
          (λ resize one. subst (λ ds. IsPoolIn ds resize.pool) devices one.pool) work.resizes.items resizes;
    }
  where
    shown_at : {known : List Written} → map as_written work.writes.items ≡ known → (i : ℕ) (write : Write) → slice_get work.writes.items i ≡ Some write → slice_get known i ≡ Some (as_written write)
    shown_at same i write found = ap (λ ws. slice_get ws i) (sym same) ∙ slice_get-map as_written work.writes.items i ∙ ap (option_map as_written) found
