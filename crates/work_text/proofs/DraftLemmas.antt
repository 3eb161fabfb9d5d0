-- The writes so far: what each of them is, and one more.
use Rattle.std.proofs.Common.{◌≡◌, ℕ, ◌+◌, ◌<◌, ◌≤◌, ◌==◌, ◌||◌, Bool, false, List, [], ◌∷◌, ◌++◌, length, get_or, map, Some, None, Option, cond, nat_lt, not, true, refl, ap, sym, ◌∙◌, subst, inl, inr, arith}
use Rattle.std.specs.Prelude.{All, sum_by, is_none, unwrap_or}
use Rattle.std.specs.List.{list_any}
use Rattle.std.proofs.lemmas.List.Elements.{All-cons, All-map, All-nil, All-head, All-tail, Contains-get_or, Contains-push_cases}
use Rattle.std.proofs.lemmas.List.Sums.{sum_by-cons, sum_by_push}
use Rattle.stack_base.specs.declared.stack.Stack.{Stack}
use Rattle.stack_base.specs.Stack.{IsStack}
use Rattle.stack_base.specs.Tree.{Tree, size, tree}
use Rattle.layout_model.specs.declared.write.Write.{Write}
use Rattle.layout_model.specs.declared.counts.Needs.{Needs}
use Rattle.layout_model.specs.declared.totals.Bounds.{Bounds}
use Rattle.layout_model.specs.Need.{needed, vectors}
use Rattle.layout_model.specs.NeedCounts.{IsNeeds, elements, write_fragments}
use Rattle.layout_model.specs.Bound.{IsBound, most_elements, all_elements}
use Rattle.layout_model.specs.Writes.{AreWritesOf, IsWrite}
use Rattle.layout_model.proofs.WriteSizes.{fragments_le_elements}
use Rattle.decl_text.specs.Accepting.{shown_devices}
use Rattle.decl_text.specs.Checks.{is_among, shares}
use Rattle.decl_text.specs.Known.{Declarations, Written, all_members, device_of, present, tree_of}
use Rattle.decl_text.specs.Refusals.{first_found}
use Rattle.decl_text.specs.declared.reason.Reason.{Reason}
use Rattle.decl_text.specs.declared.reason.Reason.TheVariants as reason
use Rattle.decl_text.specs.declared.item.Item.TheVariants as item
use Rattle.work_text.specs.declared.Work.{Work}
use Rattle.work_text.proofs.Rounds.{of_round, first_of_round, of_round_none, of_round_push}
use Rattle.std.proofs.lemmas.List.{length-map, map_push}
use Rattle.decl_text.proofs.ShownTrees.{shown_trees}
use Rattle.work_text.specs.Work.{all_checks, elements_in, as_written}
use Rattle.work_text.specs.Marks.{AreMarks, is_member}
use Rattle.decl_text.specs.Checks.{is_empty_list}
use Rattle.work_text.specs.declared.draft.Draft.{Draft}
use Rattle.work_text.specs.Draft.{IsDraft, item_with, known_so_far, known_with}
use Rattle.work_text.proofs.OverlapLemmas.{marks_next}
use Rattle.work_text.proofs.Rests.{IsPaired}

all_served : (stack : Stack) (writes : List Write) → AreWritesOf stack writes → All (IsWrite stack) writes
all_served stack writes served = λ k d lt. served (get_or writes k d) (Contains-get_or writes k d lt)

-- each of those of a round has a sector
first_some : (b : Bool) (w : Written) (more : List Written) → 1 ≤ w.count → All (λ (w : Written). 1 ≤ w.count) more → All (λ (w : Written). 1 ≤ w.count) (cond b (w ∷ more) more)
first_some true w more first all = All-cons (λ (w : Written). 1 ≤ w.count) w more first all
first_some false w more first all = all

round_some : (n : ℕ) (writes : List Written) (rounds : List ℕ) → All (λ (w : Written). 1 ≤ w.count) writes → All (λ (w : Written). 1 ≤ w.count) (of_round n writes rounds)
round_some n [] rounds all = All-nil (λ (w : Written). 1 ≤ w.count)
round_some n (w ∷ writes) [] all = All-nil (λ (w : Written). 1 ≤ w.count)
round_some n (w ∷ writes) (r ∷ rounds) all =
    subst (All (λ (w : Written). 1 ≤ w.count)) (sym (first_of_round n r w writes rounds))
    (first_some (r == n) w (of_round n writes rounds) (All-head (λ (w : Written). 1 ≤ w.count) w writes all)
    (round_some n writes rounds (All-tail (λ (w : Written). 1 ≤ w.count) w writes all)))

pub counts : (stack : Stack) (work : Work) (syncs : ℕ) → AreWritesOf stack work.writes.items → All (λ (w : Written). 1 ≤ w.count) (present (known_with stack work syncs))
counts stack work syncs served =
    round_some syncs (map as_written work.writes.items) work.rounds.items
    (All-map (λ (w : Written). 1 ≤ w.count) as_written work.writes.items (λ k d lt. (all_served stack work.writes.items served k d lt).some))

-- the present round with one more write of it, and the next one without any
pub present_more : (stack : Stack) (work : Work) (syncs : ℕ) (more : Work) (write : Write) → length work.rounds.items ≡ length work.writes.items
    → more.writes.items ≡ work.writes.items ++ write ∷ [] → more.rounds.items ≡ work.rounds.items ++ syncs ∷ []
    → present (known_with stack more syncs) ≡ present (known_with stack work syncs) ++ as_written write ∷ []
present_more stack work syncs more write paired writes rounds =
    ap (λ (ws : List Write). of_round syncs (map as_written ws) more.rounds.items) writes
    ∙ ap (λ (ws : List Written). of_round syncs ws more.rounds.items) (map_push as_written work.writes.items write)
    ∙ ap (of_round syncs (map as_written work.writes.items ++ as_written write ∷ [])) rounds
    ∙ of_round_push syncs (map as_written work.writes.items) work.rounds.items (as_written write) (paired ∙ sym (length-map work.writes.items as_written))

pub present_next : (stack : Stack) (work : Work) (syncs : ℕ) → All (λ round. round ≤ syncs) work.rounds.items → present (known_with stack work (syncs + 1)) ≡ []
present_next stack work syncs past =
    of_round_none (syncs + 1) (map as_written work.writes.items) work.rounds.items (λ k d lt. omega (arith, past k d lt))

-- what a text says that a write needs is what it needs
tree_same : (stack : Stack) → IsStack stack → (number : ℕ) → number < length stack.devices.items → tree_of (shown_devices stack) number ≡ tree stack number
tree_same stack good = shown_trees stack (λ number device i m found is. (good.each number device found).below i m is)

elements_same : (stack : Stack) → IsStack stack → (write : Write) → write.dev.0 < length stack.devices.items → elements_in (shown_devices stack) (as_written write) ≡ elements stack write
elements_same stack good write known =
    ap (λ (t : Tree). 1 + vectors write.count + needed t write.start write.count) (tree_same stack good write.dev.0 known)

sum_same : (stack : Stack) → IsStack stack → (writes : List Write) → All (IsWrite stack) writes
    → sum_by (elements_in (shown_devices stack)) (map as_written writes) ≡ all_elements stack writes
sum_same stack good [] served = refl
sum_same stack good (write ∷ writes) served =
    let first : IsWrite stack write = All-head (IsWrite stack) write writes served in
    let rest = sum_same stack good writes (All-tail (IsWrite stack) write writes served) in
    let one = elements_same stack good write first.known in
    sum_by-cons (elements_in (shown_devices stack)) (as_written write) (map as_written writes)
    ∙ ap (λ n. n + sum_by (elements_in (shown_devices stack)) (map as_written writes)) one
    ∙ ap (λ n. elements stack write + n) rest
    ∙ sym (sum_by-cons (λ (w : Write). elements stack w) write writes)

-- the checks that can find a write, one behind the other
abbrev pub row_of : Bool → Bool → Bool → Bool → Bool → Option Reason
row_of member past shared long much =
    cond member (Some reason.NotATop) (cond past (Some reason.PastEnd) (cond shared (Some reason.Overlap)
    (cond long (Some reason.TooManySegments) (cond much (Some reason.TooMuchWork) None))))

abbrev at_number : Declarations → ℕ → ℕ → ℕ → ℕ → ℕ → Option Reason
at_number known task start count tag n =
    row_of (is_among (all_members known.devices) n) (nat_lt (size (tree_of known.devices n)) (start + count)) (list_any (shares n start count) (present known)) (nat_lt 2048 count)
    (nat_lt most_elements (sum_by (elements_in known.devices) known.writes + elements_in known.devices (record { task = task; dev = n; start = start; count = count; tag = tag })))

abbrev by_place : Declarations → ℕ → ℕ → ℕ → ℕ → Option ℕ → Option Reason
by_place known task start count tag place = cond (is_none place || false) (Some reason.NoSuchDevice) (at_number known task start count tag (unwrap_or place 0))

found_by : (known : Declarations) (name : List ℕ) (task start count tag : ℕ)
    → first_found all_checks known (item.Write task name (record { start = start; len = count }) tag) ≡ by_place known task start count tag (device_of known.devices name)
unfolding first_found
found_by known name task start count tag = refl

-- no device has the name
pub found_nowhere : (known : Declarations) (name : List ℕ) (task start count tag : ℕ) → device_of known.devices name ≡ None
    → first_found all_checks known (item.Write task name (record { start = start; len = count }) tag) ≡ Some reason.NoSuchDevice
found_nowhere known name task start count tag none = found_by known name task start count tag ∙ ap (by_place known task start count tag) none

-- the checks of a write, by what the stack and the work so far say
pub found_with : (stack : Stack) → IsStack stack → (work : Work) (syncs : ℕ) → AreWritesOf stack work.writes.items → (write : Write) → write.dev.0 < length stack.devices.items
    → (name : List ℕ) → device_of (shown_devices stack) name ≡ Some write.dev.0
    → first_found all_checks (known_with stack work syncs) (item_with name write)
    ≡ row_of (is_member stack write.dev.0) (nat_lt (size (tree stack write.dev.0)) (write.start + write.count))
    (list_any (shares write.dev.0 write.start write.count) (present (known_with stack work syncs))) (nat_lt 2048 write.count)
    (nat_lt most_elements (all_elements stack work.writes.items + elements stack write))
found_with stack good work syncs served write there name named =
    let known = known_with stack work syncs in
    let writes = work.writes.items in
    let dev = write.dev.0 in
    let shared = list_any (shares dev write.start write.count) (present known) in
    let past = λ (t : Tree). nat_lt (size t) (write.start + write.count) in
    let much = λ (n : ℕ). nat_lt most_elements n in
    found_by known name write.task write.start write.count write.tag
    ∙ ap (by_place known write.task write.start write.count write.tag) named
    ∙ ap (λ (t : Tree). row_of (is_member stack dev) (past t) shared (nat_lt 2048 write.count)
    (much (sum_by (elements_in (shown_devices stack)) (map as_written writes) + elements_in (shown_devices stack) (as_written write))))
    (tree_same stack good dev there)
    ∙ ap (λ (n : ℕ). row_of (is_member stack dev) (past (tree stack dev)) shared (nat_lt 2048 write.count) (much (n + elements_in (shown_devices stack) (as_written write))))
    (sum_same stack good writes (all_served stack writes served))
    ∙ ap (λ (n : ℕ). row_of (is_member stack dev) (past (tree stack dev)) shared (nat_lt 2048 write.count) (much (all_elements stack writes + n)))
    (elements_same stack good write there)

-- the first that finds something
pub row_member : (a b c d e : Bool) → a ≡ true → row_of a b c d e ≡ Some reason.NotATop
row_member a b c d e is = rw is

pub row_past : (a b c d e : Bool) → a ≡ false → b ≡ true → row_of a b c d e ≡ Some reason.PastEnd
row_past a b c d e first is = rw (first, is)

pub row_shared : (a b c d e : Bool) → a ≡ false → b ≡ false → c ≡ true → row_of a b c d e ≡ Some reason.Overlap
row_shared a b c d e first second is = rw (first, second, is)

pub row_long : (a b c d e : Bool) → a ≡ false → b ≡ false → c ≡ false → d ≡ true → row_of a b c d e ≡ Some reason.TooManySegments
row_long a b c d e first second third is = rw (first, second, third, is)

pub row_much : (a b c d e : Bool) → a ≡ false → b ≡ false → c ≡ false → d ≡ false → e ≡ true → row_of a b c d e ≡ Some reason.TooMuchWork
row_much a b c d e first second third fourth is = rw (first, second, third, fourth, is)

pub row_none : (a b c d e : Bool) → a ≡ false → b ≡ false → c ≡ false → d ≡ false → e ≡ false → row_of a b c d e ≡ None
row_none a b c d e first second third fourth fifth = rw (first, second, third, fourth, fifth)

-- one more write, and what it needs
pub served_more : (stack : Stack) (writes : List Write) (write : Write) → AreWritesOf stack writes → IsWrite stack write → AreWritesOf stack (writes ++ write ∷ [])
served_more stack writes write served is other there =
    elim (Contains-push_cases writes write other there) [
      | inl before ↦ served other before
      | inr same ↦ subst (IsWrite stack) same is
    ]

pub bound_more : (stack : Stack) → IsStack stack → (writes : List Write) (z : ℕ) (bound : Bounds) (write : Write) (needs : Needs) → IsBound stack writes z bound
    → IsNeeds stack write needs → IsWrite stack write → bound.e + needs.elements ≤ most_elements
    → IsBound stack (writes ++ write ∷ []) z (record { e = bound.e + needs.elements; g = bound.g + needs.fragments; z = bound.z })
bound_more stack good writes z bound write needs so_far need is allowed =
    let more = sum_by_push (λ (w : Write). elements stack w) writes write in
    let more_parts = sum_by_push (λ (w : Write). write_fragments stack w) writes write in
    let fewer = fragments_le_elements stack good write is in
    record {
      allowed = omega (arith, so_far.elements, need.elements);
      elements = omega (arith, so_far.elements, need.elements);
      fragments = omega (arith, so_far.fragments, need.fragments);
      entries = so_far.entries;
      fewer = omega (arith, so_far.fewer, need.elements, need.fragments);
    }

-- a list of one more is not empty
pub some_there : {X : Type 0} (xs : List X) (x : X) → not (is_empty_list (xs ++ x ∷ [])) ≡ true
some_there [] x = refl
some_there (y ∷ xs) x = refl

-- each write has its round
pub draft_paired : (stack : Stack) (draft : Draft) → IsDraft stack draft → IsPaired (known_so_far stack draft)
draft_paired stack draft is = is.paired ∙ sym (length-map draft.work.writes.items as_written)

-- the end of a round
pub next_round : (stack : Stack) (draft : Draft) → IsDraft stack draft → draft.syncs < 1024
    → IsDraft stack (record { work = draft.work; syncs = draft.syncs + 1; is_written = false; marks = draft.marks })
next_round stack draft is few =
    let none : present (known_with stack draft.work (draft.syncs + 1)) ≡ [] = present_next stack draft.work draft.syncs is.past in
    record {
      bound = is.bound;
      served = is.served;
      paired = is.paired;
      past = λ k d lt. omega (arith, is.past k d lt);
      few_syncs = omega arith;
      few_resizes = is.few_resizes;
      pools = is.pools;
      written = sym (ap (λ (ws : List Written). not (is_empty_list ws)) none);
      marks = subst (λ (ws : List Written). AreMarks stack (draft.syncs + 1 + 1) ws draft.marks.items) (sym none)
          (marks_next stack (draft.syncs + 1) (present (known_so_far stack draft)) draft.marks.items is.marks);
    }
