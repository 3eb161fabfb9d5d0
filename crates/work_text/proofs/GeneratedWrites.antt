-- The writes of a generated text, line by line.
use Rattle.std.proofs.Common.{◌≡◌, ◌∙◌, ◌+◌, ◌*◌, ◌/◌, ◌%◌, ◌≤◌, ◌==◌, ◌&&◌, ℕ, Bool, cond, true, false, zero, suc, List, [], ◌∷◌, ◌++◌, map, min, codes, decimal, refl, ap, subst, arith, None, nat_lt, nat_le}
use Rattle.std.specs.Prelude.{if◌then◌else◌, sum_by}
use Rattle.std.specs.List.{filter, list_any, zip}
use Rattle.std.proofs.Math.Dec.{leb-zero}
use Rattle.std.proofs.lemmas.Bool.{le-leb, le-ltb, leb-true}
use Rattle.std.proofs.lemmas.List.Sums.{sum_by-append}
use Rattle.stack_base.proofs.NumberLemmas.{one_or_none}
use Rattle.decl_text.specs.Text.{is_name}
use Rattle.decl_text.specs.Items.{meaning, number}
use Rattle.decl_text.specs.Commands.{command_of}
use Rattle.decl_text.specs.Checks.{shares}
use Rattle.decl_text.specs.Known.{Declared, Declarations, Written, tree_of}
use Rattle.decl_text.specs.Refusals.{first_found, refusal}
use Rattle.decl_text.specs.declared.item.Item.{Item}
use Rattle.decl_text.specs.declared.item.Item.TheVariants as item
use Rattle.stack_base.specs.declared.stack.Kind.{Kind}
use Rattle.stack_base.specs.Tree.{Copies, Cuts, Leaf, Tree, member_at, over_shape, most_begun}
use Rattle.stack_base.specs.Mapping.{size_of, smallest}
use Rattle.stack_base.proofs.ListLemmas.{Each}
use Rattle.layout_model.specs.Bound.{most_elements}
use Rattle.layout_model.specs.Need.{needed, vectors}
use Rattle.layout_model.specs.Sound.{NothingBehindMembers}
use Rattle.layout_model.proofs.AtMost.{needed_le_most}
use Rattle.work_text.specs.Work.{all_checks, elements_in}
use Rattle.work_text.specs.Generated.{runs, write_words, words_of_runs}
use Rattle.work_text.proofs.Said.{IsWord, Writes, body_of, decimal_writes, word_by}
use Rattle.work_text.proofs.Generating.{Fine, k11, le_most, one_line, stripe_of}

-- ---- what one write needs

closed_leaf : (number sectors : ℕ) → NothingBehindMembers (Leaf number sectors)
unfolding NothingBehindMembers
closed_leaf number sectors = tt

-- one member, or two
closed_one : (number : ℕ) (kind : Kind) (one : Tree) → NothingBehindMembers one → NothingBehindMembers (over_shape Cuts number kind (one ∷ []))
unfolding NothingBehindMembers over_shape
closed_one number kind one closed = (past, inside)
  where
    past : (k : ℕ) → 1 ≤ k → member_at number (one ∷ []) k ≡ Leaf number 0
    past zero lt = absurd (omega (arith, lt))
    past (suc k) lt = refl

    inside : (k : ℕ) → NothingBehindMembers (member_at number (one ∷ []) k)
    inside zero = closed
    inside (suc k) = tt

closed_two : (number : ℕ) (kind : Kind) (one other : Tree) → NothingBehindMembers one → NothingBehindMembers other
    → NothingBehindMembers (over_shape Cuts number kind (one ∷ other ∷ [])) × NothingBehindMembers (over_shape Copies number kind (one ∷ other ∷ []))
unfolding NothingBehindMembers over_shape
closed_two number kind one other first second = ((past, inside), (past, inside))
  where
    past : (k : ℕ) → 2 ≤ k → member_at number (one ∷ other ∷ []) k ≡ Leaf number 0
    past zero lt = absurd (omega (arith, lt))
    past (suc zero) lt = absurd (omega (arith, lt))
    past (suc (suc k)) lt = refl

    inside : (k : ℕ) → NothingBehindMembers (member_at number (one ∷ other ∷ []) k)
    inside zero = first
    inside (suc zero) = second
    inside (suc (suc k)) = tt

and_no : (a b : Bool) → ((a && false) && b) ≡ false
and_no true b = refl
and_no false b = refl

vector_le : (count : ℕ) → vectors count ≤ 1
vector_le count = one_or_none (nat_lt 4 ((count + 7) / 8))

module _ (m0 m1 m2 m3 c0 c1 : List ℕ) where
  abbrev pub devices : List Declared
  devices = (k11 m0 m1 m2 m3 c0 c1).devices

  abbrev pub top : Tree
  top = tree_of devices 10

  closed : NothingBehindMembers top
  closed =
      (closed_two 10 _ _ _
      (closed_two 8 _ _ _ (closed_one 4 _ _ (closed_leaf 0 32768)) (closed_one 5 _ _ (closed_leaf 1 32768))).0
      (closed_two 9 _ _ _ (closed_one 6 _ _ (closed_leaf 2 32768)) (closed_one 7 _ _ (closed_leaf 3 32768))).0).1

  weighs : most_begun top ≡ 9
  unfolding most_begun over_shape
  weighs = refl

  -- at most eleven elements a sector: its bio, a vector, and what begins below
  eleven : (write : Written) → write.dev ≡ 10 → 1 ≤ write.count → elements_in devices write ≤ 11 * write.count
  eleven write dev some =
      let most_below : needed top write.start write.count ≤ 9 * write.count =
      subst (λ w. needed top write.start write.count ≤ w * write.count) weighs (needed_le_most top write.start write.count closed) in
      let same : needed (tree_of devices write.dev) write.start write.count ≡ needed top write.start write.count = ap (λ d. needed (tree_of devices d) write.start write.count) dev in
      let few : vectors write.count ≤ 1 = vector_le write.count in
      omega (arith, most_below, same, few, some)

  -- the writes so far end before this sector, and need no more than eleven elements a sector
  pub record Before (start : ℕ) (writes : List Written) : Type 0 where
    pub ends : Each (λ write. write.start + write.count ≤ start) writes
    pub needs : sum_by (elements_in devices) writes ≤ 11 * start

  later : (start next : ℕ) (writes : List Written) → start ≤ next → Each (λ write. write.start + write.count ≤ start) writes → Each (λ write. write.start + write.count ≤ next) writes
  later start next [] le ends = tt
  later start next (write ∷ writes) le ends = (omega (arith, ends.0, le), later start next writes le ends.1)

  each_last : (P : Written → Type 0) (writes : List Written) (last : Written) → Each P writes → P last → Each P (writes ++ last ∷ [])
  each_last P [] last each is = (is, tt)
  each_last P (write ∷ writes) last each is = (each.0, each_last P writes last each.1 is)

  before_next : (start next : ℕ) (writes : List Written) (write : Written) → Before start writes → write.dev ≡ 10 → 1 ≤ write.count → write.start ≡ start → start + write.count ≡ next
      → Before next (writes ++ write ∷ [])
  before_next start next writes write before dev some at is =
      let need : elements_in devices write ≤ 11 * write.count = eleven write dev some in
      let sum : sum_by (elements_in devices) (writes ++ write ∷ []) ≡ sum_by (elements_in devices) writes + sum_by (elements_in devices) (write ∷ []) =
      sum_by-append (elements_in devices) writes (write ∷ []) in
      let old : sum_by (elements_in devices) writes ≤ 11 * start = before.needs in
      record {
        ends = each_last (λ w. w.start + w.count ≤ next) writes write (later start next writes (omega (arith, is)) before.ends) (omega (arith, at, is));
        needs = omega (arith, sum, old, need, is);
      }

  -- writes that end before a run have no sector of it
  none_shared : (start count : ℕ) (writes : List Written) (rounds : List ℕ) → Each (λ write. write.start + write.count ≤ start) writes
      → list_any (shares 10 start count) (map (λ (at : Written × ℕ). at.0) (filter (λ (at : Written × ℕ). at.1 == 0) (zip writes rounds))) ≡ false
  none_shared start count [] rounds ends = refl
  none_shared start count (write ∷ writes) [] ends = refl
  none_shared start count (write ∷ writes) (round ∷ rounds) ends = go (round == 0) (none_shared start count writes rounds ends.1)
    where
      apart : shares 10 start count write ≡ false
      apart = rw (le-ltb start (write.start + write.count) ends.0) (and_no (write.dev == 10) (nat_lt write.start (start + count)))

      go : (b : Bool) → list_any (shares 10 start count) (map (λ (at : Written × ℕ). at.0) (filter (λ (at : Written × ℕ). at.1 == 0) (zip writes rounds))) ≡ false
          → list_any (shares 10 start count) (map (λ (at : Written × ℕ). at.0) (cond b ((write, round) ∷ filter (λ (at : Written × ℕ). at.1 == 0) (zip writes rounds)) (filter (λ (at : Written × ℕ). at.1 == 0) (zip writes rounds)))) ≡ false
      go true rest = rw (apart, rest) refl
      go false rest = rest

  -- a write of the words of these numbers
  abbrev line_with : List ℕ → List ℕ → List ℕ → List ℕ → List (List ℕ)
  line_with task start count tag = codes "write" ∷ task ∷ codes "m" ∷ start ∷ count ∷ tag ∷ []

  abbrev item_with : List ℕ → List ℕ → List ℕ → List ℕ → Item
  item_with task start count tag = item.Write (number task) (codes "m") (record { start = number start; len = number count }) (number tag)

  abbrev written_with : List ℕ → List ℕ → List ℕ → List ℕ → Written
  written_with task start count tag = record { task = number task; dev = 10; start = number start; count = number count; tag = number tag }

  -- where these writes are known
  abbrev pub with_writes : Bool → List Written → List ℕ → Declarations
  with_writes memory writes rounds = record (k11 m0 m1 m2 m3 c0 c1) { no_memory = memory; writes = writes; rounds = rounds }

  abbrev present_of : List Written → List ℕ → List Written
  present_of writes rounds = map (λ (at : Written × ℕ). at.0) (filter (λ (at : Written × ℕ). at.1 == 0) (zip writes rounds))

  module _ (task start count tag : List ℕ) (t s n g : ℕ) (wt : Writes task t) (ws : Writes start s) (wn : Writes count n) (wg : Writes tag g)
      (memory : Bool) (writes : List Written) (rounds : List ℕ) (low : t ≤ 7) (some : 1 ≤ n) where
    fine_write : nat_lt (min (stripe_of c0) (stripe_of c1)) (number start + number count) ≡ false
        → list_any (shares 10 (number start) (number count)) (present_of writes rounds) ≡ false
        → nat_lt 2048 (number count) ≡ false
        → nat_lt most_elements (sum_by (elements_in devices) writes + elements_in devices (written_with task start count tag)) ≡ false
        → Fine (with_writes memory writes rounds) (line_with task start count tag) (item_with task start count tag)
    unfolding first_found command_of is_name meaning over_shape size_of smallest
    fine_write past apart few little = record {
      formed = rw (wt.option, ws.option, wn.option, wg.option) refl;
      placed = refl;
      numbered = rw (wt.number, ws.number, wn.number, wg.number, leb-zero t, leb-zero s, leb-zero g, le-leb t 7 low, le_most s ws.small, le-leb 1 n some, le_most n wn.small, le_most g wg.small) refl;
      meant = refl;
      unfound = rw (past, apart, few, little) refl;
    }

  -- words of such a line
  pub words_are : (task start count tag : List ℕ) (t s n g : ℕ) → Writes task t → Writes start s → Writes count n → Writes tag g → Each IsWord (line_with task start count tag)
  words_are task start count tag t s n g wt ws wn wg =
      (word_by (codes "write") refl, (wt.is_word, (word_by (codes "m") refl, (ws.is_word, (wn.is_word, (wg.is_word, tt))))))

  module _ (sectors : ℕ) (small : sectors ≤ 65536) (size_of_top : min (stripe_of c0) (stripe_of c1) ≡ sectors) (memory : Bool) where
    -- one more write is right, and the rest behind it decides
    write_right : (k start count at : ℕ) (writes : List Written) (rounds : List ℕ) (rest : List (List ℕ)) → start + count ≤ sectors → 1 ≤ count → count ≤ 512 → Before start writes
        → ((writes : List Written) (rounds : List ℕ) → Before (start + count) writes → refusal all_checks (with_writes memory writes rounds) (at + 1) rest ≡ None)
        → refusal all_checks (with_writes memory writes rounds) at (body_of (write_words k (record { start = start; count = count })) ∷ rest) ≡ None
    write_right k start count at writes rounds rest fits some few before behind =
        let task = decimal (k % 4) in
        let first = decimal start in
        let many = decimal count in
        let tag = decimal (64 * start) in
        let low : k % 4 ≤ 7 = omega arith in
        let wt : Writes task (k % 4) = decimal_writes (k % 4) (omega (arith, low)) in
        let ws : Writes first start = decimal_writes start (omega (arith, fits, small)) in
        let wn : Writes many count = decimal_writes count (omega (arith, few)) in
        let wg : Writes tag (64 * start) = decimal_writes (64 * start) (omega (arith, fits, small)) in
        let start_is : number first ≡ start = ws.value in
        let count_is : number many ≡ count = wn.value in
        let write : Written = written_with task first many tag in
        let need : elements_in devices write ≤ 11 * number many = eleven write refl (omega (arith, some, count_is)) in
        let so_far : sum_by (elements_in devices) writes ≤ 11 * start = before.needs in
        let fine =
        fine_write task first many tag (k % 4) start count (64 * start) wt ws wn wg memory writes rounds low some
        (le-ltb (min (stripe_of c0) (stripe_of c1)) (number first + number many) (omega (arith, size_of_top, start_is, count_is, fits)))
        (none_shared (number first) (number many) writes rounds (later start (number first) writes (omega (arith, start_is)) before.ends))
        (le-ltb 2048 (number many) (omega (arith, count_is, few)))
        (le-ltb most_elements (sum_by (elements_in devices) writes + elements_in devices write) (omega (arith, need, so_far, fits, small, count_is))) in
        one_line (with_writes memory writes rounds) at (write_words k (record { start = start; count = count })) rest (item_with task first many tag)
        (words_are task first many tag (k % 4) start count (64 * start) wt ws wn wg) fine
        ∙ behind (writes ++ write ∷ []) (rounds ++ 0 ∷ [])
        (before_next start (start + count) writes write before refl (omega (arith, some, count_is)) start_is (omega (arith, count_is)))

    pub writes_right : (counts : List ℕ) → Each (λ count. (1 ≤ count) × (count ≤ 512)) counts → (k start at : ℕ) (writes : List Written) (rounds : List ℕ) → Before start writes
        → refusal all_checks (with_writes memory writes rounds) at (map body_of (words_of_runs k (runs sectors start counts))) ≡ None
    unfolding refusal
    writes_right [] each k start at writes rounds before = refl
    writes_right (count ∷ more) each k start at writes rounds before = go (nat_le (start + count) sectors) refl (λ writes rounds before. writes_right more each.1 (k + 1) (start + count) (at + 1) writes rounds before)
      where
        go : (b : Bool) → nat_le (start + count) sectors ≡ b
            → ((writes : List Written) (rounds : List ℕ) → Before (start + count) writes → refusal all_checks (with_writes memory writes rounds) (at + 1) (map body_of (words_of_runs (k + 1) (runs sectors (start + count) more))) ≡ None)
            → refusal all_checks (with_writes memory writes rounds) at (map body_of (words_of_runs k (if b then record { start = start; count = count } ∷ runs sectors (start + count) more else []))) ≡ None
        go false is later = refl
        go true is later = write_right k start count at writes rounds _ (leb-true (start + count) sectors is) each.0.0 each.0.1 before later
