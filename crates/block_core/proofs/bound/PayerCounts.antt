-- What all that pays is charged, by how many there are of each kind.
use Rattle.std.proofs.Common.{◌≡◌, ◌+◌, ◌-◌, ◌*◌, ◌≤◌, ◌==◌, ◌&&◌, not, ℕ, zero, suc, Bool, true, false, cond, List, [], ◌∷◌, length, refl, ◌∙◌, ap, arith}
use Rattle.std.specs.Prelude.{sum_by}
use Rattle.std.specs.List.{range_with_len}
use Rattle.std.proofs.Math.Nat.{mul-add}
use Rattle.std.proofs.lemmas.List.Sums.{sum_by-cons}
use Rattle.stack_base.specs.declared.stack.Stack.{Stack}
use Rattle.stack_base.specs.Mapping.{slot, head}
use Rattle.stack_base.specs.Tree.{Tree, Leaf, Split, Mirrored, tree}
use Rattle.layout_model.specs.declared.write.Write.{Write}
use Rattle.layout_model.specs.Bound.{all_elements, all_fragments}
use Rattle.layout_model.specs.Need.{elements_begun, needed, fragments_begun, fragments_in_run, vectors}
use Rattle.layout_model.specs.NeedCounts.{elements, write_fragments}
use Rattle.layout_model.proofs.RangeSums.{sum_next}
use Rattle.run_machine.specs.Opened.{Scenario, Change, round_count}
use Rattle.run_machine.specs.Tasks.{needs_vector}
use Rattle.block_core.specs.Charges.{begun_charge, run_charge, vector_charge}
use Rattle.block_core.specs.Bounded.{most_steps}
use Rattle.block_core.specs.Payers.{WriteBio, WriteVector, Record, PieceBio, Fragment, LaterRound, ReserveChange, Paid, cost, unit_price}
use Rattle.block_core.specs.PayerCounts.{records_begun, pieces_begun, record_count, piece_count, payers, every_payer, PayersAreCounted}
use Rattle.block_core.specs.Paying.{write_cost, all_costs}

-- a price for some, and none for the others
times_choice : (each : ℕ) (b : Bool) → cond b each 0 ≡ each * cond b 1 0
times_choice each true = omega arith
times_choice each false = omega arith

times_list : {X : Type 0} (each : ℕ) (e : X → ℕ) (x : X) (xs : List X) → each * sum_by e (x ∷ xs) ≡ each * e x + each * sum_by e xs
times_list each e x xs = ap (λ n. each * n) (sum_by-cons e x xs) ∙ mul-add each (e x) (sum_by e xs)

-- sums, term by term
three_sums : {X : Type 0} (a b c : ℕ) (h e f g : X → ℕ) (xs : List X) → ((x : X) → h x ≡ a * e x + b * f x + c * g x)
    → sum_by h xs ≡ a * sum_by e xs + b * sum_by f xs + c * sum_by g xs
three_sums a b c h e f g [] is = omega arith
three_sums a b c h e f g (x ∷ xs) is =
    omega (arith, is x, sum_by-cons h x xs, times_list a e x xs, times_list b f x xs, times_list c g x xs, three_sums a b c h e f g xs is)

as_many : (each a n : ℕ) → sum_by (λ (k : ℕ). each) (range_with_len a n) ≡ each * n
as_many each a zero = omega arith
as_many each a (suc n) =
    let next : each * suc n ≡ each + each * n = omega (arith, mul-add each 1 n) in
    omega (arith, next, sum_next (λ k. each) a n, as_many each (a + 1) n)

module _ (price : Paid → ℕ) where
  legs_choice : (b : Bool) (n : ℕ) → cond b (cost price Record + sum_by (λ (leg : ℕ). cost price PieceBio) (range_with_len 0 n)) 0
      ≡ cost price Record * cond b 1 0 + cost price PieceBio * cond b n 0
  legs_choice true n = omega (arith, as_many (cost price PieceBio) 0 n)
  legs_choice false n = omega arith

  -- what begins at a sector
  begun_counts : (t : Tree) (r s : ℕ)
      → begun_charge price t r s ≡ cost price Record * records_begun t r s + cost price PieceBio * pieces_begun t r s + cost price Fragment * fragments_begun t r s
  unfolding begun_charge records_begun pieces_begun fragments_begun
  begun_counts (Leaf number sectors) r s = omega (arith, times_choice (cost price Fragment) (r == s))
  begun_counts (Split number kind sizes members) r s =
      let start = (slot kind sizes (head kind sizes r s)).at in
      let at = (slot kind sizes s).at in
      let heads = (head kind sizes r s == s) && not (r == s) in
      omega (
        arith,
        times_choice (cost price PieceBio) heads,
        mul-add (cost price PieceBio) (cond heads 1 0) (pieces_begun (members (slot kind sizes s).member) start at),
        begun_counts (members (slot kind sizes s).member) start at,
      )
  begun_counts (Mirrored number sizes members) r s =
      let legs = range_with_len 0 (length sizes) in
      omega (
        arith,
        legs_choice (r == s) (length sizes),
        mul-add (cost price Record) (cond (r == s) 1 0) (sum_by (λ k. records_begun (members k) r s) legs),
        mul-add (cost price PieceBio) (cond (r == s) (length sizes) 0) (sum_by (λ k. pieces_begun (members k) r s) legs),
        three_sums (cost price Record) (cost price PieceBio) (cost price Fragment) (λ k. begun_charge price (members k) r s) (λ k. records_begun (members k) r s)
            (λ k. pieces_begun (members k) r s) (λ k. fragments_begun (members k) r s) legs (λ k. begun_counts (members k) r s),
      )

  run_counts : (t : Tree) (r len : ℕ)
      → run_charge price t r len ≡ cost price Record * record_count t r len + cost price PieceBio * piece_count t r len + cost price Fragment * fragments_in_run t r len
  unfolding run_charge record_count piece_count fragments_in_run
  run_counts t r len =
      three_sums (cost price Record) (cost price PieceBio) (cost price Fragment) (begun_charge price t r) (records_begun t r) (pieces_begun t r) (fragments_begun t r)
      (range_with_len r len) (λ s. begun_counts t r s)

  vector_counts : (write : Write) → vector_charge price write ≡ cost price WriteVector * vectors write.count
  vector_counts write = times_choice (cost price WriteVector) (needs_vector write)

  writes_count : (stack : Stack) (ws : List Write) → sum_by (write_cost price stack) ws
      ≡ cost price WriteBio * length ws + cost price WriteVector * sum_by (λ (write : Write). vectors write.count) ws
      + cost price Record * sum_by (λ (write : Write). record_count (tree stack write.dev.0) write.start write.count) ws
      + cost price PieceBio * sum_by (λ (write : Write). piece_count (tree stack write.dev.0) write.start write.count) ws
      + cost price Fragment * all_fragments stack ws
  writes_count stack [] = omega arith
  writes_count stack (w ∷ ws) =
      let more : cost price WriteBio * length (w ∷ ws) ≡ cost price WriteBio + cost price WriteBio * length ws = omega (arith, mul-add (cost price WriteBio) 1 (length ws)) in
      omega (
        arith,
        more,
        sum_by-cons (write_cost price stack) w ws,
        vector_counts w,
        run_counts (tree stack w.dev.0) w.start w.count,
        times_list (cost price WriteVector) (λ (write : Write). vectors write.count) w ws,
        times_list (cost price Record) (λ (write : Write). record_count (tree stack write.dev.0) write.start write.count) w ws,
        times_list (cost price PieceBio) (λ (write : Write). piece_count (tree stack write.dev.0) write.start write.count) w ws,
        times_list (cost price Fragment) (λ write. write_fragments stack write) w ws,
        writes_count stack ws,
      )

  changes_count : (changes : List Change) → sum_by (λ (change : Change). cost price ReserveChange) changes ≡ cost price ReserveChange * length changes
  changes_count [] = omega arith
  changes_count (change ∷ changes) =
      omega (arith, sum_by-cons (λ (change : Change). cost price ReserveChange) change changes, mul-add (cost price ReserveChange) 1 (length changes), changes_count changes)

  pub costs_count : (s : Scenario) → all_costs price s ≡ sum_by (λ payer. cost price payer * payers s payer) every_payer
  costs_count s =
      omega (arith, writes_count s.stack s.writes, as_many (cost price LaterRound) 1 (round_count s - 1), changes_count s.changes)

-- what a run needs are records and bios
pieces_choice : (b : Bool) (n : ℕ) → cond b (1 + n) 0 ≡ cond b 1 0 + cond b n 0
pieces_choice true n = omega arith
pieces_choice false n = omega arith

begun_both : (t : Tree) (r s : ℕ) → elements_begun t r s ≡ records_begun t r s + pieces_begun t r s
unfolding elements_begun records_begun pieces_begun
begun_both (Leaf number sectors) r s = refl
begun_both (Split number kind sizes members) r s =
    omega (arith, begun_both (members (slot kind sizes s).member) (slot kind sizes (head kind sizes r s)).at (slot kind sizes s).at)
begun_both (Mirrored number sizes members) r s =
    omega (
      arith,
      pieces_choice (r == s) (length sizes),
      three_sums 1 1 0 (λ k. elements_begun (members k) r s) (λ k. records_begun (members k) r s) (λ k. pieces_begun (members k) r s) (λ k. 0) (range_with_len 0 (length sizes))
          (λ k. omega (arith, begun_both (members k) r s)),
    )

needed_both : (t : Tree) (r len : ℕ) → needed t r len ≡ record_count t r len + piece_count t r len
unfolding needed record_count piece_count
needed_both t r len =
    omega (arith, three_sums 1 1 0 (elements_begun t r) (records_begun t r) (pieces_begun t r) (λ s. 0) (range_with_len r len) (λ s. omega (arith, begun_both t r s)))

elements_count : (stack : Stack) (ws : List Write)
    → length ws + sum_by (λ (write : Write). vectors write.count) ws + sum_by (λ (write : Write). record_count (tree stack write.dev.0) write.start write.count) ws
    + sum_by (λ (write : Write). piece_count (tree stack write.dev.0) write.start write.count) ws ≡ all_elements stack ws
elements_count stack [] = refl
elements_count stack (w ∷ ws) =
    omega (
      arith,
      needed_both (tree stack w.dev.0) w.start w.count,
      sum_by-cons (λ write. elements stack write) w ws,
      sum_by-cons (λ (write : Write). vectors write.count) w ws,
      sum_by-cons (λ (write : Write). record_count (tree stack write.dev.0) write.start write.count) w ws,
      sum_by-cons (λ (write : Write). piece_count (tree stack write.dev.0) write.start write.count) w ws,
      elements_count stack ws,
    )

pub payers_are_counted : PayersAreCounted
payers_are_counted s = (elements_count s.stack s.writes, λ price. costs_count price s)

-- where each event costs one, that is no more than a run may have events
pub few_costs : (s : Scenario) → all_costs unit_price s ≤ most_steps s
few_costs s = omega (arith, costs_count unit_price s, elements_count s.stack s.writes)
