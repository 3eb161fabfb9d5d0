-- Sums over maps and books when one place changes.
use Rattle.std.proofs.Common.{◌≡◌, ◌≢◌, ◌+◌, ◌-◌, ◌*◌, ◌<◌, ◌≤◌, if◌then◌else◌, ℕ, Bool, zero, suc, length, Option, None, Some, inl, inr, refl, sym, ◌∙◌, ap, subst, arith}
use Rattle.std.proofs.lemmas.Bool.{eq-eqb, ne_eqb}
pub use Rattle.std.proofs.lemmas.Bool.{cases_eq as same_or_not, cases_lt as below_or}
use Rattle.std.proofs.lemmas.List.{length-set, get_or-set_same, get_or-set_other, get_or_past}
use Rattle.bio_books.specs.Books.{Node, BookState, node_at, with_node}
use Rattle.run_machine.specs.Maps.{upd}
pub use Rattle.run_machine.proofs.Frames.{upd_same as upd-same, upd_other as upd-other}
use Rattle.block_core.specs.Weights.{Weight, sum_at, one_if_same, weigh_option, book_weight}

-- 1 where so, and 0 else
abbrev pub yes : Bool → ℕ
yes b = if b then 1 else 0

-- how far two numbers are apart
abbrev pub apart : ℕ → ℕ → ℕ
apart i j = (i - j) + (j - i)

pub one-same : (i : ℕ) → one_if_same i i ≡ 1
unfolding one_if_same
one-same i = rw (eq-eqb i i refl)

pub one-other : (i j : ℕ) → i ≢ j → one_if_same i j ≡ 0
unfolding one_if_same
one-other i j ne = rw (ne_eqb i j ne)

pub weight-upd : {X : Type 0} (w : X → ℕ) (f : ℕ → X) (i : ℕ) (v : X) (k : ℕ) → w (upd f i v k) + one_if_same i k * w (f i) ≡ w (f k) + one_if_same i k * w v
weight-upd {X} w f i v k =
    elim (same_or_not i k) [
      | inl e ↦
          let P : ℕ → Type 0 = λ j. w (upd f i v j) + one_if_same i j * w (f i) ≡ w (f j) + one_if_same i j * w v in
          let a : w (upd f i v i) ≡ w v = ap w (upd-same f i v) in
          let b : one_if_same i i ≡ 1 = one-same i in
          let here : P i = rw (a, b) (omega arith) in
          subst P e here
      | inr ne ↦
          let a : w (upd f i v k) ≡ w (f k) = ap w (upd-other f i v k (λ e. ne (sym e))) in
          let b : one_if_same i k ≡ 0 = one-other i k ne in
          rw (a, b) (omega arith)
    ]

pub sum_at-other : {X : Type 0} (w : ℕ → X → ℕ) (n : ℕ) (f : ℕ → X) (i : ℕ) (v : X) → n ≤ i → sum_at w n (upd f i v) ≡ sum_at w n f
unfolding sum_at
sum_at-other w zero f i v h = refl
sum_at-other w (suc n) f i v h =
    let a : w n (upd f i v n) ≡ w n (f n) = ap (w n) (upd-other f i v n (omega arith)) in
    let b = sum_at-other w n f i v (omega arith) in
    cc

pub sum_at-upd : {X : Type 0} (w : ℕ → X → ℕ) (n : ℕ) (f : ℕ → X) (i : ℕ) (v : X) → i < n → sum_at w n (upd f i v) + w i (f i) ≡ sum_at w n f + w i v
unfolding sum_at
sum_at-upd w zero f i v h = absurd (omega arith)
sum_at-upd w (suc n) f i v h =
    elim (same_or_not i n) [
      | inl e ↦
          let P : ℕ → Type 0 = λ j. w j (upd f i v j) ≡ w i v in
          let a : P n = subst P e (ap (w i) (upd-same f i v)) in
          let c : w i (f i) ≡ w n (f n) = ap (λ j. w j (f j)) e in
          let b : sum_at w n (upd f i v) ≡ sum_at w n f = sum_at-other w n f i v (omega arith) in
          omega arith
      | inr ne ↦
          let a : w n (upd f i v n) ≡ w n (f n) = ap (w n) (upd-other f i v n (λ e. ne (sym e))) in
          let b : sum_at w n (upd f i v) + w i (f i) ≡ sum_at w n f + w i v = sum_at-upd w n f i v (omega arith) in
          omega arith
    ]

-- a node that is open stands in the list
pub within_book : (book : BookState) (place : ℕ) (node : Node) → node_at book place ≡ Some node → place < length book.nodes
within_book book place node e =
    elim (below_or place (length book.nodes)) [
      | inl lt ↦ lt
      | inr ge ↦ let p : node_at book place ≡ None = get_or_past book.nodes place None ge in absurd (let g : None ≡ Some node = sym p ∙ e in cc)
    ]

-- a book with another node is the map with another place
pub with_node_is : (book : BookState) (place : ℕ) (v : Option Node) → place < length book.nodes → (k : ℕ) → node_at (with_node book place v) k ≡ upd (node_at book) place v k
with_node_is book place v lt k = elim (same_or_not k place) [
  | inl e ↦
      let Q : ℕ → Type 0 = λ x. node_at (with_node book place v) x ≡ upd (node_at book) place v x in
      subst Q (sym e) (get_or-set_same book.nodes place v None lt ∙ sym (upd-same (node_at book) place v))
  | inr ne ↦ get_or-set_other book.nodes place k v None ne ∙ sym (upd-other (node_at book) place v k ne)
]

-- the nodes of a book, one of them another
pub book_upd : (w : Weight) (writer : ℕ) (book : BookState) (place : ℕ) (v : Option Node) → place < length book.nodes
    → book_weight w writer (with_node book place v) + weigh_option (w.node writer place) (node_at book place) ≡ book_weight w writer book + weigh_option (w.node writer place) v
book_upd w writer book place v lt =
    let g : ℕ → Option Node → ℕ = λ place. weigh_option (w.node writer place) in
    let same : length (with_node book place v).nodes ≡ length book.nodes = length-set book.nodes place v in
    let f : node_at (with_node book place v) ≡ upd (node_at book) place v = λ j k. with_node_is book place v lt k j in
    let a : book_weight w writer (with_node book place v) ≡ sum_at g (length book.nodes) (upd (node_at book) place v) =
    ap (λ n. sum_at g n (node_at (with_node book place v))) same ∙ ap (sum_at g (length book.nodes)) f in
    omega (arith, a, sum_at-upd g (length book.nodes) (node_at book) place v lt)
