-- Where a task has still to open a node of a book, the book has a vacant place.
use Rattle.std.proofs.Common.{◌≡◌, ◌<◌, ◌≤◌, ◌⊎◌, ℕ, zero, suc, List, [], ◌∷◌, length, Option, None, Some, IsSome, inl, inr, refl, sym, arith, true≢false}
use Rattle.std.specs.Prelude.{slice_get, All}
use Rattle.std.proofs.lemmas.List.Elements.{All-nil, All-cons, All-get_or}
use Rattle.bio_books.specs.Books.{Node, BookState, node_at}
use Rattle.bio_books.specs.Links.{IsVacant, HasNoVacant}
use Rattle.run_machine.specs.Scene.{Setup, Scene}
use Rattle.run_machine.specs.Tasks.{TaskState}
use Rattle.run_machine.specs.Runs.{State}
use Rattle.block_core.specs.Weights.{sum_at, weigh_option, task_weight, book_weight}
use Rattle.block_core.specs.Rooms.{room, HasRoomInBooks}
use Rattle.block_core.proofs.moves.Sums.{one-same}
use Rattle.block_core.proofs.moves.Totals.{both_parts}

abbrev pub HasVacant : BookState → Type 0
HasVacant book = (place : ℕ) × IsVacant book place

-- a list of places has a vacant one, or all are taken
vacant_or_full : (nodes : List (Option Node)) → ((place : ℕ) × (slice_get nodes place ≡ Some None)) ⊎ All IsSome nodes
vacant_or_full [] = inr (All-nil IsSome)
vacant_or_full (None ∷ nodes) = inl (0, refl)
vacant_or_full (Some node ∷ nodes) = elim (vacant_or_full nodes) [
  | inl x ↦ inl (suc x.0, x.1)
  | inr full ↦ inr (All-cons IsSome (Some node) nodes refl full)
]

-- where all are taken each counts
all_count : {X : Type 0} (w : ℕ → X → ℕ) (n : ℕ) (f : ℕ → X) → ((i : ℕ) → i < n → w i (f i) ≡ 1) → sum_at w n f ≡ n
unfolding sum_at
all_count w zero f one_each = refl
all_count w (suc n) f one_each = omega (arith, all_count w n f (λ i lt. one_each i (omega (arith, lt))), one_each n (omega arith))

full_weight : (setup : Setup) (writer : ℕ) (book : BookState) → HasNoVacant book → book_weight (room setup writer) writer book ≡ length book.nodes
full_weight setup writer book full =
    all_count (λ place. weigh_option ((room setup writer).node writer place)) (length book.nodes) (node_at book)
    (λ place lt. counts place (node_at book place) (All-get_or IsSome book.nodes place None lt full))
  where
    counts : (place : ℕ) (node : Option Node) → IsSome node → weigh_option ((room setup writer).node writer place) node ≡ 1
    counts place None some = absurd (true≢false (sym some))
    counts place (Some node) some = one-same writer

pub has_vacant : (scene : Scene) (s : State) → HasRoomInBooks scene s → (place : ℕ) (x : TaskState) (writer : ℕ) → place < scene.tasks → s.task place ≡ x → writer < scene.books
    → 1 ≤ task_weight (room scene.setup writer) place x → HasVacant (s.objects.book writer)
has_vacant scene s r place x writer here is some more = elim (vacant_or_full (s.objects.book writer).nodes) [
  | inl vacant ↦ vacant
  | inr full ↦ absurd (omega (
    arith,
    more,
    full_weight scene.setup writer (s.objects.book writer) full,
    both_parts scene (room scene.setup writer) s place x writer here is some,
    r.room writer,
    r.places writer,
  ))
]
