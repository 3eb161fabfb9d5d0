-- Where a text is cut at the first separator.
use Rattle.std.proofs.Common.{◌≡◌, ◌+◌, ◌<◌, ◌≤◌, ℕ, zero, suc, Bool, true, false, nat_lt, List, [], ◌∷◌, length, take, drop, get_or, Some, None, refl, ap, sym, ◌∙◌, arith}
use Rattle.std.specs.List.{slice_split, position, position_or_len, list_any, before_first, after_first}
use Rattle.std.proofs.lemmas.Option.{cond_some}
use Rattle.std.proofs.lemmas.Bool.{ltb-true}
use Rattle.std.proofs.lemmas.List.{drop_all, drop-take, get_or-take, length-take}
use Rattle.std.proofs.lemmas.List.Sums.{fails_before_first, passes_at_first, position_or_len_is}
use Rattle.std.proofs.lemmas.List.Splits.{slice_split_first, length-slice_split}
use Rattle.std.proofs.lemmas.Bool.Decides.{nat_tests}
use Rattle.decl_text.specs.Text.{lines, without_empty_end}

-- the place that was found is the first one that passes, and there is one
pub found_first : {X : Type 0} (p : X → Bool) (xs : List X) (i : ℕ) → position p xs ≡ Some i → (position_or_len p xs < length xs) × (position_or_len p xs ≡ i)
found_first p xs i found =
    let parts = cond_some (nat_lt (position_or_len p xs) (length xs)) (position_or_len p xs) i found in
    (ltb-true _ _ parts.0, parts.1)

pub cut_at : {X : Type 0} (p : X → Bool) (xs : List X) (i : ℕ) → X → position p xs ≡ Some i → slice_split p xs ≡ take i xs ∷ slice_split p (drop (i + 1) xs)
cut_at p xs i d found =
    let first = found_first p xs i found in
    slice_split_first p xs d first.0
    ∙ ap (λ j. take j xs ∷ slice_split p (drop (j + 1) xs)) first.1

uncut_first : {X : Type 0} (p : X → Bool) (x : X) (xs : List X) (b : Bool) → p x ≡ b → slice_split p xs ≡ xs ∷ [] → b ≡ false → slice_split p (x ∷ xs) ≡ (x ∷ xs) ∷ []
uncut_first p x xs b is rest none = rw (is, none, rest) refl

uncut : {X : Type 0} (p : X → Bool) (xs : List X) → length xs ≤ position_or_len p xs → slice_split p xs ≡ xs ∷ []
uncut p [] past = refl
uncut p (x ∷ xs) past = uncut_first p x xs (p x) refl (uncut p xs (grind arith)) (grind arith)

pub cut_none : {X : Type 0} (p : X → Bool) (xs : List X) → position p xs ≡ None → slice_split p xs ≡ xs ∷ []
cut_none p xs none = uncut p xs (grind (arith, nat_tests))

-- a part before others stays
kept : (part : List ℕ) (parts : List (List ℕ)) → 1 ≤ length parts → without_empty_end (part ∷ parts) ≡ part ∷ without_empty_end parts
unfolding without_empty_end
kept part [] some = absurd (omega (arith, some))
kept [] (next ∷ parts) some = refl
kept (byte ∷ part) (next ∷ parts) some = refl

pub line_at : (p : ℕ → Bool) (text : List ℕ) (i : ℕ) → position p text ≡ Some i
    → without_empty_end (slice_split p text) ≡ take i text ∷ without_empty_end (slice_split p (drop (i + 1) text))
line_at p text i found = rw (cut_at p text i 0 found) (kept (take i text) (slice_split p (drop (i + 1) text)) (grind (arith, length-slice_split p (drop (i + 1) text))))

-- the front of a longer front
next_is : (i more : ℕ) → suc i + more ≡ suc (i + more)
next_is i more = omega arith

none_more : (more : ℕ) → more ≡ 0 + more
none_more more = omega arith

take_front : {X : Type 0} (i more : ℕ) (xs : List X) → take i (take (i + more) xs) ≡ take i xs
take_front zero more xs = refl
take_front (suc i) more [] = ap (λ n. take (suc i) (take n [])) (next_is i more)
take_front (suc i) more (x ∷ xs) = ap (λ n. take (suc i) (take n (x ∷ xs))) (next_is i more) ∙ ap (λ ys. x ∷ ys) (take_front i more xs)

drop_twice : {X : Type 0} (i more : ℕ) (xs : List X) → drop more (drop i xs) ≡ drop (i + more) xs
drop_twice zero more xs = ap (λ n. drop n xs) (none_more more)
drop_twice (suc i) more [] = drop_all more [] (omega arith) ∙ sym (drop_all (suc i + more) [] (omega arith))
drop_twice (suc i) more (x ∷ xs) = drop_twice i more xs ∙ ap (λ n. drop n (x ∷ xs)) (sym (next_is i more))

-- the first part is the same where the list ends behind it
front_found : {X : Type 0} (p : X → Bool) (xs : List X) (i more : ℕ) → X → position p xs ≡ Some i → position_or_len p (take (i + 1 + more) xs) ≡ i
front_found p xs i more d found =
    let first = found_first p xs i found in
    let long : i < length xs = omega (arith, first.0, first.1) in
    position_or_len_is p (take (i + 1 + more) xs) i d (omega (arith, length-take (i + 1 + more) xs, long))
    (λ k lt. ap p (get_or-take (i + 1 + more) xs k d (omega (arith, lt))) ∙ fails_before_first p xs k d (omega (arith, lt, first.1)))
    (λ within. ap p (get_or-take (i + 1 + more) xs i d (omega arith)) ∙ ap (λ j. p (get_or xs j d)) (sym first.1) ∙ passes_at_first p xs d first.0)

apart : (i more : ℕ) → i + 1 + more ≡ i + (1 + more)
apart i more = omega arith

cut_front : {X : Type 0} (p : X → Bool) (xs : List X) (i more : ℕ) → X → position p xs ≡ Some i
    → slice_split p (take (i + 1 + more) xs) ≡ take i xs ∷ slice_split p (take more (drop (i + 1) xs))
cut_front p xs i more d found =
    let first = found_first p xs i found in
    let at = front_found p xs i more d found in
    let ys = take (i + 1 + more) xs in
    let within : position_or_len p ys < length ys = omega (arith, at, length-take (i + 1 + more) xs, first.0, first.1) in
    slice_split_first p ys d within
    ∙ ap (λ j. take j ys ∷ slice_split p (drop (j + 1) ys)) at
    ∙ ap (λ front. front ∷ slice_split p (drop (i + 1) ys)) (ap (λ n. take i (take n xs)) (apart i more) ∙ take_front i (1 + more) xs)
    ∙ ap (λ back. take i xs ∷ slice_split p back) (drop-take (i + 1) more xs)

pub line_cut : (p : ℕ → Bool) (text : List ℕ) (i more : ℕ) → position p text ≡ Some i
    → without_empty_end (slice_split p (take (i + 1 + more) text)) ≡ take i text ∷ without_empty_end (slice_split p (take more (drop (i + 1) text)))
line_cut p text i more found =
    rw (cut_front p text i more 0 found) (kept (take i text) (slice_split p (take more (drop (i + 1) text))) (grind (arith, length-slice_split p (take more (drop (i + 1) text)))))

-- a line at a place of a text, where the text ends behind it
joined : (place taken more : ℕ) → place + taken + more ≡ place + (taken + more)
joined place taken more = omega arith

pub line_within : (text left line : List ℕ) (place taken more : ℕ) → left ≡ drop place text → lines (take (taken + more) left) ≡ line ∷ lines (take more (drop taken left))
    → lines (drop place (take (place + taken + more) text)) ≡ line ∷ lines (drop (place + taken) (take (place + taken + more) text))
line_within text left line place taken more is cut =
    ap (λ n. lines (drop place (take n text))) (joined place taken more)
    ∙ ap lines (drop-take place (taken + more) text)
    ∙ ap (λ xs. lines (take (taken + more) xs)) (sym is)
    ∙ cut
    ∙ ap (λ xs. line ∷ lines (take more xs)) (ap (drop taken) is ∙ drop_twice place taken text)
    ∙ ap (λ xs. line ∷ lines xs) (sym (drop-take (place + taken) more text))

last_kept : (byte : ℕ) (text : List ℕ) → without_empty_end ((byte ∷ text) ∷ []) ≡ (byte ∷ text) ∷ []
unfolding without_empty_end
last_kept byte text = refl

last_of : (p : ℕ → Bool) (text : List ℕ) → 1 ≤ length text → without_empty_end (text ∷ []) ≡ text ∷ []
last_of p [] some = absurd (omega (arith, some))
last_of p (byte ∷ text) some = last_kept byte text

pub line_last : (p : ℕ → Bool) (text : List ℕ) → 1 ≤ length text → position p text ≡ None → without_empty_end (slice_split p text) ≡ text ∷ []
line_last p text some none = rw (cut_none p text none) (last_of p text some)

pub no_lines : lines [] ≡ []
unfolding without_empty_end
no_lines = refl

any_first : {X : Type 0} (p : X → Bool) (x : X) (xs : List X) (b : Bool) → p x ≡ b
    → (position_or_len p xs < length xs → list_any p xs ≡ true)
    → position_or_len p (x ∷ xs) < length (x ∷ xs) → list_any p (x ∷ xs) ≡ true
any_first p x xs true is more found = rw is refl
any_first p x xs false is more found = rw is (more (let f = rw is at found in omega (arith, f)))

-- some element passes where the first one does, and none where none was found
found_any : {X : Type 0} (p : X → Bool) (xs : List X) → position_or_len p xs < length xs → list_any p xs ≡ true
found_any p [] found = absurd (omega (arith, found))
found_any p (x ∷ xs) found = any_first p x xs (p x) refl (found_any p xs) found

none_first : {X : Type 0} (p : X → Bool) (x : X) (xs : List X) (b : Bool) → p x ≡ b
    → (length xs ≤ position_or_len p xs → list_any p xs ≡ false)
    → length (x ∷ xs) ≤ position_or_len p (x ∷ xs) → list_any p (x ∷ xs) ≡ false
none_first p x xs true is more past = absurd (let f = rw is at past in omega (arith, f))
none_first p x xs false is more past = rw is (more (let f = rw is at past in omega (arith, f)))

past_none : {X : Type 0} (p : X → Bool) (xs : List X) → length xs ≤ position_or_len p xs → list_any p xs ≡ false
past_none p [] past = refl
past_none p (x ∷ xs) past = none_first p x xs (p x) refl (past_none p xs) past

pub any_found : {X : Type 0} (p : X → Bool) (xs : List X) (i : ℕ) → position p xs ≡ Some i → list_any p xs ≡ true
any_found p xs i found = found_any p xs (found_first p xs i found).0

pub none_found : {X : Type 0} (p : X → Bool) (xs : List X) → position p xs ≡ None → list_any p xs ≡ false
none_found p xs none = past_none p xs (grind (arith, nat_tests))

pub before_is : {X : Type 0} (p : X → Bool) (xs : List X) (i : ℕ) → position p xs ≡ Some i → take i xs ≡ before_first p xs
before_is p xs i found = ap (λ j. take j xs) (sym (found_first p xs i found).1)

pub after_is : {X : Type 0} (p : X → Bool) (xs : List X) (i : ℕ) → position p xs ≡ Some i → drop (i + 1) xs ≡ after_first p xs
after_is p xs i found = ap (λ j. drop (j + 1) xs) (sym (found_first p xs i found).1)
