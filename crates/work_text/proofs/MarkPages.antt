-- Marks by pages: what is there before any is set, what is read of them, and what it is to set one.
use Rattle.std.proofs.Common.{◌≡◌, ◌≢◌, ◌⊎◌, ◌+◌, ◌-◌, ◌*◌, ◌/◌, ◌%◌, ◌==◌, ◌<◌, ◌≤◌, ◌||◌, ◌++◌, ◌∙◌, inl, inr, Bool, ℕ, zero, suc, true, false, true≢false, cond, [], ◌∷◌, List, take, length, map, replicate, set, get_or, refl, sym, ap, arith}
use Rattle.std.specs.List.{list_any, range_with_len}
use Rattle.std.proofs.lemmas.Bool.{cases_lt, cases_eq, cond-true, cond-false}
use Rattle.std.proofs.lemmas.Bool.Decides.{nat_tests}
use Rattle.std.proofs.lemmas.List.{length-set, get_or-set_same, get_or-set_other, get_or-replicate, get_or_past, length-replicate}
use Rattle.std.proofs.lemmas.List.FromFn.{length-map-range_with_len, get_or-map-range_with_len, fill_by_all}
use Rattle.std.proofs.Math.Nat.{div-add-mod}
use Rattle.std.proofs.Math.Bool.{or-true}
use Rattle.work_text.specs.Marks.{IsSetAt, mark_in, marks_in}
use Rattle.work_text.proofs.MarkLemmas.{inside}

-- there is a mark for each sector
pub length_marks : (count : ℕ) (pages : List (List ℕ)) → length (marks_in count pages) ≡ count
length_marks count pages = length-map-range_with_len (mark_in pages) 0 count

-- and it is that of its page
pub read_mark : (count : ℕ) (pages : List (List ℕ)) (at : ℕ) → at < count → get_or (marks_in count pages) at 0 ≡ mark_in pages at
read_mark count pages at lt = get_or-map-range_with_len (mark_in pages) 0 count at at 0 lt (omega arith)

-- no number of a run passes the test, or one does
pub none_passes : (test : ℕ → Bool) (start len : ℕ) → ((at : ℕ) → start ≤ at → at < start + len → test at ≡ false) → list_any test (range_with_len start len) ≡ false
none_passes test start zero none = refl
none_passes test start (suc len) none =
    rw (none start (omega arith) (omega arith)) (none_passes test (start + 1) len (λ at from before. none at (omega (arith, from)) (omega (arith, before))))

pub one_passes : (test : ℕ → Bool) (start len at : ℕ) → start ≤ at → at < start + len → test at ≡ true → list_any test (range_with_len start len) ≡ true
one_passes test start zero at from before passes = absurd (omega (arith, from, before))
one_passes test start (suc len) at from before passes =
    by_place (cases_eq at start) (λ other. one_passes test (start + 1) len at (omega (arith, from, other)) (omega (arith, before)) passes)
  where
    by_place : (at ≡ start) ⊎ (at ≢ start) → (at ≢ start → list_any test (range_with_len (start + 1) len) ≡ true) → list_any test (range_with_len start (suc len)) ≡ true
    by_place (inl same) later = rw (ap test (sym same) ∙ passes) refl
    by_place (inr other) later = ap (λ b. test start || b) (later other) ∙ or-true (test start)

-- empty pages have no mark
empty_page : (n place : ℕ) → get_or {A = List ℕ} (replicate n []) place [] ≡ []
empty_page n place = by_place (cases_lt place n)
  where
    by_place : (place < n) ⊎ (n ≤ place) → get_or {A = List ℕ} (replicate n []) place [] ≡ []
    by_place (inl lt) = get_or-replicate n place [] [] lt
    by_place (inr le) = get_or_past (replicate n []) place [] (omega (arith, le, length-replicate {A = List ℕ} n []))

pub unset : (count n : ℕ) → marks_in count (replicate n []) ≡ replicate count 0
unset count n =
    sym (fill_by_all (mark_in (replicate n [])) (replicate count 0) count 0 (length-replicate count 0)
    (λ k lt. get_or-replicate count k 0 0 lt ∙ sym (ap (λ page. get_or page (k % 4096) 0) (empty_page n (k / 4096)))))

-- a place of a list is set
pub set_place : (marks : List ℕ) (place mark : ℕ) → place < length marks → IsSetAt place mark (λ at. get_or marks at 0) (λ at. get_or (set marks place mark) at 0)
set_place marks place mark lt at = by_place (cases_eq at place)
  where
    by_place : (at ≡ place) ⊎ (at ≢ place) → get_or (set marks place mark) at 0 ≡ cond (at == place) mark (get_or marks at 0)
    by_place (inl same) =
        let test : (at == place) ≡ true = grind (arith, nat_tests, same) in
        ap (λ i. get_or (set marks place mark) i 0) same ∙ get_or-set_same marks place mark 0 lt ∙ sym (cond-true (at == place) mark (get_or marks at 0) test)
    by_place (inr other) =
        let test : (at == place) ≡ false = grind (arith, nat_tests, other) in
        get_or-set_other marks place at mark 0 other ∙ sym (cond-false (at == place) mark (get_or marks at 0) test)

-- a run of marks is set up to a sector, and at that one
pub set_more : (start at mark : ℕ) (old now new : ℕ → ℕ) → start ≤ at
    → ((k : ℕ) → now k ≡ cond (inside start at k) mark (old k)) → IsSetAt at mark now new
    → (k : ℕ) → new k ≡ cond (inside start (at + 1) k) mark (old k)
set_more start at mark old now new from marked set k = by_place (cases_eq k at)
  where
    by_place : (k ≡ at) ⊎ (k ≢ at) → new k ≡ cond (inside start (at + 1) k) mark (old k)
    by_place (inl same) =
        let test : (k == at) ≡ true = grind (arith, nat_tests, same) in
        let within : inside start (at + 1) k ≡ true = grind (arith, nat_tests, same, from) in
        set k ∙ cond-true (k == at) mark (now k) test ∙ sym (cond-true (inside start (at + 1) k) mark (old k) within)
    by_place (inr other) =
        let test : (k == at) ≡ false = grind (arith, nat_tests, other) in
        let alike : inside start at k ≡ inside start (at + 1) k = grind (arith, nat_tests, other) in
        set k ∙ cond-false (k == at) mark (now k) test ∙ marked k ∙ ap (λ b. cond b mark (old k)) alike

-- so it is of the marks that are read
pub marked_run : (count : ℕ) (old new : List (List ℕ)) (now : List ℕ) (start end mark : ℕ) → marks_in count old ≡ now → end ≤ count
    → ((at : ℕ) → mark_in new at ≡ cond (inside start end at) mark (mark_in old at))
    → (at : ℕ) → get_or (marks_in count new) at 0 ≡ cond (inside start end at) mark (get_or now at 0)
marked_run count old new now start end mark view within marked at = by_place (cases_lt at count)
  where
    by_place : (at < count) ⊎ (count ≤ at) → get_or (marks_in count new) at 0 ≡ cond (inside start end at) mark (get_or now at 0)
    by_place (inl lt) =
        read_mark count new at lt ∙ marked at
        ∙ ap (cond (inside start end at) mark) (sym (read_mark count old at lt) ∙ ap (λ (marks : List ℕ). get_or marks at 0) view)
    by_place (inr le) =
        let beyond : inside start end at ≡ false = grind (arith, nat_tests, le, within) in
        get_or_past (marks_in count new) at 0 (omega (arith, le, length_marks count new))
        ∙ sym (cond-false (inside start end at) mark (get_or now at 0) beyond ∙ get_or_past now at 0 (omega (arith, le, ap length view, length_marks count old)))

-- a page that has no marks yet reads as before once they are all there
pub filled : (marks : List ℕ) (count : ℕ) → length marks ≡ count → count ≡ 0 → (at : ℕ) → get_or (take 4096 marks ++ replicate (4096 - count) 0) at 0 ≡ get_or marks at 0
filled [] count long none at = rw none (zeros (cases_lt at 4096))
  where
    zeros : (at < 4096) ⊎ (4096 ≤ at) → get_or {A = ℕ} (replicate 4096 0) at 0 ≡ 0
    zeros (inl lt) = get_or-replicate 4096 at 0 0 lt
    zeros (inr le) = get_or_past (replicate 4096 0) at 0 (omega (arith, le, length-replicate {A = ℕ} 4096 0))
filled (mark ∷ marks) count long none at = absurd (omega (arith, long, none))

-- a page that is not empty has all of its marks
pub all_there : (count : ℕ) → (count ≡ 0) ⊎ (count ≡ 4096) → false ≡ (count == 0) → count ≡ 4096
all_there count (inl none) some = absurd (true≢false (sym (some ∙ ap (λ n. n == 0) none)))
all_there count (inr all) some = all

-- the mark of a sector is set where its page is
pub set_mark : (pages : List (List ℕ)) (at mark : ℕ) (page : List ℕ) → at / 4096 < length pages
    → IsSetAt (at % 4096) mark (λ place. get_or (get_or pages (at / 4096) []) place 0) (λ place. get_or page place 0)
    → IsSetAt at mark (mark_in pages) (mark_in (set pages (at / 4096) page))
set_mark pages at mark page lt is sector = by_page (cases_eq (sector / 4096) (at / 4096))
  where
    whole : 4096 * (sector / 4096) + sector % 4096 ≡ sector
    whole = div-add-mod sector 4096

    set_whole : 4096 * (at / 4096) + at % 4096 ≡ at
    set_whole = div-add-mod at 4096

    by_page : (sector / 4096 ≡ at / 4096) ⊎ (sector / 4096 ≢ at / 4096) → mark_in (set pages (at / 4096) page) sector ≡ cond (sector == at) mark (mark_in pages sector)
    by_page (inl same) =
        let there : get_or (set pages (at / 4096) page) (sector / 4096) [] ≡ page =
        ap (λ i. get_or (set pages (at / 4096) page) i []) same ∙ get_or-set_same pages (at / 4096) page [] lt in
        let test : (sector % 4096 == at % 4096) ≡ (sector == at) = grind (arith, nat_tests, same, whole, set_whole) in
        ap (λ row. get_or row (sector % 4096) 0) there ∙ is (sector % 4096)
        ∙ ap (λ b. cond b mark (get_or (get_or pages (at / 4096) []) (sector % 4096) 0)) test
        ∙ ap (λ i. cond (sector == at) mark (get_or (get_or pages i []) (sector % 4096) 0)) (sym same)
    by_page (inr other) =
        let apart : sector ≢ at = λ same. other (ap (λ i. i / 4096) same) in
        let test : (sector == at) ≡ false = grind (arith, nat_tests, apart) in
        ap (λ row. get_or row (sector % 4096) 0) (get_or-set_other pages (at / 4096) (sector / 4096) page [] other)
        ∙ sym (cond-false (sector == at) mark (mark_in pages sector) test)
