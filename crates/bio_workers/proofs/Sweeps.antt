-- Tasks that are visited one by one.
use Rattle.std.proofs.Common.{◌≡◌, ℕ, ◌+◌, ◌<◌, ◌++◌, List, [], ◌∷◌, length, take, drop, slice_set, slice_index_or, All, arith, refl, ap, sym, subst, ◌∙◌}
use Prim.Native.Nat.{zero, suc}
use Rattle.std.proofs.lemmas.List.{take_more_set, drop-set-lt, length-set}
use Rattle.std.proofs.lemmas.List.Elements.{All-push}
use Rattle.bio_workers.specs.declared.work.WorkOutcome.{WorkOutcome}
use Rattle.bio_workers.specs.declared.work.WorkOutcome.TheVariants.{Happened, Nothing, Over}
use Rattle.bio_workers.specs.WorkOutcomes.{both}
use Rattle.bio_workers.specs.Visits.{IsVisit, IsVisitAt, AreVisited}

-- those before it are over, and the one that was stepped
pub more_over : {T : Type 0} (P : T → Type 0) (xs : List T) (at : ℕ) (x : T) → at < length xs → All P (take at xs) → P x → All P (take (at + 1) (slice_set xs at x))
more_over P xs at x below before over = subst (All P) (sym (take_more_set xs at x below)) (All-push P (take at xs) x before over)

pub both_over : (a : WorkOutcome) → both a Over ≡ a
both_over Happened = refl
both_over Nothing = refl
both_over Over = refl

-- no task goes on where none does in either
pub over_together : (a b : WorkOutcome) → both a b ≡ Over → (a ≡ Over) × (b ≡ Over)
over_together Over b e = (refl, e)
over_together Happened b e = absurd (cc)
over_together Nothing Happened e = absurd (cc)
over_together Nothing Nothing e = absurd (cc)
over_together Nothing Over e = absurd (cc)

pub both_turned : (a b c : WorkOutcome) → both (both a b) c ≡ both a (both b c)
both_turned Happened b c = refl
both_turned Over b c = refl
both_turned Nothing Happened c = refl
both_turned Nothing Nothing Happened = refl
both_turned Nothing Nothing Nothing = refl
both_turned Nothing Nothing Over = refl
both_turned Nothing Over Happened = refl
both_turned Nothing Over Nothing = refl
both_turned Nothing Over Over = refl

module _ {T : Type 0} where
  -- what stands at a place, and those behind it
  pub stands_at : (xs : List T) (at : ℕ) (x d : T) → at < length xs → slice_index_or xs at d ≡ x → (rest : List T) × (drop at xs ≡ x ∷ rest)
  stands_at [] at x d below e = absurd (omega arith)
  stands_at (y ∷ ys) zero x d below e = (ys, ap (λ z. z ∷ ys) e)
  stands_at (y ∷ ys) (suc at) x d below e = stands_at ys at x d (omega arith) e

  pub taken : (xs : List T) (at : ℕ) (x : T) (rest : List T) → drop at xs ≡ x ∷ rest → take (at + 1) xs ≡ take at xs ++ x ∷ []
  taken [] zero x rest e = absurd (cc)
  taken [] (suc at) x rest e = absurd (cc)
  taken (y ∷ ys) zero x rest e = ap (take 1) e
  taken (y ∷ ys) (suc at) x rest e = let further : suc at + 1 ≡ suc (at + 1) = omega arith in ap (λ n. take n (y ∷ ys)) further ∙ ap (λ l. y ∷ l) (taken ys at x rest e)

  pub left_of : (xs : List T) (at : ℕ) (x : T) (rest : List T) → drop at xs ≡ x ∷ rest → drop (at + 1) xs ≡ rest
  left_of [] zero x rest e = absurd (cc)
  left_of [] (suc at) x rest e = absurd (cc)
  left_of (y ∷ ys) zero x rest e = ap (drop 1) e
  left_of (y ∷ ys) (suc at) x rest e = let further : suc at + 1 ≡ suc (at + 1) = omega arith in ap (λ n. drop n (y ∷ ys)) further ∙ left_of ys at x rest e

  pub standing : (xs : List T) (at : ℕ) (x : T) (rest : List T) → drop at xs ≡ x ∷ rest → at < length xs
  standing [] zero x rest e = absurd (cc)
  standing [] (suc at) x rest e = absurd (cc)
  standing (y ∷ ys) zero x rest e = omega arith
  standing (y ∷ ys) (suc at) x rest e = let below = standing ys at x rest e in omega arith

module _ {T : Type 0} (goes : WorkOutcome → T → T → Type 0) where
  -- one visit more
  pub visited_more : (came last : WorkOutcome) (olds news : List T) (old new : T)
      → AreVisited goes came olds news → IsVisit goes last old new → AreVisited goes (both came last) (olds ++ old ∷ []) (news ++ new ∷ [])
  visited_more came last [] [] old new all visit =
      (last, Over, visit, refl, ap (λ c. both c last) all ∙ sym (both_over last))
  visited_more came last (o ∷ os) (n ∷ ns) old new (first, rest, this, those, e) visit =
      (first, both rest last, this, visited_more rest last os ns old new those visit, ap (λ c. both c last) e ∙ both_turned first rest last)
  visited_more came last [] (n ∷ ns) old new all visit = absurd all
  visited_more came last (o ∷ os) [] old new all visit = absurd all

  -- of the tasks that a sweep began with, those before a place were visited, and those from there on are as they were
  pub record IsSwept (at : ℕ) (came : WorkOutcome) (start now : List T) : Type 0 where
    pub long : length now ≡ length start
    pub visited : AreVisited goes came (take at start) (take at now)
    pub left : drop at now ≡ drop at start

  -- the visit of the next one sweeps on
  pub swept_on : (at : ℕ) (came last : WorkOutcome) (start now next : List T)
      → IsSwept at came start now → IsVisitAt goes at last now next → IsSwept (at + 1) (both came last) start next
  swept_on at came last start now next swept visit =
      let below : at < length now = standing now at visit.before visit.behind visit.there in
      let there : drop at start ≡ visit.before ∷ visit.behind = sym swept.left ∙ visit.there in
      let front : take (at + 1) start ≡ take at start ++ visit.before ∷ [] = taken start at visit.before visit.behind there in
      let stepped : take (at + 1) next ≡ take at now ++ visit.after ∷ [] = ap (take (at + 1)) visit.leaves ∙ take_more_set now at visit.after below in
      let all = visited_more came last (take at start) (take at now) visit.before visit.after swept.visited visit.visit in
      record {
        long = ap length visit.leaves ∙ length-set now at visit.after ∙ swept.long;
        visited = subst (λ l. AreVisited goes (both came last) l (take (at + 1) next)) (sym front) (subst (AreVisited goes (both came last) (take at start ++ visit.before ∷ [])) (sym stepped) all);
        left = ap (drop (at + 1)) visit.leaves ∙ drop-set-lt (at + 1) now at visit.after (omega arith) ∙ left_of now at visit.before visit.behind visit.there ∙ sym (left_of start at visit.before visit.behind there);
      }
