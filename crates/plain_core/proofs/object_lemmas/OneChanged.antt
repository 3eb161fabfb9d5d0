-- Plain objects with one of them changed are the machine's with that one changed.
use Rattle.std.proofs.Common.{◌≡◌, ◌≢◌, inl, inr, ℕ, refl, sym, ap, ◌∙◌, subst, eq-eqb, ne_eqb}
use Rattle.std.proofs.lemmas.Bool.{cases_eq}
use Rattle.std.proofs.lemmas.List.{get_or-set_other}
use Rattle.mempool_core.specs.Move.{PoolMove}
use Rattle.run_machine.specs.Maps.{upd}
use Rattle.run_machine.specs.Objects.{MovesPool}
use Rattle.plain_core.specs.objects.Plain.{CoreObjects, core_pool_at, with_pool, core_rescue_at, with_rescue, kept_disk, core_disk_at, disk_or, with_disk, core_book_at, with_book, objects_of_core}
use Rattle.run_machine.specs.Opened.{opened_disk}
use Rattle.plain_core.specs.objects.Told.{CorePoolMoves}

-- a map that differs at one place alone
pub upd_is : {X : Type 0} (f g : ℕ → X) (i : ℕ) → ((k : ℕ) → k ≢ i → g k ≡ f k) → g ≡ upd f i (g i)
unfolding upd
upd_is {X} f g i other = λ p k. at k p
  where
    at : (k : ℕ) → g k ≡ upd f i (g i) k
    at k = elim (cases_eq k i) [
      | inl same ↦ subst (λ j. g j ≡ upd f i (g i) j) (sym same) (rw (eq-eqb i i refl) refl)
      | inr ne ↦ rw (ne_eqb k i ne) (other k ne)
    ]

pub pool_set : (old new : CoreObjects) (n : ℕ) → new ≡ with_pool old n (core_pool_at new n) → objects_of_core new ≡ record (objects_of_core old) { pool = upd (core_pool_at old) n (core_pool_at new n) }
pool_set old new n is =
    ap objects_of_core is
    ∙ (λ p. record (objects_of_core old) { pool = upd_is (core_pool_at old) (core_pool_at (with_pool old n (core_pool_at new n))) n (λ k ne. get_or-set_other old.pools n k (core_pool_at new n) _ ne) p })
    ∙ ap (λ (o : CoreObjects). record (objects_of_core old) { pool = upd (core_pool_at old) n (core_pool_at o n) }) (sym is)

pub rescue_set : (old new : CoreObjects) (n : ℕ) → new ≡ with_rescue old n (core_rescue_at new n) → objects_of_core new ≡ record (objects_of_core old) { rescue = upd (core_rescue_at old) n (core_rescue_at new n) }
rescue_set old new n is =
    ap objects_of_core is
    ∙ (λ p. record (objects_of_core old) { rescue = upd_is (core_rescue_at old) (core_rescue_at (with_rescue old n (core_rescue_at new n))) n (λ k ne. get_or-set_other old.rescues n k (core_rescue_at new n) _ ne) p })
    ∙ ap (λ (o : CoreObjects). record (objects_of_core old) { rescue = upd (core_rescue_at old) n (core_rescue_at o n) }) (sym is)

pub book_set : (old new : CoreObjects) (n : ℕ) → new ≡ with_book old n (core_book_at new n) → objects_of_core new ≡ record (objects_of_core old) { book = upd (core_book_at old) n (core_book_at new n) }
book_set old new n is =
    ap objects_of_core is
    ∙ (λ p. record (objects_of_core old) { book = upd_is (core_book_at old) (core_book_at (with_book old n (core_book_at new n))) n (λ k ne. get_or-set_other old.books n k (core_book_at new n) _ ne) p })
    ∙ ap (λ (o : CoreObjects). record (objects_of_core old) { book = upd (core_book_at old) n (core_book_at o n) }) (sym is)

pub disk_set : (old new : CoreObjects) (n : ℕ) → new ≡ with_disk old n (kept_disk new n) → objects_of_core new ≡ record (objects_of_core old) { disk = upd (core_disk_at old) n (core_disk_at new n) }
disk_set old new n is =
    ap objects_of_core is
    ∙ (λ p. record (objects_of_core old) {
      disk = upd_is (core_disk_at old) (core_disk_at (with_disk old n (kept_disk new n))) n
          (λ k ne. ap (λ d. disk_or d (opened_disk old.stack k)) (get_or-set_other old.disks n k (kept_disk new n) _ ne)) p;
    })
    ∙ ap (λ (o : CoreObjects). record (objects_of_core old) { disk = upd (core_disk_at old) n (core_disk_at o n) }) (sym is)

-- a move of a pool
pub moves : (old new : CoreObjects) (n : ℕ) (move : PoolMove) → CorePoolMoves old n move new → MovesPool (objects_of_core old) n move (objects_of_core new)
moves old new n move m =
    (m.0, pool_set old new n m.2 ∙ ap (λ pool. record (objects_of_core old) { pool = upd (core_pool_at old) n pool }) m.1)
