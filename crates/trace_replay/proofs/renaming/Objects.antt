-- Objects that are alike but for the places of nodes.
use Rattle.std.proofs.Common.{◌≡◌, ◌<◌, ℕ, List, Option, inl, inr, refl, sym, ◌∙◌, ap, subst}
use Rattle.std.specs.Prelude.{map}
use Rattle.bio_records.specs.declared.bio.Pad.{Pad}
use Rattle.bio_records.specs.Items.{Item}
use Rattle.bio_books.specs.Books.{BookState}
use Rattle.model_disks.specs.Disks.{DiskState}
use Rattle.run_machine.specs.Maps.{upd}
use Rattle.run_machine.specs.Objects.{Objects}
use Rattle.run_machine.specs.Laws.{OfPool, OfTally, with_object}
use Rattle.block_core.proofs.moves.Sums.{upd-same, upd-other, same_or_not}
use Rattle.trace_replay.specs.Names.{Names}
use Rattle.trace_replay.proofs.renaming.Renaming.{Places, item_to, disk_to}
use Rattle.trace_replay.proofs.renaming.Books.{BookAlike}

-- pools and the tally are the same; rescue lists and disks of so many devices have the same bios, and books the same nodes, at these places
pub record ObjectsAlike (count : ℕ) (to : Places) (names : Names) (one other : Objects) : Type 0 where
  pub pools : other.pool ≡ one.pool
  pub tally : other.tally ≡ one.tally
  pub rescued : (dev : ℕ) → dev < count → other.rescue dev ≡ map (item_to to) (one.rescue dev)
  pub disks : (dev : ℕ) → dev < count → other.disk dev ≡ disk_to to (one.disk dev)
  pub books : (writer : ℕ) → BookAlike (to writer) (names.place writer) (names.opened writer) (one.book writer) (other.book writer)

-- maps that are alike stay so where both change at a place
pub alike_at : {X Y : Type 0} (h : X → Y) (f : ℕ → X) (g : ℕ → Y) (count place : ℕ) (x : X) (y : Y) → ((k : ℕ) → k < count → g k ≡ h (f k)) → (place < count → y ≡ h x)
    → (k : ℕ) → k < count → upd g place y k ≡ h (upd f place x k)
alike_at h f g count place x y all here k lt = elim (same_or_not k place) [
  | inl e ↦
      ap (upd g place y) e ∙ upd-same g place y ∙ here (subst (λ p. p < count) e lt) ∙ ap h (sym (upd-same f place x)) ∙ ap (λ p. h (upd f place x p)) (sym e)
  | inr ne ↦ upd-other g place y k ne ∙ all k lt ∙ ap h (sym (upd-other f place x k ne))
]

module _ (count : ℕ) (to : Places) (names : Names) (one other : Objects) (alike : ObjectsAlike count to names one other) where
  abbrev Alike : Objects → Objects → Type 0
  Alike = ObjectsAlike count to names

  pub same_pool : (number : ℕ) (now : Objects) → now ≡ with_object one now (OfPool number) → Alike now (with_object other now (OfPool number))
  same_pool number now is =
      let like = with_object other now (OfPool number) in
      subst (λ (o : Objects). Alike o like) (sym is) (record {
        pools = ap (λ f. upd f number (now.pool number)) alike.pools;
        tally = alike.tally;
        rescued = alike.rescued;
        disks = alike.disks;
        books = alike.books;
      })

  pub same_tally : (now : Objects) → now ≡ with_object one now OfTally → Alike now (with_object other now OfTally)
  same_tally now is =
      let like = with_object other now OfTally in
      subst (λ (o : Objects). Alike o like) (sym is) (record {
        pools = alike.pools;
        tally = refl;
        rescued = alike.rescued;
        disks = alike.disks;
        books = alike.books;
      })

  pub same_rescue : (dev : ℕ) (bios like : List (Item Pad)) → (dev < count → like ≡ map (item_to to) bios)
      → Alike (record one { rescue = upd one.rescue dev bios }) (record other { rescue = upd other.rescue dev like })
  same_rescue dev bios like is = record {
    pools = alike.pools;
    tally = alike.tally;
    rescued = alike_at (map (item_to to)) one.rescue other.rescue count dev bios like alike.rescued is;
    disks = alike.disks;
    books = alike.books;
  }

  pub same_disk : (dev : ℕ) (disk like : DiskState) → (dev < count → like ≡ disk_to to disk)
      → Alike (record one { disk = upd one.disk dev disk }) (record other { disk = upd other.disk dev like })
  same_disk dev disk like is = record {
    pools = alike.pools;
    tally = alike.tally;
    rescued = alike.rescued;
    disks = alike_at (disk_to to) one.disk other.disk count dev disk like alike.disks is;
    books = alike.books;
  }

  -- a book and its names
  pub same_book : (writer opened : ℕ) (named : ℕ → Option ℕ) (book like : BookState) → BookAlike (to writer) named opened book like
      → ObjectsAlike count to (record { opened = upd names.opened writer opened; place = upd names.place writer named })
      (record one { book = upd one.book writer book }) (record other { book = upd other.book writer like })
  same_book writer opened named book like is = record {
    pools = alike.pools;
    tally = alike.tally;
    rescued = alike.rescued;
    disks = alike.disks;
    books = λ v. elim (same_or_not v writer) [
      | inl e ↦
          let At : ℕ → Type 0 =
          λ w. BookAlike (to w) (upd names.place writer named w) (upd names.opened writer opened w) (upd one.book writer book w) (upd other.book writer like w) in
          subst At (sym e) (
          subst (λ n. BookAlike (to writer) n (upd names.opened writer opened writer) (upd one.book writer book writer) (upd other.book writer like writer)) (sym (upd-same names.place writer named))
          (subst (λ n. BookAlike (to writer) named n (upd one.book writer book writer) (upd other.book writer like writer)) (sym (upd-same names.opened writer opened))
          (subst (λ b. BookAlike (to writer) named opened b (upd other.book writer like writer)) (sym (upd-same one.book writer book))
          (subst (λ b. BookAlike (to writer) named opened book b) (sym (upd-same other.book writer like)) is)))
          )
      | inr ne ↦
          subst (λ n. BookAlike (to v) n (upd names.opened writer opened v) (upd one.book writer book v) (upd other.book writer like v)) (sym (upd-other names.place writer named v ne))
          (subst (λ n. BookAlike (to v) (names.place v) n (upd one.book writer book v) (upd other.book writer like v)) (sym (upd-other names.opened writer opened v ne))
          (subst (λ b. BookAlike (to v) (names.place v) (names.opened v) b (upd other.book writer like v)) (sym (upd-other one.book writer book v ne))
          (subst (λ b. BookAlike (to v) (names.place v) (names.opened v) (one.book v) b) (sym (upd-other other.book writer like v ne)) (alike.books v))))
    ];
  }
