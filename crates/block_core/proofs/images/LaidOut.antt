-- Images are laid out where one fragment a round at most writes a sector, and rounds are completed one after the other.
use Rattle.std.proofs.Common.{◌≡◌, ◌+◌, ◌-◌, ◌<◌, ◌≤◌, ◌==◌, ◌⊎◌, if◌then◌else◌, ℕ, zero, suc, Bool, true, false, List, [], ◌∷◌, length, map, Some, inl, inr, refl, sym, ◌∙◌, ap, subst, arith}
use Rattle.std.specs.Prelude.{All, Contains, slice_get, slice_index_or, nat_le, nat_lt, zip}
use Rattle.std.specs.List.{range_with_len}
use Rattle.std.specs.Option.{option_map_or}
use Rattle.std.proofs.lemmas.Bool.{eq-eqb, false_from_ne_true}
use Rattle.std.proofs.lemmas.Bool.Decides.{nat_tests}
use Rattle.std.proofs.lemmas.List.Elements.{All-head, All-tail, All-from_get_or, All-contains, All-contains_itself, Contains-append_right}
use Rattle.std.proofs.lemmas.Option.{slice_get_within}
use Rattle.elem_ledger.specs.Ledger.{LedgerId}
use Rattle.stack_base.specs.declared.ids.Status.{Status}
use Rattle.stack_base.specs.declared.ids.Status.TheVariants as status
use Rattle.stack_base.specs.Fault.{status_eq}
use Rattle.stack_base.specs.Tree.{tree, size}
use Rattle.stack_base.specs.Words.{sector_data, zero_sector}
use Rattle.layout_model.specs.declared.fragment.Fragment.{Fragment}
use Rattle.layout_model.specs.declared.write.Write.{Write}
use Rattle.layout_model.specs.Fragments.{IsFragmentOf}
use Rattle.layout_model.specs.Laid.{Lands, round_of, IsLaid}
use Rattle.layout_model.specs.May.{fault_of}
use Rattle.layout_model.specs.Way.{Place, place}
use Rattle.layout_model.specs.Writes.{IsWrite}
use Rattle.layout_model.proofs.SectorsFollow.{fragments_follow}
use Rattle.layout_model.proofs.PlanLaws.{trees_are_sound}
use Rattle.run_machine.specs.Tasks.{Todo}
use Rattle.run_machine.specs.declared.event.Event.{Event}
use Rattle.run_machine.specs.Opened.{Scenario, scene, start, todos}
use Rattle.run_machine.specs.Runs.{State, IsRun}
use Rattle.block_core.specs.Scenarios.{IsScenario, IsNaming}
use Rattle.block_core.specs.Fragments.{completed, fragment_count, IsOfScenario, NothingComes}
use Rattle.block_core.specs.Images.{tag_of, writes_at, sector_after, held_after, round_at, OneARound, ComeInRounds}
use Rattle.block_core.proofs.moves.Sums.{same_or_not}
use Rattle.block_core.proofs.start.InvariantAtStart.{todos_all, all_map}
use Rattle.block_core.proofs.start.TallyAtStart.{todo_numbered}
use Rattle.block_core.proofs.images.PlannedOnce.{some_times, times_some, no_other_is_completed, each_is_completed_once}
use Rattle.block_core.proofs.images.BioData.{own_writes}
use Rattle.block_core.proofs.images.ImageData.{images_are_of_completed}

ends_well : (e : Status) → status_eq e status.Ok ≡ true → e ≡ status.Ok
ends_well status.Ok is = refl
ends_well status.Io is = absurd cc
ends_well status.Medium is = absurd cc
ends_well status.NoSpace is = absurd cc

module _ (s : Scenario) (disk at : ℕ) where
  abbrev writes : Fragment → Bool
  writes f = writes_at s f disk at

  abbrev data_of : Fragment → List ℕ
  data_of f = sector_data (tag_of s f.write) (f.offset + (at - f.at))

  put_one : (f : Fragment) (held : List ℕ) → writes f ≡ true → sector_after s disk at f held ≡ data_of f
  put_one f held is = ap (λ b. if b then data_of f else held) is

  put_none : (f : Fragment) (held : List ℕ) → writes f ≡ false → sector_after s disk at f held ≡ held
  put_none f held is = ap (λ b. if b then data_of f else held) is

  -- none of these writes the sector
  pub none_held : (fs : List Fragment) (held : List ℕ) → All (λ f. writes f ≡ false) fs → held_after s disk at fs held ≡ held
  none_held [] held none = refl
  none_held (f ∷ fs) held none =
      ap (held_after s disk at fs) (put_none f held (All-head (λ f. writes f ≡ false) f fs none)) ∙ none_held fs held (All-tail (λ f. writes f ≡ false) f fs none)

  rest_rise : (g : Fragment) (gs : List Fragment) → ComeInRounds s (g ∷ gs) → ComeInRounds s gs
  rest_rise g gs pairs = λ i j d lt within. pairs (suc i) (suc j) d (omega (arith, lt)) (omega (arith, within))

  first_rise : (g : Fragment) (gs : List Fragment) → ComeInRounds s (g ∷ gs) → All (λ h. round_at s g ≤ round_at s h) gs
  first_rise g gs pairs = All-from_get_or (λ h. round_at s g ≤ round_at s h) gs g (λ i lt. pairs 0 (suc i) g (omega arith) (omega (arith, lt)))

  -- the fragment of the latest round that writes the sector
  abbrev IsLast : Fragment → List Fragment → Type 0
  IsLast f fs = (g : Fragment) → Contains fs g → writes g ≡ true → (g ≡ f) ⊎ (round_at s g < round_at s f)

  last_in : (f : Fragment) (g : Fragment) (gs : List Fragment) → Contains (g ∷ gs) f → fragment_count f gs ≡ 0 → g ≡ f
  last_in f g gs (zero, within, is) none = is
  last_in f g gs (suc k, within, is) none = absurd (omega (arith, none, times_some f gs (k, omega (arith, within), is)))

  pub last_held : (f : Fragment) (fs : List Fragment) (held : List ℕ) → Contains fs f → writes f ≡ true → IsLast f fs → ComeInRounds s fs → held_after s disk at fs held ≡ data_of f
  last_held f [] held (k, within, is) here last rise = absurd (omega (arith, within))
  last_held f (g ∷ gs) held c here last rise = elim (same_or_not (fragment_count f gs) 0) [
    | inr some ↦ last_held f gs (sector_after s disk at g held) (some_times f gs (omega (arith, some))) here (λ h in_rest w. last h (Contains-append_right (g ∷ []) gs h in_rest) w) (rest_rise g gs rise)
    | inl none ↦
        let same : g ≡ f = last_in f g gs c none in
        let mine : writes g ≡ true = ap writes same ∙ here in
        let above = first_rise g gs rise in
        none_held gs (sector_after s disk at g held)
        (all_map (Contains gs) (λ h. writes h ≡ false) (λ h in_rest. false_from_ne_true (writes h) (λ w. elim (last h (Contains-append_right (g ∷ []) gs h in_rest) w) [
          | inl e ↦ let some = times_some f gs (subst (Contains gs) e in_rest) in omega (arith, none, some)
          | inr lower ↦
              let order = All-contains (λ h. round_at s g ≤ round_at s h) gs h above in_rest in
              let round : round_at s g ≡ round_at s f = ap (round_at s) same in
              omega (arith, order, lower, round)
        ])) gs (All-contains_itself gs))
        ∙ put_one g held mine ∙ ap data_of same
  ]

-- each write is among those that are to begin
in_todos : (a n : ℕ) (rs : List ℕ) (ws : List Write) (i : ℕ) (write : Write) → slice_get ws i ≡ Some write → i < n → length rs ≡ length ws
    → (round : ℕ) × Contains (map todo_numbered (zip (range_with_len a n) (zip rs ws))) (record { number = a + i; round = round; write = write })
in_todos a zero rs ws i write is lt same = absurd (omega (arith, lt))
in_todos a (suc n) rs [] i write is lt same = absurd (let within = slice_get_within [] i write is in omega (arith, within))
in_todos a (suc n) [] (w ∷ ws) i write is lt same = absurd (omega (arith, same))
in_todos a (suc n) (r ∷ rs) (w ∷ ws) zero write is lt same =
    let here : w ≡ write = search is in
    let first : a + 0 ≡ a = omega arith in (
      r,
      subst (λ k. Contains (map todo_numbered (zip (range_with_len a (suc n)) (zip (r ∷ rs) (w ∷ ws)))) (record { number = k; round = r; write = write })) (sym first)
          (0, omega arith, ap (λ v. record { number = a; round = r; write = v }) here),
    )
in_todos a (suc n) (r ∷ rs) (w ∷ ws) (suc i) write is lt same =
    let rest = in_todos (a + 1) n rs ws i write is (omega (arith, lt)) (omega (arith, same)) in
    let on : a + 1 + i ≡ a + suc i = omega arith in
    let there : Contains (map todo_numbered (zip (range_with_len (a + 1) n) (zip rs ws))) (record { number = a + suc i; round = rest.0; write = write }) =
    subst (λ k. Contains (map todo_numbered (zip (range_with_len (a + 1) n) (zip rs ws))) (record { number = k; round = rest.0; write = write })) on rest.1 in
    (rest.0, Contains-append_right (todo_numbered (a, (r, w)) ∷ []) (map todo_numbered (zip (range_with_len (a + 1) n) (zip rs ws))) (record { number = a + suc i; round = rest.0; write = write }) there)

-- each of them is served
pub served : (s : Scenario) → IsScenario s → (todo : Todo) → Contains (todos s) todo → IsWrite s.stack todo.write
served s good todo c = All-contains (λ (todo : Todo). IsWrite s.stack todo.write) (todos s) todo (todos_all s (IsWrite s.stack) good.writes) c

module _ (s : Scenario) (good : IsScenario s) (disk at : ℕ) where
  -- a fragment that writes a sector lands there
  pub lands_there : (f : Fragment) (number : ℕ) (write : Write) → IsWrite s.stack write → IsFragmentOf (tree s.stack write.dev.0) number 0 write.start write.count f
      → writes_at s f disk at ≡ true → Lands s.stack write number disk at
  lands_there f number write served is w =
      let sound = trees_are_sound s.stack write.dev.0 good.stack served.known in
      let p = parts w in
      let j : ℕ = at - f.at in
      let lt : j < f.len = omega (arith, p.1, p.2) in
      let within = is.within in
      let inside : is.from + j < write.count = omega (arith, lt, within) in
      let together = (is.whole (is.from + j) inside).1 (omega arith, omega (arith, lt)) in
      let follow = fragments_follow (tree s.stack write.dev.0) number 0 write.start write.count f sound is j lt in
      let ends : ◌≡◌ {A = Place} (record { disk = f.disk.0; at = f.at + j }) (record { disk = disk; at = at }) = place_same f.disk.0 disk (f.at + j) at p.0 (omega (arith, p.1)) in
      record {
        way = record {
          offset = is.from + j;
          choices = is.choices;
          fragment = f;
          within = inside;
          fits = together.fits;
          ends = follow ∙ ends;
          inside = record { fragment = is; chosen = refl; from = omega arith; before = omega (arith, lt) };
        };
        well = ends_well (fault_of s.stack f) p.3;
      }
    where
      place_same : (a b c d : ℕ) → a ≡ b → c ≡ d → ◌≡◌ {A = Place} (record { disk = a; at = c }) (record { disk = b; at = d })
      place_same a b c d p q = λ k. record { disk = p k; at = q k }

      parts : writes_at s f disk at ≡ true → (f.disk.0 ≡ disk) × (f.at ≤ at) × (at < f.at + f.len) × (status_eq (fault_of s.stack f) status.Ok ≡ true)
      parts w = (grind (arith, nat_tests, w), grind (arith, nat_tests, w), grind (arith, nat_tests, w), grind (arith, nat_tests, w))

  -- in itself
  pub lands_itself : (f : Fragment) (number : ℕ) (write : Write) → IsWrite s.stack write → IsFragmentOf (tree s.stack write.dev.0) number 0 write.start write.count f
      → writes_at s f disk at ≡ true → (there : Lands s.stack write number disk at) × (there.way.fragment ≡ f)
  unfolding lands_there
  lands_itself f number write served is w = (lands_there f number write served is w, refl)

  -- and a way ends in its own fragment
  pub way_writes : (number : ℕ) (write : Write) → slice_get s.writes number ≡ Some write → IsWrite s.stack write → (there : Lands s.stack write number disk at)
      → (writes_at s there.way.fragment disk at ≡ true) × (data_of s disk at there.way.fragment ≡ sector_data write.tag there.way.offset)
  way_writes number write found is_write there =
      let way = there.way in
      let f = way.fragment in
      let inside = way.inside in
      let is = inside.fragment in
      let sound = trees_are_sound s.stack write.dev.0 good.stack is_write.known in
      let from = inside.from in
      let before = inside.before in
      let j : ℕ = way.offset - is.from in
      let lt : j < f.len = omega (arith, from, before) in
      let follow = fragments_follow (tree s.stack write.dev.0) number 0 write.start write.count f sound is j lt in
      let sum : write.start + (is.from + j) ≡ write.start + way.offset = omega (arith, from) in
      let same : ◌≡◌ {A = Place} (record { disk = f.disk.0; at = f.at + j }) (record { disk = disk; at = at }) =
      sym follow ∙ ap (λ k. place (tree s.stack write.dev.0) k is.choices) sum ∙ ap (place (tree s.stack write.dev.0) (write.start + way.offset)) inside.chosen ∙ way.ends in
      let on : f.disk.0 ≡ disk = ap (λ (p : Place). p.disk) same in
      let here : f.at + j ≡ at = ap (λ (p : Place). p.at) same in
      let begins : f.offset ≡ 0 + is.from = is.begins in
      let tag : tag_of s f.write ≡ write.tag = ap (tag_of s) is.of_write ∙ ap (λ found. option_map_or (λ (w : Write). w.tag) found 0) found in
      let offset : f.offset + (at - f.at) ≡ way.offset = omega (arith, here, begins, from) in
      (all_true f on here lt there.well, ap (λ t. sector_data t (f.offset + (at - f.at))) tag ∙ ap (sector_data write.tag) offset)
    where
      all_true : (f : Fragment) {j : ℕ} → f.disk.0 ≡ disk → f.at + j ≡ at → j < f.len → fault_of s.stack f ≡ status.Ok → writes_at s f disk at ≡ true
      all_true f {j} on here lt well =
          let a : (f.disk.0 == disk) ≡ true = eq-eqb f.disk.0 disk on in
          let b : nat_le f.at at ≡ true = grind (arith, nat_tests, here) in
          let c : nat_lt at (f.at + f.len) ≡ true = grind (arith, nat_tests, here, lt) in
          let d : status_eq (fault_of s.stack f) status.Ok ≡ true = ap (λ e. status_eq e status.Ok) well in
          rw (a, b, c, d) refl

-- where nothing is left to come, one fragment a round at most writes the sector, and rounds were completed one after the other, it holds what is
-- laid out there
pub laid_by_rounds : (s : Scenario) (ledger : ℕ → LedgerId) (events : List Event) (state : State) → IsScenario s → IsNaming ledger → (run : IsRun (scene s ledger) (start s) events state)
    → NothingComes (scene s ledger) state → (disk at : ℕ) → at < size (tree s.stack disk) → OneARound s disk at → ComeInRounds s (completed (scene s ledger) (start s) events state run)
    → IsLaid s.stack s.writes s.rounds disk at (slice_index_or (state.objects.disk disk).image at [])
laid_by_rounds s ledger events state good naming run none disk at lt one rise = record {
  written = λ number write found there latest.
      let f = there.way.fragment in
      let inside = there.way.inside in
      let is = inside.fragment in
      let w = way_writes s good disk at number write found (is_write number write found) there in
      let mine = of_write number write found f is in
      held
      ∙ last_held s disk at f cs zero_sector (some_times f cs (omega (arith, each_is_completed_once s ledger events state good naming run none f mine))) w.0
      (λ g c writes_it.
      let other = of_completed g c in
      let le = latest other.0.number other.0.write (own other.0 other.1) (lands_there s good disk at g other.0.number other.0.write (served s good other.0 other.1) other.2 writes_it) in
      let round_g : round_at s g ≡ round_of s.rounds other.0.number = ap (round_of s.rounds) other.2.of_write in
      let round_f : round_at s f ≡ round_of s.rounds number = ap (round_of s.rounds) is.of_write in
      elim (same_or_not (round_at s g) (round_at s f)) [
        | inl e ↦ inl (one g f other mine writes_it w.0 e)
        | inr ne ↦ inr (omega (arith, ne, le, round_g, round_f))
      ])
      rise
      ∙ w.1;
  empty = λ nobody. held ∙ none_held s disk at cs zero_sector
      (all_map (Contains cs) (λ g. writes_at s g disk at ≡ false)
      (λ g c. false_from_ne_true (writes_at s g disk at) (λ writes_it.
      let other = of_completed g c in
      nobody other.0.number other.0.write (own other.0 other.1) (lands_there s good disk at g other.0.number other.0.write (served s good other.0 other.1) other.2 writes_it)))
      cs (All-contains_itself cs));
}
  where
    cs : List Fragment
    cs = completed (scene s ledger) (start s) events state run

    held : slice_index_or (state.objects.disk disk).image at [] ≡ held_after s disk at cs zero_sector
    held = images_are_of_completed s ledger events state good naming run disk at lt

    own : (todo : Todo) → Contains (todos s) todo → slice_get s.writes todo.number ≡ Some todo.write
    own todo c = All-contains (λ (todo : Todo). slice_get s.writes todo.number ≡ Some todo.write) (todos s) todo (own_writes s) c

    begun : (number : ℕ) (write : Write) → slice_get s.writes number ≡ Some write → (round : ℕ) × Contains (todos s) (record { number = number; round = round; write = write })
    begun number write found =
        let c = in_todos 0 (length s.writes) s.rounds s.writes number write found (slice_get_within s.writes number write found) good.rounds in
        let same : 0 + number ≡ number = omega arith in
        (c.0, subst (λ k. Contains (todos s) (record { number = k; round = c.0; write = write })) same c.1)

    is_write : (number : ℕ) (write : Write) → slice_get s.writes number ≡ Some write → IsWrite s.stack write
    is_write number write found =
        let c = begun number write found in
        All-contains (λ (todo : Todo). IsWrite s.stack todo.write) (todos s) (record { number = number; round = c.0; write = write }) (todos_all s (IsWrite s.stack) good.writes) c.1

    of_write : (number : ℕ) (write : Write) → slice_get s.writes number ≡ Some write → (f : Fragment) → IsFragmentOf (tree s.stack write.dev.0) number 0 write.start write.count f → IsOfScenario s f
    of_write number write found f is = let c = begun number write found in (record { number = number; round = c.0; write = write }, c.1, is)

    of_completed : (g : Fragment) → Contains cs g → IsOfScenario s g
    of_completed g c = no_other_is_completed s ledger events state good naming run g (omega (arith, times_some g cs c))
