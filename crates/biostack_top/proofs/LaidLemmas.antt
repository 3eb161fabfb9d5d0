-- Two legs show different words exactly where what is laid out at the two places differs.
use Rattle.std.proofs.Common.{◌≡◌, ◌≢◌, ◌<◌, ℕ, List, length, not, refl, sym, ap, ◌∙◌, subst, arith}
use Rattle.std.specs.Bool.{Decides}
use Rattle.std.proofs.lemmas.Bool.Decides.{Decides-eqb, Decides-not}
use Rattle.std.proofs.lemmas.List.FromFn.{get_or-map-range_with_len}
use Rattle.std.proofs.lemmas.Slice.Eq.{slice_eq-Decides}
use Rattle.std.specs.Prelude.{false}
use Rattle.stack_base.specs.Tree.{Tree, size, tree, legs_of}
use Rattle.image_lanes.specs.Lanes.{equal_words}
use Rattle.layout_model.proofs.Stacks.{element}
use Rattle.layout_model.specs.Shown.{shown_sector}
use Rattle.model_disks.specs.Runs.{flag}
use Rattle.run_machine.specs.Opened.{Scenario}
use Rattle.block_core.specs.Scenarios.{IsScenario}
use Rattle.block_core.proofs.images.LaidOnce.{laid_is_one}
use Rattle.biostack_top.specs.Scrubbed.{AreLaidImages, IsLaidAt, UnlikeWhereLaidDiffers}
use Rattle.mirror_scrub.specs.Seen.{Images, differing, differs, mirror_member, seen, unlikes}
use Rattle.mirror_scrub.proofs.DiskLemmas.{shown_on_disk}
use Rattle.mirror_scrub.proofs.LegLemmas.{leg_is}
use Rattle.mirror_scrub.proofs.SeenLemmas.{seen_shown}

-- a leg shows what is laid out at its place
leg_shows : (s : Scenario) (images : Images) → IsScenario s → AreLaidImages s images → (mirror leg x : ℕ) → mirror < length s.stack.devices.items
    → leg < legs_of (tree s.stack mirror) → x < size (tree s.stack mirror)
    → (one : List ℕ) → IsLaidAt s (shown_sector (mirror_member (tree s.stack mirror) leg) x) one → seen images (mirror_member (tree s.stack mirror) leg) x ≡ one
leg_shows s images good laid mirror leg x known has inside one at_place =
    let t = mirror_member (tree s.stack mirror) leg in
    let device = element s.stack.devices.items mirror known in
    let member = (leg_is s.stack good.stack mirror device.0 device.1 leg has).1 in
    let on_disk = shown_on_disk s.stack good.stack _ member.known x (omega (arith, inside, member.inside)) in
    let place = ap (λ (t : Tree). shown_sector t x) member.leg in
    let there = subst (λ p. IsLaidAt s p (images p.disk p.at)) (sym place) (laid _ _ on_disk.known on_disk.disk on_disk.within) in
    seen_shown images t x ∙ laid_is_one s good (shown_sector t x).disk (shown_sector t x).at _ one there at_place

pub unlike_where_laid_differs : UnlikeWhereLaidDiffers
unfolding differing
unlike_where_laid_differs s images good laid mirror leg x known has inside one other at_one at_other =
    let t = tree s.stack mirror in
    let is_one = leg_shows s images good laid mirror leg x known has inside one at_one in
    let is_other = leg_shows s images good laid mirror 0 x known (omega (arith, has)) inside other at_other in
    let flag_is : flag (unlikes images t leg) x ≡ differs images (mirror_member t leg) (mirror_member t 0) x =
    get_or-map-range_with_len (differs images (mirror_member t leg) (mirror_member t 0)) 0 (size t) x x false inside (omega arith) in
    let shows : differs images (mirror_member t leg) (mirror_member t 0) x ≡ not (equal_words one other) = λ k. not (equal_words (is_one k) (is_other k)) in
    subst (λ b. Decides b (one ≢ other)) (sym (flag_is ∙ shows))
    (Decides-not (equal_words one other) (slice_eq-Decides Decides-eqb one other (equal_words one other) refl))
