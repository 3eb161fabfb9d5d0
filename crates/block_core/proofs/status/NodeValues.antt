-- What a node keeps and how its run may end: the facts of single nodes and statuses.
use Rattle.std.proofs.Common.{◌≡◌, ◌≢◌, ◌+◌, ◌-◌, ◌*◌, ◌≤◌, ℕ, Bool, true, false, Option, None, Some, refl, ap, arith}
use Rattle.std.specs.Prelude.{sum_by}
use Rattle.std.specs.List.{range_with_len}
use Rattle.stack_base.specs.declared.ids.Status.{Status}
use Rattle.stack_base.specs.declared.ids.Status.TheVariants.{Ok, Io, Medium, NoSpace}
use Rattle.stack_base.specs.Fault.{status_eq}
use Rattle.layout_model.specs.declared.fragment.Fragment.{Fragment}
use Rattle.bio_books.specs.declared.node.Role.{Role}
use Rattle.bio_books.specs.declared.node.Role.TheVariants as role
use Rattle.bio_books.specs.Books.{parent_of, kept_with, closing}
use Rattle.run_machine.specs.Scene.{Setup, tree_at}
use Rattle.block_core.specs.Weights.{under, legs_left}
use Rattle.block_core.proofs.status.Marks.{is, Mark, IsMark, allowed_by, allowed, decides, mismatch, bio_may, leg_may, above, unallowed, deciding}
use Rattle.block_core.proofs.status.RunEndings.{few_yes}
use Rattle.block_core.proofs.moves.VacantMarks.{with_mark, mark_other, mark_still, IsUnmoved}

-- facts of statuses
pub is_itself : (end : Status) → is end end ≡ 1
is_itself Ok = refl
is_itself Io = refl
is_itself Medium = refl
is_itself NoSpace = refl

pub few_is : (end other : Status) → is end other ≤ 1
few_is end other = few_yes (status_eq end other)

-- what may come is this one, if it is
pub is_given : (ends : Status → ℕ) (end other : Status) → 1 ≤ ends other → is end other ≤ ends end
is_given ends Ok Ok may = may
is_given ends Io Io may = may
is_given ends Medium Medium may = may
is_given ends NoSpace NoSpace may = may
is_given ends end other may = omega arith

-- a new node may be told of what its run may end with, and is well yet
pub own_allowed : (ends : Status → ℕ) (end : Status) → ends Ok ≤ 1 → ends end ≤ allowed_by false ends end
own_allowed ends Ok few = few
own_allowed ends Io few = omega arith
own_allowed ends Medium few = omega arith
own_allowed ends NoSpace few = omega arith

pub well_allowed : (ends : Status → ℕ) (end : Status) → is end Ok ≤ allowed_by false ends end
well_allowed ends Ok = omega arith
well_allowed ends Io = omega arith
well_allowed ends Medium = omega arith
well_allowed ends NoSpace = omega arith

pub failed_allowed : (ends : Status → ℕ) (end : Status) → is end Io ≤ allowed_by true ends end
failed_allowed ends Ok = omega arith
failed_allowed ends Io = omega arith
failed_allowed ends Medium = omega arith
failed_allowed ends NoSpace = omega arith

-- what is no more than an end that is allowed
pub less_allowed : (ends : Status → ℕ) (end : Status) (less more : Status → ℕ) → ((end : Status) → end ≢ Ok → less end ≤ more end) → less Ok ≤ 1
    → more end - allowed_by false ends end ≡ 0 → less end - allowed_by false ends end ≡ 0
less_allowed ends Ok less more le few off = omega (arith, few)
less_allowed ends Io less more le few off = let h = le Io (λ q. cc) in omega (arith, h, off)
less_allowed ends Medium less more le few off = let h = le Medium (λ q. cc) in omega (arith, h, off)
less_allowed ends NoSpace less more le few off = let h = le NoSpace (λ q. cc) in omega (arith, h, off)

-- an end of a leg may come to its master
pub leg_allowed : (ends : Status → ℕ) (end : Status) (leg : Status → ℕ) → ((end : Status) → leg end ≤ 1) → leg Ok ≤ ends Ok → leg end - allowed_by true ends end ≡ 0
leg_allowed ends Ok leg few le = omega (arith, le)
leg_allowed ends Io leg few le = let h = few Io in omega (arith, h)
leg_allowed ends Medium leg few le = let h = few Medium in omega (arith, h)
leg_allowed ends NoSpace leg few le = let h = few NoSpace in omega (arith, h)

pub few_well : (mark : Mark) → IsMark mark → mark.ends Ok ≤ 1
few_well mark fair = let h = fair.alone Io (λ q. cc) in omega (arith, h)

-- a run that may end so ends well exactly where it may
pub well_is : (mark : Mark) → IsMark mark → (end : Status) → 1 ≤ mark.ends end → is Ok end ≡ mark.ends Ok
well_is mark fair Ok may = let few = few_well mark fair in omega (arith, may, few)
well_is mark fair Io may = let h = fair.alone Io (λ q. cc) in omega (arith, may, h)
well_is mark fair Medium may = let h = fair.alone Medium (λ q. cc) in omega (arith, may, h)
well_is mark fair NoSpace may = let h = fair.alone NoSpace (λ q. cc) in omega (arith, may, h)

-- a node is decided by what it kept before, and by what it is told
pub told_decides : (r : Role) (master : Bool) (old new : Status) → mismatch r master ≡ 0
    → (decides master (is Ok old) ≤ decides master (is Ok (kept_with r old new))) × (decides master (is Ok new) ≤ decides master (is Ok (kept_with r old new)))
-- tops, nodes of pieces and legs keep the first end that failed
told_decides role.Top false Ok new same = (omega arith, omega arith)
told_decides role.Top false Io new same = (omega arith, omega arith)
told_decides role.Top false Medium new same = (omega arith, omega arith)
told_decides role.Top false NoSpace new same = (omega arith, omega arith)
told_decides role.Top true old new same = absurd (omega (arith, same))
told_decides (role.Chain parent) false Ok new same = (omega arith, omega arith)
told_decides (role.Chain parent) false Io new same = (omega arith, omega arith)
told_decides (role.Chain parent) false Medium new same = (omega arith, omega arith)
told_decides (role.Chain parent) false NoSpace new same = (omega arith, omega arith)
told_decides (role.Chain parent) true old new same = absurd (omega (arith, same))
told_decides (role.Leg parent) false Ok new same = (omega arith, omega arith)
told_decides (role.Leg parent) false Io new same = (omega arith, omega arith)
told_decides (role.Leg parent) false Medium new same = (omega arith, omega arith)
told_decides (role.Leg parent) false NoSpace new same = (omega arith, omega arith)
told_decides (role.Leg parent) true old new same = absurd (omega (arith, same))
-- masters keep an end that was well
told_decides (role.Master parent) false old new same = absurd (omega (arith, same))
told_decides (role.Master parent) true old Ok same = (omega (arith, few_is Ok old), omega arith)
told_decides (role.Master parent) true old Io same = (omega arith, omega arith)
told_decides (role.Master parent) true old Medium same = (omega arith, omega arith)
told_decides (role.Master parent) true old NoSpace same = (omega arith, omega arith)

-- what it keeps then is allowed, if both are
pub told_allowed : (r : Role) (ends : Status → ℕ) (master : Bool) (old new : Status) → 1 ≤ allowed_by master ends old → 1 ≤ allowed_by master ends new
    → 1 ≤ allowed_by master ends (kept_with r old new)
-- tops, nodes of pieces and legs keep the first end that failed
told_allowed role.Top ends master Ok new before now = now
told_allowed role.Top ends master Io new before now = before
told_allowed role.Top ends master Medium new before now = before
told_allowed role.Top ends master NoSpace new before now = before
told_allowed (role.Chain parent) ends master Ok new before now = now
told_allowed (role.Chain parent) ends master Io new before now = before
told_allowed (role.Chain parent) ends master Medium new before now = before
told_allowed (role.Chain parent) ends master NoSpace new before now = before
told_allowed (role.Leg parent) ends master Ok new before now = now
told_allowed (role.Leg parent) ends master Io new before now = before
told_allowed (role.Leg parent) ends master Medium new before now = before
told_allowed (role.Leg parent) ends master NoSpace new before now = before
-- masters keep an end that was well
told_allowed (role.Master parent) ends master old Ok before now = now
told_allowed (role.Master parent) ends master old Io before now = before
told_allowed (role.Master parent) ends master old Medium before now = before
told_allowed (role.Master parent) ends master old NoSpace before now = before

-- and as it closes it ends as its run may, where nothing else decides it
chained_closes : (ends : Status → ℕ) (kept : Status) → 1 ≤ allowed_by false ends kept → decides false (ends Ok) ≤ decides false (is Ok kept) → 1 ≤ ends kept
chained_closes ends Ok may decided = omega (arith, decided)
chained_closes ends Io may decided = may
chained_closes ends Medium may decided = may
chained_closes ends NoSpace may decided = may

mirror_closes : (mark : Mark) → IsMark mark → mark.master ≡ true → (parent : ℕ) (kept : Status) → 1 ≤ allowed_by true mark.ends kept
    → decides true (mark.ends Ok) ≤ decides true (is Ok kept) → 1 ≤ mark.ends (closing (role.Master parent) kept)
mirror_closes mark fair master parent Ok may decided = may
mirror_closes mark fair master parent Io may decided = let h = fair.failed master in omega (arith, h, decided)
mirror_closes mark fair master parent Medium may decided = let h = fair.failed master in omega (arith, h, decided)
mirror_closes mark fair master parent NoSpace may decided = let h = fair.failed master in omega (arith, h, decided)

few_decides : (mark : Mark) → IsMark mark → (m : Bool) → decides m (mark.ends Ok) ≤ 1
few_decides mark fair false = omega arith
few_decides mark fair true = few_well mark fair

pub closes_given : (mark : Mark) → IsMark mark → (r : Role) → mismatch r mark.master ≡ 0 → (old new : Status) → 1 ≤ allowed mark old → 1 ≤ allowed mark new
    → decides mark.master (mark.ends Ok) - decides mark.master (is Ok old) ≤ decides mark.master (is Ok new) → 1 ≤ mark.ends (closing r (kept_with r old new))
closes_given mark fair r same old new before now decided =
    let told = told_decides r mark.master old new same in
    by_role mark.master refl r same before now (omega (arith, told.0, told.1, decided, few_decides mark fair mark.master))
  where
    by_role : (m : Bool) → mark.master ≡ m → (r : Role) → mismatch r m ≡ 0 → 1 ≤ allowed_by m mark.ends old → 1 ≤ allowed_by m mark.ends new
        → decides m (mark.ends Ok) ≤ decides m (is Ok (kept_with r old new)) → 1 ≤ mark.ends (closing r (kept_with r old new))
    by_role false is_m role.Top same before now decided = chained_closes mark.ends (kept_with role.Top old new) (told_allowed role.Top mark.ends false old new before now) decided
    by_role false is_m (role.Chain parent) same before now decided =
        chained_closes mark.ends (kept_with (role.Chain parent) old new) (told_allowed (role.Chain parent) mark.ends false old new before now) decided
    by_role false is_m (role.Leg parent) same before now decided =
        chained_closes mark.ends (kept_with (role.Leg parent) old new) (told_allowed (role.Leg parent) mark.ends false old new before now) decided
    by_role false is_m (role.Master parent) same before now decided = absurd (omega (arith, same))
    by_role true is_m role.Top same before now decided = absurd (omega (arith, same))
    by_role true is_m (role.Chain parent) same before now decided = absurd (omega (arith, same))
    by_role true is_m (role.Leg parent) same before now decided = absurd (omega (arith, same))
    by_role true is_m (role.Master parent) same before now decided =
        mirror_closes mark fair is_m parent (kept_with (role.Master parent) old new) (told_allowed (role.Master parent) mark.ends true old new before now) decided

-- what a node lacks still comes, once it was told
pub told_lacks : (mark : Mark) → IsMark mark → (r : Role) → mismatch r mark.master ≡ 0 → (old new : Status) (comes : ℕ)
    → decides mark.master (mark.ends Ok) - decides mark.master (is Ok old) ≤ comes + decides mark.master (is Ok new)
    → decides mark.master (mark.ends Ok) - decides mark.master (is Ok (kept_with r old new)) ≤ comes
told_lacks mark fair r same old new comes decided =
    let told = told_decides r mark.master old new same in
    omega (arith, told.0, told.1, decided, few_decides mark fair mark.master)

-- parts decide as their whole
pub parts_decide : (master : Bool) (whole first rest : Status → ℕ) → 1 - whole Ok ≤ (1 - first Ok) + (1 - rest Ok) → whole Ok ≤ first Ok + rest Ok
    → decides master (whole Ok) ≤ decides master (first Ok) + decides master (rest Ok)
parts_decide false whole first rest unwell well = unwell
parts_decide true whole first rest unwell well = well

-- a mark at a vacant place does not matter
module _ (setup : Setup) (ends : Fragment → Status) (written : ℕ → Status → ℕ) (mark : ℕ → ℕ → Mark) (writer key : ℕ) (new : Mark) where
  abbrev marks : ℕ → ℕ → Mark
  marks = with_mark mark writer key new

  above_same : (end : Status) (may_come v write : ℕ) (parent : Option ℕ) → under writer key v parent ≡ 0
      → above written marks end may_come v write parent ≡ above written mark end may_come v write parent
  above_same end may_come v write None none = refl
  above_same end may_come v write (Some parent) none = ap (λ m. may_come - allowed m end) (mark_still mark writer key new v parent none)

  pub unallowed_unmoved : (end : Status) → IsUnmoved (unallowed setup ends written marks end) (unallowed setup ends written mark end) writer key
  unallowed_unmoved end = record {
    todo = λ n todos taken. omega arith;
    bio = λ spot item none.
        omega (
          arith,
          ap (λ m. bio_may setup ends item.bio end - allowed m end) (mark_still mark writer key new item.bio.writer item.bio.node none),
        );
    copy = λ bio master leg none.
        omega (
          arith,
          ap (λ m. sum_by (λ k. leg_may ends (tree_at setup bio.dev) bio k end - allowed m end) (range_with_len leg (legs_left setup bio leg)))
              (mark_still mark writer key new bio.writer master none),
        );
    hand = λ item. omega arith;
    vector = λ vector. omega arith;
    slip = λ slip. omega arith;
    node = λ v k node elsewhere none.
        let own = mark_other mark writer key new v k elsewhere in
        omega (
          arith,
          ap (λ (m : Mark). mismatch node.role m.master + (is end node.status - allowed m end) + above written marks end (m.ends end) v node.write (parent_of node.role)) own,
          above_same end ((mark v k).ends end) v node.write (parent_of node.role) none,
        );
    closed = λ task v closed none. omega (arith, above_same end (is end closed.status) v closed.write closed.parent none);
  }

  pub deciding_unmoved : (master : Bool) (w k : ℕ) → IsUnmoved (deciding setup ends mark master w k) (deciding setup ends marks master w k) writer key
  deciding_unmoved master w k = record {
    todo = λ n todos taken. omega arith;
    bio = λ spot item none. omega arith;
    copy = λ bio m leg none. omega arith;
    hand = λ item. omega arith;
    vector = λ vector. omega arith;
    slip = λ slip. omega arith;
    node = λ v j node elsewhere none.
        omega (
          arith,
          ap (λ (m : Mark). under w k v (parent_of node.role) * decides master (m.ends Ok)) (mark_other mark writer key new v j elsewhere),
        );
    closed = λ task v closed none. omega arith;
  }
