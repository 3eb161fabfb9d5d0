-- Refusals of lines from the first write or `sync` line on: of what was declared before, they go by the devices alone.
use Rattle.std.proofs.Common.{◌≡◌, ℕ, ◌+◌, Bool, true, false, List, [], ◌∷◌, ◌++◌, length, Option, None, Some, if◌then◌else◌, refl, sym, ◌∙◌, ap, inl, inr, arith}
use Rattle.std.specs.Option.{option_map, option_or}
use Rattle.std.proofs.lemmas.Bool.{cases_Bool, ne_eqb}
use Rattle.std.proofs.lemmas.List.{length_push}
use Rattle.decl_text.specs.Text.{words}
use Rattle.decl_text.specs.Items.{said}
use Rattle.decl_text.specs.Known.{Declarations, Written, after_line, number_in, present}
use Rattle.decl_text.specs.Stands.{is_front, stand_by, stand_of}
use Rattle.decl_text.specs.declared.stand.Stand.{Stand}
use Rattle.decl_text.specs.declared.stand.Stand.TheVariants as stand
use Rattle.decl_text.specs.Reading.{is_work_line}
use Rattle.decl_text.specs.Refusals.{first_found, line_checks, said_reason, refused, refusal, known_after}
use Rattle.decl_text.specs.declared.reason.Reason.{Reason}
use Rattle.decl_text.specs.declared.item.Item.{Item}
use Rattle.decl_text.specs.declared.item.Item.TheVariants as item
use Rattle.decl_text.specs.Steps.{FirstPasses as StartsSo}
use Rattle.decl_text.proofs.LineLemmas.{same_found, told_parts}
use Rattle.decl_text.proofs.Unrefused.{map_none, or_none}
use Rattle.work_text.specs.Work.{all_checks, checks_by}
use Rattle.work_text.specs.Whole.{work_of}
use Rattle.work_text.specs.Lines.{CanStand}
use Rattle.work_text.proofs.Rounds.{of_round, of_round_push}
use Rattle.work_text.proofs.WorkLines.{Begins, Works, said_begins, said_begun, said_works}

-- the same but for the work
abbrev pub with_work : Declarations → Declarations → Declarations
with_work known from = record known { writes = from.writes; rounds = from.rounds; syncs = from.syncs; resizes = from.resizes }

-- each write has its round
abbrev pub IsPaired : Declarations → Type 0
IsPaired known = length known.rounds ≡ length known.writes

-- a write or a `sync` line was there
abbrev pub IsBehind : Declarations → Type 0
IsBehind known = is_front (stand_of known) ≡ false

-- lines before which there was one, or which begin with one
abbrev pub Follow : Declarations → List (List ℕ) → Type 0
Follow known lines = stand_of known ≡ stand.Front → StartsSo is_work_line lines

reasons_seen : (known : Declarations) (o : Option Item) → Works o → said_reason all_checks known o ≡ said_reason all_checks (work_of known) o
unfolding first_found
reasons_seen known None is = refl
reasons_seen known (Some (item.Write task dev range tag)) is = refl
reasons_seen known (Some item.Sync) is = refl
reasons_seen known (Some (item.Resize pool min)) is = refl
reasons_seen known _ is = absurd is

after_seen : (known : Declarations) (o : Option Item) → Works o → work_of (after_line known o) ≡ after_line (work_of known) o
after_seen known None is = refl
after_seen known (Some (item.Write task dev range tag)) is = refl
after_seen known (Some item.Sync) is = refl
after_seen known (Some (item.Resize pool min)) is = refl
after_seen known _ is = absurd is

after_with : (known from : Declarations) (o : Option Item) → Works o → with_work (after_line known o) from ≡ with_work known from
after_with known from None is = refl
after_with known from (Some (item.Write task dev range tag)) is = refl
after_with known from (Some item.Sync) is = refl
after_with known from (Some (item.Resize pool min)) is = refl
after_with known from _ is = absurd is

pub after_paired : (known : Declarations) (o : Option Item) → Works o → IsPaired known → IsPaired (after_line known o)
after_paired known None is paired = paired
after_paired known (Some (item.Write task dev range tag)) is paired =
    omega (
      arith,
      paired,
      length_push known.rounds known.syncs,
      length_push known.writes (record { task = task; dev = number_in known.devices dev; start = range.start; count = range.len; tag = tag }),
    )
after_paired known (Some item.Sync) is paired = paired
after_paired known (Some (item.Resize pool min)) is paired = paired
after_paired known _ is paired = absurd is

-- some write is a write of the present round
some_write : (writes : List Written) (write : Written) (syncs : ℕ) → is_front (stand_by (writes ++ write ∷ []) syncs) ≡ false
some_write [] write syncs = refl
some_write (first ∷ writes) write syncs = refl

behind_write : (known : Declarations) (write : Written) → IsPaired known → is_front (stand_by (of_round known.syncs (known.writes ++ write ∷ []) (known.rounds ++ known.syncs ∷ [])) known.syncs) ≡ false
behind_write known write paired =
    ap (λ ws. is_front (stand_by ws known.syncs)) (of_round_push known.syncs known.writes known.rounds write paired) ∙ some_write (present known) write known.syncs

some_sync : (writes : List Written) (syncs : ℕ) → is_front (stand_by writes (syncs + 1)) ≡ false
some_sync [] syncs = ap (λ b. is_front (if b then stand.Front else stand.BehindSync)) (ne_eqb (syncs + 1) 0 (λ same. omega (arith, same)))
some_sync (write ∷ writes) syncs = refl

stays_behind : (known : Declarations) (o : Option Item) → IsPaired known → IsBehind known → Works o → IsBehind (after_line known o)
stays_behind known None paired behind is = behind
stays_behind known (Some (item.Write task dev range tag)) paired behind is =
    behind_write known (record { task = task; dev = number_in known.devices dev; start = range.start; count = range.len; tag = tag }) paired
stays_behind known (Some item.Sync) paired behind is = some_sync _ known.syncs
stays_behind known (Some (item.Resize pool min)) paired behind is = behind
stays_behind known _ paired behind is = absurd is

gets_behind : (known : Declarations) (o : Option Item) → IsPaired known → Begins o → IsBehind (after_line known o)
gets_behind known (Some (item.Write task dev range tag)) paired is =
    behind_write known (record { task = task; dev = number_in known.devices dev; start = range.start; count = range.len; tag = tag }) paired
gets_behind known (Some item.Sync) paired is = some_sync _ known.syncs
gets_behind known _ paired is = absurd is

-- a line that is not wrong says something of the work or nothing, and a write or a `sync` line was there behind it
pub record Step (known : Declarations) (o : Option Item) : Type 0 where
  pub works : Works o
  pub paired : IsPaired (after_line known o)
  pub behind : IsBehind (after_line known o)

front_is : (s : Stand) → is_front s ≡ true → s ≡ stand.Front
front_is stand.Front is = refl
front_is stand.BehindSync is = absurd (cc)
front_is stand.BehindWrite is = absurd (cc)

pub step : (known : Declarations) (line : List ℕ) → IsPaired known → CanStand known line → first_found line_checks known line ≡ None → Step known (said (words line))
step known line paired stands none =
    let right = told_parts known line none in
    elim (cases_Bool (is_front (stand_of known))) [
      | inl front ↦
          let begins = stands (front_is (stand_of known) front) in
          let works = said_begun (words line) begins right.numbered in
          record {
            works = works;
            paired = after_paired known (said (words line)) works paired;
            behind = gets_behind known (said (words line)) paired (said_begins (words line) begins right.formed);
          }
      | inr behind ↦
          let works = said_works (stand_of known) (words line) behind right.placed right.numbered in
          record {
            works = works;
            paired = after_paired known (said (words line)) works paired;
            behind = stays_behind known (said (words line)) paired behind works;
          }
    ]

pub never_front : (known : Declarations) → IsBehind known → stand_of known ≡ stand.Front → ⊥
never_front known behind front = let is = sym (ap is_front front) ∙ behind in cc

follows : (known : Declarations) (lines : List (List ℕ)) → IsBehind known → Follow known lines
follows known lines behind = λ front. absurd (never_front known behind front)

refused_step : (known : Declarations) (number : ℕ) (lines : List (List ℕ)) (f : Option Reason) (o : Option Item) → (f ≡ None → Step known o)
    → ((k : Declarations) → IsPaired k → Follow k lines → refusal all_checks k (number + 1) lines ≡ refusal all_checks (work_of k) (number + 1) lines)
    → option_or (option_map (refused number) (option_or f (said_reason all_checks known o))) (refusal all_checks (after_line known o) (number + 1) lines)
    ≡ option_or (option_map (refused number) (option_or f (said_reason all_checks (work_of known) o))) (refusal all_checks (after_line (work_of known) o) (number + 1) lines)
refused_step known number lines (Some reason) o steps rest = refl
refused_step known number lines None o steps rest =
    let s = steps refl in
    let same : refusal all_checks (after_line known o) (number + 1) lines ≡ refusal all_checks (after_line (work_of known) o) (number + 1) lines =
    rest (after_line known o) s.paired (follows (after_line known o) lines s.behind)
    ∙ ap (λ k. refusal all_checks k (number + 1) lines) (after_seen known o s.works) in
    ap (λ r. option_or (option_map (refused number) r) (refusal all_checks (after_line known o) (number + 1) lines)) (reasons_seen known o s.works)
    ∙ ap (option_or (option_map (refused number) (said_reason all_checks (work_of known) o))) same

pub rest_refused : (known : Declarations) (number : ℕ) (lines : List (List ℕ)) → IsPaired known → Follow known lines
    → refusal all_checks known number lines ≡ refusal all_checks (work_of known) number lines
unfolding refusal
rest_refused known number [] paired follow = refl
rest_refused known number (line ∷ lines) paired follow =
    refused_step known number lines (first_found line_checks known line) (said (words line)) (step known line paired follow)
    (λ k. rest_refused k (number + 1) lines)
    ∙ ap (λ f. option_or (option_map (refused number) (option_or f (said_reason all_checks (work_of known) (said (words line)))))
    (refusal all_checks (after_line (work_of known) (said (words line))) (number + 1) lines)) (same_found known (work_of known) line refl)

-- where they are not refused, they leave all but the work as it was
pub rest_known : (known : Declarations) (number : ℕ) (lines : List (List ℕ)) → IsPaired known → Follow known lines → refusal all_checks known number lines ≡ None
    → known_after known lines ≡ with_work known (known_after (work_of known) lines)
unfolding refusal
rest_known known number [] paired follow none = refl
rest_known known number (line ∷ lines) paired follow none =
    let o = said (words line) in
    let f = first_found line_checks known line in
    let k = after_line known o in
    let parts : (option_map (refused number) (option_or f (said_reason all_checks known o)) ≡ None) × (refusal all_checks k (number + 1) lines ≡ None) =
    or_none (option_map (refused number) (option_or f (said_reason all_checks known o))) (refusal all_checks k (number + 1) lines) none in
    let here : f ≡ None = (or_none f (said_reason all_checks known o) (map_none (refused number) _ parts.0)).0 in
    let s : Step known o = step known line paired follow here in
    rest_known k (number + 1) lines s.paired (follows k lines s.behind) parts.1
    ∙ after_with known (known_after (work_of k) lines) o s.works
    ∙ ap (λ seen. with_work known (known_after seen lines)) (after_seen known o s.works)

-- None of these lines declares a device, so none lacks a rescuer.
reasons_loose : (known : Declarations) (o : Option Item) → Works o → said_reason (checks_by true) known o ≡ said_reason all_checks known o
unfolding first_found
reasons_loose known None is = refl
reasons_loose known (Some (item.Write task dev range tag)) is = refl
reasons_loose known (Some item.Sync) is = refl
reasons_loose known (Some (item.Resize pool min)) is = refl
reasons_loose known _ is = absurd is

loose_step : (known : Declarations) (number : ℕ) (lines : List (List ℕ)) (f : Option Reason) (o : Option Item) → (f ≡ None → Step known o)
    → ((k : Declarations) → IsPaired k → Follow k lines → refusal (checks_by true) k (number + 1) lines ≡ refusal all_checks k (number + 1) lines)
    → option_or (option_map (refused number) (option_or f (said_reason (checks_by true) known o))) (refusal (checks_by true) (after_line known o) (number + 1) lines)
    ≡ option_or (option_map (refused number) (option_or f (said_reason all_checks known o))) (refusal all_checks (after_line known o) (number + 1) lines)
loose_step known number lines (Some reason) o steps rest = refl
loose_step known number lines None o steps rest =
    let s = steps refl in
    ap (λ r. option_or (option_map (refused number) r) (refusal (checks_by true) (after_line known o) (number + 1) lines)) (reasons_loose known o s.works)
    ∙ ap (option_or (option_map (refused number) (said_reason all_checks known o))) (rest (after_line known o) s.paired (follows (after_line known o) lines s.behind))

all_refuse : (known : Declarations) (number : ℕ) (lines : List (List ℕ)) → IsPaired known → Follow known lines
    → refusal (checks_by true) known number lines ≡ refusal all_checks known number lines
unfolding refusal
all_refuse known number [] paired follow = refl
all_refuse known number (line ∷ lines) paired follow =
    loose_step known number lines (first_found line_checks known line) (said (words line)) (step known line paired follow) (λ k. all_refuse k (number + 1) lines)

-- so all checks refuse them as the loose ones do
pub rest_loose : (loose : Bool) (known : Declarations) (number : ℕ) (lines : List (List ℕ)) → IsPaired known → Follow known lines
    → refusal (checks_by loose) known number lines ≡ refusal all_checks known number lines
rest_loose false known number lines paired follow = refl
rest_loose true known number lines paired follow = all_refuse known number lines paired follow
