-- The scripts of accepted declarations together have few entries.
use Rattle.std.proofs.Common.{not, ◌≡◌, ℕ, ◌+◌, ◌*◌, ◌^◌, ◌<◌, ◌≤◌, Bool, true, false, cond, List, [], ◌∷◌, ◌++◌, length, get_or, reverse, Option, Some, None, refl, ap, inl, inr, arith}
use Rattle.std.specs.Prelude.{All, sum_by, find, unwrap_or, zip}
use Rattle.std.specs.Option.{option_map, option_to_list}
use Rattle.std.specs.List.{range_with_len}
use Rattle.std.proofs.lemmas.Bool.{cases_lt, ltb-false, or_parts}
use Rattle.std.proofs.lemmas.Grind.{not_there}
use Rattle.std.proofs.lemmas.List.{append-nil, length-map, length-reverse}
use Rattle.std.proofs.lemmas.Slice.Zip.{length-zip}
use Rattle.std.proofs.lemmas.List.Concat.{length-flat_map}
use Rattle.std.proofs.lemmas.List.Elements.{All-map}
use Rattle.std.proofs.lemmas.List.Sums.{sum_by-cons, sum_by-le, sum_by_push}
use Rattle.fail_script.specs.Script.{Answers, entries_of}
use Rattle.stack_base.specs.declared.ids.PoolId.{PoolId}
use Rattle.stack_base.specs.declared.stack.Stack.{Stack}
use Rattle.stack_base.specs.Stack.{IsStack}
use Rattle.decl_text.specs.Accepting.{IsDeclaredSo, declared_form, device_pools, loose_checks, pools, script_of, scripts_of}
use Rattle.decl_text.specs.Text.{words}
use Rattle.decl_text.specs.Items.{said}
use Rattle.decl_text.specs.Checks.{is_of_pool, too_large}
use Rattle.decl_text.specs.Known.{Declarations, Declared, Scripted, after, after_line, nothing_declared, declared_pool}
use Rattle.decl_text.specs.Refusals.{check, first_found, known_after, refusal, said_reason}
use Rattle.decl_text.specs.declared.item.Item.{Item}
use Rattle.decl_text.specs.declared.item.Item.TheVariants as item
use Rattle.decl_text.specs.declared.item.What.{What}
use Rattle.decl_text.specs.declared.item.What.TheVariants as what
use Rattle.decl_text.specs.declared.reason.Reason.TheVariants as reason
use Rattle.decl_text.proofs.Unrefused.{finds_nothing, kept_behind, line_passes}

-- the entries of the scripts that were declared
abbrev declared_entries : List Scripted → ℕ
declared_entries scripts = sum_by (λ (s : Scripted). length s.script.entries) scripts

pub not_large : (known : Declarations) (said : Item) → first_found loose_checks known said ≡ None → too_large known said ≡ false
not_large known said none = finds_nothing loose_checks known said 4 (check reason.TooLarge too_large) none refl

-- one more script
entries_more : (scripts : List Scripted) (script : Answers) (pool : Option PoolId) → declared_entries scripts + length script.entries ≤ 65536
    → declared_entries (scripts ++ option_to_list (option_map (λ p. record { pool = p; script = script }) pool)) ≤ 65536
entries_more scripts script None few = rw (append-nil scripts) (omega arith)
entries_more scripts script (Some pool) few =
    rw (sum_by_push (λ (s : Scripted). length s.script.entries) scripts (record { pool = pool; script = script })) few

after_few : (known : Declarations) (said : Item) → too_large known said ≡ false → declared_entries known.scripts ≤ 65536 → declared_entries (after known said).scripts ≤ 65536
after_few known (item.Device name does members reserve rescuer) small few = few
after_few known (item.Bad disk range kind) small few = few
after_few known (item.Fs bios vecs) small few = few
after_few known (item.Script pool script) small few =
    entries_more known.scripts script (declared_pool known.devices pool)
    (ltb-false 65536 (declared_entries known.scripts + length script.entries) (or_parts _ _ small).0)
after_few known item.NoMemory small few = few
after_few known (item.Write task dev range tag) small few = few
after_few known item.Sync small few = few
after_few known (item.Resize pool min) small few = few

line_few : (known : Declarations) (o : Option Item) → said_reason loose_checks known o ≡ None → declared_entries known.scripts ≤ 65536 → declared_entries (after_line known o).scripts ≤ 65536
line_few known None none few = few
line_few known (Some said) none few = after_few known said (not_large known said none) few

lines_few : (all : List (List ℕ)) → refusal loose_checks nothing_declared 1 all ≡ None → declared_entries (known_after nothing_declared all).scripts ≤ 65536
lines_few all none =
    kept_behind loose_checks (λ known. declared_entries known.scripts ≤ 65536)
    (λ known line fine few. line_few known (said (words line)) (line_passes loose_checks known line fine).1 few) nothing_declared 1 all none (omega arith)

found_by : (b : Bool) (s : Scripted) (p : Scripted → Bool) (scripts : List Scripted) (tail : Bool)
    → length (unwrap_or (option_map (λ (s : Scripted). s.script) (find p scripts)) (record { entries = []; tail = tail })).entries ≤ declared_entries scripts
    → length (unwrap_or (option_map (λ (s : Scripted). s.script) (cond b (Some s) (find p scripts))) (record { entries = []; tail = tail })).entries
    ≤ length s.script.entries + declared_entries scripts
found_by true s p scripts tail few = omega arith
found_by false s p scripts tail few = omega arith

-- the script of a pool has no more entries than all that were declared
found_few : (p : Scripted → Bool) (scripts : List Scripted) (tail : Bool)
    → length (unwrap_or (option_map (λ (s : Scripted). s.script) (find p scripts)) (record { entries = []; tail = tail })).entries ≤ declared_entries scripts
found_few p [] tail = omega arith
found_few p (s ∷ scripts) tail =
    rw (sum_by-cons (λ (s : Scripted). length s.script.entries) s scripts) (found_by (p s) s p scripts tail (found_few p scripts tail))

two_at_most : (number : ℕ) (does : What) → length (device_pools number does) ≤ 2
two_at_most number (what.Disk sectors) = omega arith
two_at_most number (what.Mirror records) = omega arith
two_at_most number what.Linear = omega arith
two_at_most number (what.Stripe chunk) = omega arith
two_at_most number (what.Zoned chunk) = omega arith
two_at_most number (what.Limit longest chunk) = omega arith

pools_few : (devices : List Declared) → length (pools devices) ≤ 2 + 2 * length devices
pools_few devices =
    let numbered = zip (range_with_len 0 (length devices)) devices in
    let each : All (λ (at : ℕ × Declared). length (device_pools at.0 at.1.what) ≤ 2) (reverse numbered) = λ k d lt. two_at_most (get_or (reverse numbered) k d).0 (get_or (reverse numbered) k d).1.what in
    omega (
      arith,
      length-flat_map (λ (at : ℕ × Declared). device_pools at.0 at.1.what) (reverse numbered),
      sum_by-le (λ (at : ℕ × Declared). length (device_pools at.0 at.1.what)) 2 (reverse numbered) each,
      length-reverse numbered,
      length-zip (range_with_len 0 (length devices)) devices,
    )

-- so the scripts of all pools have few
all_few : (known : Declarations) → declared_entries known.scripts ≤ 65536 → length known.devices ≤ 32
    → sum_by (λ (script : PoolId × Answers). entries_of script.1) (scripts_of known) ≤ 66 * 65536
all_few known few devices =
    let script : PoolId → PoolId × Answers = λ pool. (pool, script_of known pool) in
    let each : All (λ (s : PoolId × Answers). entries_of s.1 ≤ 65536) (scripts_of known) =
    All-map (λ (s : PoolId × Answers). entries_of s.1 ≤ 65536) script (pools known.devices)
    (λ k d lt. omega (arith, found_few (is_of_pool (get_or (pools known.devices) k d)) known.scripts (not known.no_memory))) in
    omega (
      arith,
      sum_by-le (λ (s : PoolId × Answers). entries_of s.1) 65536 (scripts_of known) each,
      length-map (pools known.devices) script,
      pools_few known.devices,
    )

-- the scripts of the pools of an accepted stack have no more than so many entries together
pub entries_few : (stack : Stack) (scripts : List (PoolId × Answers)) → IsStack stack → ∥ IsDeclaredSo stack scripts ∥₁
    → sum_by (λ (script : PoolId × Answers). entries_of script.1) scripts ≤ 66 * 65536
entries_few stack scripts good so =
    let total = sum_by (λ (script : PoolId × Answers). entries_of script.1) scripts in
    elim (cases_lt total (66 * 65536 + 1)) [
      | inl few ↦ omega (arith, few)
      | inr large ↦
          absurd (not_there so (λ declared.
          let known = known_after nothing_declared declared.0 in
          let means = declared.3 in
          let entries : declared_entries known.scripts ≤ 65536 = lines_few declared.0 declared.2 in
          let devices : length known.devices ≤ 32 = omega (arith, ap length means.devices, length-map stack.devices.items declared_form, good.few) in
          let same = ap (λ (ss : List (PoolId × Answers)). sum_by (λ (script : PoolId × Answers). entries_of script.1) ss) means.scripts in
          omega (arith, same, all_few known entries devices)))
    ]

pub entries_fit : (stack : Stack) (scripts : List (PoolId × Answers)) → IsStack stack → ∥ IsDeclaredSo stack scripts ∥₁
    → sum_by (λ (script : PoolId × Answers). entries_of script.1) scripts < 2 ^ 64
entries_fit stack scripts good so = omega (arith, entries_few stack scripts good so)
