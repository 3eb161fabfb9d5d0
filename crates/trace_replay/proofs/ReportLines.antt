-- No line of a report tells an event.
use Rattle.std.proofs.Common.{◌≡◌, ◌+◌, ◌/◌, ◌%◌, ◌==◌, if◌then◌else◌, nat_lt, ℕ, zero, suc, Bool, true, false, List, [], ◌∷◌, ◌++◌, get_or, Option, None, Some, refl, sym, ap, ◌∙◌, subst, arith}
use Rattle.std.specs.Prelude.{codes, decimal, slice_get}
use Rattle.std.specs.Fmt.{digits, digits_onto, digit_glyph}
use Rattle.std.specs.Int.{w64, to_be_bytes}
use Rattle.std.specs.List.{list_all, flat_map}
use Rattle.std.specs.Option.{option_map_or}
use Rattle.std.proofs.lemmas.Bool.Decides.{nat_tests}
use Rattle.std.proofs.lemmas.Grind.{flat_map-append}
use Rattle.std.proofs.lemmas.List.{append_assoc, append-nil}
use Rattle.std.proofs.lemmas.List.Folds.{list_all-append}
use Rattle.std.proofs.lemmas.Bool.{and_from}
use Rattle.hex.specs.Hex.{encode_with, lower_digits}
use Rattle.stack_base.specs.declared.ids.DevId.{DevId}
use Rattle.stack_base.specs.declared.ids.PoolId.{PoolId}
use Rattle.stack_base.specs.declared.ids.PoolId.TheVariants.{FsBios, FsVecs, Bios, Records}
use Rattle.stack_base.specs.declared.ids.Range.{Range}
use Rattle.stack_base.specs.declared.ids.Status.{Status}
use Rattle.stack_base.specs.declared.ids.Status.TheVariants as status
use Rattle.stack_base.specs.declared.stack.Device.{Device}
use Rattle.stack_base.specs.declared.stack.Stack.{Stack}
use Rattle.stack_base.specs.Names.{name_of_device, pool_name}
use Rattle.run_machine.specs.StatusWords.{status_word}
use Rattle.outside_io.specs.Saying.{joined_text}
use Rattle.mempool_core.specs.declared.Facts.{Facts}
use Rattle.model_disks.specs.Disks.{sum_of_words}
use Rattle.model_disks.specs.Runs.{written_runs}
use Rattle.decl_text.specs.Reading.{NonePass}
use Rattle.decl_text.specs.Text.{lines}
use Rattle.decl_text.proofs.SplitLemmas.{no_lines}
use Rattle.trace_text.specs.Names.{DevicesAreNamed, is_any}
use Rattle.trace_text.proofs.NameWords.{is_visible, list_all_follows, name_is_word}
use Rattle.report_text.specs.Pools.{told_pools}
use Rattle.report_text.specs.Report as said
use Rattle.report_text.specs.Report.{Reported, report, run_lines}
use Rattle.trace_replay.specs.Lines.{is_told}
use Rattle.trace_replay.specs.Traces.{TellsNoEvent, ReportsTellNoEvent}
use Rattle.trace_replay.proofs.TextLines.{is_inner, inner_first}

-- the text has no byte that ends a line
abbrev IsInner : List ℕ → Type 0
IsInner text = list_all is_inner text ≡ true

joined : (a b : List ℕ) → IsInner a → IsInner b → IsInner (a ++ b)
joined a b first second = rw (list_all-append is_inner a b, first, second) refl

-- the digits of any number
glyph : (d : ℕ) → is_inner (digit_glyph false d) ≡ true
glyph d = by (nat_lt d 10)
  where
    by : (small : Bool) → is_inner (if small then 48 + d else 87 + d) ≡ true
    by true = grind (arith, nat_tests)
    by false = grind (arith, nat_tests)

longer : (d : ℕ) (more : List ℕ) → IsInner more → IsInner (digit_glyph false d ∷ more)
longer d more inner = and_from (is_inner (digit_glyph false d)) (list_all is_inner more) (glyph d) inner

digits_inner : (most n : ℕ) (more : List ℕ) → IsInner more → IsInner (digits_onto most 10 false n more)
digits_inner zero n more inner = inner
digits_inner (suc most) n more inner =
    by (n / 10 == 0) (longer (n % 10) more inner) (digits_inner most (n / 10) (digit_glyph false (n % 10) ∷ more) (longer (n % 10) more inner))
  where
    by : (last : Bool) → IsInner (digit_glyph false (n % 10) ∷ more) → IsInner (digits_onto most 10 false (n / 10) (digit_glyph false (n % 10) ∷ more))
        → IsInner (if last then digit_glyph false (n % 10) ∷ more else digits_onto most 10 false (n / 10) (digit_glyph false (n % 10) ∷ more))
    by true here further = here
    by false here further = further

decimal_inner : (n : ℕ) → IsInner (decimal n)
unfolding digits
decimal_inner n = digits_inner 64 n [] refl

-- those of a sum
at_inner : (table : List ℕ) (place : ℕ) → IsInner table → is_inner (get_or table place 0) ≡ true
at_inner [] place inner = refl
at_inner (byte ∷ table) zero inner = grind arith
at_inner (byte ∷ table) (suc place) inner = at_inner table place (grind arith)

hex_inner : (table bytes : List ℕ) → IsInner table → IsInner (encode_with table bytes)
unfolding encode_with
hex_inner table [] inner = refl
hex_inner table (byte ∷ bytes) inner =
    let low = and_from (is_inner (get_or table (byte % 16) 0)) (list_all is_inner (encode_with table bytes)) (at_inner table (byte % 16) inner) (hex_inner table bytes inner) in
    and_from (is_inner (get_or table (byte / 16) 0)) (list_all is_inner (get_or table (byte % 16) 0 ∷ encode_with table bytes)) (at_inner table (byte / 16) inner) low

status_inner : (one : Status) → IsInner (status_word one)
status_inner status.Ok = refl
status_inner status.Io = refl
status_inner status.Medium = refl
status_inner status.NoSpace = refl

visible_inner : (byte : ℕ) → is_visible byte ≡ true → is_inner byte ≡ true
visible_inner byte is = grind (arith, nat_tests, is)

name_inner : (stack : Stack) (number : ℕ) → DevicesAreNamed stack → IsInner (name_of_device stack number)
name_inner stack number named = by (slice_get stack.devices.items number) refl
  where
    by : (found : Option Device) → slice_get stack.devices.items number ≡ found → IsInner (option_map_or (λ (device : Device). device.name.bytes) found [])
    by None is = refl
    by (Some device) is =
        let has = ap (λ (f : Option Device). option_map_or (λ (d : Device). is_any d.kind) f false) is in
        let name = ap (λ (f : Option Device). option_map_or (λ (d : Device). d.name.bytes) f []) is in
        subst IsInner name (list_all_follows is_visible is_inner visible_inner (name_of_device stack number) (name_is_word stack (record { 0 = number }) named has).visible)

pool_inner : (stack : Stack) (pool : PoolId) → DevicesAreNamed stack → IsInner (pool_name stack pool)
pool_inner stack FsBios named = refl
pool_inner stack FsVecs named = refl
pool_inner stack (Bios dev) named = joined (name_of_device stack dev.0) (codes ".bios") (name_inner stack dev.0 named) refl
pool_inner stack (Records dev) named = joined (name_of_device stack dev.0) (codes ".records") (name_inner stack dev.0 named) refl

-- before whatever tells no event, this text tells none
abbrev AddsNone : List ℕ → Type 0
AddsNone text = (back : List ℕ) → TellsNoEvent back → TellsNoEvent (text ++ back)

both : (a b : List ℕ) → AddsNone a → AddsNone b → AddsNone (a ++ b)
both a b first second back none = subst TellsNoEvent (sym (append_assoc a b back)) (first (b ++ back) (second back none))

each : {X : Type 0} (text : X → List ℕ) (xs : List X) → ((x : X) → AddsNone (text x)) → AddsNone (flat_map text xs)
each text [] one = λ back none. none
each text (x ∷ xs) one = both (text x) (flat_map text xs) (one x) (each text xs one)

line_none : (body : List ℕ) → IsInner body → is_told body ≡ false → AddsNone (body ++ 10 ∷ [])
line_none body inner other back none =
    subst (NonePass is_told) (sym (ap lines (append_assoc body (10 ∷ []) back) ∙ inner_first body back inner)) (other, none)

-- a line of these parts
abbrev AreInner : List (List ℕ) → Type 0
AreInner [] = Unit {0}
AreInner (part ∷ parts) = IsInner part × AreInner parts

parts_inner : (parts : List (List ℕ)) → AreInner parts → IsInner (joined_text parts)
parts_inner [] inner = refl
parts_inner (part ∷ parts) inner = joined part (joined_text parts) inner.0 (parts_inner parts inner.1)

parts_none : (parts : List (List ℕ)) → AreInner parts → is_told (joined_text parts) ≡ false → AddsNone (joined_text (parts ++ codes "\n" ∷ []))
parts_none parts inner other =
    subst AddsNone (sym (flat_map-append (λ (part : List ℕ). part) parts (codes "\n" ∷ []))) (line_none (joined_text parts) (parts_inner parts inner) other)

-- the lines of a report
write_none : (number : ℕ) (one : Status) → AddsNone (said.write_line number one)
write_none number one =
    parts_none (codes "write " ∷ decimal number ∷ codes " " ∷ status_word one ∷ []) (refl, (decimal_inner number, (refl, (status_inner one, tt)))) refl

writes_none : (number : ℕ) (all : List Status) → AddsNone (said.write_lines number all)
writes_none number [] = λ back none. none
writes_none number (one ∷ all) = both (said.write_line number one) (said.write_lines (number + 1) all) (write_none number one) (writes_none (number + 1) all)

sum_none : (name : List ℕ) (words : ℕ) → IsInner name → AddsNone (said.disk_line name words)
sum_none name words inner =
    parts_none (codes "disk " ∷ name ∷ codes " sum " ∷ encode_with lower_digits (to_be_bytes w64 words) ∷ [])
    (refl, (inner, (refl, (hex_inner lower_digits (to_be_bytes w64 words) refl, tt)))) refl

run_none : (name : List ℕ) → IsInner name → (run : Range) → AddsNone (said.run_line name run)
run_none name inner run =
    parts_none (codes "run " ∷ name ∷ codes " " ∷ decimal run.start ∷ codes " " ∷ decimal run.len ∷ [])
    (refl, (inner, (refl, (decimal_inner run.start, (refl, (decimal_inner run.len, tt)))))) refl

runs_none : (name : List ℕ) → IsInner name → (runs : List Range) → AddsNone (run_lines name runs)
unfolding run_lines
runs_none name inner runs = each (said.run_line name) runs (run_none name inner)

pool_none : (name : List ℕ) (facts : Facts) → IsInner name → AddsNone (said.pool_line name facts)
pool_none name facts inner =
    parts_none (codes "pool " ∷ name ∷ codes " reserve " ∷ decimal facts.min ∷ codes " ordinary " ∷ decimal facts.ordinary ∷ codes " spare " ∷ decimal facts.spare ∷ [])
    (refl, (inner, (refl, (decimal_inner facts.min, (refl, (decimal_inner facts.ordinary, (refl, (decimal_inner facts.spare, tt)))))))) refl

steps_none : (steps bound : ℕ) → AddsNone (said.steps_line steps bound)
steps_none steps bound = parts_none (codes "steps " ∷ decimal steps ∷ codes " of " ∷ decimal bound ∷ []) (refl, (decimal_inner steps, (refl, (decimal_inner bound, tt)))) refl

-- the whole
module _ (stack : Stack) (told : Reported) (named : DevicesAreNamed stack) where
  image_none : (disk : DevId × List (List ℕ)) → AddsNone (said.image_lines stack disk)
  image_none disk =
      let name = name_of_device stack disk.0.0 in
      let inner = name_inner stack disk.0.0 named in
      both (said.sum_line stack disk) (run_lines name (written_runs disk.1)) (sum_none name (sum_of_words disk.1) inner) (runs_none name inner (written_runs disk.1))

  facts_none : (pool : PoolId) → AddsNone (said.pool_line (pool_name stack pool) (said.facts_of told.pools pool))
  facts_none pool = pool_none (pool_name stack pool) (said.facts_of told.pools pool) (pool_inner stack pool named)

  abbrev images : List ℕ
  images = flat_map (said.image_lines stack) told.disks

  abbrev pools : List ℕ
  pools = said.pool_lines stack told.pools

  abbrev steps : List ℕ
  steps = said.steps_line told.steps told.bound

  all_none : AddsNone (report stack told)
  all_none =
      both (said.write_lines 0 told.statuses) (images ++ (pools ++ steps)) (writes_none 0 told.statuses)
      (both images (pools ++ steps) (each (said.image_lines stack) told.disks image_none)
      (both pools steps (each (λ pool. said.pool_line (pool_name stack pool) (said.facts_of told.pools pool)) (told_pools stack) facts_none) (steps_none told.steps told.bound)))

  whole_none : TellsNoEvent (report stack told)
  whole_none = subst TellsNoEvent (append-nil (report stack told)) (all_none [] (subst (NonePass is_told) (sym no_lines) tt))

pub report_none : ReportsTellNoEvent
report_none stack told named = whole_none stack told named
