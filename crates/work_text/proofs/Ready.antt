-- What holds of the writes of lines that are not refused.
use Rattle.std.proofs.Common.{◌≡◌, ℕ, ◌≤◌, List, [], ◌∷◌, map, Option, None, Some, refl, sym, subst}
use Rattle.std.specs.Prelude.{All, Contains}
use Rattle.std.proofs.lemmas.Bool.{ltb-false}
use Rattle.std.proofs.lemmas.List.Elements.{All-cons, All-contains, All-head, All-nil, All-push, All-tail}
use Rattle.layout_model.specs.declared.write.Write.{Write}
use Rattle.decl_text.specs.Text.{words}
use Rattle.decl_text.specs.Items.{said}
use Rattle.decl_text.specs.Known.{Declarations, Written, after_line}
use Rattle.decl_text.specs.Checks.{too_many_segments}
use Rattle.decl_text.specs.Refusals.{check, said_reason}
use Rattle.decl_text.specs.declared.item.Item.{Item}
use Rattle.decl_text.specs.declared.item.Item.TheVariants as item
use Rattle.decl_text.specs.declared.reason.Reason.TheVariants as reason
use Rattle.decl_text.proofs.Unrefused.{finds_nothing, line_passes}
use Rattle.work_text.specs.Work.{all_checks, as_written}
use Rattle.work_text.specs.Whole.{text_refusal, known_of_text}
use Rattle.work_text.proofs.Unrefused.{kept_by_text}

abbrev IsShort : Written → Type 0
IsShort write = write.count ≤ 2048

after_short : (known : Declarations) (o : Option Item) → said_reason all_checks known o ≡ None → All IsShort known.writes → All IsShort (after_line known o).writes
after_short known None none all = all
after_short known (Some (item.Write task dev range tag)) none all =
    All-push IsShort known.writes _ all
    (ltb-false 2048 range.len (finds_nothing all_checks known (item.Write task dev range tag) 11 (check reason.TooManySegments too_many_segments) none refl))
after_short known (Some (item.Device name does members reserve rescuer)) none all = all
after_short known (Some (item.Bad disk range kind)) none all = all
after_short known (Some (item.Fs bios vecs)) none all = all
after_short known (Some (item.Script pool script)) none all = all
after_short known (Some item.NoMemory) none all = all
after_short known (Some item.Sync) none all = all
after_short known (Some (item.Resize pool min)) none all = all

all_short : (text : List ℕ) → text_refusal text ≡ None → All IsShort (known_of_text text).writes
all_short text fine =
    kept_by_text (λ known. All IsShort known.writes) (λ known line none all. after_short known (said (words line)) (line_passes all_checks known line none).1 all)
    (All-nil IsShort) text fine

-- what holds of all writes of a text holds of the writes that they are
written_short : (writes : List Write) → All IsShort (map as_written writes) → All (λ (w : Write). w.count ≤ 2048) writes
written_short [] all = All-nil (λ (w : Write). w.count ≤ 2048)
written_short (write ∷ writes) all =
    All-cons (λ (w : Write). w.count ≤ 2048) write writes (All-head IsShort (as_written write) (map as_written writes) all)
    (written_short writes (All-tail IsShort (as_written write) (map as_written writes) all))

pub writes_ready : (text : List ℕ) (writes : List Write) → text_refusal text ≡ None → map as_written writes ≡ (known_of_text text).writes
    → (write : Write) → Contains writes write → write.count ≤ 2048
writes_ready text writes fine same write there =
    All-contains (λ (w : Write). w.count ≤ 2048) writes write (written_short writes (subst (All IsShort) (sym same) (all_short text fine))) there
