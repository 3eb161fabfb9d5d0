-- What a scrub writes: for each mirror, by the number of its device, and for each of its members but the first, how many
-- sectors are unlike and where.
use Rattle.std.specs.Prelude.{◌==◌, Bool, List, [], ◌∷◌, ◌++◌, ℕ, length, codes, decimal}
use Rattle.std.specs.List.{flat_map, list_all, range_with_len}
use Rattle.stack_base.specs.Tree.{tree}
use Rattle.stack_base.specs.declared.ids.Range.{Range}
use Rattle.stack_base.specs.declared.stack.Stack.{Stack}
use Rattle.stack_base.specs.Names.{name_of_device}
use Rattle.outside_io.specs.Saying.{joined_text}
use Rattle.mirror_scrub.specs.Seen.{Images, compared, stretches_from, unlike_count}

-- `scrub NAME leg K unlike C`
abbrev pub leg_line : List ℕ → ℕ → ℕ → List ℕ
leg_line name leg count =
    joined_text (codes "scrub " ∷ name ∷ codes " leg " ∷ decimal leg ∷ codes " unlike " ∷ decimal count ∷ codes "\n" ∷ [])

-- `differ NAME K START LEN`
abbrev pub differ_line : List ℕ → ℕ → Range → List ℕ
differ_line name leg run =
    joined_text (codes "differ " ∷ name ∷ codes " " ∷ decimal leg ∷ codes " " ∷ decimal run.start ∷ codes " " ∷ decimal run.len ∷ codes "\n" ∷ [])

unfoldable pub differ_lines : List ℕ → ℕ → List Range → List ℕ
differ_lines name leg runs = flat_map (differ_line name leg) runs

-- the lines of the stretches that are unlike on a member of the mirror with this number
abbrev pub stretch_lines : Stack → Images → ℕ → ℕ → List ℕ
stretch_lines stack images mirror leg = differ_lines (name_of_device stack mirror) leg (stretches_from images (tree stack mirror) leg 0)

-- the lines of a member of the mirror with this number
abbrev pub leg_lines : Stack → Images → ℕ → ℕ → List ℕ
leg_lines stack images mirror leg =
    leg_line (name_of_device stack mirror) leg (unlike_count images (tree stack mirror) leg)
    ++ stretch_lines stack images mirror leg

-- those of all its members but the first, and none for a device that is no mirror
unfoldable pub mirror_lines : Stack → Images → ℕ → List ℕ
mirror_lines stack images number = flat_map (leg_lines stack images number) (compared (tree stack number))

-- all of it
unfoldable pub scrub_text : Stack → Images → List ℕ
scrub_text stack images = flat_map (mirror_lines stack images) (range_with_len 0 (length stack.devices.items))

-- whether no sector of a mirror is unlike on any member
abbrev pub mirror_alike : Stack → Images → ℕ → Bool
mirror_alike stack images number = list_all (λ leg. unlike_count images (tree stack number) leg == 0) (compared (tree stack number))

-- whether no sector of any mirror is
abbrev pub all_alike : Stack → Images → Bool
all_alike stack images = list_all (mirror_alike stack images) (range_with_len 0 (length stack.devices.items))
