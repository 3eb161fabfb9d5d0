-- The lines of a text that is put together of whole lines, and those of them that tell events.
use Rattle.std.proofs.Common.{◌≡◌, ◌+◌, ◌==◌, if◌then◌else◌, not, ℕ, Bool, true, false, List, [], ◌∷◌, ◌++◌, length, filter, map, refl, sym, ap, ◌∙◌, subst, arith}
use Rattle.std.specs.List.{list_all, slice_split, onto_first, count_by}
use Rattle.std.proofs.lemmas.List.{append-nil}
use Rattle.std.proofs.lemmas.List.Sums.{AllPass-from_list_all}
use Rattle.std.proofs.lemmas.List.Splits.{slice_split-cons_yes, slice_split-cons_no, slice_split_none, length-slice_split}
use Rattle.std.proofs.lemmas.Bool.Decides.{nat_tests}
use Rattle.decl_text.specs.Reading.{NonePass}
use Rattle.decl_text.specs.Text.{lines, without_empty_end}
use Rattle.decl_text.proofs.SplitLemmas.{no_lines}
use Rattle.trace_text.specs.Laws.{is_line_byte}
use Rattle.trace_text.proofs.NameWords.{list_all_follows}
use Rattle.block_core.proofs.start.InvariantAtStart.{all_map}
use Rattle.trace_replay.specs.Lines.{is_told, told_lines}
use Rattle.trace_replay.specs.Traces.{in_whole_lines}

abbrev ends_line : ℕ → Bool
ends_line byte = byte == 10

-- parts are of a list that has one
abbrev IsSome : List (List ℕ) → Type 0
IsSome [] = ⊥
IsSome (part ∷ parts) = Unit {0}

some_parts : (bytes : List ℕ) → IsSome (slice_split ends_line bytes)
some_parts bytes = by (slice_split ends_line bytes) (length-slice_split ends_line bytes)
  where
    by : (parts : List (List ℕ)) → length parts ≡ count_by ends_line bytes + 1 → IsSome parts
    by [] long = absurd (omega (arith, long))
    by (part ∷ parts) long = tt

onto : (byte : ℕ) (parts more : List (List ℕ)) → IsSome parts → onto_first byte (parts ++ more) ≡ onto_first byte parts ++ more
onto byte [] more some = absurd some
onto byte (part ∷ parts) more some = refl

-- the parts before a byte 10, and those behind it
split_at : (body back : List ℕ) → slice_split ends_line (body ++ 10 ∷ back) ≡ slice_split ends_line body ++ slice_split ends_line back
split_at [] back = slice_split-cons_yes ends_line 10 back refl
split_at (byte ∷ body) back = by (split_at body back) (ends_line byte) refl
  where
    by : slice_split ends_line (body ++ 10 ∷ back) ≡ slice_split ends_line body ++ slice_split ends_line back → (ends : Bool) → ends_line byte ≡ ends → slice_split ends_line (byte ∷ (body ++ 10 ∷ back)) ≡ slice_split ends_line (byte ∷ body) ++ slice_split ends_line back
    by rest true is =
        slice_split-cons_yes ends_line byte (body ++ 10 ∷ back) is ∙ ap (λ parts. [] ∷ parts) rest
        ∙ ap (λ parts. parts ++ slice_split ends_line back) (sym (slice_split-cons_yes ends_line byte body is))
    by rest false is =
        slice_split-cons_no ends_line byte (body ++ 10 ∷ back) is ∙ ap (onto_first byte) rest
        ∙ onto byte (slice_split ends_line body) (slice_split ends_line back) (some_parts body)
        ∙ ap (λ parts. parts ++ slice_split ends_line back) (sym (slice_split-cons_no ends_line byte body is))

-- but for the last part none is left out
kept_first : (part next : List ℕ) (parts : List (List ℕ)) → without_empty_end (part ∷ next ∷ parts) ≡ part ∷ without_empty_end (next ∷ parts)
unfolding without_empty_end
kept_first [] next parts = refl
kept_first (byte ∷ part) next parts = refl

kept : (parts more : List (List ℕ)) → IsSome more → without_empty_end (parts ++ more) ≡ parts ++ without_empty_end more
kept [] more some = refl
kept (part ∷ []) [] some = absurd some
kept (part ∷ []) (next ∷ more) some = kept_first part next more
kept (part ∷ next ∷ parts) more some = kept_first part next (parts ++ more) ∙ ap (λ all. part ∷ all) (kept (next ∷ parts) more some)

pub lines_at : (body back : List ℕ) → lines (body ++ 10 ∷ back) ≡ slice_split ends_line body ++ lines back
lines_at body back = ap without_empty_end (split_at body back) ∙ kept (slice_split ends_line body) (slice_split ends_line back) (some_parts back)

-- a text that ends with a line's end has its own lines, and those of what stands behind it
pub lines_of_two : (body back : List ℕ) → lines ((body ++ 10 ∷ []) ++ back) ≡ lines (body ++ 10 ∷ []) ++ lines back
lines_of_two body back =
    ap lines (joined body) ∙ lines_at body back ∙ ap (λ all. all ++ lines back) (sym (lines_at body [] ∙ ap (λ l. slice_split ends_line body ++ l) no_lines ∙ append-nil (slice_split ends_line body)))
  where
    joined : (bytes : List ℕ) → (bytes ++ 10 ∷ []) ++ back ≡ bytes ++ 10 ∷ back
    joined [] = refl
    joined (byte ∷ bytes) = ap (λ all. byte ∷ all) (joined bytes)

-- parts of a text with a byte: they are not one empty part
abbrev IsMore : List (List ℕ) → Type 0
IsMore [] = ⊥
IsMore ([] ∷ []) = ⊥
IsMore ([] ∷ part ∷ parts) = Unit {0}
IsMore ((byte ∷ part) ∷ parts) = Unit {0}

end_more : (parts : List (List ℕ)) → IsSome parts → IsMore ([] ∷ parts)
end_more [] some = absurd some
end_more (part ∷ parts) some = tt

byte_more : (byte : ℕ) (parts : List (List ℕ)) → IsSome parts → IsMore (onto_first byte parts)
byte_more byte [] some = absurd some
byte_more byte (part ∷ parts) some = tt

more_parts : (byte : ℕ) (more : List ℕ) → IsMore (slice_split ends_line (byte ∷ more))
more_parts byte more = by (ends_line byte) refl
  where
    by : (ends : Bool) → ends_line byte ≡ ends → IsMore (slice_split ends_line (byte ∷ more))
    by true is = subst IsMore (sym (slice_split-cons_yes ends_line byte more is)) (end_more (slice_split ends_line more) (some_parts more))
    by false is = subst IsMore (sym (slice_split-cons_no ends_line byte more is)) (byte_more byte (slice_split ends_line more) (some_parts more))

onto_lines : (byte : ℕ) (parts : List (List ℕ)) → IsMore parts → without_empty_end (onto_first byte parts) ≡ onto_first byte (without_empty_end parts)
unfolding without_empty_end
onto_lines byte [] more = absurd more
onto_lines byte ([] ∷ []) more = absurd more
onto_lines byte ([] ∷ part ∷ parts) more = refl
onto_lines byte ((inner ∷ part) ∷ parts) more = refl

some_lines : (parts : List (List ℕ)) → IsMore parts → IsSome (without_empty_end parts)
unfolding without_empty_end
some_lines [] more = absurd more
some_lines ([] ∷ []) more = absurd more
some_lines ([] ∷ part ∷ parts) more = tt
some_lines ((inner ∷ part) ∷ parts) more = tt

-- a byte before a text with one
byte_first : (byte next : ℕ) (more : List ℕ) → ends_line byte ≡ false → lines (byte ∷ next ∷ more) ≡ onto_first byte (lines (next ∷ more))
byte_first byte next more is =
    ap without_empty_end (slice_split-cons_no ends_line byte (next ∷ more) is) ∙ onto_lines byte (slice_split ends_line (next ∷ more)) (more_parts next more)

-- a line of one byte
one_byte : (byte : ℕ) → ends_line byte ≡ false → lines (byte ∷ []) ≡ (byte ∷ []) ∷ []
unfolding without_empty_end
one_byte byte is = ap without_empty_end (slice_split-cons_no ends_line byte [] is)

is_end : (byte : ℕ) → ends_line byte ≡ true → byte ≡ 10
is_end byte is = grind (arith, nat_tests, is)

whole_begins : (next : ℕ) (more : List ℕ) → (tail : List ℕ) × (in_whole_lines (next ∷ more) ≡ next ∷ tail)
unfolding in_whole_lines
whole_begins next [] = by (next == 10)
  where
    by : (ends : Bool) → (tail : List ℕ) × ((if ends then next ∷ [] else next ∷ 10 ∷ []) ≡ next ∷ tail)
    by true = ([], refl)
    by false = (10 ∷ [], refl)
whole_begins next (byte ∷ more) = (in_whole_lines (byte ∷ more), refl)

-- a text in whole lines has its own lines, and those of what stands behind it
pub whole_first : (text back : List ℕ) → lines (in_whole_lines text ++ back) ≡ lines text ++ lines back
unfolding in_whole_lines
whole_first [] back = ap (λ all. all ++ lines back) (sym no_lines)
whole_first (byte ∷ []) back = by (ends_line byte) refl
  where
    by : (ends : Bool) → ends_line byte ≡ ends → lines ((if ends then byte ∷ [] else byte ∷ 10 ∷ []) ++ back) ≡ lines (byte ∷ []) ++ lines back
    by true is = subst (λ b. lines (b ∷ back) ≡ lines (b ∷ []) ++ lines back) (sym (is_end byte is)) (lines_of_two [] back)
    by false is =
        lines_at (byte ∷ []) back ∙ ap (λ parts. parts ++ lines back) (slice_split-cons_no ends_line byte [] is)
        ∙ ap (λ parts. parts ++ lines back) (sym (one_byte byte is))
whole_first (byte ∷ next ∷ more) back = by (ends_line byte) refl (whole_first (next ∷ more) back) (whole_begins next more)
  where
    by : (ends : Bool) → ends_line byte ≡ ends → lines (in_whole_lines (next ∷ more) ++ back) ≡ lines (next ∷ more) ++ lines back
        → (tail : List ℕ) × (in_whole_lines (next ∷ more) ≡ next ∷ tail)
        → lines (byte ∷ (in_whole_lines (next ∷ more) ++ back)) ≡ lines (byte ∷ next ∷ more) ++ lines back
    by true is all begins =
        let whole = in_whole_lines (next ∷ more) ++ back in
        subst (λ b. lines (b ∷ whole) ≡ lines (b ∷ next ∷ more) ++ lines back) (sym (is_end byte is))
        (lines_at [] whole ∙ ap (λ ls. [] ∷ ls) all ∙ ap (λ ls. ls ++ lines back) (sym (lines_at [] (next ∷ more))))
    by false is all (tail, begins) =
        subst (λ w. lines (byte ∷ (w ++ back)) ≡ onto_first byte (lines (w ++ back))) (sym begins) (byte_first byte next (tail ++ back) is)
        ∙ ap (onto_first byte) all
        ∙ onto byte (lines (next ∷ more)) (lines back) (some_lines (slice_split ends_line (next ∷ more)) (more_parts next more))
        ∙ ap (λ ls. ls ++ lines back) (sym (byte_first byte next more is))

-- a byte within a line
abbrev pub is_inner : ℕ → Bool
is_inner byte = not (byte == 10)

not_end : (byte : ℕ) → is_inner byte ≡ true → ends_line byte ≡ false
not_end byte is = grind (arith, nat_tests, is)

-- one line
pub inner_first : (line back : List ℕ) → list_all is_inner line ≡ true → lines (line ++ 10 ∷ back) ≡ line ∷ lines back
inner_first line back is =
    let all = all_map (λ byte. is_inner byte ≡ true) (λ byte. ends_line byte ≡ false) not_end line (AllPass-from_list_all is_inner line is) in
    lines_at line back ∙ ap (λ parts. parts ++ lines back) (slice_split_none ends_line line all)

inner_byte : (byte : ℕ) → is_line_byte byte ≡ true → is_inner byte ≡ true
inner_byte byte is = grind (arith, nat_tests, is)

pub line_first : (line back : List ℕ) → list_all is_line_byte line ≡ true → lines (line ++ 10 ∷ back) ≡ line ∷ lines back
line_first line back is = inner_first line back (list_all_follows is_line_byte is_inner inner_byte line is)

-- those that tell events
pub told_are : (number : ℕ) (all : List (List ℕ)) → map (λ (line : ℕ × List ℕ). line.1) (told_lines number all) ≡ filter is_told all
unfolding told_lines
told_are number [] = refl
told_are number (line ∷ more) = by (is_told line) (told_are (number + 1) more)
  where
    by : (test : Bool) → map (λ (line : ℕ × List ℕ). line.1) (told_lines (number + 1) more) ≡ filter is_told more
        → map (λ (line : ℕ × List ℕ). line.1) (if test then (number, line) ∷ told_lines (number + 1) more else told_lines (number + 1) more)
        ≡ (if test then line ∷ filter is_told more else filter is_told more)
    by true rest = ap (λ ls. line ∷ ls) rest
    by false rest = rest

pub none_told : (all : List (List ℕ)) → NonePass is_told all → filter is_told all ≡ []
none_told [] none = refl
none_told (line ∷ more) none = ap (λ test. if test then line ∷ filter is_told more else filter is_told more) none.0 ∙ none_told more none.1
