-- A step of reading declarations.
use Rattle.std.proofs.Common.{◌≡◌, ◌≤◌, ◌<◌, ◌+◌, ℕ, true, false, List, [], ◌∷◌, ◌++◌, length, drop, Option, None, Some, is_some, refl, sym, ap, subst, ◌∙◌, arith, append-nil, append_assoc, length-append}
use Rattle.std.specs.Option.{option_map, option_to_list}
use Rattle.std.proofs.lemmas.List.{drop-append-le, drop_all}
use Rattle.std.proofs.lemmas.List.Elements.{All-push}
use Rattle.decl_text.specs.Text.{lines, words}
use Rattle.decl_text.specs.Items.{said}
use Rattle.decl_text.specs.Known.{nothing_declared}
use Rattle.decl_text.specs.Read.{AreDeclarations, IsDeclaration, Read}
use Rattle.decl_text.specs.Reading.{IsReadDecl, Formed, added, formed, formed_by, with_item, declarations, is_work_line, is_wrong, read_lines, right_lines}
use Rattle.decl_text.specs.Refusals.{first_found, line_checks, refused}
use Rattle.decl_text.specs.Steps.{FirstPasses, IsSoFar, read_in_the_end}
use Rattle.decl_text.specs.declared.decl.Numbered.{Numbered}
use Rattle.decl_text.specs.declared.item.Item.{Item}
use Rattle.decl_text.specs.declared.reason.Reason.{Reason}
use Rattle.decl_text.proofs.Cuts.{before_all, before_append, before_is, more, none_before, none_pass_one_more}
use Rattle.decl_text.proofs.Declaring.{Declares, said_declares}
use Rattle.decl_text.proofs.LineLemmas.{told_parts}

-- the declarations are the lines that were passed, where the rest begins with a write, or has no line
all_passed : (text : List ℕ) (read : Read) (so_far : IsSoFar text read) → FirstPasses is_work_line (lines (drop read.rest text)) → declarations (lines text) ≡ so_far.passed
all_passed text read so_far starts = rw so_far.cut (before_is is_work_line so_far.passed (lines (drop read.rest text)) so_far.none starts)

-- and each of them was read
all_right : (text : List ℕ) (read : Read) (so_far : IsSoFar text read) → FirstPasses is_work_line (lines (drop read.rest text)) → read_lines text ≡ so_far.passed
all_right text read so_far starts = ap right_lines (all_passed text read so_far starts) ∙ before_all is_wrong so_far.passed so_far.right

-- and so they are where the next line is wrong
right_passed : (text : List ℕ) (read : Read) (so_far : IsSoFar text read) (line : List ℕ) (left : List (List ℕ)) → lines (drop read.rest text) ≡ line ∷ left → is_work_line line ≡ false → is_wrong line ≡ true
    → read_lines text ≡ so_far.passed
right_passed text read so_far line left next other wrong =
    ap (λ all. right_lines (declarations all)) (so_far.cut ∙ ap (λ rest. so_far.passed ++ rest) next)
    ∙ ap right_lines (before_append is_work_line so_far.passed (line ∷ left) so_far.none)
    ∙ ap (λ all. right_lines (so_far.passed ++ all)) (more is_work_line line left other)
    ∙ before_is is_wrong so_far.passed (line ∷ declarations left) so_far.right wrong

behind : {A : Type 0} (front back : List A) → drop (length front) (front ++ back) ≡ back
behind front back = rw (drop-append-le (length front) front back (omega arith), drop_all (length front) front (omega arith)) refl

none_left : (number : ℕ) (left : List (List ℕ)) → FirstPasses is_work_line left → formed number (declarations left) ≡ record { items = []; fault = None }
unfolding formed
none_left number left starts = rw (none_before is_work_line left starts) refl

-- what was read is all, where no declarations are left
all_read : (read : Read) (left : List (List ℕ)) (all : Formed) → read.fault ≡ None → FirstPasses is_work_line left → read_in_the_end read left ≡ all → record { items = read.items; fault = read.fault } ≡ all
all_read read left all fine starts is =
    rw fine (sym (ap (λ items. record { items = items; fault = None }) (append-nil read.items)) ∙ sym (ap (added read.items) (none_left read.line left starts)) ∙ is)

stopped : (text : List ℕ) (read : Read) (so_far : IsSoFar text read) → read_lines text ≡ so_far.passed → lines (drop read.rest text) ≡ drop (length (read_lines text)) (lines text)
stopped text read so_far all = rw (all, so_far.cut) (sym (behind so_far.passed (lines (drop read.rest text))))

pub ended : (text : List ℕ) (read : Read) → IsSoFar text read → FirstPasses is_work_line (lines (drop read.rest text)) → IsReadDecl text read
ended text read so_far starts = record {
  formed = all_read read (lines (drop read.rest text)) (formed 1 (declarations (lines text))) so_far.fine starts so_far.whole;
  within = so_far.within;
  few = so_far.few;
  rest = stopped text read so_far (all_right text read so_far starts);
  line = rw (all_right text read so_far starts) so_far.counted;
}

-- the next line is read
one_more : (number : ℕ) (line : List ℕ) (left : List (List ℕ)) → is_work_line line ≡ false
    → formed number (declarations (line ∷ left)) ≡ formed_by (first_found line_checks nothing_declared line) number (said (words line)) (formed (number + 1) (declarations left))
unfolding formed
one_more number line left other = rw (more is_work_line line left other) refl

fault_read : (read : Read) (line : List ℕ) (left : List (List ℕ)) (reason : Reason) (all : Formed) → is_work_line line ≡ false → first_found line_checks nothing_declared line ≡ Some reason
    → read_in_the_end read (line ∷ left) ≡ all → record { items = read.items; fault = Some (refused read.line reason) } ≡ all
fault_read read line left reason all other found is =
    sym (ap (λ items. record { items = items; fault = Some (refused read.line reason) }) (append-nil read.items))
    ∙ sym (ap (added read.items) (one_more read.line line left other ∙ ap (λ r. formed_by r read.line (said (words line)) (formed (read.line + 1) (declarations left))) found)) ∙ is

-- a line that is wrong ends the reading
pub wrong_line : (text : List ℕ) (read : Read) (line : List ℕ) (left : List (List ℕ)) (reason : Reason) → IsSoFar text read → lines (drop read.rest text) ≡ line ∷ left
    → is_work_line line ≡ false → first_found line_checks nothing_declared line ≡ Some reason → IsReadDecl text (record read { fault = Some (refused read.line reason) })
wrong_line text read line left reason so_far next other found = record {
  formed = fault_read read line left reason (formed 1 (declarations (lines text))) other found (subst (λ lines_left. read_in_the_end read lines_left ≡ formed 1 (declarations (lines text))) next so_far.whole);
  within = so_far.within;
  few = so_far.few;
  rest = stopped text read so_far (right_passed text read so_far line left next other (ap is_some found));
  line = rw (right_passed text read so_far line left next other (ap is_some found)) so_far.counted;
}

abbrev numbered : ℕ → Option Item → List Numbered
numbered number item = option_to_list (option_map (λ said. record { line = number; item = said }) item)

added_item : (items : List Numbered) (number : ℕ) (item : Option Item) (more : Formed) → added items (with_item number item more) ≡ added (items ++ numbered number item) more
added_item items number None more = ap (λ all. record more { items = all }) (sym (append_assoc items [] more.items))
added_item items number (Some said) more = ap (λ all. record more { items = all }) (sym (append_assoc items (record { line = number; item = said } ∷ []) more.items))

passed_read : (read : Read) (line : List ℕ) (left : List (List ℕ)) (item : Option Item) (all : Formed) → is_work_line line ≡ false → first_found line_checks nothing_declared line ≡ None → said (words line) ≡ item
    → read_in_the_end read (line ∷ left) ≡ all → added (read.items ++ numbered read.line item) (formed (read.line + 1) (declarations left)) ≡ all
passed_read read line left item all other found says is =
    sym (added_item read.items read.line item (formed (read.line + 1) (declarations left)))
    ∙ sym (ap (added read.items) (one_more read.line line left other ∙ (rw (found, says) refl))) ∙ is

one_declared : (items : List Numbered) (number : ℕ) (item : Option Item) → AreDeclarations items → Declares item → AreDeclarations (items ++ numbered number item)
one_declared items number None all one = rw (append-nil items) all
one_declared items number (Some said) all one = All-push (λ (next : Numbered). IsDeclaration next.item) items (record { line = number; item = said }) all one

-- a line that is right is passed
pub passed_line : (text : List ℕ) (read : Read) (line : List ℕ) (item : Option Item) (place : ℕ) → IsSoFar text read → lines (drop read.rest text) ≡ line ∷ lines (drop place text)
    → is_work_line line ≡ false → first_found line_checks nothing_declared line ≡ None → said (words line) ≡ item → read.rest < place → place ≤ length text
    → IsSoFar text (record { items = read.items ++ numbered read.line item; fault = read.fault; rest = place; line = read.line + 1 })
passed_line text read line item place so_far next other found says on within =
    let parts = told_parts nothing_declared line found in
    record {
      fine = so_far.fine;
      within = within;
      few = omega (arith, so_far.few, on);
      items = one_declared read.items read.line item so_far.items (rw (← says) (said_declares (words line) other parts.placed parts.formed parts.numbered));
      passed = so_far.passed ++ line ∷ [];
      cut = so_far.cut ∙ ap (λ rest. so_far.passed ++ rest) next ∙ sym (append_assoc so_far.passed (line ∷ []) (lines (drop place text)));
      none = none_pass_one_more is_work_line so_far.passed line so_far.none other;
      right = none_pass_one_more is_wrong so_far.passed line so_far.right (ap is_some found);
      counted = omega (arith, so_far.counted, length-append so_far.passed (line ∷ []));
      whole = passed_read read line (lines (drop place text)) item (formed 1 (declarations (lines text))) other found says (subst (λ lines_left. read_in_the_end read lines_left ≡ formed 1 (declarations (lines text))) next so_far.whole);
    }

-- the same, where the reader of lines stands at this place
pub at_end : (text : List ℕ) (read : Read) (at : ℕ) → at ≡ read.rest → lines (drop at text) ≡ [] → IsSoFar text read → IsReadDecl text read × AreDeclarations read.items
at_end text read at is none so_far =
    (ended text read so_far (subst (FirstPasses is_work_line) (sym none ∙ ap (λ n. lines (drop n text)) is) tt), so_far.items)

pub at_write : (text : List ℕ) (read : Read) (at : ℕ) (line : List ℕ) (left : List (List ℕ)) → at ≡ read.rest → lines (drop at text) ≡ line ∷ left → is_work_line line ≡ true → IsSoFar text read
    → IsReadDecl text read × AreDeclarations read.items
at_write text read at line left is next write so_far =
    (ended text read so_far (subst (FirstPasses is_work_line) (sym next ∙ ap (λ n. lines (drop n text)) is) write), so_far.items)

pub at_wrong : (text : List ℕ) (read : Read) (at : ℕ) (line : List ℕ) (left : List (List ℕ)) (reason : Reason) → at ≡ read.rest → lines (drop at text) ≡ line ∷ left → is_work_line line ≡ false
    → first_found line_checks nothing_declared line ≡ Some reason → IsSoFar text read → IsReadDecl text (record read { fault = Some (refused read.line reason) }) × AreDeclarations read.items
at_wrong text read at line left reason is next other found so_far =
    (wrong_line text read line left reason so_far (ap (λ n. lines (drop n text)) (sym is) ∙ next) other found, so_far.items)

pub at_line : (text : List ℕ) (read : Read) (at place : ℕ) (line : List ℕ) (item : Option Item) → at ≡ read.rest → lines (drop at text) ≡ line ∷ lines (drop place text) → is_work_line line ≡ false
    → first_found line_checks nothing_declared line ≡ None → said (words line) ≡ item → at < place → place ≤ length text → IsSoFar text read
    → IsSoFar text (record { items = read.items ++ numbered read.line item; fault = read.fault; rest = place; line = read.line + 1 })
at_line text read at place line item is next other found says on within so_far =
    passed_line text read line item place so_far (ap (λ n. lines (drop n text)) (sym is) ∙ next) other found says (subst (λ n. n < place) is on) within
