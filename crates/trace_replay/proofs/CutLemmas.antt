-- The lines before a place of a text, one more at a time.
use Rattle.std.proofs.Common.{◌≡◌, ◌+◌, ◌-◌, ◌++◌, ◌<◌, ℕ, true, false, List, [], ◌∷◌, take, drop, refl, sym, ap, ◌∙◌, arith}
use Rattle.std.specs.List.{before_first}
use Rattle.std.proofs.lemmas.List.{drop_all, length-take-le, take-append-drop}
use Rattle.decl_text.specs.Places.{TextPlace, text_left}
use Rattle.decl_text.specs.Text.{lines}
use Rattle.decl_text.proofs.Cuts.{before_append, none_before, none_pass_one_more}
use Rattle.decl_text.proofs.SplitLemmas.{no_lines}
use Rattle.trace_replay.specs.Lines.{is_told, told_lines}
use Rattle.trace_replay.specs.Parts.{AreTextParts, HasNoEventBefore, IsFirstEventAt}
use Rattle.trace_replay.proofs.LineLemmas.{passed_over}
use Rattle.trace_replay.proofs.WalkLemmas.{cut_on}

pub at_first : (text : List ℕ) → HasNoEventBefore text 0 1
at_first text = record {
  front = [];
  before = λ more. refl;
  all = refl;
  none = tt;
  told = refl;
  few = omega arith;
}

-- the next line tells no event
pub further : (text line : List ℕ) (place next number : ℕ) → HasNoEventBefore text place number → place < next
    → lines (drop place text) ≡ line ∷ lines (drop next text)
    → ((more : ℕ) → lines (drop place (take (next + more) text)) ≡ line ∷ lines (drop next (take (next + more) text)))
    → is_told line ≡ false → HasNoEventBefore text next (number + 1)
further text line place next number behind on is cut none = record {
  front = behind.front ++ line ∷ [];
  before = λ more.
      let longer : next + more ≡ place + (next - place + more) = omega (arith, on) in
      ap (λ n. lines (take n text)) longer
      ∙ behind.before (next - place + more)
      ∙ ap (λ n. behind.front ++ lines (drop place (take n text))) (sym longer)
      ∙ ap (λ ls. behind.front ++ ls) (cut more)
      ∙ cut_on behind.front line (lines (drop next (take (next + more) text)));
  all = behind.all ∙ ap (λ ls. behind.front ++ ls) is ∙ cut_on behind.front line (lines (drop next text));
  none = none_pass_one_more is_told behind.front line behind.none none;
  told = sym (passed_over number line (lines (drop next text)) none) ∙ ap (told_lines number) (sym is) ∙ behind.told;
  few = omega (arith, on, behind.few);
}

-- what is left at a place
pub left_at : (text : List ℕ) (at : TextPlace) (place : ℕ) → at.text ≡ text → at.place ≡ place → lines (drop place text) ≡ lines (text_left at)
left_at text at place same is = ap (λ n. lines (drop n text)) (sym is) ∙ ap (λ t. lines (drop at.place t)) (sym same)

-- the same of a walk over the lines
pub goes_on : (text line : List ℕ) (old new : TextPlace) (place next number : ℕ) → HasNoEventBefore text place number → old.text ≡ text → new.text ≡ old.text → old.place ≡ place
    → next ≡ new.place → old.place < new.place → lines (text_left old) ≡ line ∷ lines (text_left new)
    → ((more : ℕ) → lines (drop old.place (take (new.place + more) old.text)) ≡ line ∷ lines (drop new.place (take (new.place + more) old.text)))
    → is_told line ≡ false → HasNoEventBefore text next (number + 1)
goes_on text line old new place next number behind same still at next_is on is cut none =
    further text line place next number behind (omega (arith, on, at, next_is))
    (left_at text old place same at ∙ is ∙ ap (λ ls. line ∷ ls) (sym (left_at text new next (still ∙ same) (sym next_is))))
    (λ more.
    ap (λ n. lines (drop n (take (next + more) text))) (sym at)
    ∙ ap (λ n. lines (drop old.place (take (n + more) text))) next_is
    ∙ ap (λ t. lines (drop old.place (take (new.place + more) t))) (sym same)
    ∙ cut more
    ∙ ap (λ t. line ∷ lines (drop new.place (take (new.place + more) t))) same
    ∙ ap (λ n. line ∷ lines (drop n (take (n + more) text))) (sym next_is))
    none

-- the next line does
pub stops_at_told : (line : List ℕ) (more rest : List (List ℕ)) → rest ≡ line ∷ more → is_told line ≡ true → before_first is_told rest ≡ []
stops_at_told line more rest is tells = ap (before_first is_told) is ∙ none_before is_told (line ∷ more) tells

-- or there is none
pub stops_at_end : (rest : List (List ℕ)) → rest ≡ [] → before_first is_told rest ≡ []
stops_at_end rest none = ap (before_first is_told) none

-- a text is cut there
pub are_parts : (text : List ℕ) (place number : ℕ) → IsFirstEventAt text place number → AreTextParts text (take place text) (drop place text) number
are_parts text place number cut =
    let behind = cut.behind in
    let whole : place + 0 ≡ place = omega arith in
    let long = length-take-le place text cut.within in
    let nothing : lines (drop place (take place text)) ≡ [] = ap lines (drop_all place (take place text) (omega (arith, long))) ∙ no_lines in
    record {
      scenario_is =
          ap (λ n. lines (take n text)) (sym whole)
          ∙ behind.before 0
          ∙ ap (λ n. behind.front ++ lines (drop place (take n text))) whole
          ∙ ap (λ ls. behind.front ++ ls) nothing
          ∙ ap (λ ls. behind.front ++ ls) (sym cut.next)
          ∙ sym (before_append is_told behind.front (lines (drop place text)) behind.none)
          ∙ ap (before_first is_told) (sym behind.all);
      told = behind.told;
      joined = take-append-drop place text;
      few = omega (arith, behind.few, long);
    }
