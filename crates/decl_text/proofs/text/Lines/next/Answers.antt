use Rattle.std.proofs.Common.{◌≡◌, ◌+◌, [], ◌∷◌, length, drop, take, refl, ◌∙◌, ap, subst, arith}
use Rattle.std.proofs.lemmas.List.{nil_from_length}
use Rattle.decl_text.specs.Places.{TextPlace, text_left}
use Rattle.decl_text.specs.Text.{lines}
use Rattle.decl_text.proofs.SplitLemmas.{line_within, no_lines}
use Rattle.decl_text.proofs.text.Lines.next.Goals as goal

pub returns-then-is_empty-clause-line : goal.returns-then-is_empty-clause-line
returns-then-is_empty-clause-line c =
    let none : length (drop c.self.inside.place c.self.inside.text.now) ≡ 0 = rw (← c.split_at.ensures.back) (grind arith) in
    (subst (λ at. lines (text_left at) ≡ []) c.self.view_is (ap lines (nil_from_length _ none) ∙ no_lines), refl)

pub returns-clause-cut : goal.returns-clause-cut
returns-clause-cut c = λ more.
    let place = c.self.inside.place in
    let taken = c.first_line-taken.result.1 in
    let line = c.first_line-taken.result.0.now in
    subst (λ (at : TextPlace). lines (drop at.place (take (place + taken + more) at.text)) ≡ line ∷ lines (drop (place + taken) (take (place + taken + more) at.text)))
    c.self.view_is
    (line_within c.self.inside.text.now c.split_at.result.1.now line place taken more c.split_at.ensures.back (c.first_line-taken.ensures.cut more))
