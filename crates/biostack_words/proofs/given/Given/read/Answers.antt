-- What the parser answers is what the words give.
use Rattle.std.proofs.Common.{◌∙◌, ap, sym, subst, map, Err}
use Rattle.std.specs.String.{string_bytes}
use Rattle.clap.specs.Simple.{is_simple, matches_of}
use Rattle.clap.specs.Faults.{fault_of, is_simple_and_free}
use Rattle.clap.specs.Kinds.{HasKind}
use Rattle.clap.proofs.WalkLemmas.{list_any-map}
use Rattle.biostack_words.specs.Grammar.{is_dashed}
use Rattle.biostack_words.specs.Parser.{parser}
use Rattle.biostack_words.specs.Reading.{IsSeen, ReadsGiven, fault_for}
use Rattle.biostack_words.proofs.ParserAnswers.{dashed_is, fault_is, read_is}
use Rattle.biostack_words.proofs.given.Given.read.Goals as goal

pub returns-then-has_dashed_word : goal.returns-then-has_dashed_word
returns-then-has_dashed_word c = dashed_is (map string_bytes c.args.words.now) (sym (list_any-map is_dashed string_bytes c.args.words.now) ∙ sym c.has_dashed_word.ensures ∙ c.if-has_dashed_word.true)

pub returns-in-Ok : goal.returns-in-Ok
returns-in-Ok c =
    let words = map string_bytes c.args.words.now in
    let clear = sym (list_any-map is_dashed string_bytes c.args.words.now) ∙ sym c.has_dashed_word.ensures ∙ c.if-has_dashed_word.false in
    let app = c.in_ok-parser.ensures in
    let rows = (c.in-Ok.ensures.matches (ap is_simple app)).0 ∙ ap (λ a. matches_of a words) app in
    let passes = sym (ap (λ a. fault_of a words) app) ∙ c.in-Ok.ensures.kinds (ap is_simple_and_free app) in
    read_is words c.of.result clear passes (subst (λ r. IsSeen r c.of.result) rows c.of.ensures)

pub returns-in-Err : goal.returns-in-Err
returns-in-Err c =
    let words = map string_bytes c.args.words.now in
    let clear = sym (list_any-map is_dashed string_bytes c.args.words.now) ∙ sym c.has_dashed_word.ensures ∙ c.if-has_dashed_word.false in
    let app = c.in_ok-parser.ensures in
    let among : HasKind (fault_of parser words) c.in-Err.error = subst (λ a. HasKind (fault_of a words) c.in-Err.error) app (c.in-Err.ensures.kinds (ap is_simple_and_free app)) in
    subst (λ fault. ReadsGiven words (Err fault)) (sym (c.fault_for.ensures ∙ ap fault_for c.kind.ensures)) (fault_is words c.in-Err.error clear among)
