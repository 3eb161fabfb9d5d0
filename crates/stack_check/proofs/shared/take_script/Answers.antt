use Rattle.std.proofs.Common.{◌≡◌, Some, ap, sym, ◌∙◌, unwrap_or}
use Rattle.std.specs.Prelude.{find, position}
use Rattle.std.specs.Option.{option_map}
use Rattle.fail_script.specs.Script.{only_tail}
use Rattle.decl_text.specs.Known.{Scripted}
use Rattle.decl_text.specs.Checks.{is_of_pool}
use Rattle.stack_check.proofs.ScriptLemmas.{find_none, script_there, others_stay}
use Rattle.stack_check.proofs.shared.take_script.Goals as goal

pub returns-in-Some-clause-script : goal.returns-in-Some-clause-script
returns-in-Some-clause-script c =
    let given = c.args.given.now.items in
    let found : position (is_of_pool c.args.pool) given ≡ Some c.in-Some.at =
    ap (position (is_of_pool c.args.pool)) (sym c.deref.ensures.value) ∙ sym c.place_of.ensures ∙ c.in-Some.is in
    ap (λ (s : Scripted). s.script) (c.result.view_is ∙ c.remove.ensures.value)
    ∙ sym (ap (λ o. unwrap_or (option_map (λ (s : Scripted). s.script) o) (only_tail c.args.tail)) (script_there given c.args.pool c.in-Some.at c.remove.result found))

pub returns-in-Some-clause-others : goal.returns-in-Some-clause-others
returns-in-Some-clause-others c =
    let given = c.args.given.now.items in
    let found : position (is_of_pool c.args.pool) given ≡ Some c.in-Some.at =
    ap (position (is_of_pool c.args.pool)) (sym c.deref.ensures.value) ∙ sym c.place_of.ensures ∙ c.in-Some.is in
    λ other apart. ap (find (is_of_pool other)) c.remove.ensures.items ∙ others_stay given c.args.pool c.in-Some.at c.remove.result found other apart

pub returns-in-None-clause-script : goal.returns-in-None-clause-script
returns-in-None-clause-script c =
    let given = c.args.given.now.items in
    c.new-in-None.ensures ∙ ap (λ entries. record { entries = entries; tail = c.args.tail }) c.new.ensures.items
    ∙ sym (ap (λ o. unwrap_or (option_map (λ (s : Scripted). s.script) o) (only_tail c.args.tail))
    (find_none (is_of_pool c.args.pool) given (ap (position (is_of_pool c.args.pool)) (sym c.deref.ensures.value) ∙ sym c.place_of.ensures ∙ c.in-None.is)))
