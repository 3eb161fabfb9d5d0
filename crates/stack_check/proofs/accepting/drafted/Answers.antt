use Rattle.std.proofs.Common.{◌≡◌, ◌∷◌, [], None, ap, sym, ◌∙◌, subst, arith}
use Rattle.std.specs.Vec.Iter.{into_iter_items}
use Rattle.std.proofs.lemmas.List.{nil_from_length}
use Rattle.std.proofs.lemmas.List.Elements.{All-tail}
use Rattle.decl_text.specs.Read.{AreDeclarations, IsDeclaration}
use Rattle.decl_text.specs.Accepting.{checks_for}
use Rattle.decl_text.specs.Reading.{known_of_items, refusal_of_items}
use Rattle.decl_text.specs.declared.decl.Numbered.{Numbered}
use Rattle.stack_check.proofs.RefusalLemmas.{drafts_fault, refusal_end, refusal_later}
use Rattle.stack_check.proofs.accepting.drafted.Goals as goal

pub loop-next-preserved : goal.loop-next-preserved
loop-next-preserved c =
    let known = c.loop-next.draft in
    let next = c.in-Some.next in
    let rest = into_iter_items c.next.new.self in
    let steps : into_iter_items c.loop-next.next-iterator ≡ next ∷ rest = c.in-Some.ensures.steps.0 in
    let invariant = c.loop-next.invariant in
    record {
      can = tt;
      finite = tt;
      declarations = All-tail (λ (n : Numbered). IsDeclaration n.item) next rest (subst AreDeclarations steps invariant.declarations);
      refusal = λ fault.
          refusal_later (checks_for c.args.loose) known c.add_line.new.draft next rest fault c.in_default.ensures.0 c.in_default.ensures.1
          ∙ ap (λ items. refusal_of_items (checks_for c.args.loose) known items fault) (sym steps) ∙ invariant.refusal fault;
      known =
          ap (λ k. known_of_items k rest) c.in_default.ensures.1 ∙ ap (known_of_items known) (sym steps) ∙ invariant.known;
    }

pub returns-in-Err : goal.returns-in-Err
returns-in-Err c =
    let known = c.loop-next.draft in
    let next = c.in-Some.next in
    let rest = into_iter_items c.next.new.self in
    let steps : into_iter_items c.loop-next.next-iterator ≡ next ∷ rest = c.in-Some.ensures.steps.0 in
    drafts_fault c.args.loose known c.add_line.new.draft next rest c.args.items.items c.in-Err.fault c.in-Err.ensures (λ fault.
    ap (λ items. refusal_of_items (checks_for c.args.loose) known items fault) (sym steps) ∙ c.loop-next.invariant.refusal fault)

pub returns : goal.returns
returns c =
    let known = c.loop-next.draft in
    let none : into_iter_items c.loop-next.next-iterator ≡ [] =
    nil_from_length (into_iter_items c.loop-next.next-iterator) (omega (arith, c.loop-next.next-iterator.rest.ok.0, c.in-None.ensures.steps.0)) in (
      sym (c.loop-next.invariant.refusal None) ∙ ap (λ items. refusal_of_items (checks_for c.args.loose) known items None) none ∙ refusal_end (checks_for c.args.loose) known None,
      sym c.loop-next.invariant.known ∙ ap (known_of_items known) none,
    )
