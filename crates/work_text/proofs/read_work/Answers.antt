use Rattle.std.proofs.Common.{length, ap, sym, ◌∙◌, subst, arith}
use Rattle.layout_model.specs.Writes.{AreWritesOf}
use Rattle.decl_text.specs.Known.{Declarations}
use Rattle.decl_text.specs.Refusals.{known_after, refusal}
use Rattle.decl_text.proofs.FewEntries.{entries_few}
use Rattle.work_text.specs.Reading.{work_lines}
use Rattle.work_text.specs.Work.{all_checks, known_of, last_round}
use Rattle.work_text.proofs.WorkLemmas.{few_left, finished, last_few}
use Rattle.work_text.proofs.read_work.Goals as goal

pub finish-requires-clause-entries : goal.finish-requires-clause-entries
finish-requires-clause-entries c =
    let accepted = c.args.accepted.now in
    omega (
      arith,
      c.in_ok-read_lines.ensures.entries,
      c.in_ok-draft.ensures.entries,
      c.all_entries.ensures,
      entries_few accepted.stack accepted.scripts.items accepted.is_stack accepted.declared,
    )

pub returns-clause-read : goal.returns-clause-read
returns-clause-read c =
    let accepted = c.args.accepted.now in
    let all = work_lines c.args.text.now accepted in
    let read = c.in_ok-read_lines.ensures.read in
    let first = c.in_ok-draft.ensures.known in
    let work = c.read_lines.new.draft.work in (
      ap (λ (k : Declarations). refusal all_checks k accepted.line all) (sym first) ∙ read.0,
      finished accepted.stack accepted.scripts.items (known_after (known_of accepted.stack) all) work c.in_ok-work.work c.read_lines.new.draft.syncs
          (read.1 ∙ ap (λ (k : Declarations). known_after k all) first)
          c.in_ok-read_lines.ensures.draft.bound
          (c.in_ok-read_lines.ensures.entries ∙ c.in_ok-draft.ensures.entries ∙ c.all_entries.ensures)
          c.in_ok-work.ensures,
    )

pub returns-clause-served : goal.returns-clause-served
returns-clause-served c =
    subst (AreWritesOf c.args.accepted.now.stack) (sym c.in_ok-work.ensures.writes) c.in_ok-read_lines.ensures.draft.served

pub returns-clause-few : goal.returns-clause-few
returns-clause-few c =
    let left = c.in_ok-work.ensures in
    let draft = c.in_ok-read_lines.ensures.draft in
    let work = c.read_lines.new.draft.work in
    omega (
      arith,
      ap last_round left.rounds,
      last_few work.rounds.items (λ k d lt. omega (arith, draft.past k d lt, draft.few_syncs)),
      ap length left.resizes,
      few_left (last_round work.rounds.items) work.resizes.items,
      draft.few_resizes,
    )
