use Rattle.std.proofs.Common.{◌≡◌, ◌+◌, ◌-◌, ◌++◌, ◌∷◌, [], ◌∙◌, ap, arith, length, map, slice_index_or, sym}
use Rattle.std.proofs.lemmas.List.FromFn.{length-map-range_with_len}
use Rattle.task_steps.specs.KeeperViews.{duty_of}
use Rattle.run_machine.specs.Scenario.{change_of}
use Rattle.run_machine.specs.Tasks.{Starts}
use Rattle.run_machine.specs.Opened.{changes_at, duties_in, from_round, in_round, rounds_in, starts_at}
use Rattle.run_machine.proofs.FromRounds.{from_next}
use Rattle.task_core.proofs.opened.DutiesByRound.{duties_more, from_first, left_at}
use Rattle.task_core.proofs.opening.rounds.duties_of.Goals as goal

pub passing-init : goal.passing-init
passing-init c = record { duties = ap (map duty_of) c.new-duties.ensures.items; later = from_first c.args.rounds.now }

pub overflow_sub-later : goal.overflow_sub-later
overflow_sub-later c =
    let test = c.passing-test.true in
    let rounds = c.args.rounds.now in
    let long = ap length c.requires.left ∙ length-map-range_with_len (in_round rounds) 0 (rounds_in rounds) in
    let later = c.passing.invariant.later in
    let own = left_at rounds c.args.left.now c.passing.passed 0 c.requires.left (omega (arith, test, long)) in
    let next = from_next rounds c.passing.passed in
    omega (arith, later, own, next)

pub overflow_cast-passed : goal.overflow_cast-passed
overflow_cast-passed c =
    let test = c.passing-test.true in
    let rounds = c.args.rounds.now in
    let long = ap length c.requires.left ∙ length-map-range_with_len (in_round rounds) 0 (rounds_in rounds) in
    let short = c.requires.short in
    omega (arith, test, long, short)

pub overflow_add-passed : goal.overflow_add-passed
overflow_add-passed c =
    let test = c.passing-test.true in
    let rounds = c.args.rounds.now in
    let long = ap length c.requires.left ∙ length-map-range_with_len (in_round rounds) 0 (rounds_in rounds) in
    let short = c.requires.short in
    omega (arith, test, long, short)

pub passing-preserved : goal.passing-preserved
passing-preserved c =
    let test = c.passing-test.true in
    let rounds = c.args.rounds.now in
    let changes = map change_of c.args.resizes.now in
    let passed = c.passing.passed in
    let left = slice_index_or c.args.left.now passed 0 in
    let long = ap length c.requires.left ∙ length-map-range_with_len (in_round rounds) 0 (rounds_in rounds) in
    let later = c.passing.invariant.later in
    let own = left_at rounds c.args.left.now passed 0 c.requires.left (omega (arith, test, long)) in
    let next = from_next rounds passed in
    let is : c.passing.later - left ≡ from_round rounds (passed + 1) = omega (arith, later, own, next) in
    record {
      duties = c.in_ok-add_round.ensures
          ∙ ap (λ n. map duty_of c.passing.duties.items ++ (changes_at (passed + 1) n changes ++ Starts (passed + 1) n ∷ [])) is
          ∙ ap (λ ys. ys ++ starts_at rounds changes (passed + 1)) c.passing.invariant.duties ∙ sym (duties_more rounds changes passed);
      later = is;
    }

pub returns : goal.returns
returns c =
    let test = c.passing-test.false in
    let rounds = c.args.rounds.now in
    let long = ap length c.requires.left ∙ length-map-range_with_len (in_round rounds) 0 (rounds_in rounds) in
    let auto = c.passing.auto.passed-end in
    let whole : c.passing.passed ≡ rounds_in rounds - 1 = omega (arith, test, long, auto) in
    c.passing.invariant.duties ∙ ap (duties_in rounds (map change_of c.args.resizes.now)) whole
