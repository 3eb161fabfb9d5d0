use Rattle.std.proofs.Common.{◌≡◌, ◌+◌, ◌<◌, ◌∙◌, ap, arith, length, refl, replicate, rules, set, slice_index_or, take}
use Rattle.std.specs.Prelude.{sum}
use Rattle.std.proofs.lemmas.List.FromFn.{length-map-range_with_len}
use Rattle.run_machine.specs.Opened.{in_round, rounds_in}
use Rattle.task_core.proofs.opened.DutiesByRound.{none_counted, sum_none, counted_more, had_count, round_inside, sum_more, entry_le}
use Rattle.task_core.proofs.opening.rounds.left_of.Goals as goal

pub counting-init : goal.counting-init
counting-init c =
    let rounds = c.args.rounds.now in
    let last = c.greatest.ensures in
    let one : c.greatest.result + 1 ≡ rounds_in rounds = omega (arith, last) in
    let zeros : c.in_ok-left.left.items ≡ replicate (c.greatest.result + 1) 0 = c.in_ok-left.ensures.items_if_clones_equal (λ y same. search rules) in
    let many = zeros ∙ ap (λ n. replicate n 0) one in
    record { left = many ∙ none_counted 0 (rounds_in rounds); all = ap sum many ∙ sum_none (rounds_in rounds) }

pub index_mut-requires : goal.index_mut-requires
index_mut-requires c =
    let test = c.counting-test.true in
    let end = c.counting.auto.i-end in
    let lt = round_inside 0 c.args.rounds.now c.counting.i 0 test in
    let long = ap length c.counting.invariant.left ∙ length-map-range_with_len (in_round (take c.counting.i c.args.rounds.now)) 0 (rounds_in c.args.rounds.now) in
    let ok = c.counting.left.ok in
    omega (arith, lt, long, ok)

pub overflow_add-index_mut : goal.overflow_add-index_mut
overflow_add-index_mut c =
    let test = c.counting-test.true in
    let few = c.requires.few in
    let all = c.counting.invariant.all in
    let lt = round_inside 0 c.args.rounds.now c.counting.i 0 test in
    let long = ap length c.counting.invariant.left ∙ length-map-range_with_len (in_round (take c.counting.i c.args.rounds.now)) 0 (rounds_in c.args.rounds.now) in
    let le = entry_le c.counting.left.items (slice_index_or c.args.rounds.now c.counting.i 0) c.index_mut.result.now (omega (arith, lt, long)) c.index_mut.ensures.value in
    omega (arith, test, few, all, le)

pub counting-preserved : goal.counting-preserved
counting-preserved c =
    let rounds = c.args.rounds.now in
    let i = c.counting.i in
    let round = slice_index_or rounds i 0 in
    let value = c.index_mut.result.now in
    let n = rounds_in rounds in
    let test = c.counting-test.true in
    let le = round_inside 0 rounds i 0 test in
    let inside : round < n = omega (arith, le) in
    let long = ap length c.counting.invariant.left ∙ length-map-range_with_len (in_round (take i rounds)) 0 n in
    let within : round < length c.counting.left.items = omega (arith, inside, long) in
    let had = had_count rounds c.counting.left.items i n round value c.counting.invariant.left inside c.index_mut.ensures.value in
    let more = sum_more c.counting.left.items round value within c.index_mut.ensures.value in
    let all = c.counting.invariant.all in
    record {
      left = ap (λ xs. set xs round (value + 1)) c.counting.invariant.left ∙ counted_more rounds i n round value 0 test refl inside had;
      all = more ∙ ap (λ n. n + 1) all;
    }
