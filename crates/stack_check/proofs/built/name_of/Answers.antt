use Rattle.std.proofs.Common.{◌+◌, ◌≤◌, length, ap, arith}
use Rattle.stack_check.proofs.NameLemmas.{name_short}
use Rattle.stack_check.proofs.built.name_of.Goals as goal

pub push_str-requires : goal.push_str-requires
push_str-requires c =
    let short : length c.new-kept.result.bytes + length c.text_of.result.now ≤ 16 =
    omega (arith, ap length c.new-kept.ensures, ap length c.text_of.ensures, name_short c.args.name.now c.requires) in
    (omega arith, short)
