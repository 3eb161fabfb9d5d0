use Rattle.std.proofs.Common.{rules, ◌≡◌, ◌+◌, ◌-◌, ◌<◌, ◌∙◌, [], sym, ap, length, ◌++◌, arith}
use Rattle.std.specs.List.{flat_map}
use Rattle.std.proofs.lemmas.List.{append-nil, take_all}
use Rattle.std.proofs.lemmas.Option.{slice_get-get_or}
use Rattle.stack_base.specs.declared.ids.DevId.{DevId}
use Rattle.stack_base.specs.Tree.{shape_of, tree}
use Rattle.layout_model.specs.Plan.{frags}
use Rattle.layout_model.proofs.MirrorMembers.{leg_known}
use Rattle.layout_model.proofs.Steps
use Rattle.layout_model.proofs.Steps.{cut_none, keep_whole}
use Rattle.layout_model.proofs.fragment.+cut.Goals as goal

-- a disk is one fragment
pub cut-returns-in_ok-push-in-Disk : goal.cut-returns-in_ok-push-in-Disk
cut-returns-in_ok-push-in-Disk t c =
    let whole = keep_whole c.args.stack.now c.requires.stack c.args.dev.0 c.device-device.result.now c.device-device.ensures.found c.in-Disk.sectors
    (ap shape_of c.in-Disk.is) c.args.write c.args.run.offset c.args.run.start c.args.run.len in
    rw whole (search rules)

-- a member was declared before, and is as large as the mirror
pub copy_legs-cut-requires : goal.copy_legs-cut-requires
copy_legs-cut-requires t c =
    let inside : c.legs.member-index < length c.args.device.now.members.items = search rules in
    let known = rw (sym c.deref-member-items.ensures.0) at (
    leg_known c.args.stack.now c.requires.stack c.args.dev.0 c.args.device.now c.requires.found c.requires.copies c.legs.member-index _
    (slice_get-get_or c.args.device.now.members.items c.legs.member-index (record { 0 = 0 }) inside)) in
    (omega (arith, known.0), (c.requires.stack, (known.1, (c.requires.some, (omega (arith, known.2, c.requires.within), c.requires.fits)))))

pub copy_legs-returns : goal.copy_legs-returns
copy_legs-returns t c =
    let leg = λ (m : DevId). frags (tree c.args.stack.now m.0) c.args.write c.args.run.offset c.args.run.start c.args.run.len in
    let all = take_all c.legs.member-index c.deref-member-items.result.now c.legs-test.false ∙ c.deref-member-items.ensures.0 in
    let law = Steps.copy_legs c.args.stack.now c.requires.stack c.args.dev.0 c.args.device.now c.requires.found c.requires.copies
    c.args.write c.args.run.offset c.args.run.start c.args.run.len in
    c.legs.invariant ∙ ap (λ legs. c.args.into.now.items ++ flat_map leg legs) all ∙ ap (λ rest. c.args.into.now.items ++ rest) (sym law)

pub cut_pieces-overflow_add-rest-in-cutting : goal.cut_pieces-overflow_add-rest-in-cutting
cut_pieces-overflow_add-rest-in-cutting t c =
    omega (arith, c.cutting.invariant.within, c.first_piece-to.ensures.within, (c.requires.stack.each c.args.dev.0 c.args.device.now c.requires.found).small)

-- nothing is left, and nothing has no fragments
pub cut_pieces-returns : goal.cut_pieces-returns
cut_pieces-returns t c =
    let rest = c.cutting.rest in
    let left : rest.len ≡ 0 = omega (arith, c.cutting-test.false) in
    let nothing : frags (tree c.args.stack.now c.args.dev.0) c.args.write rest.offset rest.start rest.len ≡ [] =
    ap (λ n. frags (tree c.args.stack.now c.args.dev.0) c.args.write rest.offset rest.start n) left
    ∙ cut_none c.args.stack.now c.requires.stack c.args.dev.0 c.args.device.now c.requires.found c.requires.cuts c.args.write rest.offset rest.start in
    sym (append-nil c.cutting.into.items) ∙ ap (λ more. c.cutting.into.items ++ more) (sym nothing) ∙ c.cutting.invariant.so_far

-- what is left is one piece, and has its fragments
pub cut_pieces-returns-then-to-rest : goal.cut_pieces-returns-then-to-rest
cut_pieces-returns-then-to-rest t c =
    let rest = c.cutting.rest in
    let to = c.first_piece-to.result in
    let below = frags (tree c.args.stack.now to.dev.0) c.args.write rest.offset to.at to.len in
    let left : rest.len - to.len ≡ 0 = omega (arith, c.if-to-rest.true) in
    let nothing : frags (tree c.args.stack.now c.args.dev.0) c.args.write (rest.offset + to.len) (rest.start + to.len) (rest.len - to.len) ≡ [] =
    ap (λ n. frags (tree c.args.stack.now c.args.dev.0) c.args.write (rest.offset + to.len) (rest.start + to.len) n) left
    ∙ cut_none c.args.stack.now c.requires.stack c.args.dev.0 c.args.device.now c.requires.found c.requires.cuts c.args.write (rest.offset + to.len) (rest.start + to.len) in
    let all : frags (tree c.args.stack.now c.args.dev.0) c.args.write rest.offset rest.start rest.len ≡ below =
    c.first_piece-to.ensures.rest c.args.write rest.offset ∙ ap (λ more. below ++ more) nothing ∙ append-nil below in
    let whole : c.cutting.into.items ++ below ≡ c.args.into.now.items ++ frags (tree c.args.stack.now c.args.dev.0) c.args.write c.args.run.offset c.args.run.start c.args.run.len =
    ap (λ more. c.cutting.into.items ++ more) (sym all) ∙ c.cutting.invariant.so_far in
    rw whole at c.cut.ensures
