use Rattle.std.proofs.Common.{◌∷◌, [], ◌++◌, ◌∙◌, ap, sym, arith, length, map}
use Rattle.std.proofs.lemmas.List.{append_assoc, length-append}
use Rattle.run_merge.proofs.left.disks_of.Goals as goal

-- src/left.rt
pub adding-preserved : goal.adding-preserved
adding-preserved c =
    let rest = map (λ disk. disk.thing.object) c.next.new.self.rest.items in
    let next = c.in-Some.ensures.steps.0 in
    let one = c.in-Some.disk.thing.object in
    let room = c.adding.invariant.1 in
    let more = c.add_disk.ensures.room in
    let long = ap length c.add_disk.ensures.added in
    let added = length-append c.adding.disks.items (one ∷ []) in
    let left = ap length next in (
      ap (λ l. l ++ rest) c.add_disk.ensures.added ∙ append_assoc c.adding.disks.items (one ∷ []) rest
          ∙ ap (λ l. c.adding.disks.items ++ map (λ disk. disk.thing.object) l) (sym next) ∙ c.adding.invariant.0,
      omega (arith, room, more, long, added, left),
    )
