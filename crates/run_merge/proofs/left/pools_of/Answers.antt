use Rattle.std.proofs.Common.{rules, ◌≡◌, ◌++◌, ◌∷◌, [], ap, ◌∙◌}
use Rattle.stack_base.specs.declared.ids.PoolId.TheVariants.{FsBios, FsVecs}
use Rattle.stack_base.specs.declared.ids.SetId.TheVariants.{Fs}
use Rattle.run_merge.specs.Falling.{sets_below, falling_below}
use Rattle.run_merge.proofs.leaving.Falls.{first_and_rest}
use Rattle.run_merge.proofs.left.pools_of.Goals as goal

-- src/left.rt
pub returns : goal.returns
returns c = λ all bios records vecs.
    let parts = first_and_rest _ c.args.bios.items c.remove-writers.new.self.items (Fs, all.facts FsBios) (sets_below all 32) c.remove-writers.result bios c.requires.some
    c.remove-writers.ensures.value c.remove-writers.ensures.by_index.2 in
    let one : c.push.new.self.items ≡ c.args.room.items ++ (FsBios, c.facts_of.result) ∷ [] = search rules in
    let two : c.push-2.new.self.items ≡ c.push.new.self.items ++ (FsVecs, c.facts_of-2.result) ∷ [] = search rules in
    let first = c.facts_of.ensures ∙ parts.0 in
    let second = c.facts_of-2.ensures ∙ vecs in
    c.add_falling.ensures all parts.1 records
    ∙ ap (λ l. l ++ falling_below all 32) (two ∙ ap (λ l. l ++ (FsVecs, c.facts_of-2.result) ∷ []) (one ∙ ap (λ l. l ++ (FsBios, c.facts_of.result) ∷ []) c.requires.none))
    ∙ (λ i. (FsBios, first i) ∷ (FsVecs, second i) ∷ falling_below all 32)
