-- The declarations, and the writes behind them.
use Rattle.std.proofs.Common.{◌∙◌, ◌++◌, [], ap}
use Rattle.work_text.specs.Generated.{behind_all, declaration_words, mirror_size, text_of}
use Rattle.work_text.proofs.GeneratorLemmas.{whole_text}
use Rattle.work_text.proofs.generator.generate.Goals as goal

pub returns : goal.returns
returns c =
    let number = c.args.number in
    let seeded = c.seed_from_u64-words.ensures in
    let front = c.in_ok-sectors.ensures.text ∙ ap (λ t. t ++ text_of (declaration_words number c.seed_from_u64-words.result)) c.new-text.ensures.items in
    whole_text c.add_declarations.new.text.items c.add_writes.new.text.items number c.in_ok-sectors.sectors c.add_declarations.new.words
    (front ∙ ap (λ g. [] ++ text_of (declaration_words number g)) seeded) (c.in_ok-sectors.ensures.words ∙ ap (behind_all 6) seeded)
    (c.in_ok-sectors.ensures.sectors ∙ ap mirror_size seeded) c.in_ok-add_writes.ensures
