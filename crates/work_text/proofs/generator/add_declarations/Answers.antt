-- Line behind line, each with the words that come next.
use Rattle.std.proofs.Common.{◌∙◌, ap, ap₂, min}
use Rattle.work_text.specs.Generated.{behind, chunk_in, stripe_size}
use Rattle.work_text.proofs.GeneratorLemmas.{declared_text}
use Rattle.work_text.proofs.generator.add_declarations.Goals as goal

pub returns-clause-text : goal.returns-clause-text
returns-clause-text c =
    declared_text c.args.text.now.items c.extend_from_slice.new.self.items c.add_limit.new.text.items c.add_limit-2.new.text.items c.add_limit-3.new.text.items
    c.add_limit-4.new.text.items c.add_stripe.new.text.items c.add_stripe-2.new.text.items c.extend_from_slice-2.new.self.items c.add_memory.new.text.items
    c.args.number c.args.words.now c.add_limit.new.words c.add_limit-2.new.words c.add_limit-3.new.words c.add_limit-4.new.words c.add_stripe.new.words
    c.add_limit.ensures.words c.add_limit-2.ensures.words c.add_limit-3.ensures.words c.add_limit-4.ensures.words c.add_stripe.ensures.words
    c.in_ok-extend_from_slice.ensures.items c.in_ok-add_limit.ensures.text c.in_ok-add_limit-2.ensures.text c.in_ok-add_limit-3.ensures.text
    c.in_ok-add_limit-4.ensures.text c.in_ok-first.ensures.text c.in_ok-second.ensures.text c.in_ok-extend_from_slice-2.ensures.items c.in_ok-add_memory.ensures

pub returns-clause-sectors : goal.returns-clause-sectors
returns-clause-sectors c =
    let one = c.add_limit.ensures.words in
    let two = c.add_limit-2.ensures.words ∙ ap behind one in
    let three = c.add_limit-3.ensures.words ∙ ap behind two in
    let four = c.add_limit-4.ensures.words ∙ ap behind three in
    let five = c.add_stripe.ensures.words ∙ ap behind four in
    c.min.ensures ∙ ap₂ min (c.in_ok-first.ensures.size ∙ ap (λ g. stripe_size (chunk_in g)) four) (c.in_ok-second.ensures.size ∙ ap (λ g. stripe_size (chunk_in g)) five)
