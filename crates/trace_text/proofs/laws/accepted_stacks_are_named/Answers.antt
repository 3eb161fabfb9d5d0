use Rattle.trace_text.proofs.laws.accepted_stacks_are_named.Goals as goal

pub returns : goal.returns
returns c = λ accepted. let fit = c.accepted_stacks_are_fit.ensures accepted in record {
  few = accepted.is_stack.few;
  named = λ number device at. (fit.devices number device at).named;
  apart = fit.names;
}
