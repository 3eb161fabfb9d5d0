-- What holds of every accepted stack.
use Rattle.decl_text.specs.Fit.{IsFitStack}
use Rattle.decl_text.specs.declared.accepted.Accepted.{Accepted}

-- what declarations mean that are not refused has names, reserves and bad ranges as they have to be
abbrev pub AcceptedStacksAreFit : Type 0
AcceptedStacksAreFit = (accepted : Accepted) → IsFitStack accepted.stack
