mod MadeLemmas
