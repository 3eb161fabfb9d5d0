-- The lines of a small text that tell events, with their numbers.
use Rattle.std.proofs.Common.{◌≡◌, [], ◌∷◌, refl}
use Rattle.std.specs.Prelude.{codes}
use Rattle.decl_text.specs.Text.{without_empty_end}
use Rattle.trace_replay.specs.Lines.{told_in, told_lines}

one_line : told_in 1 (codes "disk a 64\nwrite 0 a 0 1 0\nevent w0 link 0 write 0") ≡ (3, codes "event w0 link 0 write 0") ∷ []
unfolding told_lines without_empty_end
one_line = refl

others_are_passed : told_in 7 (codes "event k\nsteps 7 of 10\n event r\n\n#\nevents\nevent") ≡ (7, codes "event k") ∷ (9, codes " event r") ∷ (13, codes "event") ∷ []
unfolding told_lines without_empty_end
others_are_passed = refl
