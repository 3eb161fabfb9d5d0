-- The digits before this one write the number so far.
use Rattle.std.proofs.Common.{◌≡◌, take}
use Rattle.std.specs.Str.Parse.{digits_value}
use Rattle.decl_text.proofs.word.short_number.Given as goal

abbrev pub invariant-reading : goal.invariant-reading
invariant-reading l = l.number ≡ digits_value 10 (take l.digit-index l.digits)
