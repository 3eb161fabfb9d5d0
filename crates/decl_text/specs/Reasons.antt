-- The reasons why a text is refused, their numbers and their names.
use Rattle.std.specs.Prelude.{ℕ, List, [], ◌∷◌, codes, slice_index_or}
use Rattle.decl_text.specs.declared.reason.Reason.{Reason}
use Rattle.decl_text.specs.declared.reason.Reason.TheVariants.{BadWord, BadNumber, NameTaken, NoSuchDevice, MemberTaken, BadShape, TooLarge, EmptyDevice, ReserveZero, NeedsRescuer, NotATop, PastEnd, Overlap, TooManySegments, NoSuchPool, TooLong, NotText, TooMuchWork}

abbrev pub number_of_reason : Reason → ℕ
number_of_reason BadWord = 1
number_of_reason BadNumber = 2
number_of_reason NameTaken = 3
number_of_reason NoSuchDevice = 4
number_of_reason MemberTaken = 5
number_of_reason BadShape = 6
number_of_reason TooLarge = 7
number_of_reason EmptyDevice = 8
number_of_reason ReserveZero = 9
number_of_reason NeedsRescuer = 10
number_of_reason NotATop = 11
number_of_reason PastEnd = 12
number_of_reason Overlap = 13
number_of_reason TooManySegments = 14
number_of_reason NoSuchPool = 15
number_of_reason TooLong = 16
number_of_reason NotText = 17
number_of_reason TooMuchWork = 18

-- the names by their numbers, from 0 on, which is no number of a reason
abbrev pub names : List (List ℕ)
names = [] ∷ codes "BadWord" ∷ codes "BadNumber" ∷ codes "NameTaken" ∷ codes "NoSuchDevice" ∷ codes "MemberTaken" ∷ codes "BadShape"
    ∷ codes "TooLarge" ∷ codes "EmptyDevice" ∷ codes "ReserveZero" ∷ codes "NeedsRescuer" ∷ codes "NotATop" ∷ codes "PastEnd"
    ∷ codes "Overlap" ∷ codes "TooManySegments" ∷ codes "NoSuchPool" ∷ codes "TooLong" ∷ codes "NotText" ∷ codes "TooMuchWork" ∷ []

abbrev pub name_of_number : ℕ → List ℕ
name_of_number number = slice_index_or names number []
