-- Names of objects are the same where a test says so.
use Rattle.std.proofs.Common.{◌≡◌, true, refl, ap}
use Rattle.std.proofs.lemmas.Bool.{eqb-true, eq-eqb}
use Rattle.run_machine.specs.Laws.{Object, OfPool, OfRescuer, OfDisk, OfBook, OfTally, OfNone}
use Rattle.shared_objects.specs.Calls.{is_same_object}

pub same_self : (name : Object) → is_same_object name name ≡ true
same_self (OfPool n) = eq-eqb n n refl
same_self (OfRescuer n) = eq-eqb n n refl
same_self (OfDisk n) = eq-eqb n n refl
same_self (OfBook n) = eq-eqb n n refl
same_self OfTally = refl
same_self OfNone = refl

pub same_is : (a b : Object) → is_same_object a b ≡ true → a ≡ b
same_is (OfPool a) (OfPool b) e = ap OfPool (eqb-true a b e)
same_is (OfRescuer a) (OfRescuer b) e = ap OfRescuer (eqb-true a b e)
same_is (OfDisk a) (OfDisk b) e = ap OfDisk (eqb-true a b e)
same_is (OfBook a) (OfBook b) e = ap OfBook (eqb-true a b e)
same_is OfTally OfTally e = refl
same_is OfNone OfNone e = refl
same_is a b e = absurd (cc e)
