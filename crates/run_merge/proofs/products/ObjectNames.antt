-- Objects by their names.
use Rattle.std.proofs.Common.{◌≡◌, false, refl, ap}
use Rattle.std.proofs.lemmas.Bool.{eqb-false, true≢false}
use mathlib.Core.Path.{fun_ext}
use Rattle.run_machine.specs.Laws.{Object, OfPool, OfRescuer, OfDisk, OfBook, OfTally, OfNone}
use Rattle.run_machine.specs.Objects.{Objects}
use Rattle.run_machine.proofs.Frames.{upd_same, upd_other, upd_own}
use Rattle.shared_objects.specs.Calls.{is_same_object}
use Rattle.run_merge.specs.ObjectsByName.{StateAt, object_named, put_object, made_of}

-- one of them changed
pub named_put : (o : Objects) (name : Object) (v : StateAt name) → object_named (put_object o name v) name ≡ v
named_put o (OfPool number) v = upd_same o.pool number v
named_put o (OfRescuer dev) v = upd_same o.rescue dev v
named_put o (OfDisk dev) v = upd_same o.disk dev v
named_put o (OfBook writer) v = upd_same o.book writer v
named_put o OfTally v = refl
named_put o OfNone v = refl

pub put_named : (o : Objects) (name : Object) → put_object o name (object_named o name) ≡ o
put_named o (OfPool number) = ap (λ f. record o { pool = f }) (upd_own o.pool number)
put_named o (OfRescuer dev) = ap (λ f. record o { rescue = f }) (upd_own o.rescue dev)
put_named o (OfDisk dev) = ap (λ f. record o { disk = f }) (upd_own o.disk dev)
put_named o (OfBook writer) = ap (λ f. record o { book = f }) (upd_own o.book writer)
put_named o OfTally = refl
put_named o OfNone = refl

pub named_other : (o : Objects) (name other : Object) (v : StateAt name) → is_same_object other name ≡ false → object_named (put_object o name v) other ≡ object_named o other
-- pools
named_other o (OfPool a) (OfPool b) v h = upd_other o.pool a v b (eqb-false b a h)
named_other o (OfPool a) other v h = refl
-- lists of rescuers
named_other o (OfRescuer a) (OfRescuer b) v h = upd_other o.rescue a v b (eqb-false b a h)
named_other o (OfRescuer a) other v h = refl
-- disks
named_other o (OfDisk a) (OfDisk b) v h = upd_other o.disk a v b (eqb-false b a h)
named_other o (OfDisk a) other v h = refl
-- books
named_other o (OfBook a) (OfBook b) v h = upd_other o.book a v b (eqb-false b a h)
named_other o (OfBook a) other v h = refl
-- the tally, and no object
named_other o OfTally OfTally v h = absurd (true≢false h)
named_other o OfTally other v h = refl
named_other o OfNone other v h = refl

-- all objects are known by each of them
pub all_same : (a b : Objects) → ((name : Object) → object_named a name ≡ object_named b name) → a ≡ b
all_same a b same = λ i. record {
  pool = fun_ext (λ number. same (OfPool number)) i;
  rescue = fun_ext (λ dev. same (OfRescuer dev)) i;
  disk = fun_ext (λ dev. same (OfDisk dev)) i;
  book = fun_ext (λ writer. same (OfBook writer)) i;
  tally = same OfTally i;
}

-- and made of one for each name
pub named_made : (f : (name : Object) → StateAt name) (name : Object) → object_named (made_of f) name ≡ f name
named_made f (OfPool n) = refl
named_made f (OfRescuer n) = refl
named_made f (OfDisk n) = refl
named_made f (OfBook n) = refl
named_made f OfTally = refl
named_made f OfNone = refl
