-- What several puts together append.
use Rattle.std.proofs.Common.{ℕ, ◌+◌, List, ◌++◌, length, take, drop, sym, subst, arith, length-append}
use Rattle.std.proofs.Math.Seq.{take-add, take-append-add}
use Rattle.std.proofs.lemmas.List.{take-append-le}
use Rattle.std.specs.Prelude.{Option}
use Rattle.std.specs.Io.KnownBytes.{Appends}
use Rattle.std.proofs.KnownBytes.{Appends-trans}
use Rattle.outside_io.specs.Saying.{AppendsFront}

-- a front of the text, and then the next bytes of it
pub appends_next : (a b c : Option (List ℕ)) (text : List ℕ) (at n : ℕ) → Appends a b (take at text) → Appends b c (take n (drop at text)) → Appends a c (take (at + n) text)
appends_next a b c text at n front next =
    subst (Appends a c) (sym (take-add at n text)) (Appends-trans a b c (take at text) (take n (drop at text)) front next)

-- a text, and then a front of what stands behind it
pub appends_front : (a b c : Option (List ℕ)) (x y : List ℕ) → Appends a b x → AppendsFront b c y → AppendsFront a c (x ++ y)
appends_front a b c x y whole front =
    (length x + front.0, omega (arith, length-append x y, front.1), subst (Appends a c) (sym (take-append-add x y front.0)) (Appends-trans a b c x (take front.0 y) whole front.2))

-- a front of a text is one of a longer text
pub front_longer : (a b : Option (List ℕ)) (x y : List ℕ) → AppendsFront a b x → AppendsFront a b (x ++ y)
front_longer a b x y front =
    let le = front.1 in
    (front.0, omega (arith, length-append x y, le), subst (Appends a b) (sym (take-append-le front.0 x y le)) front.2)
