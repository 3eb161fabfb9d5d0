-- The declarations of a generated text, line by line.
use Rattle.std.proofs.Common.{◌≡◌, ◌∙◌, ◌+◌, ◌*◌, ◌/◌, ◌≤◌, ◌<◌, ◌^◌, ◌==◌, ℕ, true, false, List, [], ◌∷◌, ◌++◌, min, codes, refl, ap, arith, Some, None}
use Rattle.std.proofs.Math.Dec.{leb}
use Rattle.std.proofs.lemmas.Bool.{le-leb}
use Rattle.decl_text.specs.Text.{is_name, number_of, words}
use Rattle.decl_text.specs.Items.{malformed, meaning, misnumbered, number, said}
use Rattle.decl_text.specs.Commands.{command_of}
use Rattle.decl_text.specs.Known.{Declarations, after, nothing_declared}
use Rattle.decl_text.specs.Stands.{misplaced, stand_of}
use Rattle.decl_text.specs.Refusals.{first_found, line_reason, refusal}
use Rattle.decl_text.specs.declared.item.Item.{Item}
use Rattle.decl_text.specs.declared.item.Item.TheVariants as item
use Rattle.decl_text.specs.declared.item.What.TheVariants as what
use Rattle.stack_base.specs.Tree.{over_shape}
use Rattle.stack_base.specs.Mapping.{size_of, smallest}
use Rattle.stack_base.proofs.ListLemmas.{Each}
use Rattle.work_text.specs.Work.{all_checks}
use Rattle.work_text.specs.Generated.{disk_words}
use Rattle.work_text.proofs.Said.{IsWord, Writes, body_of, body_text, body_words}

-- a line of these words is right where so much is known, and says this, which no check finds
pub record Fine (known : Declarations) (line : List (List ℕ)) (says : Item) : Type 0 where
  pub formed : malformed line ≡ false
  pub placed : misplaced (stand_of known) line ≡ false
  pub numbered : misnumbered line ≡ false
  pub meant : said line ≡ Some says
  pub unfound : first_found all_checks known says ≡ None

right_line : (known : Declarations) (line : List (List ℕ)) (says : Item) → Each IsWord line → Fine known line says → line_reason all_checks known (body_of line) ≡ None
unfolding first_found
right_line known line says are fine =
    rw (body_text line are, body_words line are, fine.formed, fine.placed, fine.numbered, fine.meant) fine.unfound

-- such a line is not refused, and what it says is known behind it
pub one_line : (known : Declarations) (at : ℕ) (line : List (List ℕ)) (rest : List (List ℕ)) (says : Item) → Each IsWord line → Fine known line says
    → refusal all_checks known at (body_of line ∷ rest) ≡ refusal all_checks (after known says) (at + 1) rest
unfolding refusal
one_line known at line rest says are fine =
    let said_is : said (words (body_of line)) ≡ Some says = ap said (body_words line are) ∙ fine.meant in
    rw (right_line known line says are fine, said_is) refl

-- ---- the lines

abbrev pub disk_item : List ℕ → Item
disk_item name = item.Device name (what.Disk 32768) [] 0 false

abbrev pub limit_item : List ℕ → List ℕ → List ℕ → Item
limit_item name disk longest = item.Device name (what.Limit (number longest) 0) (disk ∷ []) 2 false

abbrev pub stripe_item : List ℕ → List ℕ → List ℕ → List ℕ → Item
stripe_item name first second chunk = item.Device name (what.Stripe (number chunk)) (first ∷ second ∷ []) 2 false

abbrev pub mirror_item : Item
mirror_item = item.Device (codes "m") (what.Mirror 2) (codes "s0" ∷ codes "s1" ∷ []) 2 true

abbrev pub limit_line : List ℕ → List ℕ → List ℕ → List (List ℕ)
limit_line name disk longest = codes "limit" ∷ name ∷ (codes "max=" ++ longest) ∷ disk ∷ []

abbrev pub stripe_line : List ℕ → List ℕ → List ℕ → List ℕ → List (List ℕ)
stripe_line name first second chunk = codes "stripe" ∷ name ∷ (codes "chunk=" ++ chunk) ∷ first ∷ second ∷ []

abbrev pub k1 : Declarations
k1 = after nothing_declared (disk_item (codes "d0"))

abbrev pub k2 : Declarations
k2 = after k1 (disk_item (codes "d1"))

abbrev pub k3 : Declarations
k3 = after k2 (disk_item (codes "d2"))

abbrev pub k4 : Declarations
k4 = after k3 (disk_item (codes "d3"))

pub disk0 : Fine nothing_declared (disk_words (codes "d0")) (disk_item (codes "d0"))
unfolding first_found command_of is_name meaning number_of over_shape size_of smallest
disk0 = record { formed = refl; placed = refl; numbered = refl; meant = refl; unfound = refl }

pub disk1 : Fine k1 (disk_words (codes "d1")) (disk_item (codes "d1"))
unfolding first_found command_of is_name meaning number_of over_shape size_of smallest
disk1 = record { formed = refl; placed = refl; numbered = refl; meant = refl; unfound = refl }

pub disk2 : Fine k2 (disk_words (codes "d2")) (disk_item (codes "d2"))
unfolding first_found command_of is_name meaning number_of over_shape size_of smallest
disk2 = record { formed = refl; placed = refl; numbered = refl; meant = refl; unfound = refl }

pub disk3 : Fine k3 (disk_words (codes "d3")) (disk_item (codes "d3"))
unfolding first_found command_of is_name meaning number_of over_shape size_of smallest
disk3 = record { formed = refl; placed = refl; numbered = refl; meant = refl; unfound = refl }

abbrev pub most : ℕ
most = 18446744073709551615

pub le_most : (n : ℕ) → n < 2 ^ 64 → leb n most ≡ true
le_most n small = le-leb n most (omega (arith, small))

-- the sectors of a stripe with this chunk
abbrev pub stripe_of : List ℕ → ℕ
stripe_of chunk = 2 * number chunk * (32768 / number chunk)

module _ (m0 m1 m2 m3 c0 c1 : List ℕ) where
  abbrev pub k5 : Declarations
  k5 = after k4 (limit_item (codes "l0") (codes "d0") m0)

  abbrev pub k6 : Declarations
  k6 = after k5 (limit_item (codes "l1") (codes "d1") m1)

  abbrev pub k7 : Declarations
  k7 = after k6 (limit_item (codes "l2") (codes "d2") m2)

  abbrev pub k8 : Declarations
  k8 = after k7 (limit_item (codes "l3") (codes "d3") m3)

  abbrev pub k9 : Declarations
  k9 = after k8 (stripe_item (codes "s0") (codes "l0") (codes "l1") c0)

  abbrev pub k10 : Declarations
  k10 = after k9 (stripe_item (codes "s1") (codes "l2") (codes "l3") c1)

  abbrev pub k11 : Declarations
  k11 = after k10 mirror_item

  pub limit0 : (n : ℕ) → Writes m0 n → 1 ≤ n → Fine k4 (limit_line (codes "l0") (codes "d0") m0) (limit_item (codes "l0") (codes "d0") m0)
  unfolding first_found command_of is_name meaning over_shape size_of smallest
  limit0 n w some = record { formed = refl; placed = refl; numbered = rw (w.number, le-leb 1 n some, le_most n w.small) refl; meant = refl; unfound = refl }

  pub limit1 : (n : ℕ) → Writes m1 n → 1 ≤ n → Fine k5 (limit_line (codes "l1") (codes "d1") m1) (limit_item (codes "l1") (codes "d1") m1)
  unfolding first_found command_of is_name meaning over_shape size_of smallest
  limit1 n w some = record { formed = refl; placed = refl; numbered = rw (w.number, le-leb 1 n some, le_most n w.small) refl; meant = refl; unfound = refl }

  pub limit2 : (n : ℕ) → Writes m2 n → 1 ≤ n → Fine k6 (limit_line (codes "l2") (codes "d2") m2) (limit_item (codes "l2") (codes "d2") m2)
  unfolding first_found command_of is_name meaning over_shape size_of smallest
  limit2 n w some = record { formed = refl; placed = refl; numbered = rw (w.number, le-leb 1 n some, le_most n w.small) refl; meant = refl; unfound = refl }

  pub limit3 : (n : ℕ) → Writes m3 n → 1 ≤ n → Fine k7 (limit_line (codes "l3") (codes "d3") m3) (limit_item (codes "l3") (codes "d3") m3)
  unfolding first_found command_of is_name meaning over_shape size_of smallest
  limit3 n w some = record { formed = refl; placed = refl; numbered = rw (w.number, le-leb 1 n some, le_most n w.small) refl; meant = refl; unfound = refl }

  pub stripe0 : (n : ℕ) → Writes c0 n → 1 ≤ n → (stripe_of c0 == 0) ≡ false → Fine k8 (stripe_line (codes "s0") (codes "l0") (codes "l1") c0) (stripe_item (codes "s0") (codes "l0") (codes "l1") c0)
  unfolding first_found command_of is_name meaning over_shape size_of smallest
  stripe0 n w some full = record { formed = refl; placed = refl; numbered = rw (w.number, le-leb 1 n some, le_most n w.small) refl; meant = refl; unfound = rw full refl }

  pub stripe1 : (n : ℕ) → Writes c1 n → 1 ≤ n → (stripe_of c1 == 0) ≡ false → Fine k9 (stripe_line (codes "s1") (codes "l2") (codes "l3") c1) (stripe_item (codes "s1") (codes "l2") (codes "l3") c1)
  unfolding first_found command_of is_name meaning over_shape size_of smallest
  stripe1 n w some full = record { formed = refl; placed = refl; numbered = rw (w.number, le-leb 1 n some, le_most n w.small) refl; meant = refl; unfound = rw full refl }

  pub mirror : (min (stripe_of c0) (stripe_of c1) == 0) ≡ false → Fine k10 (codes "mirror" ∷ codes "m" ∷ codes "s0" ∷ codes "s1" ∷ []) mirror_item
  unfolding first_found command_of is_name meaning over_shape size_of smallest
  mirror full = record { formed = refl; placed = refl; numbered = refl; meant = refl; unfound = rw full refl }

  pub memory : Fine k11 (codes "memory" ∷ codes "none" ∷ []) item.NoMemory
  unfolding first_found command_of is_name meaning over_shape size_of smallest
  memory = record { formed = refl; placed = refl; numbered = refl; meant = refl; unfound = refl }
