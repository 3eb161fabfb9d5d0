-- What the first piece of the rest of a run adds to what was counted of the run.
use Rattle.std.proofs.Common.{◌≡◌, ℕ, ◌+◌, ◌-◌, ◌≤◌, ltb, refl, ap, ◌∙◌, inl, inr, arith}
use Rattle.std.specs.Int.{from_bool}
use Rattle.std.proofs.lemmas.Bool.{cases_lt, lt-ltb, le-ltb}
use Rattle.stack_base.specs.declared.stack.Stack.{Stack}
use Rattle.stack_base.specs.Tree.{Tree, tree}
use Rattle.layout_model.specs.declared.piece.FirstRun.{FirstRun}
use Rattle.layout_model.specs.Need.{needed, fragments_in_run}
use Rattle.layout_model.specs.Pieces.{IsFirstRun}

-- a run without a sector needs nothing
pub needed_none : (t : Tree) (r len : ℕ) → len ≡ 0 → needed t r len ≡ 0
unfolding needed
needed_none t r len none = ap (needed t r) none ∙ refl

-- and has no fragment
pub fragments_none : (t : Tree) (r len : ℕ) → len ≡ 0 → fragments_in_run t r len ≡ 0
unfolding fragments_in_run
fragments_none t r len none = ap (fragments_in_run t r) none ∙ refl

module _ (stack : Stack) (dev start len done : ℕ) (to : FirstRun) (first : IsFirstRun stack dev (start + done) (len - done) to) where
  -- the rest needs what its first piece needs, a bio for this piece where it is not the last, and what is left needs
  pub needed_step : needed (tree stack dev) (start + done) (len - done)
      ≡ needed (tree stack to.dev.0) to.at to.len + from_bool (ltb (done + to.len) len)
      + needed (tree stack dev) (start + (done + to.len)) (len - (done + to.len))
  needed_step =
      let on : start + done + to.len ≡ start + (done + to.len) = omega arith in
      let left : len - done - to.len ≡ len - (done + to.len) = omega arith in
      let within : to.len ≤ len - done = first.within in
      elim (cases_lt (done + to.len) len) [
        | inl lt ↦
            let more = rw (on, left) at first.more (omega arith) in
            rw (lt-ltb (done + to.len) len lt) (omega (arith, more))
        | inr ge ↦
            rw (le-ltb (done + to.len) len ge) (omega (
              arith,
              first.alone (omega arith),
              needed_none (tree stack dev) (start + (done + to.len)) (len - (done + to.len)) (omega arith),
            ))
      ]

  -- and has the fragments of both
  pub fragments_step :
      fragments_in_run (tree stack dev) (start + done) (len - done)
      ≡ fragments_in_run (tree stack to.dev.0) to.at to.len + fragments_in_run (tree stack dev) (start + (done + to.len)) (len - (done + to.len))
  fragments_step =
      let on : start + done + to.len ≡ start + (done + to.len) = omega arith in
      let left : len - done - to.len ≡ len - (done + to.len) = omega arith in
      rw (on, left) at first.counts
