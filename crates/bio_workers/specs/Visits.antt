-- What visits of tasks come to, and sweeps over them.
use Rattle.std.specs.Prelude.{◌≡◌, ℕ, List, [], ◌∷◌, drop, slice_set}
use Rattle.bio_workers.specs.declared.work.WorkOutcome.{WorkOutcome}
use Rattle.bio_workers.specs.declared.work.WorkOutcome.TheVariants.{Happened, Nothing, Over}
use Rattle.bio_workers.specs.WorkOutcomes.{both}

module _ {T : Type 0} (goes : WorkOutcome → T → T → Type 0) where
  -- a task is stepped on only behind an event
  abbrev pub IsSteppedOn : WorkOutcome → T → T → Type 0
  IsSteppedOn Happened old new = Unit {0}
  IsSteppedOn Nothing old new = new ≡ old
  IsSteppedOn Over old new = new ≡ old

  -- a visit of a task came to what its first step did
  pub record IsVisit (came : WorkOutcome) (old new : T) : Type 0 where
    pub stepped : T
    pub first : goes came old stepped
    pub on : IsSteppedOn came stepped new

  -- the task at a place was visited, and the others are as they were
  pub record IsVisitAt (at : ℕ) (came : WorkOutcome) (old new : List T) : Type 0 where
    pub before : T
    pub behind : List T
    pub there : drop at old ≡ before ∷ behind
    pub after : T
    pub visit : IsVisit came before after
    pub leaves : new ≡ slice_set old at after

  -- each of the tasks was visited, and what their visits came to is this, together
  abbrev pub AreVisited : WorkOutcome → List T → List T → Type 0
  AreVisited came [] [] = came ≡ Over
  AreVisited came (old ∷ olds) (new ∷ news) = (first rest : WorkOutcome) × IsVisit first old new × AreVisited rest olds news × (came ≡ both first rest)
  AreVisited came olds news = ⊥
