-- Names of small traces.
use Rattle.std.proofs.Common.{◌≡◌, List, [], ◌∷◌, Option, None, Some, refl}
use Rattle.stack_base.specs.declared.ids.Status.TheVariants.{Ok}
use Rattle.run_machine.specs.declared.event.How.TheVariants as how
use Rattle.run_machine.specs.declared.event.End.TheVariants as end
use Rattle.run_machine.specs.declared.event.What.{What}
use Rattle.run_machine.specs.declared.event.What.TheVariants.{Link, Drop}
use Rattle.run_machine.specs.Maps.{upd}
use Rattle.trace_replay.specs.Names.{Names, names_after, no_names, placed}

all_placed : Names → List What → List (Option What)
all_placed names [] = []
all_placed names (what ∷ more) = placed names what ∷ all_placed (names_after names what) more

-- a name is free again when its node has closed, and may be any number
again : all_placed no_names (Link 0 how.Write 7 ∷ Drop 0 7 Ok end.Top ∷ Link 0 how.Write 4000000000 ∷ Link 1 how.Write 4000000000 ∷ Drop 0 4000000000 Ok end.Top ∷ Link 0 how.Write 7 ∷ Drop 0 7 Ok end.Left ∷ [])
    ≡ Some (Link 0 how.Write 0) ∷ Some (Drop 0 0 Ok end.Top) ∷ Some (Link 0 how.Write 1) ∷ Some (Link 1 how.Write 0) ∷ Some (Drop 0 1 Ok end.Top) ∷ Some (Link 0 how.Write 2) ∷ Some (Drop 0 2 Ok end.Left) ∷ []
unfolding all_placed upd
again = refl

-- the name of an open node is taken, and that of a closed one is of none
refused : all_placed no_names (Link 0 how.Write 7 ∷ Link 0 how.Chain 7 ∷ []) ≡ Some (Link 0 how.Write 0) ∷ None ∷ []
unfolding all_placed upd
refused = refl

closed : all_placed no_names (Link 0 how.Write 7 ∷ Drop 0 7 Ok end.Top ∷ Drop 0 7 Ok end.Top ∷ Drop 0 8 Ok end.Top ∷ []) ≡ Some (Link 0 how.Write 0) ∷ Some (Drop 0 0 Ok end.Top) ∷ None ∷ None ∷ []
unfolding all_placed upd
closed = refl

-- the nodes of a write to a mirror of two, each of which the trace names by a place that was free
mirrored : all_placed no_names (Link 0 how.Write 0 ∷ Link 0 how.Master 1 ∷ Link 0 how.Leg 2 ∷ Drop 0 2 Ok end.Up ∷ Drop 0 1 Ok end.Left ∷ Link 0 how.Leg 2 ∷ Drop 0 2 Ok end.Up ∷ Drop 0 1 Ok end.Up ∷ Drop 0 0 Ok end.Top ∷ [])
    ≡ Some (Link 0 how.Write 0) ∷ Some (Link 0 how.Master 1) ∷ Some (Link 0 how.Leg 2) ∷ Some (Drop 0 2 Ok end.Up) ∷ Some (Drop 0 1 Ok end.Left) ∷ Some (Link 0 how.Leg 3) ∷ Some (Drop 0 3 Ok end.Up) ∷ Some (Drop 0 1 Ok end.Up) ∷ Some (Drop 0 0 Ok end.Top) ∷ []
unfolding all_placed upd
mirrored = refl
