-- What is made of the writes of a text, their rounds and the changes of reserves, over any stack.
use Rattle.std.proofs.Common.{◌≡◌, ℕ, [], ◌∷◌, refl}
use Rattle.stack_base.specs.declared.ids.PoolId.TheVariants.{FsBios, FsVecs}
use Rattle.stack_base.specs.declared.stack.Stack.{Stack}
use Rattle.layout_model.specs.declared.write.Write.{Write}
use Rattle.run_machine.specs.Tasks.{Todo, Resizes, Starts}
use Rattle.run_machine.specs.Opened.{Scenario, device_at, todos, todos_of, writers, round_count, duties, keepers, objects}

abbrev write : ℕ → Write
write task = record { task = task; dev = device_at 0; start = 0; count = 1; tag = 0 }

abbrev todo : ℕ → ℕ → ℕ → Todo
todo number round task = record { number = number; round = round; write = write task }

module _ (stack : Stack) where
  -- writer 3 has the first write and the last, writer 1 the one between; the last round has two changes of reserves before it
  abbrev text : Scenario
  text = record {
    stack = stack;
    scripts = [];
    writes = write 3 ∷ write 1 ∷ write 3 ∷ [];
    rounds = 0 ∷ 0 ∷ 2 ∷ [];
    changes = record { round = 2; pool = FsVecs; min = 5 } ∷ record { round = 2; pool = FsBios; min = 1 } ∷ [];
  }

  numbered : todos text ≡ todo 0 0 3 ∷ todo 1 0 1 ∷ todo 2 2 3 ∷ []
  numbered = refl

  who_writes : writers text ≡ 1 ∷ 3 ∷ []
  who_writes = refl

  of_the_third : todos_of text 3 ≡ todo 0 0 3 ∷ todo 2 2 3 ∷ []
  of_the_third = refl

  of_none : todos_of text 0 ≡ []
  of_none = refl

  rounds_are : round_count text ≡ 3
  rounds_are = refl

  -- the round between has no write
  unfinished_are : (objects text).tally.left ≡ 2 ∷ 0 ∷ 1 ∷ []
  unfinished_are = refl

  duties_are : duties text ≡ Starts 1 1 ∷ Resizes FsVecs 5 1 ∷ Resizes FsBios 1 1 ∷ Starts 2 1 ∷ []
  duties_are = refl

  -- without a second round there is nothing to keep
  abbrev one_round : Scenario
  one_round = record text { rounds = 0 ∷ 0 ∷ 0 ∷ []; changes = [] }

  no_keeper : keepers (duties one_round) ≡ []
  no_keeper = refl

  -- and without a write one round with nothing unfinished
  abbrev no_writes : Scenario
  no_writes = record text { writes = []; rounds = []; changes = [] }

  nothing_left : (objects no_writes).tally.left ≡ 0 ∷ []
  nothing_left = refl
