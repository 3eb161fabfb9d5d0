-- What the closure of a thread may take with it.
use denote.RattleType.{RattleType}
use denote.Param.Send.{AllSend, IsSend, IsSync, shr_send}
use denote.Param.SendFields.{FieldsHave, as_row_send, declared_send}
use denote.Ref.{NamedLft, ShrRef}
use denote.Struct.Field.{row_field}
use denote.Struct.Tuple.{TupleAt, parts, type_at}
use mir.Syntax.{Sym}
use Rattle.std.proofs.Common.{List, [], ◌∷◌}
use Rattle.shared_objects.specs.contracts.locks.Locks as locks
use Rattle.shared_objects.specs.contracts.ran.Ran as ran
use Rattle.shared_objects.proofs.Sent.{locks_sync}
use Rattle.shared_objects.proofs.SentTasks.{ran_send}

each_send : (captured : List RattleType) → AllSend captured → FieldsHave IsSend (parts captured)
each_send [] may = tt
each_send (R ∷ rest) may = (as_row_send (row_field R) may.0, each_send rest may.1)

-- a closure may go to another thread where each value may that it captures
closure_send : (name : Sym) (captured : List RattleType) → AllSend captured → IsSend (TupleAt name captured)
closure_send name captured may = declared_send (type_at name captured) (each_send captured may)

module _ (name : Sym) (a b : NamedLft) (R C : RattleType) where
  abbrev captured : List RattleType
  captured = ShrRef a.mir a.lft R ∷ ShrRef b.mir b.lft locks.the_row ∷ ran.the_row ∷ C ∷ []

  -- so one that steps a task at the locks, with a chooser
  pub stepping_send : IsSync R → IsSend C → IsSend (TupleAt name captured)
  stepping_send runtime chooser =
      closure_send name captured (shr_send a.mir a.lft R runtime, (shr_send b.mir b.lft locks.the_row locks_sync, (ran_send, (chooser, tt))))
