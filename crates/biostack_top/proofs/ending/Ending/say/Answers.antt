-- What was put is the line of the ending, and where none is wanted nothing was put.
use Rattle.std.proofs.Common.{inl, inr}
use Rattle.outside_io.proofs.SaysLemmas.{says_silence}
use Rattle.biostack_top.proofs.ending.Ending.say.Goals as goal

pub returns-in-Done : goal.returns-in-Done
returns-in-Done g c =
    let silence = says_silence g.E.Sink c.args.errors.now c.args.pen.now in
    elim c.in-Done.is [ inl done ↦ rw done silence | inr done ↦ rw done silence ]

pub returns-in-Usage : goal.returns-in-Usage
returns-in-Usage g c = rw c.in-Usage.is c.put.ensures

pub returns-in-ReadFault : goal.returns-in-ReadFault
returns-in-ReadFault g c = rw c.in-ReadFault.is c.put-in-ReadFault.ensures

pub returns-in-WriteFault : goal.returns-in-WriteFault
returns-in-WriteFault g c = rw c.in-WriteFault.is c.put-in-WriteFault.ensures

pub returns-in-Memory : goal.returns-in-Memory
returns-in-Memory g c = rw c.in-Memory.is c.put-in-Memory.ensures
