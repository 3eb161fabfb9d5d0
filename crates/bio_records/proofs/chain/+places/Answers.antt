use Rattle.bio_records.proofs.Detached.{detached_behind}
use Rattle.bio_records.proofs.chain.+places.Goals as goal

-- the first element stays, and what is taken stands behind it
pub returns-in-Some : goal.returns-in-Some
returns-in-Some g t c =
    rw c.in-Some.is (detached_behind c.in-Some.body.value c.deref_mut.result.now c.in-Some.field-0-1 c.detach_to.new.link c.args.index c.detach_to.new.taken
    c.deref_mut.ensures.value c.if-index-eq0.false c.detach_to.ensures)
