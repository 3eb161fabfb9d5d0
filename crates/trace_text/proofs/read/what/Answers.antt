use Rattle.trace_text.specs.declared.verb.Verb.TheVariants as verb
use Rattle.trace_text.proofs.VerbLemmas.{verb_reads}
use Rattle.trace_text.proofs.read.what.Goals as goal

pub returns-in-Take : goal.returns-in-Take
returns-in-Take c =
    verb_reads c.args.stack.now c.args.words.now c.verb.new.words c.take.new.words c.in_ok-verb.field-0 verb.Take c.take.result c.in_ok-verb.ensures c.in-Take.is c.take.ensures

pub returns-in-Try : goal.returns-in-Try
returns-in-Try c =
    verb_reads c.args.stack.now c.args.words.now c.verb.new.words c.try_take.new.words c.in_ok-verb.field-0 verb.Try c.try_take.result c.in_ok-verb.ensures c.in-Try.is c.try_take.ensures

pub returns-in-Give : goal.returns-in-Give
returns-in-Give c =
    verb_reads c.args.stack.now c.args.words.now c.verb.new.words c.give.new.words c.in_ok-verb.field-0 verb.Give c.give.result c.in_ok-verb.ensures c.in-Give.is c.give.ensures

pub returns-in-Punt : goal.returns-in-Punt
returns-in-Punt c =
    verb_reads c.args.stack.now c.args.words.now c.verb.new.words c.punt.new.words c.in_ok-verb.field-0 verb.Punt c.punt.result c.in_ok-verb.ensures c.in-Punt.is c.punt.ensures

pub returns-in-Pop : goal.returns-in-Pop
returns-in-Pop c =
    verb_reads c.args.stack.now c.args.words.now c.verb.new.words c.pop.new.words c.in_ok-verb.field-0 verb.Pop c.pop.result c.in_ok-verb.ensures c.in-Pop.is c.pop.ensures

pub returns-in-Push : goal.returns-in-Push
returns-in-Push c =
    verb_reads c.args.stack.now c.args.words.now c.verb.new.words c.push.new.words c.in_ok-verb.field-0 verb.Push c.push.result c.in_ok-verb.ensures c.in-Push.is c.push.ensures

pub returns-in-Complete : goal.returns-in-Complete
returns-in-Complete c =
    verb_reads c.args.stack.now c.args.words.now c.verb.new.words c.complete.new.words c.in_ok-verb.field-0 verb.Complete c.complete.result c.in_ok-verb.ensures c.in-Complete.is c.complete.ensures

pub returns-in-Link : goal.returns-in-Link
returns-in-Link c =
    verb_reads c.args.stack.now c.args.words.now c.verb.new.words c.link.new.words c.in_ok-verb.field-0 verb.Link c.link.result c.in_ok-verb.ensures c.in-Link.is c.link.ensures

pub returns-in-Drop : goal.returns-in-Drop
returns-in-Drop c =
    verb_reads c.args.stack.now c.args.words.now c.verb.new.words c.drop_node.new.words c.in_ok-verb.field-0 verb.Drop c.drop_node.result c.in_ok-verb.ensures c.in-Drop.is c.drop_node.ensures

pub returns-in-Done : goal.returns-in-Done
returns-in-Done c =
    verb_reads c.args.stack.now c.args.words.now c.verb.new.words c.done.new.words c.in_ok-verb.field-0 verb.Done c.done.result c.in_ok-verb.ensures c.in-Done.is c.done.ensures

pub returns-in-Resize : goal.returns-in-Resize
returns-in-Resize c =
    verb_reads c.args.stack.now c.args.words.now c.verb.new.words c.resize.new.words c.in_ok-verb.field-0 verb.Resize c.resize.result c.in_ok-verb.ensures c.in-Resize.is c.resize.ensures

pub returns-in-Round : goal.returns-in-Round
returns-in-Round c =
    verb_reads c.args.stack.now c.args.words.now c.verb.new.words c.round.new.words c.in_ok-verb.field-0 verb.Round c.round.result c.in_ok-verb.ensures c.in-Round.is c.round.ensures
