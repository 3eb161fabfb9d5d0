use Rattle.std.proofs.Common.{inl}
use Rattle.task_steps.specs.Views.{vec_item}
use Rattle.task_core.proofs.own.PlainGives.{vec_goes_home, vec_given, vec_given_kept}
use Rattle.task_core.proofs.plain.PlainObjects.give_vec.Goals as goal

pub give-requires : goal.give-requires
give-requires c = vec_goes_home c.args.self.now c.requires.holds (vec_item c.args.el) c.requires.fits

pub returns-clause-serves : goal.returns-clause-serves
returns-clause-serves c = inl (vec_given c.args.self.now c.requires.holds (vec_item c.args.el) c.requires.fits c.give.new.self c.give.ensures.gives)

pub returns-clause-kept : goal.returns-clause-kept
returns-clause-kept c = vec_given_kept c.args.self.now c.requires.holds (vec_item c.args.el) c.requires.fits c.give.new.self c.give.ensures.gives
