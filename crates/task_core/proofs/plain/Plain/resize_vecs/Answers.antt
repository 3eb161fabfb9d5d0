use Rattle.std.proofs.Common.{inl}
use Rattle.task_core.proofs.own.PlainResizes.{vecs_resized, vecs_resized_kept}
use Rattle.task_core.proofs.plain.Plain.resize_vecs.Goals as goal

pub returns-clause-serves : goal.returns-clause-serves
returns-clause-serves c =
    inl (vecs_resized c.args.self.now c.requires.holds c.args.min c.requires.fits c.resize_home.result c.resize_home.new.pool c.resize_home.ensures)

pub returns-clause-kept : goal.returns-clause-kept
returns-clause-kept c =
    vecs_resized_kept c.args.self.now c.requires.holds c.args.min c.requires.fits c.resize_home.result c.resize_home.new.pool c.resize_home.ensures
