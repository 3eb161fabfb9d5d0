-- No line but a device's lacks a rescuer.
use Rattle.std.proofs.Common.{refl}
use Rattle.decl_text.specs.declared.item.Item.TheVariants as item
use Rattle.stack_check.proofs.Chains.{adds_as}
use Rattle.stack_check.proofs.draft.Draft.add.Goals as goal

pub returns-in-Bad : goal.returns-in-Bad
returns-in-Bad c =
    adds_as c.args.loose c.args.self.now (item.Bad c.in-Bad.disk c.in-Bad.range c.in-Bad.kind) c.args.item c.add_bad.new.self c.add_bad.result
    c.in-Bad.is refl c.add_bad.ensures

pub returns-in-Fs : goal.returns-in-Fs
returns-in-Fs c =
    adds_as c.args.loose c.args.self.now (item.Fs c.in-Fs.bios c.in-Fs.vecs) c.args.item c.add_fs.new.self c.add_fs.result c.in-Fs.is refl c.add_fs.ensures

pub returns-in-Script : goal.returns-in-Script
returns-in-Script c =
    adds_as c.args.loose c.args.self.now (item.Script c.in-Script.pool c.in-Script.script) c.args.item c.add_script.new.self c.add_script.result
    c.in-Script.is refl c.add_script.ensures

pub returns-in-NoMemory : goal.returns-in-NoMemory
returns-in-NoMemory c =
    adds_as c.args.loose c.args.self.now item.NoMemory c.args.item c.add_no_memory.new.self c.add_no_memory.result c.in-NoMemory.is refl c.add_no_memory.ensures
