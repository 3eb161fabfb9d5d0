-- The pages hold the bio's sectors, and their flags are set.
use Rattle.std.proofs.Common.{◌∙◌, ap, length}
use Rattle.model_disks.proofs.MoveLemmas.{size}
use Rattle.model_disks.proofs.ImageLemmas.{after_write, room_for}
use Rattle.model_disks.proofs.image.Image.write.Goals as goal

pub write-requires-clause-within : goal.write-requires-clause-within
write-requires-clause-within c =
    let i = c.self.inside in
    (room_for c.args.bio i.count _ _ i.pages.words.items i.pages.slots.items _ i.flags.items c.args.self.now c.self.invariant c.self.view_is c.requires).0

pub note-requires : goal.note-requires
note-requires c =
    let i = c.self.inside in
    (room_for c.args.bio i.count _ _ i.pages.words.items i.pages.slots.items _ i.flags.items c.args.self.now c.self.invariant c.self.view_is c.requires).1

pub invariant_of-self : goal.invariant_of-self
invariant_of-self c =
    let i = c.self.inside in
    (after_write c.args.bio c.args.self.now i.count _ _ _ _ i.pages.words.items i.pages.slots.items _ _ _ _ i.flags.items _ c.self.invariant c.self.view_is
    c.requires c.write.ensures.paged c.write.ensures.filled c.note.ensures.flags c.note.ensures.room).0

pub returns-clause-image : goal.returns-clause-image
returns-clause-image c =
    let i = c.self.inside in
    (after_write c.args.bio c.args.self.now i.count _ _ _ _ i.pages.words.items i.pages.slots.items _ _ _ _ i.flags.items _ c.self.invariant c.self.view_is
    c.requires c.write.ensures.paged c.write.ensures.filled c.note.ensures.flags c.note.ensures.room).1

pub returns-clause-size : goal.returns-clause-size
returns-clause-size c =
    let i = c.self.inside in
    ap length (after_write c.args.bio c.args.self.now i.count _ _ _ _ i.pages.words.items i.pages.slots.items _ _ _ _ i.flags.items _ c.self.invariant
    c.self.view_is c.requires c.write.ensures.paged c.write.ensures.filled c.note.ensures.flags c.note.ensures.room).1
    ∙ size c.args.bio c.args.self.now c.requires
