-- Behind the flags no sector is written.
use Rattle.model_disks.proofs.ImageLemmas.{flags_of_image}
use Rattle.model_disks.proofs.RunLemmas.{apart_in_front, runs_in_image, place_in_image, end_in_image}
use Rattle.model_disks.proofs.image.Image.next_run.Goals as goal

pub next_run-requires : goal.next_run-requires
next_run-requires c =
    let i = c.self.inside in
    let is = flags_of_image i.count _ _ i.pages.words.items i.pages.slots.items _ i.flags.items c.self.invariant c.args.self.now _ c.self.view_is c.deref.ensures.value in
    apart_in_front c.args.self.now _ _ is c.args.from c.requires

pub returns-clause-runs : goal.returns-clause-runs
returns-clause-runs c =
    let i = c.self.inside in
    let is = flags_of_image i.count _ _ i.pages.words.items i.pages.slots.items _ i.flags.items c.self.invariant c.args.self.now _ c.self.view_is c.deref.ensures.value in
    runs_in_image c.args.self.now _ _ is c.args.from _ c.next_run.ensures.runs

pub returns-clause-place : goal.returns-clause-place
returns-clause-place c =
    let i = c.self.inside in
    let is = flags_of_image i.count _ _ i.pages.words.items i.pages.slots.items _ i.flags.items c.self.invariant c.args.self.now _ c.self.view_is c.deref.ensures.value in
    place_in_image c.args.self.now _ _ is c.args.from _ c.next_run.ensures.place

pub returns-clause-apart : goal.returns-clause-apart
returns-clause-apart c =
    let i = c.self.inside in
    let is = flags_of_image i.count _ _ i.pages.words.items i.pages.slots.items _ i.flags.items c.self.invariant c.args.self.now _ c.self.view_is c.deref.ensures.value in
    end_in_image c.args.self.now _ _ is _ c.next_run.ensures.apart
