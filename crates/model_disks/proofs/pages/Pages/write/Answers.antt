-- The sectors up to the end of the page, behind those that were written.
use Rattle.std.proofs.Common.{arith}
use Rattle.model_disks.proofs.PageWriteLemmas.{filled_more}
use Rattle.model_disks.proofs.pages.Pages.write.Goals as goal

pub writing-preserved : goal.writing-preserved
writing-preserved c =
    let was = c.args.self.now in
    let mid = c.writing.self in
    let new = c.write_page.new.self in
    let bio = c.args.bio in
    let kept = c.writing.invariant in
    record {
      paged = c.write_page.ensures.paged;
      short = omega (arith, c.min-len.ensures, kept.short);
      filled = filled_more bio.range.start c.writing.done c.min-len.result bio.word was.words.items was.slots.items mid.words.items mid.slots.items
          new.words.items new.slots.items (omega (arith, c.requires.within, c.min-len.ensures, kept.short)) kept.filled c.write_page.ensures.filled;
    }
