-- A call that ends with status 3 has read a text that is refused; and none writes behind a fault.
use Rattle.std.proofs.Common.{◌≡◌, ◌∙◌, ℕ, List, Bool, true, true≢false, Option, None, is_some, inl, inr, refl, sym, ap, arith}
use Rattle.std.proofs.KnownBytes.{Keeps-refl}
use Rattle.outside_io.specs.Reading.{IsRead}
use Rattle.outside_io.specs.Saying.{StopsAtFault}
use Rattle.biostack_words.specs.declared.order.Order.{Order}
use Rattle.biostack_words.specs.declared.order.Order.TheVariants.{Run, Workers, Check, Layout, Gen, Replay, Scrub}
use Rattle.work_text.proofs.GeneratedTexts.{never_refused}
use Rattle.bio_workers.specs.Gates.{Showing}
use Rattle.biostack_top.specs.declared.ending.Ending.{Ending}
use Rattle.biostack_top.specs.declared.ending.Ending.TheVariants.{Usage, ReadFault, Memory, Refused, WriteFault, Done, NotAllWell}
use Rattle.biostack_top.specs.Ending.{HadRefusedText, OrderEndsBy, SharedEndsBy, WorkersEndBy, exit_of, refusal_for}
use Rattle.biostack_top.specs.Input.{HasNoInput, IsInput, limit, made_by}
use Rattle.biostack_top.specs.Streams.{CallStreams, SinkStays, SinkStream, SourceStream}

-- a text that is refused was read, since no generated text is
was_read : {S : Type 0} (order : Order) (source : SourceStream S) (text : List ℕ) → IsInput (made_by order) source text
    → is_some (refusal_for order text) ≡ true → IsRead limit (source.of.left source.old) text
was_read (Gen number shown) source text input refused =
    absurd (true≢false (sym refused ∙ ap (λ t. is_some (refusal_for (Gen number shown) t)) input.0 ∙ ap is_some (never_refused number)))
was_read (Run number trace) source text input refused = input.0
was_read (Workers n trace) source text input refused = input.0
was_read Check source text input refused = input.0
was_read Layout source text input refused = input.0
was_read Replay source text input refused = input.0
was_read (Scrub number) source text input refused = input.0

pub refused_exit : {S K : Type 0} (order : Order) (c : CallStreams S K) (ending : Ending) → OrderEndsBy ending order c → exit_of ending ≡ 3
    → HadRefusedText order (c.source.of.left c.source.old)
refused_exit order c (Refused refusal) ends is =
    let refused = ap is_some ends.2.0 in (ends.0, was_read order c.source ends.0 ends.1 refused, refused)
refused_exit order c _ ends is = absurd (omega arith)

-- what stays is what was held before any fault
stays_stops : {K : Type 0} (out : SinkStream K) → SinkStays out → StopsAtFault out.of out.old out.new
stays_stops out stays = (out.old, refl, stays.0)

-- however a call ends, what is held by now was held before any fault
pub stops_at_fault : {S K : Type 0} (order : Order) (c : CallStreams S K) (ending : Ending) → OrderEndsBy ending order c
    → StopsAtFault c.out.of c.out.old c.out.new
stops_at_fault order c Usage ends = absurd ends
stops_at_fault order c ReadFault ends = stays_stops c.out ends.1
stops_at_fault order c Memory ends = stays_stops c.out ends.1
stops_at_fault order c (Refused refusal) ends = stays_stops c.out ends.2.1
stops_at_fault order c WriteFault ends = ends.2.1
stops_at_fault order c Done ends = (c.out.new, ends.2.0, Keeps-refl (c.out.of.held c.out.new))
stops_at_fault order c NotAllWell ends = (c.out.new, ends.2.0, Keeps-refl (c.out.of.held c.out.new))

-- the same of runs by threads
module _ {S K : Type 0} (trace : Bool) (shown : Option Showing) (c : CallStreams S K) where
  -- a text that was read and run by threads ends the call
  pub over_shared_text : (ending : Ending) (text : List ℕ) → IsInput None c.source text → SharedEndsBy ending trace shown text c.out
      → WorkersEndBy ending trace shown c
  over_shared_text Usage text input ends = ends
  over_shared_text ReadFault text input ends = absurd ends
  over_shared_text Memory text input ends = inr (text, input, ends)
  over_shared_text (Refused refusal) text input ends = (text, input, ends)
  over_shared_text WriteFault text input ends = (text, input, ends)
  over_shared_text Done text input ends = (text, input, ends)
  over_shared_text NotAllWell text input ends = (text, input, ends)

  -- there was no text
  pub without_text : (ending : Ending) → HasNoInput ending None c.source → SinkStays c.out → shown ≡ None → WorkersEndBy ending trace shown c
  without_text ReadFault lacks stays none = (lacks, stays, none)
  without_text Memory lacks stays none = inl (lacks, stays, none)
  without_text Usage lacks stays none = absurd lacks
  without_text (Refused refusal) lacks stays none = absurd lacks
  without_text WriteFault lacks stays none = absurd lacks
  without_text Done lacks stays none = absurd lacks
  without_text NotAllWell lacks stays none = absurd lacks

  pub refused_workers : (n : ℕ) (ending : Ending) → WorkersEndBy ending trace shown c → exit_of ending ≡ 3
      → HadRefusedText (Workers n trace) (c.source.of.left c.source.old)
  refused_workers n (Refused refusal) ends is = (ends.0, ends.1.0, ap is_some ends.2.0.0)
  refused_workers n _ ends is = absurd (omega arith)

  pub stops_with_workers : (ending : Ending) → WorkersEndBy ending trace shown c → StopsAtFault c.out.of c.out.old c.out.new
  stops_with_workers Usage ends = absurd ends
  stops_with_workers ReadFault ends = stays_stops c.out ends.1
  stops_with_workers Memory (inl ends) = stays_stops c.out ends.1
  stops_with_workers Memory (inr ends) = stays_stops c.out ends.2.0
  stops_with_workers (Refused refusal) ends = stays_stops c.out ends.2.0.1
  stops_with_workers WriteFault ends = ends.2.1
  stops_with_workers Done ends = (c.out.new, ends.2.0, Keeps-refl (c.out.of.held c.out.new))
  stops_with_workers NotAllWell ends = (c.out.new, ends.2.0, Keeps-refl (c.out.of.held c.out.new))
