-- The text that an order is about: a number makes it, or it is read of the source.
use Rattle.std.specs.Prelude.{◌≡◌, ◌≤◌, List, ℕ, length, take, Option, None, Some, Result, Ok, Err}
use Rattle.std.specs.Global.{Vec}
use Rattle.std.specs.Io.KnownBytes.{Consumes, Keeps}
use Rattle.outside_io.specs.Reading.{IsRead, TakesWithin}
use Rattle.biostack_words.specs.declared.order.Order.{Order}
use Rattle.biostack_words.specs.declared.order.Order.TheVariants.{Run, Workers, Check, Layout, Gen, Replay, Scrub}
use Rattle.work_text.specs.Generated.{generated}
use Rattle.biostack_top.specs.Streams.{SourceFails, SourceStays, SourceStream}
use Rattle.biostack_top.specs.declared.ending.Ending.{Ending}
use Rattle.biostack_top.specs.declared.ending.Ending.TheVariants.{Memory, ReadFault}

-- how many bytes are read at the most, one more than a text may have
abbrev pub limit : ℕ
limit = 4194305

-- the number that makes the text of an order, where it reads none
abbrev pub made_by : Order → Option ℕ
made_by (Gen number shown) = Some number
made_by (Run number trace) = None
made_by (Workers n trace) = None
made_by Check = None
made_by Layout = None
made_by Replay = None
made_by (Scrub number) = None

-- what its number made
abbrev pub IsMadeText : Option ℕ → List ℕ → Type 0
IsMadeText (Some number) text = text ≡ generated number
IsMadeText None text = Unit {0}

-- the text that a call is given: its number makes it, or the source has it, to its end or to the limit
abbrev pub IsGivenText : Option ℕ → Option (List ℕ) → List ℕ → Type 0
IsGivenText (Some number) left text = text ≡ generated number
IsGivenText None left text = (all : List ℕ) × (left ≡ Some all) × (text ≡ take limit all)

-- the text that a call had: its number made it and nothing was asked of the source, or it was read, without a fault, to its end or to the limit
abbrev pub IsInput : {S : Type 0} → Option ℕ → SourceStream S → List ℕ → Type 0
IsInput (Some number) source text = (text ≡ generated number) × SourceStays source
IsInput None source text =
    IsRead limit (source.of.left source.old) text × (length text ≤ limit)
    × Consumes (source.of.left source.old) (source.of.left source.new) text × (source.of.faults source.new ≡ source.of.faults source.old)

-- no byte past the limit was taken, and nothing where a number makes the text
abbrev pub TakesFew : {S : Type 0} → Option ℕ → SourceStream S → Type 0
TakesFew (Some number) source = Keeps (source.of.left source.old) (source.of.left source.new)
TakesFew None source = TakesWithin limit (source.of.left source.old) (source.of.left source.new)

-- there is no text: the source failed, or there was no memory
abbrev pub HasNoInput : {S : Type 0} → Ending → Option ℕ → SourceStream S → Type 0
HasNoInput ReadFault number source = (number ≡ None) × TakesFew number source × SourceFails source
HasNoInput Memory number source = TakesFew number source × (source.of.faults source.new ≡ source.of.faults source.old)
HasNoInput ending number source = ⊥

-- there is a text, or a call ends so for want of one
abbrev pub HasInput : {S : Type 0} → Option ℕ → SourceStream S → Result (Vec ℕ) Ending → Type 0
HasInput number source (Ok text) = IsInput number source text.items
HasInput number source (Err ending) = HasNoInput ending number source
