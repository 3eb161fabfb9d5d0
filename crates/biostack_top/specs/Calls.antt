-- How the calls of the program exit: what a status says of an order, or of words, and of the streams of a call.
use Rattle.std.specs.Prelude.{◌≡◌, ◌⊎◌, Bool, true, List, ℕ, Option, Some, map, String}
use Rattle.std.specs.declared.alloc.Global.{Global}
use Rattle.std.specs.String.{string_bytes}
use Rattle.outside_io.specs.declared.sink.Sink.{Ghosts as SinkGhosts}
use Rattle.biostack_words.specs.declared.order.Order.{Order}
use Rattle.biostack_words.specs.declared.order.Order.TheVariants.{Workers}
use Rattle.biostack_words.specs.Grammar.{order_meant}
use Rattle.bio_workers.specs.Gates.{Showing}
use Rattle.biostack_top.specs.Ending.{EndsBy, HadRefusedText, IsToldTo, MayFollowRun, MeetsNoFault, OrderEndsBy, WorkersEndBy, exit_of}
use Rattle.biostack_top.specs.Orders.{may_be_unwell}
use Rattle.biostack_top.specs.Streams.{CallStreams, sink_stream}
use Rattle.biostack_top.specs.declared.ending.Ending.{Ending}

-- the order that these words give
abbrev pub given_order : List (String Global) → Option Order
given_order words = order_meant (map string_bytes words)

-- A call with this order has this status: it ended by one of the causes, what the output holds is what goes with it, and
-- so is what errors hold, a sink before the call and behind it.
abbrev pub OrderExits : {S K E : Type 0} → Order → ℕ → CallStreams S K → SinkGhosts E → E → E → Type 0
OrderExits order status c errors old new =
    (ending : Ending) × (status ≡ exit_of ending) × OrderEndsBy ending order c × IsToldTo ending (sink_stream errors old new)

-- the same of an order for threads, with a trace or with none, and of what the gate was shown
abbrev pub WorkersExit : {S K E : Type 0} → Bool → Option Showing → ℕ → CallStreams S K → SinkGhosts E → E → E → Type 0
WorkersExit trace shown status c errors old new =
    (ending : Ending) × (status ≡ exit_of ending) × WorkersEndBy ending trace shown c × IsToldTo ending (sink_stream errors old new)

-- the same of words
abbrev pub Exits : {S K E : Type 0} → List (String Global) → Option Showing → ℕ → CallStreams S K → SinkGhosts E → E → E → Type 0
Exits words shown status c errors old new =
    (ending : Ending) × (status ≡ exit_of ending) × EndsBy ending (map string_bytes words) shown c × IsToldTo ending (sink_stream errors old new)

-- over a text that is not refused the order is carried out where nothing fails, but for want of memory
abbrev pub CarriesOut : {S K : Type 0} → Order → ℕ → CallStreams S K → Type 0
CarriesOut order status c = (text : List ℕ) → MeetsNoFault order text c → (status ≡ 0) ⊎ (status ≡ 1) ⊎ (status ≡ 6)

-- and so is the order that words give
abbrev pub CarriesOutWords : {S K : Type 0} → List (String Global) → ℕ → CallStreams S K → Type 0
CarriesOutWords words status c =
    (order : Order) (text : List ℕ) → given_order words ≡ Some order → MeetsNoFault order text c
    → (status ≡ 0) ⊎ (status ≡ 1) ⊎ (status ≡ 6)

-- words give an order that may find that not all is well
abbrev pub AskForUnwell : List (String Global) → Type 0
AskForUnwell words = (order : Order) × (given_order words ≡ Some order) × (may_be_unwell order ≡ true)

-- words give an order, and what its source had is refused for it
abbrev pub AskForRefusedText : List (String Global) → Option (List ℕ) → Type 0
AskForRefusedText words left = (order : Order) × (given_order words ≡ Some order) × HadRefusedText order left

-- words give an order for threads, and this status may be behind its run
abbrev pub MayFollowWorkers : List (String Global) → ℕ → Type 0
MayFollowWorkers words status = (n : ℕ) × (trace : Bool) × (given_order words ≡ Some (Workers n trace)) × MayFollowRun trace status
