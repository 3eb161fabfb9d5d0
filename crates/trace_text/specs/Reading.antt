-- How an event is read from the words of a line, part by part: each reader takes its own words from the front. That all of it together reads
-- just the events whose lines there are is what `read_event` says.
use Rattle.std.specs.Prelude.{◌≡◌, ◌^◌, ◌==◌, ◌&&◌, ◌||◌, if◌then◌else◌, nat_lt, not, ℕ, Bool, true, false, List, [], ◌∷◌, codes, length, take, drop, position, find, slice_index_or, Option, None, Some}
use Rattle.std.specs.List.{before_first, after_first, list_all, slice_split}
use Rattle.std.specs.Char.{is_ascii_digit}
use Rattle.std.specs.Option.{option_and_then, option_map, option_or}
use Rattle.std.specs.Str.{bytes_eq}
use Rattle.std.specs.Str.Parse.{digits_value}
use Rattle.std.specs.Borrow.{Bor}
use Rattle.stack_base.specs.declared.ids.DevId.{DevId}
use Rattle.stack_base.specs.declared.ids.PoolId.{PoolId}
use Rattle.stack_base.specs.declared.ids.PoolId.TheVariants.{FsBios, FsVecs, Bios, Records}
use Rattle.stack_base.specs.declared.ids.Status.{Status}
use Rattle.stack_base.specs.declared.ids.Status.TheVariants as status
use Rattle.stack_base.specs.declared.stack.Kind.{Kind}
use Rattle.stack_base.specs.declared.stack.Device.{Device}
use Rattle.stack_base.specs.declared.stack.Stack.{Stack}
use Rattle.run_machine.specs.declared.event.TaskId.{TaskId}
use Rattle.run_machine.specs.declared.event.TaskId.TheVariants as task
use Rattle.run_machine.specs.declared.event.Got.{Got}
use Rattle.run_machine.specs.declared.event.Got.TheVariants as got
use Rattle.run_machine.specs.declared.event.How.{How}
use Rattle.run_machine.specs.declared.event.How.TheVariants as how
use Rattle.run_machine.specs.declared.event.End.{End}
use Rattle.run_machine.specs.declared.event.End.TheVariants as end
use Rattle.run_machine.specs.declared.event.What.{What}
use Rattle.run_machine.specs.declared.event.What.TheVariants as what
use Rattle.run_machine.specs.declared.event.Event.{Event}
use Rattle.run_machine.specs.StatusWords.{status_word}
use Rattle.trace_text.specs.Names.{has_device, is_stacked_kind, is_disk_kind, is_mirror_kind}
use Rattle.trace_text.specs.Lines.{got_word, how_word, end_word}
use Rattle.trace_text.specs.declared.verb.Verb.{Verb}
use Rattle.trace_text.specs.declared.verb.Verb.TheVariants as verb

-- the words of what is left of a line, which perhaps is nothing
abbrev pub words_in : Option (Bor (List ℕ)) → List (List ℕ)
words_in None = []
words_in (Some rest) = slice_split (λ byte. byte == 32) rest.now

abbrev pub is_nil : List (List ℕ) → Bool
is_nil [] = true
is_nil (word ∷ words) = false

-- what is read from words, and the words behind it
abbrev pub Reader : Type 0 → Type 0
Reader A = List (List ℕ) → Option (A × List (List ℕ))

-- a call that read so from old left new
abbrev pub Reads : {A : Type 0} → Reader A → List (List ℕ) → Option A → List (List ℕ) → Type 0
Reads read old None new = read old ≡ None
Reads read old (Some found) new = read old ≡ Some (found, new)

-- one word
abbrev pub field : {A : Type 0} → (List ℕ → Option A) → Reader A
field read [] = None
field read (word ∷ words) = option_map (λ found. (found, words)) (read word)

-- one thing, and then another
unfoldable pub read_both : {A B : Type 0} → Reader A → Reader B → Reader (A × B)
read_both first second words =
    option_and_then (λ one. option_map (λ other. ((one.0, other.0), other.1)) (second one.1)) (first words)

-- something made of what is read
unfoldable pub made : {A B : Type 0} → (A → B) → Reader A → Reader B
made make read words = option_map (λ found. (make found.0, found.1)) (read words)

-- the first of these with this word
abbrev pub with_word : {A : Type 0} → (A → List ℕ) → List A → List ℕ → Option A
with_word word_of all word = find (λ one. bytes_eq (word_of one) word) all

abbrev pub all_verbs : List Verb
all_verbs = verb.Take ∷ verb.Try ∷ verb.Give ∷ verb.Punt ∷ verb.Pop ∷ verb.Push ∷ verb.Complete ∷ verb.Link ∷ verb.Drop ∷ verb.Done
    ∷ verb.Resize ∷ verb.Round ∷ []

abbrev pub verb_word : Verb → List ℕ
verb_word verb.Take = codes "take"
verb_word verb.Try = codes "try"
verb_word verb.Give = codes "give"
verb_word verb.Punt = codes "punt"
verb_word verb.Pop = codes "pop"
verb_word verb.Push = codes "push"
verb_word verb.Complete = codes "complete"
verb_word verb.Link = codes "link"
verb_word verb.Drop = codes "drop"
verb_word verb.Done = codes "done"
verb_word verb.Resize = codes "resize"
verb_word verb.Round = codes "round"

abbrev pub verb_of_word : List ℕ → Option Verb
verb_of_word word = with_word verb_word all_verbs word

abbrev pub all_statuses : List Status
all_statuses = status.Ok ∷ status.Io ∷ status.Medium ∷ status.NoSpace ∷ []

abbrev pub status_of_word : List ℕ → Option Status
status_of_word word = with_word status_word all_statuses word

abbrev pub all_gots : List Got
all_gots = got.Ordinary ∷ got.Spare ∷ got.Missed ∷ []

abbrev pub got_of_word : List ℕ → Option Got
got_of_word word = with_word got_word all_gots word

abbrev pub all_hows : List How
all_hows = how.Write ∷ how.Chain ∷ how.Master ∷ how.Leg ∷ []

abbrev pub how_of_word : List ℕ → Option How
how_of_word word = with_word how_word all_hows word

abbrev pub all_ends : List End
all_ends = end.Left ∷ end.Up ∷ end.Top ∷ []

abbrev pub end_of_word : List ℕ → Option End
end_of_word word = with_word end_word all_ends word

-- decimal digits, one at least, of which the first is no 0 that others follow
abbrev pub is_plain : List ℕ → Bool
is_plain word = nat_lt 0 (length word) && (not (slice_index_or word 0 0 == 48) || length word == 1) && list_all is_ascii_digit word

-- the number below the limit that the word writes
unfoldable pub plain_number : ℕ → List ℕ → Option ℕ
plain_number limit word = if is_plain word && nat_lt (digits_value 10 word) limit then Some (digits_value 10 word) else None

abbrev pub short_of : List ℕ → Option ℕ
short_of word = plain_number (2 ^ 32) word

abbrev pub long_of : List ℕ → Option ℕ
long_of word = plain_number (2 ^ 64) word

-- the device of this name
unfoldable pub device_of_word : Stack → List ℕ → Option DevId
device_of_word stack name =
    option_map (λ (place : ℕ). record { 0 = place }) (position (λ (device : Device). bytes_eq device.name.bytes name) stack.devices.items)

-- a device, where it is of such a kind
abbrev pub if_suits : (Kind → Bool) → Stack → DevId → Option DevId
if_suits suits stack dev = if has_device suits stack dev.0 then Some dev else None

unfoldable pub disk_of : Stack → List ℕ → Option DevId
disk_of stack name = option_and_then (if_suits is_disk_kind stack) (device_of_word stack name)

-- the pool of bios of the device of this name
unfoldable pub device_bios : Stack → List ℕ → Option PoolId
device_bios stack name = option_map Bios (option_and_then (if_suits is_stacked_kind stack) (device_of_word stack name))

-- its pool of records
unfoldable pub device_records : Stack → List ℕ → Option PoolId
device_records stack name = option_map Records (option_and_then (if_suits is_mirror_kind stack) (device_of_word stack name))

abbrev pub fs_pool : List ℕ → Option PoolId
fs_pool kept = if bytes_eq kept (codes "bios") then Some FsBios else (if bytes_eq kept (codes "vecs") then Some FsVecs else None)

abbrev pub device_pool : Stack → List ℕ → List ℕ → Option PoolId
device_pool stack name kept =
    if bytes_eq kept (codes "bios") then device_bios stack name
    else (if bytes_eq kept (codes "records") then device_records stack name else None)

-- the pool of the set with this name that keeps this
abbrev pub pool_named : Stack → List ℕ → List ℕ → Option PoolId
pool_named stack name kept = if bytes_eq name (codes "fs") then fs_pool kept else device_pool stack name kept

-- a pool's word is cut at its first dot, which no name has
abbrev pub is_dot : ℕ → Bool
is_dot byte = byte == 46

unfoldable pub pool_of_word : Stack → List ℕ → Option PoolId
pool_of_word stack word = pool_named stack (before_first is_dot word) (after_first is_dot word)

-- what follows this in a word
abbrev pub past_front : List ℕ → List ℕ → Option (List ℕ)
past_front front word = if bytes_eq (take (length front) word) front then Some (drop (length front) word) else None

abbrev pub writer_of_word : List ℕ → Option TaskId
writer_of_word word = option_map task.Writer (option_and_then short_of (past_front (codes "w") word))

abbrev pub rescuer_of_word : Stack → List ℕ → Option TaskId
rescuer_of_word stack word = option_map task.Rescuer (option_and_then (device_of_word stack) (past_front (codes "r:") word))

abbrev pub completer_of_word : Stack → List ℕ → Option TaskId
completer_of_word stack word = option_map task.Completer (option_and_then (disk_of stack) (past_front (codes "c:") word))

unfoldable pub task_of_word : Stack → List ℕ → Option TaskId
task_of_word stack word =
    if bytes_eq word (codes "k") then Some task.Keeper
    else option_or (writer_of_word word) (option_or (rescuer_of_word stack word) (completer_of_word stack word))

-- a word that is always the same
abbrev pub fixed_word : List ℕ → List ℕ → Option (Unit {0})
fixed_word mark word = if bytes_eq word mark then Some tt else None

-- what stands behind each verb
abbrev pub take_behind : Stack → Reader What
take_behind stack = made (λ of. what.Take of.0 of.1) (read_both (field (pool_of_word stack)) (field got_of_word))

abbrev pub try_behind : Stack → Reader What
try_behind stack = made (λ of. what.Try of.0 of.1) (read_both (field (pool_of_word stack)) (field got_of_word))

abbrev pub give_behind : Stack → Reader What
give_behind stack = made what.Give (field (pool_of_word stack))

abbrev pub punt_behind : Stack → Reader What
punt_behind stack = made (λ of. what.Punt of.0 of.1) (read_both (field (device_of_word stack)) (field long_of))

abbrev pub pop_behind : Stack → Reader What
pop_behind stack = made what.Pop (field (device_of_word stack))

abbrev pub push_behind : Stack → Reader What
push_behind stack = made (λ of. what.Push of.0 of.1.0 of.1.1.0 of.1.1.1.1)
    (read_both (field (disk_of stack)) (read_both (field long_of) (read_both (field long_of) (read_both (field (fixed_word (codes "leg"))) (field short_of)))))

abbrev pub complete_behind : Stack → Reader What
complete_behind stack = made (λ of. what.Complete of.0 of.1.0 of.1.1)
    (read_both (field (disk_of stack)) (read_both (field long_of) (field status_of_word)))

abbrev pub link_behind : Reader What
link_behind = made (λ of. what.Link of.0 of.1.0 of.1.1) (read_both (field short_of) (read_both (field how_of_word) (field short_of)))

abbrev pub drop_behind : Reader What
drop_behind = made (λ of. what.Drop of.0 of.1.0 of.1.1.0 of.1.1.1)
    (read_both (field short_of) (read_both (field short_of) (read_both (field status_of_word) (field end_of_word))))

abbrev pub done_behind : Reader What
done_behind = made (λ of. what.Done of.0 of.1) (read_both (field short_of) (field status_of_word))

abbrev pub resize_behind : Stack → Reader What
resize_behind stack = made (λ of. what.Resize of.0 of.1) (read_both (field (pool_of_word stack)) (field short_of))

abbrev pub round_behind : Reader What
round_behind = made what.Round (field short_of)

abbrev pub what_behind : Stack → Verb → Reader What
what_behind stack verb.Take = take_behind stack
what_behind stack verb.Try = try_behind stack
what_behind stack verb.Give = give_behind stack
what_behind stack verb.Punt = punt_behind stack
what_behind stack verb.Pop = pop_behind stack
what_behind stack verb.Push = push_behind stack
what_behind stack verb.Complete = complete_behind stack
what_behind stack verb.Link = link_behind
what_behind stack verb.Drop = drop_behind
what_behind stack verb.Done = done_behind
what_behind stack verb.Resize = resize_behind stack
what_behind stack verb.Round = round_behind

-- a verb, and what stands behind it
unfoldable pub what_in : Stack → Reader What
what_in stack words = option_and_then (λ (found : Verb × List (List ℕ)). what_behind stack found.0 found.1) (field verb_of_word words)

-- an event, where no word follows
abbrev pub at_end : {A : Type 0} → Option (A × List (List ℕ)) → Option A
at_end None = None
at_end (Some (found, [])) = Some found
at_end (Some (found, word ∷ words)) = None

unfoldable pub event_of : Stack → List (List ℕ) → Option Event
event_of stack words =
    at_end (made (λ of. record { task = of.1.0; what = of.1.1 }) (read_both (field (fixed_word (codes "event"))) (read_both (field (task_of_word stack)) (what_in stack))) words)
