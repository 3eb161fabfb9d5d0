-- The grammar of words.
use Rattle.std.specs.Prelude.{◌≡◌, ◌==◌, ◌&&◌, if◌then◌else◌, not, Bool, true, false, List, [], ◌∷◌, find, ℕ, codes, Option, None, Some, Result, Ok, Err}
use Rattle.std.specs.List.{list_any, before_first, after_first}
use Rattle.std.specs.Option.{option_and_then, option_map}
use Rattle.std.specs.Str.{bytes_eq}
use Rattle.biostack_words.specs.Numbers.{number_of, workers_of}
use Rattle.biostack_words.specs.declared.command.Command.{Command}
use Rattle.biostack_words.specs.declared.command.Command.TheVariants as command
use Rattle.biostack_words.specs.declared.order.Order.{Order}
use Rattle.biostack_words.specs.declared.order.Order.TheVariants as order
use Rattle.biostack_words.specs.declared.WordFault.{WordFault}
use Rattle.biostack_words.specs.declared.WordFault.TheVariants.{Refused, Memory}

abbrev pub Word : Type 0
Word = List ℕ

-- the first word
abbrev pub command_named : Word → Option Command
command_named word =
    if bytes_eq word (codes "run") then Some command.Run
    else (if bytes_eq word (codes "check") then Some command.Check
    else (if bytes_eq word (codes "layout") then Some command.Layout
    else (if bytes_eq word (codes "gen") then Some command.Gen
    else (if bytes_eq word (codes "replay") then Some command.Replay
    else (if bytes_eq word (codes "scrub") then Some command.Scrub
    else None)))))

-- ---- one word

-- `--NAME` or `--NAME=VALUE`; another word that begins with `-` and has more; or any other word
pub data WordForm : Type 0 where
  option : Word → Option Word → WordForm
  dashed : WordForm
  plain : WordForm

-- what stands before the first `=` (61), and what stands behind it where there is one
abbrev pub name_of : Word → Word
name_of text = before_first (λ byte. byte == 61) text

abbrev pub value_behind_equals : Word → Option Word
value_behind_equals text = if list_any (λ byte. byte == 61) text then Some (after_first (λ byte. byte == 61) text) else None

abbrev pub form_of_word : Word → WordForm
form_of_word [] = plain
form_of_word (a ∷ []) = plain
form_of_word (a ∷ b ∷ []) = if a == 45 then dashed else plain
form_of_word (a ∷ b ∷ c ∷ more) =
    if a == 45 then (if b == 45 then option (name_of (c ∷ more)) (value_behind_equals (c ∷ more)) else dashed) else plain

abbrev pub is_dashed_form : WordForm → Bool
is_dashed_form dashed = true
is_dashed_form plain = false
is_dashed_form (option name value) = false

abbrev pub is_dashed : Word → Bool
is_dashed word = is_dashed_form (form_of_word word)

-- ---- the words behind the first

-- an option, or a place, which is a word alone
pub data SettingKind : Type 0 where
  seed : SettingKind
  workers : SettingKind
  trace : SettingKind
  text : SettingKind
  place : SettingKind

-- an option with its value, or with none
pub record Setting : Type 0 where
  pub kind : SettingKind
  pub value : Option Word

abbrev pub with_value : SettingKind → Word → Setting
with_value kind word = record { kind = kind; value = Some word }

abbrev pub alone : SettingKind → Setting
alone kind = record { kind = kind; value = None }

-- the options that have a value, and those that have none
abbrev pub valued_named : Word → Option SettingKind
valued_named name =
    if bytes_eq (codes "seed") name then Some seed
    else (if bytes_eq (codes "workers") name then Some workers
    else None)

abbrev pub flag_named : Word → Option SettingKind
flag_named name =
    if bytes_eq (codes "trace") name then Some trace
    else (if bytes_eq (codes "text") name then Some text
    else None)

-- a word is a setting, or an option whose value is the next word, or wrong
pub data Reading : Type 0 where
  is : Setting → Reading
  waits : SettingKind → Reading
  wrong : Reading

abbrev pub as_flag : Option SettingKind → Reading
as_flag (Some kind) = is (alone kind)
as_flag None = wrong

abbrev pub as_option : Option SettingKind → Word → Reading
as_option (Some kind) name = waits kind
as_option None name = as_flag (flag_named name)

abbrev pub with_its_value : Option SettingKind → Word → Reading
with_its_value (Some kind) value = is (with_value kind value)
with_its_value None value = wrong

abbrev pub reading : WordForm → Word → Reading
reading plain word = is (with_value place word)
reading dashed word = wrong
reading (option name None) word = as_option (valued_named name) name
reading (option name (Some value)) word = with_its_value (valued_named name) value

-- a value does not begin with `-`
abbrev pub value_reading : SettingKind → WordForm → Word → Reading
value_reading kind plain word = is (with_value kind word)
value_reading kind dashed word = wrong
value_reading kind (option name value) word = wrong

abbrev pub next_reading : Option SettingKind → Word → Reading
next_reading None word = reading (form_of_word word) word
next_reading (Some kind) word = value_reading kind (form_of_word word) word

-- what follows a word is read by whether it waits for a value
abbrev pub followed : Reading → (Option SettingKind → Option (List Setting)) → Option (List Setting)
followed (is setting) rest = option_map (λ more. setting ∷ more) (rest None)
followed (waits kind) rest = rest (Some kind)
followed wrong rest = None

-- the words are these settings, one behind the other, where a value for this option comes first
unfoldable pub settings_from : Option SettingKind → List Word → Option (List Setting)
settings_from None [] = Some []
settings_from (Some kind) [] = None
settings_from waiting (word ∷ rest) = followed (next_reading waiting word) (λ next. settings_from next rest)

abbrev pub settings : List Word → Option (List Setting)
settings words = settings_from None words

-- ---- settings

-- what each is called
abbrev pub kind_word : SettingKind → Word
kind_word seed = codes "seed"
kind_word workers = codes "workers"
kind_word trace = codes "trace"
kind_word text = codes "text"
kind_word place = codes "number"

abbrev pub is_setting_of : SettingKind → Setting → Bool
is_setting_of kind setting = bytes_eq (kind_word setting.kind) (kind_word kind)

abbrev pub has : SettingKind → List Setting → Bool
has kind all = list_any (is_setting_of kind) all

abbrev pub setting_value : SettingKind → List Setting → Option Word
setting_value kind all = option_and_then (λ setting. setting.value) (find (is_setting_of kind) all)

-- no two of them are of one kind
abbrev pub are_once : List Setting → Bool
are_once [] = true
are_once (setting ∷ more) = not (has setting.kind more) && are_once more

-- what is given
pub record GivenWords : Type 0 where
  pub seed : Option Word
  pub workers : Option Word
  pub trace : Bool
  pub text : Bool
  pub number : Option Word

abbrev pub given_in : List Setting → GivenWords
given_in all = record {
  seed = setting_value seed all;
  workers = setting_value workers all;
  trace = has trace all;
  text = has text all;
  number = setting_value place all;
}

abbrev pub given_once : List Setting → Option GivenWords
given_once all = if are_once all then Some (given_in all) else None

abbrev pub given_by_words : List Word → Option GivenWords
given_by_words words = option_and_then given_once (settings words)

-- ---- orders

-- what each command takes
abbrev pub order_by : Command → Option Word → Option Word → Bool → Bool → Option Word → Option Order
order_by command.Run None None traced false None = Some (order.Run 0 traced)
order_by command.Run (Some n) None traced false None = option_map (λ number. order.Run number traced) (number_of n)
order_by command.Run None (Some n) traced false None = option_map (λ n. order.Workers n traced) (workers_of n)
order_by command.Check None None false false None = Some order.Check
order_by command.Layout None None false false None = Some order.Layout
order_by command.Gen None None false shown (Some n) = option_map (λ number. order.Gen number shown) (number_of n)
order_by command.Replay None None false false None = Some order.Replay
order_by command.Scrub None None false false None = Some (order.Scrub 0)
order_by command.Scrub (Some n) None false false None = option_map order.Scrub (number_of n)
order_by _ _ _ _ _ _ = None

abbrev pub order_of : Command → GivenWords → Option Order
order_of command given = order_by command given.seed given.workers given.trace given.text given.number

-- the order that the words give, where they give one
abbrev pub order_meant : List Word → Option Order
order_meant [] = None
order_meant (first ∷ rest) = option_and_then (λ command. option_and_then (order_of command) (given_by_words rest)) (command_named first)

-- the words give this order, or none; or there was no memory
abbrev pub ReadsWords : List Word → Result Order WordFault → Type 0
ReadsWords words (Ok order) = order_meant words ≡ Some order
ReadsWords words (Err Refused) = order_meant words ≡ None
ReadsWords words (Err Memory) = Unit {0}
