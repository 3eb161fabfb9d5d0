-- What becomes of the words behind the first.
use Rattle.std.specs.Prelude.{◌≡◌, Bool, true, false, codes, List, None, Some, Result, Ok, Err}
use Rattle.biostack_words.specs.Grammar.{GivenWords, Word, given_by_words}
use Rattle.clap.specs.Walk.{Row, first_of, one_of}
use Rattle.clap.specs.declared.error.kind.ErrorKind.{ErrorKind}
use Rattle.clap.specs.declared.error.kind.ErrorKind.TheVariants.{OutOfMemory}
use Rattle.biostack_words.specs.declared.WordFault.{WordFault}
use Rattle.biostack_words.specs.declared.WordFault.TheVariants.{Refused, Memory}

-- the words give this, or nothing; or there was no memory
abbrev pub ReadsGiven : List Word → Result GivenWords WordFault → Type 0
ReadsGiven words (Ok read) = given_by_words words ≡ Some read
ReadsGiven words (Err Refused) = given_by_words words ≡ None
ReadsGiven words (Err Memory) = Unit {0}

-- the value of an option that has none in the words, by whether it is there
abbrev pub flag_text : Bool → Word
flag_text true = codes "true"
flag_text false = codes "false"

-- how an error of the parser's is seen
abbrev pub fault_for : ErrorKind → WordFault
fault_for OutOfMemory = Memory
fault_for _ = Refused

-- what is read of the parser's rows
pub record IsSeen (rows : List Row) (seen : GivenWords) : Type 0 where
  pub seed : seen.seed ≡ first_of (codes "seed") rows
  pub workers : seen.workers ≡ first_of (codes "workers") rows
  pub number : seen.number ≡ first_of (codes "number") rows
  pub trace : (has : Bool) → one_of (codes "trace") rows ≡ Some (flag_text has) → seen.trace ≡ has
  pub text : (has : Bool) → one_of (codes "text") rows ≡ Some (flag_text has) → seen.text ≡ has
