-- What a verb is followed by, and what a task did.
use Rattle.std.proofs.Common.{◌≡◌, ◌<◌, ◌^◌, ℕ, List, [], ◌∷◌, ◌++◌, Option, Some, None, refl, ap, ◌∙◌, arith}
use Rattle.std.specs.Prelude.{codes, decimal}
use Rattle.std.specs.Option.{option_and_then}
use Rattle.stack_base.specs.declared.stack.Stack.{Stack}
use Rattle.run_machine.specs.declared.event.What.{What}
use Rattle.run_machine.specs.declared.event.What.TheVariants as what
use Rattle.trace_text.specs.declared.verb.Verb.{Verb}
use Rattle.trace_text.specs.declared.verb.Verb.TheVariants as verb
use Rattle.trace_text.specs.Names.{DevicesAreNamed}
use Rattle.trace_text.specs.Lines.{FitsWhat, HasWhat, what_words}
use Rattle.trace_text.specs.Reading.{Reads, field, long_of, short_of, verb_of_word, verb_word, what_behind, what_in}
use Rattle.trace_text.proofs.NameLemmas.{device_is, disk_is}
use Rattle.trace_text.proofs.PoolLemmas.{pool_is}
use Rattle.trace_text.proofs.Readers.{IsReader, made_again, made_takes, of_word, then}
use Rattle.trace_text.proofs.WordLemmas.{end_is, got_is, how_is, mark_is, number_is, status_is, verb_is}

behind_verb : (stack : Stack) (words mid : List (List ℕ)) (one verb : Verb) (answer : Option (What × List (List ℕ)))
    → field verb_of_word words ≡ Some (one, mid) → one ≡ verb → what_behind stack verb mid ≡ answer → what_in stack words ≡ answer
unfolding what_in
behind_verb stack words mid one verb answer first is rest = rw first (ap (λ one. what_behind stack one mid) is ∙ rest)

pub verb_reads : (stack : Stack) (words mid new : List (List ℕ)) (one verb : Verb) (result : Option What)
    → field verb_of_word words ≡ Some (one, mid) → one ≡ verb → Reads (what_behind stack verb) mid result new → Reads (what_in stack) words result new
verb_reads stack words mid new one verb None first is reads = behind_verb stack words mid one verb None first is reads
verb_reads stack words mid new one verb (Some what) first is reads = behind_verb stack words mid one verb (Some (what, new)) first is reads

-- what a task did that the stack has, in numbers that fit
abbrev pub IsWhat : Stack → What → Type 0
IsWhat stack one = HasWhat stack one × FitsWhat one

short : IsReader (λ n. decimal n ∷ []) (λ n. n < 2 ^ 32) (field short_of)
short = of_word (number_is (2 ^ 32) (omega arith))

long : IsReader (λ n. decimal n ∷ []) (λ n. n < 2 ^ 64) (field long_of)
long = of_word (number_is (2 ^ 64) (omega arith))

-- what was read behind a verb are the words of what the task did behind theirs
abbrev pub IsBehind : Stack → Verb → List (List ℕ) → List (List ℕ) → What → Type 0
IsBehind stack verb words rest one = IsWhat stack one × (verb_word verb ∷ words ≡ what_words stack one ++ rest)

behind_takes : (stack : Stack) (verb : Verb) (words rest : List (List ℕ)) (one : What) → DevicesAreNamed stack → what_behind stack verb words ≡ Some (one, rest)
    → IsBehind stack verb words rest one
-- pools: what was had of one, or what went back
behind_takes stack verb.Take words rest one named e =
    made_takes (then (of_word (pool_is stack named)) (of_word got_is)) (λ of. what.Take of.0 of.1) words one rest (IsBehind stack verb.Take words rest)
    (λ of is said. ((is.0, tt), ap (λ w. codes "take" ∷ w) said)) e
behind_takes stack verb.Try words rest one named e =
    made_takes (then (of_word (pool_is stack named)) (of_word got_is)) (λ of. what.Try of.0 of.1) words one rest (IsBehind stack verb.Try words rest)
    (λ of is said. ((is.0, tt), ap (λ w. codes "try" ∷ w) said)) e
behind_takes stack verb.Give words rest one named e =
    made_takes (of_word (pool_is stack named)) what.Give words one rest (IsBehind stack verb.Give words rest)
    (λ of is said. ((is, tt), ap (λ w. codes "give" ∷ w) said)) e
-- lists of rescuers
behind_takes stack verb.Punt words rest one named e =
    made_takes (then (of_word (device_is stack named)) long) (λ of. what.Punt of.0 of.1) words one rest (IsBehind stack verb.Punt words rest)
    (λ of is said. ((is.0, is.1), ap (λ w. codes "punt" ∷ w) said)) e
behind_takes stack verb.Pop words rest one named e =
    made_takes (of_word (device_is stack named)) what.Pop words one rest (IsBehind stack verb.Pop words rest)
    (λ of is said. ((is, tt), ap (λ w. codes "pop" ∷ w) said)) e
-- disks
behind_takes stack verb.Push words rest one named e =
    made_takes (then (of_word (disk_is stack named)) (then long (then long (then (of_word (mark_is (codes "leg"))) short))))
    (λ of. what.Push of.0 of.1.0 of.1.1.0 of.1.1.1.1) words one rest (IsBehind stack verb.Push words rest)
    (λ of is said. ((is.0, (is.1.0, is.1.1.0, is.1.1.1.1)), ap (λ w. codes "push" ∷ w) said)) e
behind_takes stack verb.Complete words rest one named e =
    made_takes (then (of_word (disk_is stack named)) (then long (of_word status_is)))
    (λ of. what.Complete of.0 of.1.0 of.1.1) words one rest (IsBehind stack verb.Complete words rest)
    (λ of is said. ((is.0, is.1.0), ap (λ w. codes "complete" ∷ w) said)) e
-- books
behind_takes stack verb.Link words rest one named e =
    made_takes (then short (then (of_word how_is) short))
    (λ of. what.Link of.0 of.1.0 of.1.1) words one rest (IsBehind stack verb.Link words rest)
    (λ of is said. ((tt, (is.0, is.1.1)), ap (λ w. codes "link" ∷ w) said)) e
behind_takes stack verb.Drop words rest one named e =
    made_takes (then short (then short (then (of_word status_is) (of_word end_is))))
    (λ of. what.Drop of.0 of.1.0 of.1.1.0 of.1.1.1) words one rest (IsBehind stack verb.Drop words rest)
    (λ of is said. ((tt, (is.0, is.1.0)), ap (λ w. codes "drop" ∷ w) said)) e
-- ends of writes, reserves and rounds
behind_takes stack verb.Done words rest one named e =
    made_takes (then short (of_word status_is)) (λ of. what.Done of.0 of.1) words one rest (IsBehind stack verb.Done words rest)
    (λ of is said. ((tt, is.0), ap (λ w. codes "done" ∷ w) said)) e
behind_takes stack verb.Resize words rest one named e =
    made_takes (then (of_word (pool_is stack named)) short) (λ of. what.Resize of.0 of.1) words one rest (IsBehind stack verb.Resize words rest)
    (λ of is said. ((is.0, is.1), ap (λ w. codes "resize" ∷ w) said)) e
behind_takes stack verb.Round words rest one named e =
    made_takes short what.Round words one rest (IsBehind stack verb.Round words rest)
    (λ of is said. ((tt, is), ap (λ w. codes "round" ∷ w) said)) e

verb_first : (one : Verb) (words : List (List ℕ)) → field verb_of_word (verb_word one ∷ words) ≡ Some (one, words)
verb_first one words = (of_word verb_is).again one words tt

what_again : (stack : Stack) (one : What) (rest : List (List ℕ)) → DevicesAreNamed stack → IsWhat stack one → what_in stack (what_words stack one ++ rest) ≡ Some (one, rest)
-- pools: what was had of one, or what went back
what_again stack (what.Take pool got) rest named is =
    behind_verb stack _ _ verb.Take verb.Take _ (verb_first verb.Take _) refl
    (made_again (then (of_word (pool_is stack named)) (of_word got_is)) (λ of. what.Take of.0 of.1) (pool, got) rest (is.0, tt))
what_again stack (what.Try pool got) rest named is =
    behind_verb stack _ _ verb.Try verb.Try _ (verb_first verb.Try _) refl
    (made_again (then (of_word (pool_is stack named)) (of_word got_is)) (λ of. what.Try of.0 of.1) (pool, got) rest (is.0, tt))
what_again stack (what.Give pool) rest named is =
    behind_verb stack _ _ verb.Give verb.Give _ (verb_first verb.Give _) refl
    (made_again (of_word (pool_is stack named)) what.Give pool rest is.0)
-- lists of rescuers
what_again stack (what.Punt dev moved) rest named is =
    behind_verb stack _ _ verb.Punt verb.Punt _ (verb_first verb.Punt _) refl
    (made_again (then (of_word (device_is stack named)) long) (λ of. what.Punt of.0 of.1) (dev, moved) rest is)
what_again stack (what.Pop dev) rest named is =
    behind_verb stack _ _ verb.Pop verb.Pop _ (verb_first verb.Pop _) refl
    (made_again (of_word (device_is stack named)) what.Pop dev rest is.0)
-- disks
what_again stack (what.Push disk at len leg) rest named is =
    behind_verb stack _ _ verb.Push verb.Push _ (verb_first verb.Push _) refl
    (made_again (then (of_word (disk_is stack named)) (then long (then long (then (of_word (mark_is (codes "leg"))) short))))
    (λ of. what.Push of.0 of.1.0 of.1.1.0 of.1.1.1.1) (disk, (at, (len, (tt, leg)))) rest (is.0, (is.1.0, (is.1.1, (tt, is.1.2)))))
what_again stack (what.Complete disk index status) rest named is =
    behind_verb stack _ _ verb.Complete verb.Complete _ (verb_first verb.Complete _) refl
    (made_again (then (of_word (disk_is stack named)) (then long (of_word status_is))) (λ of. what.Complete of.0 of.1.0 of.1.1)
    (disk, (index, status)) rest (is.0, (is.1, tt)))
-- books
what_again stack (what.Link writer how node) rest named is =
    behind_verb stack _ _ verb.Link verb.Link _ (verb_first verb.Link _) refl
    (made_again (then short (then (of_word how_is) short)) (λ of. what.Link of.0 of.1.0 of.1.1) (writer, (how, node)) rest (is.1.0, (tt, is.1.1)))
what_again stack (what.Drop writer node status end) rest named is =
    behind_verb stack _ _ verb.Drop verb.Drop _ (verb_first verb.Drop _) refl
    (made_again (then short (then short (then (of_word status_is) (of_word end_is)))) (λ of. what.Drop of.0 of.1.0 of.1.1.0 of.1.1.1)
    (writer, (node, (status, end))) rest (is.1.0, (is.1.1, (tt, tt))))
-- ends of writes, reserves and rounds
what_again stack (what.Done write status) rest named is =
    behind_verb stack _ _ verb.Done verb.Done _ (verb_first verb.Done _) refl
    (made_again (then short (of_word status_is)) (λ of. what.Done of.0 of.1) (write, status) rest (is.1, tt))
what_again stack (what.Resize pool min) rest named is =
    behind_verb stack _ _ verb.Resize verb.Resize _ (verb_first verb.Resize _) refl
    (made_again (then (of_word (pool_is stack named)) short) (λ of. what.Resize of.0 of.1) (pool, min) rest is)
what_again stack (what.Round round) rest named is =
    behind_verb stack _ _ verb.Round verb.Round _ (verb_first verb.Round _) refl
    (made_again short what.Round round rest is.1)

of_verb : (stack : Stack) (o : Option (Verb × List (List ℕ))) (one : What) (rest : List (List ℕ))
    → option_and_then (λ (at : Verb × List (List ℕ)). what_behind stack at.0 at.1) o ≡ Some (one, rest)
    → (at : Verb × List (List ℕ)) × (o ≡ Some at) × (what_behind stack at.0 at.1 ≡ Some (one, rest))
of_verb stack None one rest e = absurd (cc)
of_verb stack (Some at) one rest e = (at, refl, e)

what_takes : (stack : Stack) (words : List (List ℕ)) (one : What) (rest : List (List ℕ)) → DevicesAreNamed stack → what_in stack words ≡ Some (one, rest)
    → IsWhat stack one × (words ≡ what_words stack one ++ rest)
unfolding what_in
what_takes stack words one rest named e =
    let v = of_verb stack (field verb_of_word words) one rest e in
    let first = (of_word verb_is).takes words v.0.0 v.0.1 v.1 in
    let b = behind_takes stack v.0.0 v.0.1 rest one named v.2 in
    (b.0, first.1 ∙ b.1)

pub what_is : (stack : Stack) → DevicesAreNamed stack → IsReader (what_words stack) (IsWhat stack) (what_in stack)
what_is stack named = record {
  again = λ one rest is. what_again stack one rest named is;
  takes = λ words one rest e. what_takes stack words one rest named e;
}
