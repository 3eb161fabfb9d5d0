-- Tasks by their words.
use Rattle.std.proofs.Common.{◌≡◌, ◌^◌, ℕ, List, ◌++◌, length, take, drop, Option, Some, None, refl, ap, sym, ◌∙◌, subst, arith}
use Rattle.std.specs.Prelude.{codes}
use Rattle.std.specs.Option.{option_and_then, option_or}
use Rattle.std.specs.Str.{bytes_eq}
use Rattle.std.proofs.lemmas.List.{take-append-drop}
use Rattle.std.proofs.lemmas.Option.{cond_some, same_Some}
use Rattle.std.proofs.lemmas.Slice.Eq.{bytes_eq-Decides}
use Rattle.stack_base.specs.declared.stack.Stack.{Stack}
use Rattle.run_machine.specs.declared.event.TaskId.{TaskId}
use Rattle.run_machine.specs.declared.event.TaskId.TheVariants as task
use Rattle.trace_text.specs.Names.{DevicesAreNamed}
use Rattle.trace_text.specs.Lines.{FitsTask, HasTask, task_word}
use Rattle.trace_text.specs.Reading.{past_front, completer_of_word, device_of_word, disk_of, rescuer_of_word, short_of, task_of_word, writer_of_word}
use Rattle.trace_text.proofs.NameLemmas.{device_is, disk_is, mapped_some}
use Rattle.trace_text.proofs.PoolLemmas.{chosen}
use Rattle.trace_text.proofs.Readers.{IsWord}
use Rattle.trace_text.proofs.WordLemmas.{number_is}

-- a task whose number fits, which the stack has
abbrev pub IsTask : Stack → TaskId → Type 0
IsTask stack one = HasTask stack one × FitsTask one

abbrev pub IsTaskWord : Stack → List ℕ → TaskId → Type 0
IsTaskWord stack word one = IsTask stack one × (word ≡ task_word stack one)

past_front_takes : (front word rest : List ℕ) → past_front front word ≡ Some rest → word ≡ front ++ rest
past_front_takes front word rest e =
    let parts = cond_some (bytes_eq (take (length front) word) front) (drop (length front) word) rest e in
    let same = (bytes_eq-Decides (take (length front) word) front).0 parts.0 in
    sym (take-append-drop (length front) word) ∙ ap (λ x. x ++ drop (length front) word) same ∙ ap (λ x. front ++ x) parts.1

-- a mark, and a word that tells something
marked_some : {A : Type 0} (read : List ℕ → Option A) (front word : List ℕ) (a : A) → option_and_then read (past_front front word) ≡ Some a
    → (rest : List ℕ) × (word ≡ front ++ rest) × (read rest ≡ Some a)
marked_some {A} read front word a e = from (past_front front word) refl e where
  from : (o : Option (List ℕ)) → past_front front word ≡ o → option_and_then read o ≡ Some a → (rest : List ℕ) × (word ≡ front ++ rest) × (read rest ≡ Some a)
  from None is e = absurd (cc)
  from (Some rest) is e = (rest, past_front_takes front word rest is, e)

writer_takes : (stack : Stack) (word : List ℕ) (one : TaskId) → writer_of_word word ≡ Some one → IsTaskWord stack word one
writer_takes stack word one e =
    let m = mapped_some task.Writer (option_and_then short_of (past_front (codes "w") word)) one e in
    let some = marked_some short_of (codes "w") word m.0 m.1 in
    let is = (number_is (2 ^ 32) (omega arith)).takes some.0 m.0 some.2 in
    subst (IsTaskWord stack word) m.2 ((tt, is.0), some.1 ∙ ap (λ x. codes "w" ++ x) is.1)

rescuer_takes : (stack : Stack) (word : List ℕ) (one : TaskId) → DevicesAreNamed stack → rescuer_of_word stack word ≡ Some one → IsTaskWord stack word one
rescuer_takes stack word one named e =
    let m = mapped_some task.Rescuer (option_and_then (device_of_word stack) (past_front (codes "r:") word)) one e in
    let some = marked_some (device_of_word stack) (codes "r:") word m.0 m.1 in
    let is = (device_is stack named).takes some.0 m.0 some.2 in
    subst (IsTaskWord stack word) m.2 ((is.0, tt), some.1 ∙ ap (λ x. codes "r:" ++ x) is.1)

completer_takes : (stack : Stack) (word : List ℕ) (one : TaskId) → DevicesAreNamed stack → completer_of_word stack word ≡ Some one → IsTaskWord stack word one
completer_takes stack word one named e =
    let m = mapped_some task.Completer (option_and_then (disk_of stack) (past_front (codes "c:") word)) one e in
    let some = marked_some (disk_of stack) (codes "c:") word m.0 m.1 in
    let is = (disk_is stack named).takes some.0 m.0 some.2 in
    subst (IsTaskWord stack word) m.2 ((is.0, tt), some.1 ∙ ap (λ x. codes "c:" ++ x) is.1)

or_takes : {A : Type 0} (x y : Option A) (a : A) (P : Type 0) → (x ≡ Some a → P) → (y ≡ Some a → P) → option_or x y ≡ Some a → P
or_takes None y a P first second e = second e
or_takes (Some one) y a P first second e = first e

task_takes : (stack : Stack) (word : List ℕ) (one : TaskId) → DevicesAreNamed stack → task_of_word stack word ≡ Some one → IsTaskWord stack word one
unfolding task_of_word
task_takes stack word one named e =
    chosen (bytes_eq word (codes "k")) (Some task.Keeper) (option_or (writer_of_word word) (option_or (rescuer_of_word stack word) (completer_of_word stack word))) one (IsTaskWord stack word one)
    (λ is keeper. subst (IsTaskWord stack word) (same_Some task.Keeper one keeper) ((tt, tt), (bytes_eq-Decides word (codes "k")).0 is))
    (λ _ other. or_takes (writer_of_word word) (option_or (rescuer_of_word stack word) (completer_of_word stack word)) one (IsTaskWord stack word one)
    (writer_takes stack word one)
    (or_takes (rescuer_of_word stack word) (completer_of_word stack word) one (IsTaskWord stack word one) (rescuer_takes stack word one named) (completer_takes stack word one named))
    other)
    e

task_again : (stack : Stack) (one : TaskId) → DevicesAreNamed stack → IsTask stack one → task_of_word stack (task_word stack one) ≡ Some one
unfolding task_of_word
task_again stack task.Keeper named is = refl
task_again stack (task.Writer number) named is =
    rw ((number_is (2 ^ 32) (omega arith)).again number is.1) refl
task_again stack (task.Rescuer dev) named is =
    rw ((device_is stack named).again dev is.0) refl
task_again stack (task.Completer disk) named is =
    rw ((disk_is stack named).again disk is.0) refl

pub task_is : (stack : Stack) → DevicesAreNamed stack → IsWord (task_word stack) (IsTask stack) (task_of_word stack)
task_is stack named = record {
  again = λ one is. task_again stack one named is;
  takes = λ word one e. task_takes stack word one named e;
}
