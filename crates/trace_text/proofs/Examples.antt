-- Lines that were worked out by hand, over a stack whose first three devices are `a`, `b` and `m`.
use Rattle.std.proofs.Common.{◌≡◌, Some, None, refl, arith}
use Rattle.std.specs.Prelude.{codes, decimal}
use Rattle.std.proofs.lemmas.Fmt.{decimal_digit}
use Rattle.stack_base.specs.declared.ids.PoolId.TheVariants.{FsBios, FsVecs, Bios, Records}
use Rattle.stack_base.specs.declared.ids.Status.TheVariants as status
use Rattle.stack_base.specs.declared.stack.Stack.{Stack}
use Rattle.stack_base.specs.Names.{name_of_device}
use Rattle.run_machine.specs.declared.event.TaskId.TheVariants as task
use Rattle.run_machine.specs.declared.event.Got.TheVariants as got
use Rattle.run_machine.specs.declared.event.How.TheVariants as how
use Rattle.run_machine.specs.declared.event.End.TheVariants as end
use Rattle.run_machine.specs.declared.event.What.TheVariants as what
use Rattle.run_machine.proofs.cases.OneDisk.{a}
use Rattle.run_machine.proofs.cases.OneMirror.{b, m}
use Rattle.trace_text.specs.Lines.{line_of_event}
use Rattle.trace_text.specs.Reading.{long_of, plain_number, short_of}

record AreNamed (stack : Stack) : Type 0 where
  first : name_of_device stack a.0 ≡ codes "a"
  second : name_of_device stack b.0 ≡ codes "b"
  third : name_of_device stack m.0 ≡ codes "m"

digit_0 : decimal 0 ≡ codes "0"
digit_0 = decimal_digit 0 (omega arith)

digit_1 : decimal 1 ≡ codes "1"
digit_1 = decimal_digit 1 (omega arith)

digit_2 : decimal 2 ≡ codes "2"
digit_2 = decimal_digit 2 (omega arith)

took : (stack : Stack) → line_of_event stack (record { task = task.Writer 0; what = what.Take FsBios got.Spare }) ≡ codes "event w0 take fs.bios spare"
took stack = rw digit_0 refl

linked : (stack : Stack) → line_of_event stack (record { task = task.Writer 0; what = what.Link 0 how.Master 1 }) ≡ codes "event w0 link 0 master 1"
linked stack = rw (digit_0, digit_1) refl

had_record : (stack : Stack) → AreNamed stack → line_of_event stack (record { task = task.Writer 0; what = what.Take (Records m) got.Ordinary }) ≡ codes "event w0 take m.records ordinary"
had_record stack named = rw (digit_0, named.third) refl

missed : (stack : Stack) → AreNamed stack → line_of_event stack (record { task = task.Writer 0; what = what.Try (Bios m) got.Missed }) ≡ codes "event w0 try m.bios missed"
missed stack named = rw (digit_0, named.third) refl

punted : (stack : Stack) → AreNamed stack → line_of_event stack (record { task = task.Writer 0; what = what.Punt m 1 }) ≡ codes "event w0 punt m 1"
punted stack named = rw (digit_0, digit_1, named.third) refl

popped : (stack : Stack) → AreNamed stack → line_of_event stack (record { task = task.Rescuer m; what = what.Pop m }) ≡ codes "event r:m pop m"
popped stack named = rw named.third refl

pushed : (stack : Stack) → AreNamed stack → line_of_event stack (record { task = task.Rescuer m; what = what.Push b 0 2 1 }) ≡ codes "event r:m push b 0 2 leg 1"
pushed stack named = rw (digit_0, digit_1, digit_2, named.second, named.third) refl

completed : (stack : Stack) → AreNamed stack → line_of_event stack (record { task = task.Completer a; what = what.Complete a 0 status.Medium }) ≡ codes "event c:a complete a 0 medium"
completed stack named = rw (digit_0, named.first) refl

dropped : (stack : Stack) → AreNamed stack → line_of_event stack (record { task = task.Completer a; what = what.Drop 0 2 status.NoSpace end.Up }) ≡ codes "event c:a drop 0 2 nospace up"
dropped stack named = rw (digit_0, digit_2, named.first) refl

given : (stack : Stack) → AreNamed stack → line_of_event stack (record { task = task.Completer a; what = what.Give FsVecs }) ≡ codes "event c:a give fs.vecs"
given stack named = rw named.first refl

ended : (stack : Stack) → AreNamed stack → line_of_event stack (record { task = task.Completer a; what = what.Done 0 status.Io }) ≡ codes "event c:a done 0 io"
ended stack named = rw (digit_0, named.first) refl

resized : (stack : Stack) → AreNamed stack → line_of_event stack (record { task = task.Keeper; what = what.Resize (Bios m) 2 }) ≡ codes "event k resize m.bios 2"
resized stack named = rw (digit_2, named.third) refl

started : (stack : Stack) → line_of_event stack (record { task = task.Keeper; what = what.Round 1 }) ≡ codes "event k round 1"
started stack = rw digit_1 refl

-- numbers have no leading zero, digits alone, one at least, and end where their fields do
plain : short_of (codes "10") ≡ Some 10
unfolding plain_number
plain = refl

led : short_of (codes "010") ≡ None
unfolding plain_number
led = refl

signed : short_of (codes "+1") ≡ None
unfolding plain_number
signed = refl

empty : short_of (codes "") ≡ None
unfolding plain_number
empty = refl

most_short : short_of (codes "4294967295") ≡ Some 4294967295
unfolding plain_number
most_short = refl

past_short : short_of (codes "4294967296") ≡ None
unfolding plain_number
past_short = refl

most_long : long_of (codes "18446744073709551615") ≡ Some 18446744073709551615
unfolding plain_number
most_long = refl

past_long : long_of (codes "18446744073709551616") ≡ None
unfolding plain_number
past_long = refl
