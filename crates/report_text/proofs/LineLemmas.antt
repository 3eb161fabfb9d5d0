-- Lines, one after the other.
use Rattle.std.proofs.Common.{◌+◌, ◌≡◌, ◌<◌, ◌≤◌, ℕ, List, [], ◌∷◌, ◌++◌, length, get_or, drop, refl, sym, ap, ◌∙◌, subst, arith}
use Rattle.std.proofs.lemmas.List.{at_drop_more, at_drop_all}
use Rattle.std.proofs.lemmas.List.Concat.{flat_map-cons}
use Rattle.stack_base.specs.declared.ids.Range.{Range}
use Rattle.stack_base.specs.declared.ids.Status.{Status}
use Rattle.stack_base.specs.declared.stack.Device.{Device}
use Rattle.stack_base.specs.declared.stack.Stack.{Stack}
use Rattle.stack_base.specs.Tree.{tree, size}
use Rattle.outside_io.specs.declared.sink.Sink.{Ghosts as SinkGhosts}
use Rattle.outside_io.specs.Saying.{PenState, Says}
use Rattle.outside_io.proofs.SaysLemmas.{says_then, says_silence}
use Rattle.report_text.specs.Report.{write_line, write_lines, run_line, run_lines}
use Rattle.report_text.specs.CheckText.{device_line, device_lines}

more_runs : (name : List ℕ) (run : Range) (all rest : List Range) → all ≡ run ∷ rest → run_line name run ++ run_lines name rest ≡ run_lines name all
unfolding run_lines
more_runs name run all rest is = sym (flat_map-cons (run_line name) run rest) ∙ ap (run_lines name) (sym is)

no_runs : (name : List ℕ) (all : List Range) → all ≡ [] → [] ≡ run_lines name all
unfolding run_lines
no_runs name all is = rw is refl

-- the line of the first run, and then those of the others
pub runs_on : {K : Type 0} {sink : SinkGhosts K} {a b c : K} {was mid is : PenState} (name : List ℕ) (run : Range) (all rest : List Range) → all ≡ run ∷ rest
    → Says sink a was b mid (run_line name run) → Says sink b mid c is (run_lines name rest) → Says sink a was c is (run_lines name all)
runs_on {sink = sink} {a} {b} {c} {was} {mid} {is} name run all rest first here others =
    subst (Says sink a was c is) (more_runs name run all rest first) (says_then here others)

-- no run has no line
pub runs_end : {K : Type 0} (sink : SinkGhosts K) (a : K) (was : PenState) (name : List ℕ) (all : List Range) → all ≡ [] → Says sink a was a was (run_lines name all)
runs_end sink a was name all none = subst (Says sink a was a was) (no_runs name all none) (says_silence sink a was)

-- the line of the write with this number, and then those of the writes behind it
pub writes_on : {K : Type 0} {sink : SinkGhosts K} {a b c : K} {was mid is : PenState} (statuses : List Status) (number : ℕ) (d : Status) → number < length statuses
    → Says sink a was b mid (write_line number (get_or statuses number d))
    → Says sink b mid c is (write_lines (number + 1) (drop (number + 1) statuses))
    → Says sink a was c is (write_lines number (drop number statuses))
writes_on {sink = sink} {a} {b} {c} {was} {mid} {is} statuses number d inside here others =
    subst (Says sink a was c is) (sym (at_drop_more (write_lines number) statuses number d inside)) (says_then here others)

-- behind the last write there is no line
pub writes_end : {K : Type 0} (sink : SinkGhosts K) (a : K) (was : PenState) (statuses : List Status) (number : ℕ)
    → length statuses ≤ number → Says sink a was a was (write_lines number (drop number statuses))
writes_end sink a was statuses number past =
    subst (Says sink a was a was) (sym (at_drop_all (write_lines number) statuses number past)) (says_silence sink a was)

-- the line of the device with this number, and then those of the devices behind it
pub devices_on : {K : Type 0} {sink : SinkGhosts K} {a b c : K} {was mid is : PenState} (stack : Stack) (devices shown : List Device) (number : ℕ) (device : Device) (sectors : ℕ)
    → shown ≡ devices → number < length shown → device ≡ get_or shown number device → sectors ≡ size (tree stack number)
    → Says sink a was b mid (device_line device sectors)
    → Says sink b mid c is (device_lines stack (number + 1) (drop (number + 1) devices))
    → Says sink a was c is (device_lines stack number (drop number devices))
devices_on {sink = sink} {a} {b} {c} {was} {mid} {is} stack devices shown number device sectors same inside found sized here others =
    let within : number < length devices = omega (arith, ap length same) in
    let there : device ≡ get_or devices number device = found ∙ ap (λ ds. get_or ds number device) same in
    let line = subst (λ d. Says sink a was b mid (device_line d sectors)) there here in
    let sized_line = subst (λ n. Says sink a was b mid (device_line (get_or devices number device) n)) sized line in
    subst (Says sink a was c is) (sym (at_drop_more (device_lines stack number) devices number device within)) (says_then sized_line others)

-- behind the last device there is no line
pub devices_end : {K : Type 0} (sink : SinkGhosts K) (a : K) (was : PenState) (stack : Stack) (devices : List Device) (number : ℕ)
    → length devices ≤ number → Says sink a was a was (device_lines stack number (drop number devices))
devices_end sink a was stack devices number past =
    subst (Says sink a was a was) (sym (at_drop_all (device_lines stack number) devices number past)) (says_silence sink a was)
