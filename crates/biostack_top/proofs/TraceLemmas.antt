-- A trace that is handed events writes their lines.
use Rattle.std.proofs.Common.{◌≡◌, ℕ, true, false, true≢false, List, [], ◌∷◌, ◌++◌, refl, sym, ap, ◌∙◌, subst, arith}
use Rattle.std.specs.Prelude.{Result, Ok, Err, IsErr, MatchResult, OnErr, OnOk}
use Rattle.std.proofs.KnownBytes.{Appends-nil, Appends-trans, Keeps-refl}
use Rattle.std.proofs.lemmas.List.Concat.{flat_map-cons}
use Rattle.stack_base.specs.declared.stack.Stack.{Stack}
use Rattle.outside_io.specs.Causes.{Rose}
use Rattle.outside_io.specs.declared.sink.Sink.{Ghosts as SinkGhosts}
use Rattle.outside_io.specs.Saying.{Says, Writes, emptied}
use Rattle.outside_io.proofs.PutLemmas.{appends_front, front_longer}
use Rattle.outside_io.proofs.SaysLemmas.{finished, says_then, says_silence}
use Rattle.run_machine.specs.declared.event.Event.{Event}
use Rattle.serial_run.specs.Serial.{HandsOn}
use Rattle.biostack_top.specs.declared.trace.Trace.{Trace}
use Rattle.biostack_top.specs.Tracing.{WritesLine, event_line, event_lines}

no_lines : (stack : Stack) → [] ≡ event_lines stack []
unfolding event_lines
no_lines stack = refl

more_lines : (stack : Stack) (event : Event) (events : List Event) → event_line stack event ++ event_lines stack events ≡ event_lines stack (event ∷ events)
unfolding event_lines
more_lines stack event events = sym (flat_map-cons (event_line stack) event events)

module _ {K : Type 0} (sink : SinkGhosts K) where
  -- over the same sink
  pub keeps_reference : (old : Trace K) (events : List Event) (new : Trace K) → HandsOn (WritesLine sink) old events new
      → new.out.ghost_name ≡ old.out.ghost_name
  keeps_reference old [] new same = ap (λ (t : Trace K). t.out.ghost_name) same
  keeps_reference old (event ∷ events) new (next, line, lines) = keeps_reference next events new lines ∙ line.same_reference

  pub says_lines : (old : Trace K) (events : List Event) (new : Trace K) → HandsOn (WritesLine sink) old events new
      → Says sink old.out.now old.pen new.out.now new.pen (event_lines old.stack.now events)
  says_lines old [] new same =
      subst (λ (t : Trace K). Says sink old.out.now old.pen t.out.now t.pen (event_lines old.stack.now []))
      (sym same)
      (subst (Says sink old.out.now old.pen old.out.now old.pen) (no_lines old.stack.now)
      (says_silence sink old.out.now old.pen))
  says_lines old (event ∷ events) new (next, line, lines) =
      let others = subst
      (λ (stack : Stack). Says sink next.out.now next.pen new.out.now new.pen (event_lines stack events))
      line.stack (says_lines next events new lines) in
      subst (Says sink old.out.now old.pen new.out.now new.pen) (more_lines old.stack.now event events)
      (says_then line.says others)

  -- and then ends: its lines are written, to the sink that it was lent, which is x behind it
  pub writes_lines : {E : Type 0} (old : Trace K) (events : List Event) (mid new : Trace K) (x : K) (result : Result Unit E) → old.pen ≡ emptied false
      → HandsOn (WritesLine sink) old events mid → new.out.ghost_name ≡ mid.out.ghost_name
      → Says sink mid.out.now mid.pen new.out.now new.pen [] → new.pen.pending ≡ []
      → MatchResult result (λ _. new.pen.failed ≡ false) (λ _. new.pen.failed ≡ true) → (old.out.ghost_name ≡ new.out.ghost_name → x ≡ new.out.now)
      → Writes sink old.out.now x result (event_lines old.stack.now events)
  writes_lines {E} old events mid new x result fresh handed same ended none going last =
      let end : x ≡ new.out.now = last (sym (same ∙ keeps_reference old events mid handed)) in
      subst (λ k. Writes sink old.out.now k result (event_lines old.stack.now events)) (sym end)
      (finished result fresh (says_lines old events mid handed) ended none going)

-- nothing to write is written
pub nothing_written : {K E : Type 0} (sink : SinkGhosts K) (a : K)
    → Writes {T = Unit {0}} {E = E} sink a a (Ok tt) []
nothing_written sink a = record {
  whole = Appends-nil (sink.held a);
  front = _;
  stops = (a, refl, Keeps-refl (sink.held a));
  cause = record { later = omega arith; failed = _; quiet = refl };
}

-- one text was written, and behind it another, if that could be
pub writes_then : {K E : Type 0} {sink : SinkGhosts K} {a b c : K} (x y : List ℕ) (first second : Result Unit E)
    → Writes sink a b first x → OnOk first (Writes sink b c second y) → OnErr first (IsErr second × (c ≡ b))
    → Writes sink a c second (x ++ y)
writes_then {sink = sink} {a} {b} {c} x y (Ok done) (Ok all) wrote then other = record {
  whole = Appends-trans (sink.held a) (sink.held b) (sink.held c) x y wrote.whole then.whole;
  front = _;
  stops = let last = then.stops in (last.0, last.1 ∙ wrote.cause.quiet, last.2);
  cause = record { later = omega (arith, wrote.cause.later, then.cause.later); failed = _; quiet = then.cause.quiet ∙ wrote.cause.quiet };
}
writes_then {sink = sink} {a} {b} {c} x y (Ok done) (Err fault) wrote then other = record {
  whole = _;
  front = appends_front (sink.held a) (sink.held b) (sink.held c) x y wrote.whole then.front;
  stops = let last = then.stops in (last.0, last.1 ∙ wrote.cause.quiet, last.2);
  cause = record {
    later = omega (arith, wrote.cause.later, then.cause.later);
    failed = subst (λ n. Rose n (sink.faults c)) wrote.cause.quiet then.cause.failed;
    quiet = _;
  };
}
writes_then {E = E} {sink} {a} {b} {c} x y (Err fault) (Err again) wrote then other =
    let front : Writes {T = Unit} {E = E} sink a b (Err again) (x ++ y) = record {
      whole = _;
      front = front_longer (sink.held a) (sink.held b) x y wrote.front;
      stops = wrote.stops;
      cause = record { later = wrote.cause.later; failed = wrote.cause.failed; quiet = _ };
    } in
    subst (λ new. Writes {T = Unit} {E = E} sink a new (Err again) (x ++ y)) (sym other.1) front
writes_then x y (Err fault) (Ok all) wrote then other = absurd (true≢false (sym other.0))
