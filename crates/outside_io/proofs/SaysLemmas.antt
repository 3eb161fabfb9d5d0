-- What several texts that one pen is told are together, and what is written once it has ended.
use Rattle.std.proofs.Common.{◌≡◌, ◌∙◌, ℕ, ◌+◌, ◌<◌, ◌⊎◌, Bool, true, false, List, [], ◌∷◌, ◌++◌, length, take, drop, get_or, refl, sym, ap, subst, arith, inl, inr, length-append}
use Rattle.std.proofs.lemmas.List.{take_all, take_more, append-nil, append_assoc}
use Rattle.std.proofs.lemmas.List.Concat.{flat_map-append}
use Rattle.std.proofs.Math.Seq.{take-add}
use Rattle.std.specs.List.{flat_map}
use Rattle.std.proofs.lemmas.Bool.{false≢true}
use Rattle.std.specs.Prelude.{Result, Ok, Err, MatchResult, is_err}
use Rattle.std.specs.Io.KnownBytes.{Appends, Keeps}
use Rattle.std.proofs.KnownBytes.{Appends-nil, Appends-trans, Keeps-refl}
use Rattle.outside_io.specs.Causes.{Rose}
use Rattle.outside_io.specs.declared.sink.Sink.{Ghosts as SinkGhosts}
use Rattle.outside_io.specs.Saying.{PenState, emptied, AppendsFront, Says, StopsAtFault, Writes}
use Rattle.outside_io.proofs.PutLemmas.{appends_front, front_longer}

-- a text with nothing behind it, to its end
take_front : (text : List ℕ) → take (length text) (text ++ []) ≡ text
take_front text = ap (take (length text)) (append-nil text) ∙ take_all (length text) text (omega arith)

-- a text, and then another, is the two together
pub says_then : {K : Type 0} {sink : SinkGhosts K} {a b c : K} {was mid is : PenState} {x y : List ℕ}
    → Says sink a was b mid x → Says sink b mid c is y → Says sink a was c is (x ++ y)
says_then {K} {sink} {a} {b} {c} {was} {mid} {is} {x} {y} first second = record {
  stays = λ w. let kept = first.stays w in let last = second.stays kept.1 in (last.0 ∙ kept.0, last.1);
  whole = λ done. let last = second.whole done in let before = first.whole last.0 in let head = before.1 in let tail = last.1 in (
    before.0,
    (
      head.0 ++ tail.0,
      Appends-trans (sink.held a) (sink.held b) (sink.held c) head.0 tail.0 head.1 tail.1,
      sym (append_assoc was.pending x y) ∙ ap (λ xs. xs ++ y) head.2 ∙ append_assoc head.0 mid.pending y
          ∙ ap (λ xs. head.0 ++ xs) tail.2 ∙ sym (append_assoc head.0 tail.0 is.pending),
    ),
  );
  front = λ w. front_of mid.failed refl w;
  stops = stops_of mid.failed refl;
  quiet = λ done. let last = second.whole done in second.quiet done ∙ first.quiet last.0;
  cause = λ failed. cause_of (second.cause failed);
  later = omega (arith, first.later, second.later);
} where
  front_of : (m : Bool) → mid.failed ≡ m → was.failed ≡ false → AppendsFront (sink.held a) (sink.held c) (was.pending ++ (x ++ y))
  front_of true silent w =
      subst (λ new. AppendsFront (sink.held a) (sink.held new) (was.pending ++ (x ++ y))) (sym (second.stays silent).0)
      (subst (AppendsFront (sink.held a) (sink.held b)) (append_assoc was.pending x y) (front_longer (sink.held a) (sink.held b) (was.pending ++ x) y (first.front w)))
  front_of false going w =
      let taken = (first.whole going).1 in
      subst (AppendsFront (sink.held a) (sink.held c)) (sym (append_assoc taken.0 mid.pending y) ∙ ap (λ xs. xs ++ y) (sym taken.2) ∙ append_assoc was.pending x y)
      (appends_front (sink.held a) (sink.held b) (sink.held c) taken.0 (mid.pending ++ y) taken.1 (second.front going))

  stops_of : (m : Bool) → mid.failed ≡ m → StopsAtFault sink a c
  stops_of true silent =
      let last = first.stops in (last.0, last.1, subst (λ new. Keeps (sink.held last.0) (sink.held new)) (sym (second.stays silent).0) last.2)
  stops_of false going = let last = second.stops in (last.0, last.1 ∙ first.quiet going, last.2)

  cause_of : (mid.failed ≡ true) ⊎ Rose (sink.faults b) (sink.faults c) → (was.failed ≡ true) ⊎ Rose (sink.faults a) (sink.faults c)
  cause_of (inl silent) = elim (first.cause silent) [ inl w ↦ inl w | inr rose ↦ inr (omega (arith, rose, second.later)) ]
  cause_of (inr rose) = inr (omega (arith, rose, first.later))

-- what a pen takes into its buffer is told, and the sink is as it was
pub says_kept : {K : Type 0} (sink : SinkGhosts K) (a : K) (was is : PenState) (x : List ℕ) → is.failed ≡ was.failed
    → is.pending ≡ was.pending ++ x → Says sink a was a is x
says_kept sink a was is x same pending = record {
  stays = λ w. (refl, same ∙ w);
  whole = λ done. (sym same ∙ done, ([], Appends-nil (sink.held a), sym pending));
  front = λ w. (0, omega arith, Appends-nil (sink.held a));
  stops = (a, refl, Keeps-refl (sink.held a));
  quiet = λ done. refl;
  cause = λ failed. inl (sym same ∙ failed);
  later = omega arith;
}

-- all that was pending was put, or a front of it where the sink failed
pub says_put : {K T E : Type 0} {sink : SinkGhosts K} {a b : K} {was is : PenState} (result : Result T E) → was.failed ≡ false
    → is.failed ≡ is_err result → is.pending ≡ [] → Writes sink a b result was.pending → Says sink a was b is []
says_put {sink = sink} {a} {b} {was} {is} (Ok done) fine going none wrote = record {
  stays = λ w. absurd (false≢true (sym fine ∙ w));
  whole = λ _. (fine, (was.pending, wrote.whole, append-nil was.pending ∙ sym (append-nil was.pending) ∙ ap (λ xs. was.pending ++ xs) (sym none)));
  front = λ _. (length was.pending, omega (arith, length-append was.pending []), subst (Appends (sink.held a) (sink.held b)) (sym (take_front was.pending)) wrote.whole);
  stops = wrote.stops;
  quiet = λ _. wrote.cause.quiet;
  cause = λ failed. absurd (false≢true (sym going ∙ failed));
  later = wrote.cause.later;
}
says_put {sink = sink} {a} {b} {was} {is} (Err fault) fine failed none wrote = record {
  stays = λ w. absurd (false≢true (sym fine ∙ w));
  whole = λ going. absurd (false≢true (sym going ∙ failed));
  front = λ _. subst (AppendsFront (sink.held a) (sink.held b)) (sym (append-nil was.pending)) wrote.front;
  stops = wrote.stops;
  quiet = λ going. absurd (false≢true (sym going ∙ failed));
  cause = λ _. inr wrote.cause.failed;
  later = wrote.cause.later;
}

-- a pen that has failed drops what is pending
pub says_dropped : {K : Type 0} {sink : SinkGhosts K} {a : K} {was is : PenState} → was.failed ≡ true → is.failed ≡ true
    → Says sink a was a is []
says_dropped {sink = sink} {a} {was} {is} fails failed = record {
  stays = λ _. (refl, failed);
  whole = λ going. absurd (false≢true (sym going ∙ failed));
  front = λ w. absurd (false≢true (sym w ∙ fails));
  stops = (a, refl, Keeps-refl (sink.held a));
  quiet = λ _. refl;
  cause = λ _. inl fails;
  later = omega arith;
}

-- where nothing is said, all stays as it is
pub says_silence : {K : Type 0} (sink : SinkGhosts K) (a : K) (was : PenState) → Says sink a was a was []
says_silence sink a was = says_kept sink a was was [] refl (sym (append-nil was.pending))

-- more of a text: what stands before a place, and then the next bytes
pub says_next : {K : Type 0} {sink : SinkGhosts K} {a b c : K} {was mid is : PenState} (text : List ℕ) (at n : ℕ)
    → Says sink a was b mid (take at text) → Says sink b mid c is (take n (drop at text))
    → Says sink a was c is (take (at + n) text)
says_next {sink = sink} {a} {c = c} {was} {is = is} text at n first second =
    subst (Says sink a was c is) (sym (take-add at n text)) (says_then first second)

-- a pen that began without a fault has one only where the count rose
pub says_cause : {K : Type 0} {sink : SinkGhosts K} {a b : K} {is : PenState} {x : List ℕ}
    → Says sink a (emptied false) b is x → is.failed ≡ true → Rose (sink.faults a) (sink.faults b)
says_cause said failed = elim (said.cause failed) [ inl no_fault ↦ absurd (false≢true no_fault) | inr rose ↦ rose ]

-- the texts of the elements before the one at i, and then that of this one
pub says_more : {X K : Type 0} {sink : SinkGhosts K} {a b c : K} {was mid is : PenState} (text : X → List ℕ) (xs : List X) (i : ℕ) (d : X)
    → i < length xs → Says sink a was b mid (flat_map text (take i xs)) → Says sink b mid c is (text (get_or xs i d))
    → Says sink a was c is (flat_map text (take (i + 1) xs))
says_more {sink = sink} {a} {c = c} {was} {is = is} text xs i d lt before here =
    let front = flat_map text (take i xs) in
    let joined = ap (flat_map text) (take_more xs i d lt) ∙ flat_map-append text (take i xs) (get_or xs i d ∷ []) ∙ ap (λ rest. front ++ rest) (append-nil (text (get_or xs i d))) in
    subst (Says sink a was c is) (sym joined) (says_then before here)

-- a new pen was told a text, and then ended it: the text is written
pub finished : {K E : Type 0} {sink : SinkGhosts K} {a b c : K} {was mid is : PenState} {x : List ℕ} (result : Result Unit E)
    → was ≡ emptied false → Says sink a was b mid x → Says sink b mid c is [] → is.pending ≡ []
    → MatchResult result (λ _. is.failed ≡ false) (λ _. is.failed ≡ true) → Writes sink a c result x
finished {sink = sink} {a} {b} {c} {mid = mid} {is} {x} (Ok done) new said ended none going =
    let all = says_then (subst (λ w. Says sink a w b mid x) new said) ended in
    let taken = (all.whole going).1 in
    record {
      whole = subst (Appends (sink.held a) (sink.held c)) (sym (append-nil taken.0) ∙ ap (λ xs. taken.0 ++ xs) (sym none) ∙ sym taken.2 ∙ append-nil x) taken.1;
      front = _;
      stops = all.stops;
      cause = record { later = all.later; failed = _; quiet = all.quiet going };
    }
finished {sink = sink} {a} {b} {c} {mid = mid} {is} {x} (Err fault) new said ended none silent =
    let all = says_then (subst (λ w. Says sink a w b mid x) new said) ended in record {
      whole = _;
      front = subst (AppendsFront (sink.held a) (sink.held c)) (append-nil x) (all.front refl);
      stops = all.stops;
      cause = record { later = all.later; failed = says_cause all silent; quiet = _ };
    }
