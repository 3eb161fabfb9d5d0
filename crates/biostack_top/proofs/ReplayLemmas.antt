-- What is told of the lines of events behind a scenario.
use Rattle.std.proofs.Common.{◌≡◌, ◌≤◌, ℕ, Bool, true, false, true≢false, List, length, Option, None, Some, refl, sym, ap, ◌∙◌, subst, arith, length-append}
use Rattle.std.specs.Prelude.{if◌then◌else◌, is_none, is_some, map, not, nat_lt, IfOk, Result, Ok, Err}
use Rattle.std.proofs.lemmas.Bool.{le-ltb}
use Rattle.decl_text.specs.Text.{lines, most_bytes}
use Rattle.decl_text.specs.Known.{nothing_declared}
use Rattle.decl_text.specs.Refusals.{refusal, refused}
use Rattle.decl_text.specs.declared.accepted.Accepted.{Accepted}
use Rattle.decl_text.specs.declared.reason.Reason.TheVariants.{TooLong}
use Rattle.work_text.specs.Work.{checks_by}
use Rattle.work_text.specs.Whole.{text_refusal_by}
use Rattle.work_text.specs.declared.Work.{Work}
use Rattle.run_machine.specs.ReadBehind.{IsReadBehind}
use Rattle.run_machine.specs.Scenario.{scenario_of}
use Rattle.block_core.specs.Runnable.{IsRunnable}
use Rattle.block_core.proofs.claim.Runnable.{accepted_texts_are_runnable}
use Rattle.plain_core.specs.Cores.{CoreState, scene_of_core, state_of_core}
use Rattle.plain_core.specs.opening.Opening.{IsOpenedCore}
use Rattle.report_text.specs.Pools.{told_pools}
use Rattle.trace_text.specs.Names.{DevicesAreNamed}
use Rattle.trace_replay.specs.Answer.{replay_text}
use Rattle.trace_replay.specs.Lines.{told_in}
use Rattle.trace_replay.specs.Exact.{IsReplayOf, NoneIsStuck, RunsHaveNoBadLine}
use Rattle.trace_replay.specs.Parts.{AreTextParts}
use Rattle.trace_replay.specs.Replay.{IsReplay}
use Rattle.trace_replay.specs.declared.extents.Extent.{Extent}
use Rattle.trace_replay.specs.declared.walk.Replayed.{Replayed}
use Rattle.trace_replay.proofs.Exact.{from_start}
use Rattle.biostack_words.specs.declared.order.Order.TheVariants.{Replay}
use Rattle.biostack_top.specs.declared.ending.Ending.{Ending}
use Rattle.biostack_top.specs.Ending.{EndsWritten, IsOutputOf, TextEndsBy, refusal_for}
use Rattle.biostack_top.specs.Replaying.{ComeTo, TellsReplay, replay_refusal}
use Rattle.biostack_top.specs.Scene.{SaysBy}
use Rattle.biostack_top.specs.Streams.{SinkStream}
use Rattle.biostack_top.proofs.ServeLemmas.{ends_written}

-- a text that is not too long is refused, or is not, as its lines are
pub not_long : {X : Type 0} (n : ℕ) (long short : X) → n ≤ most_bytes → (if nat_lt most_bytes n then long else short) ≡ short
not_long n long short few = ap (λ b. if b then long else short) (le-ltb most_bytes n few)

-- the scenario of a text is refused as the text is, where that is not too long
refused_before : (text scenario events : List ℕ) (first : ℕ) → AreTextParts text scenario events first → length text ≤ most_bytes
    → replay_refusal text ≡ text_refusal_by true scenario
refused_before text scenario events first parts few =
    let shorter : length scenario ≤ most_bytes = omega (arith, few, length-append scenario events, ap length parts.joined) in
    not_long (length text) (Some (refused 0 TooLong)) (refusal (checks_by true) nothing_declared 1 _) few
    ∙ ap (refusal (checks_by true) nothing_declared 1) (sym parts.scenario_is)
    ∙ sym (not_long (length scenario) (Some (refused 0 TooLong)) (refusal (checks_by true) nothing_declared 1 (lines scenario)) shorter)

-- what the loose checks let pass can be run
pub read_loosely : (text : List ℕ) (accepted : Accepted) (work : Work) → SaysBy true text accepted work → IsReadBehind accepted work
read_loosely text accepted work says = record { text = text; begins = says.begins; reads = says.reads; served = says.served }

runs : (accepted : Accepted) (work : Work) → IsReadBehind accepted work → IsRunnable (scenario_of accepted work)
runs accepted work read = (accepted_texts_are_runnable accepted work read).0

is_none_of : (bad : Option ℕ) → is_none bad ≡ true → bad ≡ None
is_none_of None none = refl
is_none_of (Some line) none = absurd cc

-- there is a bad line or there is none
pub none_is : (bad : Option ℕ) (none : Bool) → is_some bad ≡ not none → is_none bad ≡ none
none_is None true is = refl
none_is None false is = absurd (true≢false (sym is))
none_is (Some line) true is = absurd (true≢false is)
none_is (Some line) false is = refl

pub comes_to : (text : List ℕ) (accepted : Accepted) (work : Work) (told : List (ℕ × List ℕ)) (replayed : Replayed) → SaysBy true text accepted work
    → DevicesAreNamed accepted.stack → RunsHaveNoBadLine → NoneIsStuck → IsReplayOf (scenario_of accepted work) told replayed
    → map (λ extent. extent.pool) replayed.extents.items ≡ told_pools accepted.stack → ComeTo accepted work told replayed
comes_to text accepted work told replayed says named exact never is pools =
    let s = scenario_of accepted work in
    record {
      replay = is;
      exact = (
        λ none. exact.good s told replayed is (is_none_of replayed.bad none),
        λ tells. ap is_none (exact.run s told replayed named is tells),
      );
      helped = λ rescuers stuck. never s told replayed (runs accepted work (read_loosely text accepted work says)) rescuers is stuck;
      pools = pools;
    }

-- the same of what a replay from an opened core answers, if it is one
pub comes_if_ok : {E : Type 0} (result : Result Replayed E) (text : List ℕ) (accepted : Accepted) (work : Work) (told : List (ℕ × List ℕ)) (core : CoreState)
    → SaysBy true text accepted work → DevicesAreNamed accepted.stack → RunsHaveNoBadLine → NoneIsStuck → IsOpenedCore (scenario_of accepted work) core
    → IfOk result (IsReplay (scene_of_core core) accepted.stack (state_of_core core) told)
    → IfOk result (λ (replayed : Replayed). map (λ (extent : Extent). extent.pool) replayed.extents.items ≡ told_pools accepted.stack)
    → IfOk result (ComeTo accepted work told)
comes_if_ok (Ok replayed) text accepted work told core says named exact never opened is pools =
    comes_to text accepted work told replayed says named exact never (from_start (scenario_of accepted work) core told replayed opened is) pools
comes_if_ok (Err fault) text accepted work told core says named exact never opened is pools = tt

-- what is told of a text
tells_replay : (text scenario events : List ℕ) (first : ℕ) (accepted : Accepted) (work : Work) (replayed : Replayed) → AreTextParts text scenario events first
    → SaysBy true scenario accepted work → ComeTo accepted work (told_in first events) replayed
    → TellsReplay text (replay_text accepted.stack replayed) (is_none replayed.bad)
tells_replay text scenario events first accepted work replayed parts says come = record {
  scenario = scenario;
  before = parts.scenario_is;
  accepted = accepted;
  work = work;
  says = says;
  replayed = replayed;
  come = subst (λ (told : List (ℕ × List ℕ)). ComeTo accepted work told replayed) parts.told come;
  told_is = refl;
  well_is = refl;
}

-- and it ends the call by how it was written
pub replay_ends : {text scenario events : List ℕ} {first : ℕ} {accepted : Accepted} {work : Work} {replayed : Replayed} {K : Type 0} (out : SinkStream K)
    → AreTextParts text scenario events first → length text ≤ most_bytes → SaysBy true scenario accepted work → ComeTo accepted work (told_in first events) replayed
    → (ending : Ending) → EndsWritten ending (replay_text accepted.stack replayed) (is_none replayed.bad) out → TextEndsBy ending Replay text out
replay_ends {text} {scenario} {events} {first} {accepted} {work} {replayed} out parts few says come ending =
    ends_written ending (refusal_for Replay text) (IsOutputOf Replay text) (replay_text accepted.stack replayed) (is_none replayed.bad) out
    (refused_before text scenario events first parts few ∙ says.fine) (tells_replay text scenario events first accepted work replayed parts says come)
