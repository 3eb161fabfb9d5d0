-- What a text means that is not refused can be run.
use Rattle.std.proofs.Common.{◌≡◌, ◌-◌, ◌<◌, ◌≤◌, max, ℕ, suc, List, [], ◌∷◌, length, get_or, refl, ap, arith}
use Rattle.std.specs.Prelude.{All, Bool, Contains, fold}
use Rattle.std.specs.List.{AllPairs}
use Rattle.std.proofs.lemmas.List.{length-map}
use Rattle.std.proofs.lemmas.List.Elements.{All-contains_itself, All-from_get_or, All-map, All-weaker}
use Rattle.stack_base.specs.declared.stack.Kind.{Kind}
use Rattle.stack_base.specs.declared.stack.Kind.TheVariants.{Disk, Linear, Stripe, Zoned, Limit, Mirror}
use Rattle.stack_base.specs.declared.stack.Stack.{Stack}
use Rattle.stack_base.specs.Stack.{IsStack}
use Rattle.stack_base.specs.Tree.{tree}
use Rattle.layout_model.specs.declared.write.Write.{Write}
use Rattle.layout_model.specs.NeedCounts.{elements, write_fragments}
use Rattle.layout_model.specs.Writes.{IsWrite}
use Rattle.layout_model.proofs.AtMost.{fragments_le_needed}
use Rattle.layout_model.proofs.PlanLaws.{trees_are_sound}
use Rattle.decl_text.specs.Accepting.{what_of_kind}
use Rattle.decl_text.specs.Fit.{HasReserves as FitReserves, IsReserve}
use Rattle.decl_text.proofs.FewEntries.{entries_few}
use Rattle.decl_text.proofs.DeclarationsFit.{accepted_fit}
use Rattle.work_text.specs.Work.{last_round}
use Rattle.work_text.specs.declared.Resize.{Resize}
use Rattle.work_text.proofs.WorkFits.{work_is_fit}
use Rattle.run_machine.specs.Opened.{Change}
use Rattle.run_machine.specs.Scenario.{change_of}
use Rattle.block_core.specs.Runnable.{AcceptedTextsAreRunnable, StepsFitIn24Bits}
use Rattle.block_core.specs.Scenarios.{KeepsSome, AreSorted}
use Rattle.block_core.proofs.images.PlannedOnce.{all_le}

-- rounds that do not fall, pair by pair, are in order
in_order : (rounds : List ℕ) → AllPairs (λ round later. round ≤ later) rounds → AreSorted rounds
in_order [] pairs = tt
in_order (round ∷ rounds) pairs = (
  All-from_get_or (λ later. round ≤ later) rounds 0 (λ i lt. pairs 0 (suc i) 0 (omega arith) (omega (arith, lt))),
  in_order rounds (λ i j d lt within. pairs (suc i) (suc j) d (omega (arith, lt)) (omega (arith, within))),
)

-- the last of them is the largest
last_of_more : (round next : ℕ) (rounds : List ℕ) → last_round (round ∷ next ∷ rounds) ≡ last_round (next ∷ rounds)
last_of_more round next rounds =
    let same : length (round ∷ next ∷ rounds) - 1 ≡ suc (length (next ∷ rounds) - 1) = omega arith in
    ap (λ k. get_or (round ∷ next ∷ rounds) k 0) same

last_above : (round : ℕ) (rounds : List ℕ) → All (λ later. round ≤ later) rounds → 1 ≤ length rounds → round ≤ last_round rounds
last_above round rounds all some = all (length rounds - 1) 0 (omega (arith, some))

largest : (start : ℕ) (rounds : List ℕ) → AreSorted rounds → fold max start rounds ≡ max start (last_round rounds)
largest start [] ordered = omega arith
largest start (round ∷ []) ordered = refl
largest start (round ∷ next ∷ rounds) ordered =
    let above = last_above round (next ∷ rounds) ordered.0 (omega arith) in
    omega (arith, above, largest (max start round) (next ∷ rounds) ordered.1, last_of_more round next rounds)

-- the reserves of a device
keeps_some : (kind : Kind) (reserve : ℕ) (rescuer : Bool) → FitReserves (what_of_kind kind) reserve rescuer → KeepsSome kind reserve
keeps_some (Disk sectors bad) reserve rescuer fit = tt
keeps_some Linear reserve rescuer fit = fit.0
keeps_some (Stripe chunk) reserve rescuer fit = fit.0
keeps_some (Zoned chunk) reserve rescuer fit = fit.0
keeps_some (Limit longest chunk) reserve rescuer fit = fit.0
keeps_some (Mirror records) reserve rescuer fit = (fit.1.0, fit.0.0)

pub accepted_texts_are_runnable : AcceptedTextsAreRunnable
accepted_texts_are_runnable accepted work read =
    let stack = accepted.stack in
    let is = read.reads.1 in
    let fit = work_is_fit read.text accepted work read.begins read.reads in
    let kept = accepted_fit accepted in
    let ordered = in_order work.rounds.items fit.order in
    let entries = entries_few stack accepted.scripts.items accepted.is_stack accepted.declared in
    let rounds : fold max 0 work.rounds.items ≡ last_round work.rounds.items = omega (arith, largest 0 work.rounds.items ordered) in
    let changes = length-map work.resizes.items change_of in
    let bound = is.bound in (
      record {
        scenario = record {
          stack = accepted.is_stack;
          writes = All-weaker (Contains work.writes.items) (IsWrite stack) read.served work.writes.items (All-contains_itself work.writes.items);
          writers = All-weaker (λ (write : Write). write.task ≤ 7) (λ (write : Write). write.task < 8) (λ write le. omega (arith, le)) work.writes.items fit.writers;
          rounds = fit.paired;
        };
        allowed = bound.allowed;
        reserves = record {
          bios = kept.fs_bios.0;
          vecs = kept.fs_vecs.0;
          devices = λ number device found. keeps_some device.kind device.reserve device.rescuer (kept.devices number device found).reserves;
          changes = All-map (λ (change : Change). 1 ≤ change.min) change_of work.resizes.items
              (All-weaker (λ (resize : Resize). IsReserve resize.min) (λ (resize : Resize). 1 ≤ resize.min) (λ resize reserve. reserve.0) work.resizes.items fit.reserves);
        };
        ordered = ordered;
        apart = fit.apart;
        few = omega (arith, entries, rounds, changes, fit.last, fit.few);
      },
      omega (arith, bound.elements, bound.fragments, bound.entries, rounds, changes),
    )

-- a write has no more fragments than it needs elements
parts_few : (stack : Stack) → IsStack stack → (write : Write) → IsWrite stack write → write_fragments stack write ≤ elements stack write
parts_few stack good write is =
    let t = tree stack write.dev.0 in
    let known = is.known in
    let some = is.some in
    omega (arith, fragments_le_needed t write.start write.count (trees_are_sound stack write.dev.0 good known) (omega (arith, some)))

pub steps_fit_in_24_bits : StepsFitIn24Bits
steps_fit_in_24_bits s runnable =
    let good = runnable.scenario in
    let allowed = runnable.allowed in
    let few = runnable.few in
    omega (arith, allowed, few, all_le (IsWrite s.stack) (write_fragments s.stack) (elements s.stack) s.writes (parts_few s.stack good.stack) good.writes)
