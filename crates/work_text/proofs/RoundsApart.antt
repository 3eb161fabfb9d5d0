-- Writes of one round lie apart.
use Rattle.std.proofs.Common.{◌≡◌, ℕ, zero, suc, ◌==◌, ◌<◌, Bool, true, false, cond, List, [], ◌∷◌, ◌++◌, length, get_or, Option, None, Some, refl, sym, ap, ◌∙◌, arith}
use Rattle.std.specs.Prelude.{slice_get}
use Rattle.std.specs.List.{list_any}
use Rattle.std.proofs.lemmas.Bool.{eq-eqb, or_parts}
use Rattle.std.proofs.lemmas.List.{get_or_append_left, get_or_push, length_push}
use Rattle.std.proofs.lemmas.Option.{same_Some}
use Rattle.stack_base.specs.declared.stack.Stack.{Stack}
use Rattle.decl_text.specs.Text.{words}
use Rattle.decl_text.specs.Items.{said}
use Rattle.decl_text.specs.Known.{Declarations, Written, after_line, number_in, present}
use Rattle.decl_text.specs.Checks.{overlap, shares}
use Rattle.decl_text.specs.Refusals.{check, said_reason}
use Rattle.decl_text.specs.declared.item.Item.{Item}
use Rattle.decl_text.specs.declared.item.Item.TheVariants as item
use Rattle.decl_text.specs.declared.reason.Reason.TheVariants as reason
use Rattle.decl_text.proofs.DeclarationsFit.{Pushed, before, last, pushed}
use Rattle.decl_text.proofs.Unrefused.{finds_nothing, kept_behind, line_passes}
use Rattle.work_text.specs.Work.{all_checks, known_of}
use Rattle.work_text.specs.Whole.{RoundsAreApart}
use Rattle.work_text.proofs.Rounds.{of_round, first_of_round}

-- what no element of a round has, the one at this place has not
not_by : {X : Type 0} (b : Bool) (p : X → Bool) (x : X) (xs : List X) → b ≡ true → list_any p (cond b (x ∷ xs) xs) ≡ false → p x ≡ false
not_by true p x xs is none = (or_parts (p x) (list_any p xs) none).0
not_by false p x xs is none = absurd (cc)

rest_by : {X : Type 0} (b : Bool) (p : X → Bool) (x : X) (xs : List X) → list_any p (cond b (x ∷ xs) xs) ≡ false → list_any p xs ≡ false
rest_by true p x xs none = (or_parts (p x) (list_any p xs) none).1
rest_by false p x xs none = none

not_in_round : {X : Type 0} (p : X → Bool) (n : ℕ) (xs : List X) (rounds : List ℕ) (i : ℕ) (x : X) → i < length rounds → slice_get xs i ≡ Some x → get_or rounds i 0 ≡ n
    → list_any p (of_round n xs rounds) ≡ false → p x ≡ false
not_in_round p n [] rounds i x lt found is none = absurd (grind arith)
not_in_round p n (y ∷ xs) [] i x lt found is none = absurd (omega (arith, lt))
not_in_round p n (y ∷ xs) (r ∷ rounds) zero x lt found is none =
    ap p (sym (same_Some y x found))
    ∙ not_by (r == n) p y (of_round n xs rounds) (eq-eqb r n is) (ap (list_any p) (sym (first_of_round n r y xs rounds)) ∙ none)
not_in_round p n (y ∷ xs) (r ∷ rounds) (suc i) x lt found is none =
    not_in_round p n xs rounds i x (omega (arith, lt)) found is
    (rest_by (r == n) p y (of_round n xs rounds) (ap (list_any p) (sym (first_of_round n r y xs rounds)) ∙ none))

record HasRoundsApart (known : Declarations) : Type 0 where
  paired : length known.rounds ≡ length known.writes
  apart : (i j : ℕ) (one other : Written) → i < j → slice_get known.writes i ≡ Some one → slice_get known.writes j ≡ Some other
      → get_or known.rounds i 0 ≡ get_or known.rounds j 0 → shares other.dev other.start other.count one ≡ false

apart_by : (known : Declarations) (w : Written) (i j : ℕ) (one other : Written) → HasRoundsApart known → list_any (shares w.dev w.start w.count) (present known) ≡ false → i < j
    → Pushed known.writes w one i → Pushed known.writes w other j → get_or (known.rounds ++ known.syncs ∷ []) i 0 ≡ get_or (known.rounds ++ known.syncs ∷ []) j 0
    → shares other.dev other.start other.count one ≡ false
apart_by known w i j one other are free lt (before found il) (before also jl) same =
    are.apart i j one other lt found also
    (sym (get_or_append_left known.rounds (known.syncs ∷ []) 0 i (omega (arith, il, are.paired))) ∙ same ∙ get_or_append_left known.rounds (known.syncs ∷ []) 0 j (omega (arith, jl, are.paired)))
apart_by known w i j one other are free lt (before found il) (last at is) same =
    ap (λ (o : Written). shares o.dev o.start o.count one) (sym is)
    ∙ not_in_round (shares w.dev w.start w.count) known.syncs known.writes known.rounds i one (omega (arith, il, are.paired)) found
    (sym (get_or_append_left known.rounds (known.syncs ∷ []) 0 i (omega (arith, il, are.paired))) ∙ same
    ∙ get_or_push known.rounds known.syncs 0 j (omega (arith, at, are.paired)))
    free
apart_by known w i j one other are free lt (last at is) (before also jl) same = absurd (omega (arith, at, jl, lt))
apart_by known w i j one other are free lt (last at is) (last also here) same = absurd (omega (arith, at, also, lt))

after_apart : (known : Declarations) (o : Option Item) → said_reason all_checks known o ≡ None → HasRoundsApart known → HasRoundsApart (after_line known o)
after_apart known None none are = are
after_apart known (Some (item.Write task dev range tag)) none are =
    let w : Written = record { task = task; dev = number_in known.devices dev; start = range.start; count = range.len; tag = tag } in
    let free : overlap known (item.Write task dev range tag) ≡ false = finds_nothing all_checks known (item.Write task dev range tag) 10 (check reason.Overlap overlap) none refl in
    record {
      paired = omega (arith, are.paired, length_push known.rounds known.syncs, length_push known.writes w);
      apart = λ i j one other lt found also same. apart_by known w i j one other are free lt (pushed known.writes w one i found) (pushed known.writes w other j also) same;
    }
after_apart known (Some (item.Device name does members reserve rescuer)) none are = record { paired = are.paired; apart = are.apart }
after_apart known (Some (item.Bad disk range kind)) none are = record { paired = are.paired; apart = are.apart }
after_apart known (Some (item.Fs bios vecs)) none are = record { paired = are.paired; apart = are.apart }
after_apart known (Some (item.Script pool script)) none are = record { paired = are.paired; apart = are.apart }
after_apart known (Some item.NoMemory) none are = record { paired = are.paired; apart = are.apart }
after_apart known (Some item.Sync) none are = record { paired = are.paired; apart = are.apart }
after_apart known (Some (item.Resize pool min)) none are = record { paired = are.paired; apart = are.apart }

nothing_apart : (stack : Stack) → HasRoundsApart (known_of stack)
nothing_apart stack = record { paired = refl; apart = λ i j one other lt found also same. absurd (grind arith) }

pub rounds_apart : RoundsAreApart
rounds_apart stack number all i j one other none lt found also same =
    (kept_behind all_checks HasRoundsApart (λ known line fine are. after_apart known (said (words line)) (line_passes all_checks known line fine).1 are) (known_of stack) number all none (nothing_apart stack)).apart
    i j one other lt found also same
