-- Lists of entries in two parts.
use Rattle.std.proofs.Common.{◌≡◌, ◌<◌, ◌++◌, ℕ, List, [], ◌∷◌, refl, ap, arith}
use Rattle.std.specs.Prelude.{All}
use Rattle.std.proofs.lemmas.Bool.{true≢false}
use Rattle.std.proofs.lemmas.List.Elements.{All-head, All-tail}
use Rattle.stack_base.proofs.ListLemmas.{first_or, behind_first}
use Rattle.elem_ledger.specs.Ledger.{LedgerId}
use Rattle.run_machine.specs.Laws.{Object}
use Rattle.run_machine.specs.Scene.{Setup}
use Rattle.run_machine.specs.Tasks.{TaskState, answered}
use Rattle.run_merge.specs.Entries.{Entry}
use Rattle.run_merge.specs.Machines.{LeadsObject}
use Rattle.run_merge.specs.Merging.{Ticketed, without_tickets}
use Rattle.run_merge.specs.ObjectsByName.{StateAt}
use Rattle.run_merge.specs.Products.{EntriesLead, task_behind_entries}
use Rattle.run_merge.proofs.Fronts.{is_none}
use Rattle.run_merge.proofs.merging.TicketOrder.{Ordered}

-- where they lead an object and a task
pub object_split : (ledger : ℕ → LedgerId) (name : Object) (xs ys : List Entry) (old new : StateAt name) → LeadsObject ledger name old (xs ++ ys) new
    → (mid : StateAt name) × LeadsObject ledger name old xs mid × LeadsObject ledger name mid ys new
object_split ledger name [] ys old new l = (old, refl, l)
object_split ledger name (x ∷ xs) ys old new l = let r = object_split ledger name xs ys l.0 new l.2 in (r.0, (l.0, l.1, r.1), r.2)

pub task_split : (setup : Setup) (xs ys : List Entry) (old new : TaskState) → EntriesLead setup old (xs ++ ys) new
    → EntriesLead setup old xs (task_behind_entries setup old xs) × EntriesLead setup (task_behind_entries setup old xs) ys new
task_split setup [] ys old new l = (refl, l)
task_split setup (x ∷ xs) ys old new l = let r = task_split setup xs ys (answered setup old x.reply) new l.1 in ((l.0, r.0), r.1)

-- a list of entries that is cut, with its tickets
pub record IsTicketedCut (ns : List Ticketed) (between : List Entry) (e : Entry) : Type 0 where
  pub before : List Ticketed
  pub here : Ticketed
  pub after : List Ticketed
  pub all : ns ≡ before ++ here ∷ after
  pub entries : without_tickets before ≡ between
  pub entry : here.entry ≡ e

pub cut : (ns : List Ticketed) (between after : List Entry) (e : Entry) → without_tickets ns ≡ between ++ e ∷ after → IsTicketedCut ns between e
cut [] [] after e is = absurd (true≢false (ap is_none is))
cut [] (b ∷ between) after e is = absurd (true≢false (ap is_none is))
cut (n ∷ ns) [] after e is = record { before = []; here = n; after = ns; all = refl; entries = refl; entry = ap (first_or e) is }
cut (n ∷ ns) (b ∷ between) after e is =
    let c = cut ns between after e (ap behind_first is) in
    let head : n.entry ≡ b = ap (first_or b) is in
    record { before = n ∷ c.before; here = c.here; after = c.after; all = ap (λ l. n ∷ l) c.all; entries = λ i. head i ∷ c.entries i; entry = c.entry }

-- of a list that is cut twice, what has smaller tickets than the second part of a cut is in its first part
pub smaller_first : (ticket : ℕ) (xs ys seen later : List Ticketed) → xs ++ ys ≡ seen ++ later → Ordered ticket ys → All (λ (n : Ticketed). n.ticket < ticket) seen
    → (rest : List Ticketed) × (xs ≡ seen ++ rest)
smaller_first ticket xs ys [] later is above few = (xs, refl)
smaller_first ticket [] [] (n ∷ seen) later is above few = absurd (true≢false (ap is_none is))
smaller_first ticket [] (y ∷ ys) (n ∷ seen) later is above few =
    let same = ap (λ (m : Ticketed). m.ticket) (ap (first_or n) is) in
    let le = above.0 in
    let lt = All-head (λ (m : Ticketed). m.ticket < ticket) n seen few in
    absurd (omega (arith, same, le, lt))
smaller_first ticket (x ∷ xs) ys (n ∷ seen) later is above few =
    let head : x ≡ n = ap (first_or n) is in
    let rest = smaller_first ticket xs ys seen later (ap behind_first is) above (All-tail (λ (m : Ticketed). m.ticket < ticket) n seen few) in
    (rest.0, λ i. head i ∷ rest.1 i)
