-- An order for threads is for 1 to 16 of them.
use Rattle.std.proofs.Common.{◌≡◌, ◌≤◌, ℕ, Bool, List, Some, ap, subst}
use Rattle.std.proofs.lemmas.Option.{none-some, same_Some}
use Rattle.biostack_words.specs.Grammar.{Word, order_meant}
use Rattle.biostack_words.specs.declared.order.Order.{Order}
use Rattle.biostack_words.specs.declared.order.Order.TheVariants.{Run, Workers, Check, Layout, Gen, Replay, Scrub}
use Rattle.biostack_words.proofs.Few.{few_workers as few_meant}
use Rattle.biostack_top.specs.Orders.{workers_in}

pub is_workers : (order : Order) (n : ℕ) (trace : Bool) → workers_in order ≡ Some (n, trace) → order ≡ Workers n trace
is_workers (Workers m traced) n trace is = ap (λ (p : ℕ × Bool). Workers p.0 p.1) (same_Some (m, traced) (n, trace) is)
is_workers (Run number traced) n trace is = absurd (none-some (n, trace) is)
is_workers Check n trace is = absurd (none-some (n, trace) is)
is_workers Layout n trace is = absurd (none-some (n, trace) is)
is_workers (Gen number shown) n trace is = absurd (none-some (n, trace) is)
is_workers Replay n trace is = absurd (none-some (n, trace) is)
is_workers (Scrub number) n trace is = absurd (none-some (n, trace) is)

pub few_workers : (words : List Word) (order : Order) (n : ℕ) (trace : Bool) → order_meant words ≡ Some order → workers_in order ≡ Some (n, trace)
    → (1 ≤ n) × (n ≤ 16)
few_workers words order n trace means is =
    few_meant words n trace (subst (λ (o : Order). order_meant words ≡ Some o) (is_workers order n trace is) means)
