-- An order for threads is for 1 to 16 of them.
use Rattle.std.proofs.Common.{◌≡◌, ◌≤◌, ◌&&◌, ℕ, Bool, true, false, List, [], ◌∷◌, Option, None, Some, refl, subst, arith}
use Rattle.std.specs.Prelude.{if◌then◌else◌, nat_le, IfSome}
use Rattle.std.specs.Option.{option_and_then, option_map}
use Rattle.std.proofs.lemmas.Bool.Decides.{nat_tests}
use Rattle.biostack_words.specs.Grammar as grammar
use Rattle.biostack_words.specs.Grammar.{Word, command_named, given_by_words, order_meant, order_by}
use Rattle.biostack_words.specs.Numbers.{as_workers, number_of, workers_of}
use Rattle.biostack_words.specs.declared.command.Command.{Command}
use Rattle.biostack_words.specs.declared.command.Command.TheVariants as command
use Rattle.biostack_words.specs.declared.order.Order.{Order}
use Rattle.biostack_words.specs.declared.order.Order.TheVariants.{Run, Workers, Check, Layout, Gen, Replay, Scrub}

abbrev AreFew : ℕ → Type 0
AreFew n = (1 ≤ n) × (n ≤ 16)

abbrev IsForFew : Order → Type 0
IsForFew (Workers n trace) = AreFew n
IsForFew (Run number trace) = Unit {0}
IsForFew Check = Unit {0}
IsForFew Layout = Unit {0}
IsForFew (Gen number shown) = Unit {0}
IsForFew Replay = Unit {0}
IsForFew (Scrub number) = Unit {0}

if_so : {X : Type 0} (P : X → Type 0) (b : Bool) (x : X) → (b ≡ true → P x) → IfSome (if b then Some x else None) P
if_so P true x holds = holds refl
if_so P false x holds = tt

mapped : {X : Type 0} (P : X → Type 0) (f : X → Order) → ((x : X) → P x → IsForFew (f x)) → (o : Option X) → IfSome o P → IfSome (option_map f o) IsForFew
mapped P f holds (Some x) p = holds x p
mapped P f holds None p = tt

followed : {X Y : Type 0} (Q : Y → Type 0) (f : X → Option Y) → ((x : X) → IfSome (f x) Q) → (o : Option X) → IfSome (option_and_then f o) Q
followed Q f holds (Some x) = holds x
followed Q f holds None = tt

any_number : (o : Option ℕ) → IfSome o (λ n. Unit {0})
any_number (Some n) = tt
any_number None = tt

few_threads : (n : ℕ) → IfSome (as_workers n) AreFew
few_threads n = if_so AreFew (nat_le 1 n && nat_le n 16) n (λ few. grind (arith, nat_tests))

few_by : (c : Command) (seed workers : Option Word) (traced text : Bool) (number : Option Word) → IfSome (order_by c seed workers traced text number) IsForFew
few_by command.Run None None traced false None = tt
few_by command.Run (Some n) None traced false None =
    mapped (λ number. Unit {0}) (λ number. Run number traced) (λ number any. tt) (number_of n) (any_number (number_of n))
few_by command.Run None (Some n) traced false None =
    mapped AreFew (λ n. Workers n traced) (λ n few. few) (workers_of n) (followed AreFew as_workers few_threads (number_of n))
few_by command.Check None None false false None = tt
few_by command.Layout None None false false None = tt
few_by command.Gen None None false shown (Some n) =
    mapped (λ number. Unit {0}) (λ number. Gen number shown) (λ number any. tt) (number_of n) (any_number (number_of n))
few_by command.Replay None None false false None = tt
few_by command.Scrub None None false false None = tt
few_by command.Scrub (Some n) None false false None = mapped (λ number. Unit {0}) Scrub (λ number any. tt) (number_of n) (any_number (number_of n))
few_by _ _ _ _ _ _ = tt

few_meant : (words : List Word) → IfSome (order_meant words) IsForFew
few_meant [] = tt
few_meant (first ∷ rest) =
    followed IsForFew (λ c. option_and_then (grammar.order_of c) (given_by_words rest))
    (λ c. followed IsForFew (grammar.order_of c) (λ g. few_by c g.seed g.workers g.trace g.text g.number) (given_by_words rest))
    (command_named first)

pub few_workers : (words : List Word) (n : ℕ) (trace : Bool) → order_meant words ≡ Some (Workers n trace) → AreFew n
few_workers words n trace means = subst (λ (o : Option Order). IfSome o IsForFew) means (few_meant words)
