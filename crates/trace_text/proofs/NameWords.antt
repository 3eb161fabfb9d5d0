-- What a name is like: it has visible characters and no dot, and is not the name of the writers' set.
use Rattle.std.proofs.Common.{◌≡◌, ◌≤◌, ◌&&◌, not, ℕ, Bool, true, false, IsTrue, nat_lt, nat_le, List, [], ◌∷◌, length, refl, sym, subst, rules, arith}
use Rattle.std.specs.Prelude.{codes}
use Rattle.std.specs.List.{list_all}
use Rattle.std.specs.Str.{bytes_eq}
use Rattle.std.proofs.lemmas.Bool.Decides.{nat_tests}
use Rattle.stack_base.specs.declared.ids.DevId.{DevId}
use Rattle.stack_base.specs.declared.stack.Stack.{Stack}
use Rattle.stack_base.specs.Names.{name_of_device}
use Rattle.decl_text.specs.Text.{is_name, is_name_byte, begins_with_letter}
use Rattle.trace_text.specs.Names.{DevicesAreNamed, HasDevice, is_any}
use Rattle.trace_text.specs.Reading.{is_dot}
use Rattle.trace_text.proofs.NameLemmas.{there, name_at}

-- a visible character
abbrev pub is_visible : ℕ → Bool
is_visible byte = nat_lt 32 byte && nat_lt byte 127

-- a byte of names is visible, and no dot
byte_apart : (byte : ℕ) → is_name_byte byte ≡ true → (not (is_dot byte) ≡ true) × (is_visible byte ≡ true)
byte_apart byte is = (grind (arith, nat_tests), grind (arith, nat_tests))

pub list_all_follows : (p q : ℕ → Bool) → ((x : ℕ) → p x ≡ true → q x ≡ true) → (xs : List ℕ) → list_all p xs ≡ true → list_all q xs ≡ true
list_all_follows p q follows [] all = refl
list_all_follows p q follows (x ∷ xs) all =
    let first : p x ≡ true = grind arith in
    let more : list_all p xs ≡ true = grind arith in
    rw (follows x first, list_all_follows p q follows xs more) refl

pub record IsNameWord (name : List ℕ) : Type 0 where
  pub short : length name ≤ 16
  pub dotless : list_all (λ byte. not (is_dot byte)) name ≡ true
  pub visible : list_all is_visible name ≡ true
  pub own : bytes_eq name (codes "fs") ≡ false

four : (a b c d : Bool) → (a && b && c && d) ≡ true → (a ≡ true) × (b ≡ true) × (d ≡ true)
four a b c d all = (grind arith, grind arith, grind arith)

is_short : (n : ℕ) → nat_le n 16 ≡ true → n ≤ 16
is_short n few = grind (arith, nat_tests)

name_word : (name : List ℕ) → IsTrue (is_name name) → IsNameWord name
unfolding is_name
name_word name is =
    let all : is_name name ≡ true = search rules in
    let parts = four (nat_le (length name) 16) (not (bytes_eq name (codes "fs"))) (begins_with_letter name) (list_all is_name_byte name) all in
    record {
      short = is_short (length name) parts.0;
      dotless = list_all_follows is_name_byte (λ byte. not (is_dot byte)) (λ byte is. (byte_apart byte is).0) name parts.2;
      visible = list_all_follows is_name_byte is_visible (λ byte is. (byte_apart byte is).1) name parts.2;
      own = grind arith;
    }

-- so of each device that a stack has
pub name_is_word : (stack : Stack) (dev : DevId) → DevicesAreNamed stack → HasDevice is_any stack dev → IsNameWord (name_of_device stack dev.0)
name_is_word stack dev named has =
    let at = there is_any stack dev has in
    subst IsNameWord (sym (name_at stack dev at.0 at.1)) (name_word at.0.name.bytes (named.named dev.0 at.0 at.1))
