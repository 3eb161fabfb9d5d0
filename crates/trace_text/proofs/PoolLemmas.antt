-- Pools by their names.
use Rattle.std.proofs.Common.{◌≡◌, ◌+◌, ◌<◌, not, cond, ℕ, Bool, true, false, List, [], ◌∷◌, ◌++◌, length, take, drop, Option, Some, None, refl, ap, ◌∙◌, subst, arith, length-drop}
use Rattle.std.specs.Prelude.{codes}
use Rattle.std.specs.List.{list_all, position_or_len, before_first, after_first}
use Rattle.std.specs.Option.{option_and_then, option_map}
use Rattle.std.specs.Str.{bytes_eq}
use Rattle.std.proofs.Math.Seq.{drop-append-add}
use Rattle.std.proofs.lemmas.List.{take_at}
use Rattle.std.proofs.lemmas.List.Sums.{split_at_first, passes_at_first}
use Rattle.std.proofs.lemmas.Option.{same_Some}
use Rattle.std.proofs.lemmas.Bool.Decides.{nat_tests}
use Rattle.std.proofs.lemmas.Slice.Eq.{bytes_eq-Decides}
use Rattle.stack_base.specs.declared.ids.DevId.{DevId}
use Rattle.stack_base.specs.declared.ids.PoolId.{PoolId}
use Rattle.stack_base.specs.declared.ids.PoolId.TheVariants.{FsBios, FsVecs, Bios, Records}
use Rattle.stack_base.specs.declared.stack.Stack.{Stack}
use Rattle.stack_base.specs.Names.{name_of_device, pool_name}
use Rattle.trace_text.specs.Names.{DevicesAreNamed, HasDevice, HasPool, is_stacked_kind, is_mirror_kind}
use Rattle.trace_text.specs.Reading.{device_bios, device_of_word, device_pool, fs_pool, if_suits, is_dot, pool_named, pool_of_word, device_records}
use Rattle.trace_text.proofs.NameLemmas.{any_of, device_takes, mapped_some, suited_again, suits_some}
use Rattle.trace_text.proofs.NameWords.{IsNameWord, name_is_word}
use Rattle.trace_text.proofs.Readers.{IsWord}

-- the first dot stands behind what has none
dot_place : (name kept : List ℕ) → list_all (λ byte. not (is_dot byte)) name ≡ true → position_or_len is_dot (name ++ (46 ∷ kept)) ≡ length name
dot_place [] kept none = refl
dot_place (byte ∷ name) kept none =
    let first : is_dot byte ≡ false = grind arith in
    let more : list_all (λ byte. not (is_dot byte)) name ≡ true = grind arith in
    rw (first, dot_place name kept more) (omega arith)

cut_back : (name kept : List ℕ) → list_all (λ byte. not (is_dot byte)) name ≡ true
    → (before_first is_dot (name ++ (46 ∷ kept)) ≡ name) × (after_first is_dot (name ++ (46 ∷ kept)) ≡ kept)
cut_back name kept none =
    let place = dot_place name kept none in (
      ap (λ n. take n (name ++ (46 ∷ kept))) place ∙ take_at name (46 ∷ kept) (length name) refl,
      ap (λ n. drop (n + 1) (name ++ (46 ∷ kept))) place ∙ drop-append-add name (46 ∷ kept) 1,
    )

cut_named : (stack : Stack) (name kept : List ℕ) → IsNameWord name → pool_of_word stack (name ++ (46 ∷ kept)) ≡ device_pool stack name kept
unfolding pool_of_word
cut_named stack name kept is =
    let cut = cut_back name kept is.dotless in
    ap (λ n. pool_named stack n (after_first is_dot (name ++ (46 ∷ kept)))) cut.0
    ∙ ap (λ k. pool_named stack name k) cut.1
    ∙ ap (λ own. cond own (fs_pool kept) (device_pool stack name kept)) is.own

bios_again : (stack : Stack) (dev : DevId) → DevicesAreNamed stack → HasDevice is_stacked_kind stack dev → device_bios stack (name_of_device stack dev.0) ≡ Some (Bios dev)
unfolding device_bios
bios_again stack dev named has = ap (option_map Bios) (suited_again is_stacked_kind stack dev named has)

records_again : (stack : Stack) (dev : DevId) → DevicesAreNamed stack → HasDevice is_mirror_kind stack dev → device_records stack (name_of_device stack dev.0) ≡ Some (Records dev)
unfolding device_records
records_again stack dev named has = ap (option_map Records) (suited_again is_mirror_kind stack dev named has)

pool_again : (stack : Stack) (pool : PoolId) → DevicesAreNamed stack → HasPool stack pool → pool_of_word stack (pool_name stack pool) ≡ Some pool
unfolding pool_of_word
pool_again stack FsBios named has = refl
pool_again stack FsVecs named has = refl
pool_again stack (Bios dev) named has =
    cut_named stack (name_of_device stack dev.0) (codes "bios") (name_is_word stack dev named (any_of is_stacked_kind stack dev has))
    ∙ bios_again stack dev named has
pool_again stack (Records dev) named has =
    cut_named stack (name_of_device stack dev.0) (codes "records") (name_is_word stack dev named (any_of is_mirror_kind stack dev has))
    ∙ records_again stack dev named has

bios_takes : (stack : Stack) (name : List ℕ) (pool : PoolId) → device_bios stack name ≡ Some pool → HasPool stack pool × (name ++ codes ".bios" ≡ pool_name stack pool)
unfolding device_bios
bios_takes stack name pool e =
    let m = mapped_some Bios (option_and_then (if_suits is_stacked_kind stack) (device_of_word stack name)) pool e in
    let some = suits_some is_stacked_kind stack (device_of_word stack name) m.0 m.1 in
    subst (λ p. HasPool stack p × (name ++ codes ".bios" ≡ pool_name stack p)) m.2
    (some.1, ap (λ n. n ++ codes ".bios") (device_takes stack name m.0 some.0).1)

records_takes : (stack : Stack) (name : List ℕ) (pool : PoolId) → device_records stack name ≡ Some pool → HasPool stack pool × (name ++ codes ".records" ≡ pool_name stack pool)
unfolding device_records
records_takes stack name pool e =
    let m = mapped_some Records (option_and_then (if_suits is_mirror_kind stack) (device_of_word stack name)) pool e in
    let some = suits_some is_mirror_kind stack (device_of_word stack name) m.0 m.1 in
    subst (λ p. HasPool stack p × (name ++ codes ".records" ≡ pool_name stack p)) m.2
    (some.1, ap (λ n. n ++ codes ".records") (device_takes stack name m.0 some.0).1)

-- a choice that answers: which way it went
pub chosen : {A : Type 0} (b : Bool) (x y : Option A) (a : A) (P : Type 0) → (b ≡ true → x ≡ Some a → P) → (b ≡ false → y ≡ Some a → P)
    → cond b x y ≡ Some a → P
chosen true x y a P then_one else_one e = then_one refl e
chosen false x y a P then_one else_one e = else_one refl e

-- what a name and what it keeps are the pool of
IsCut : Stack → List ℕ → List ℕ → PoolId → Type 0
IsCut stack name kept pool = HasPool stack pool × (name ++ (46 ∷ kept) ≡ pool_name stack pool) × (0 < length kept)

kept_is : (kept word : List ℕ) → bytes_eq kept word ≡ true → kept ≡ word
kept_is kept word is = (bytes_eq-Decides kept word).0 is

fs_takes : (stack : Stack) (name kept : List ℕ) (pool : PoolId) → name ≡ codes "fs" → fs_pool kept ≡ Some pool → IsCut stack name kept pool
unfolding IsCut
fs_takes stack name kept pool own e =
    chosen (bytes_eq kept (codes "bios")) (Some FsBios) (cond (bytes_eq kept (codes "vecs")) (Some FsVecs) None) pool (IsCut stack name kept pool)
    (λ is one. subst (IsCut stack name kept) (same_Some FsBios pool one) (tt, rw (own, kept_is kept (codes "bios") is) refl, rw (kept_is kept (codes "bios") is) (omega arith)))
    (λ _ two. chosen (bytes_eq kept (codes "vecs")) (Some FsVecs) None pool (IsCut stack name kept pool)
    (λ is one. subst (IsCut stack name kept) (same_Some FsVecs pool one) (tt, rw (own, kept_is kept (codes "vecs") is) refl, rw (kept_is kept (codes "vecs") is) (omega arith)))
    (λ _ none. absurd (cc)) two)
    e

device_pool_takes : (stack : Stack) (name kept : List ℕ) (pool : PoolId) → device_pool stack name kept ≡ Some pool → IsCut stack name kept pool
unfolding IsCut
device_pool_takes stack name kept pool e =
    chosen (bytes_eq kept (codes "bios")) (device_bios stack name) (cond (bytes_eq kept (codes "records")) (device_records stack name) None) pool (IsCut stack name kept pool)
    (λ is one. let t = bios_takes stack name pool one in
    (t.0, ap (λ k. name ++ (46 ∷ k)) (kept_is kept (codes "bios") is) ∙ t.1, rw (kept_is kept (codes "bios") is) (omega arith)))
    (λ _ two. chosen (bytes_eq kept (codes "records")) (device_records stack name) None pool (IsCut stack name kept pool)
    (λ is one. let t = records_takes stack name pool one in
    (t.0, ap (λ k. name ++ (46 ∷ k)) (kept_is kept (codes "records") is) ∙ t.1, rw (kept_is kept (codes "records") is) (omega arith)))
    (λ _ none. absurd (cc)) two)
    e

-- a word with something behind its first dot is cut there
dot_is : (byte : ℕ) → is_dot byte ≡ true → byte ≡ 46
dot_is byte is = grind (arith, nat_tests)

cut_whole : (word : List ℕ) → 0 < length (after_first is_dot word) → word ≡ before_first is_dot word ++ (46 ∷ after_first is_dot word)
cut_whole word some =
    let within : position_or_len is_dot word < length word = omega (arith, length-drop (position_or_len is_dot word + 1) word) in
    split_at_first is_dot word 0 within
    ∙ ap (λ byte. before_first is_dot word ++ (byte ∷ after_first is_dot word)) (dot_is _ (passes_at_first is_dot word 0 within))

pool_takes : (stack : Stack) (word : List ℕ) (pool : PoolId) → pool_of_word stack word ≡ Some pool → HasPool stack pool × (word ≡ pool_name stack pool)
unfolding pool_of_word IsCut
pool_takes stack word pool e =
    let name = before_first is_dot word in
    let kept = after_first is_dot word in
    let cut : IsCut stack name kept pool =
    chosen (bytes_eq name (codes "fs")) (fs_pool kept) (device_pool stack name kept) pool (IsCut stack name kept pool)
    (λ own one. fs_takes stack name kept pool (kept_is name (codes "fs") own) one)
    (λ _ one. device_pool_takes stack name kept pool one)
    e in
    (cut.0, cut_whole word cut.2 ∙ cut.1)

pub pool_is : (stack : Stack) → DevicesAreNamed stack → IsWord (pool_name stack) (HasPool stack) (pool_of_word stack)
pool_is stack named = record {
  again = λ pool has. pool_again stack pool named has;
  takes = λ word pool e. pool_takes stack word pool e;
}
