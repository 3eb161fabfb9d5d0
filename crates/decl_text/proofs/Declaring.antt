-- A line that has its form and is no write says a declaration.
use Rattle.std.proofs.Common.{◌≡◌, ◌≢◌, codes, ◌≤◌, ◌&&◌, ◌||◌, ◌==◌, ℕ, Bool, true, false, nat_le, nat_lt, List, [], ◌∷◌, zip, Option, None, Some, if◌then◌else◌, is_some, not, ◌^◌, ◌-◌, true≢false, refl, sym, ◌∙◌, arith}
use Rattle.std.specs.List.{list_any}
use Rattle.std.specs.Str.{bytes_eq}
use Rattle.std.specs.Option.{option_or}
use Rattle.std.proofs.lemmas.Bool.Decides.{nat_tests}
use Rattle.std.proofs.lemmas.List.Sums.{sum_by-cons}
use Rattle.std.proofs.lemmas.Option.{none-some}
use Rattle.std.proofs.lemmas.Bool.{not-false}
use Rattle.decl_text.specs.Text.{is_name, is_option, number_of}
use Rattle.decl_text.specs.Words.{has_number, is_word, is_within}
use Rattle.decl_text.specs.Commands.{command_of}
use Rattle.decl_text.specs.Forms.{Form, form, behind_places, fails, times, value_of, any_number, number_from, may, must, is_malformed, is_misnumbered, is_misplaced, is_misset}
use Rattle.decl_text.specs.Items.{kind_of_bad, meaning, number, number_or, value_in, is_comment, malformed, misnumbered, begins_work, is_work, said}
use Rattle.decl_text.specs.Read.{IsDeclaration}
use Rattle.decl_text.specs.Stands.{may_stand, misplaced}
use Rattle.decl_text.specs.declared.stand.Stand.TheVariants.{Front}
use Rattle.stack_base.specs.declared.ids.Status.TheVariants as status
use Rattle.decl_text.specs.declared.command.Command.{Command}
use Rattle.decl_text.specs.declared.command.Command.TheVariants as command
use Rattle.decl_text.specs.declared.form.Few.TheVariants as few
use Rattle.decl_text.specs.declared.form.Key.{Key}
use Rattle.decl_text.specs.declared.form.Key.TheVariants.{Chunk, Max, Rescuer, Reserve}
use Rattle.decl_text.specs.declared.form.Place.{Place}
use Rattle.decl_text.specs.declared.form.Place.TheVariants.{Name, Mention, Number, OneOf}
use Rattle.decl_text.specs.declared.item.Item.{Item}
use Rattle.decl_text.proofs.FormLemmas.{first_not, others_not, number_is, value_passes, wrong}

-- nothing, or a declaration
abbrev pub Declares : Option Item → Type 0
Declares None = Unit {0}
Declares (Some said) = IsDeclaration said

-- a form whose words are all right, in parts
pub record IsFormedBy (form : Form) (words : List (List ℕ)) : Type 0 where
  pub placed : list_any (λ (at : Place × List ℕ). is_misplaced at.0 at.1) (zip form.places words) ≡ false
  pub set : list_any (is_misset (behind_places form words)) form.settings ≡ false

pub formed_by : (form : Form) (words : List (List ℕ)) → is_malformed form words ≡ false → IsFormedBy form words
formed_by form words fine = record { placed = others_not _ _ (first_not _ _ (first_not _ _ fine)); set = others_not _ _ fine }

-- a name at the first place
pub named : (places : List Place) (name : List ℕ) (rest : List (List ℕ)) → list_any (λ (at : Place × List ℕ). is_misplaced at.0 at.1) (zip (Name ∷ places) (name ∷ rest)) ≡ false → is_name name ≡ true
named places name rest placed = not-false (is_name name) (others_not (is_option name) _ (first_not (is_misplaced Name name) _ placed))

-- an option that is nowhere is there no times
missing_by : (name : Key) (first : Option (List ℕ)) (word : List ℕ) (words : List (List ℕ)) → value_of name word ≡ first → (value_in name words ≡ None → times name words ≡ 0)
    → option_or first (value_in name words) ≡ None → times name (word ∷ words) ≡ 0
missing_by name None word words is more none = rw (sum_by-cons (λ w. if is_some (value_of name w) then 1 else 0) word words, is, more none) refl
missing_by name (Some v) word words is more none = absurd (none-some v (sym none))

missing : (name : Key) (words : List (List ℕ)) → value_in name words ≡ None → times name words ≡ 0
missing name [] none = refl
missing name (word ∷ words) none = missing_by name (value_of name word) word words refl (missing name words) none

within_from : (least most n : ℕ) → (nat_le least n && nat_le n most) ≡ true → least ≤ n
within_from least most n is = grind (arith, nat_tests)

number_from_least : (least most : ℕ) (v : List ℕ) (n : Option ℕ) → number_of v ≡ n → is_within least most n ≡ true → least ≤ number v
number_from_least least most v None is within = absurd (true≢false (sym within))
number_from_least least most v (Some n) is within = rw (← number_is v n is) (within_from least most n within)

wanted_by : (more : Bool) (count : ℕ) → count ≡ 0 → ((nat_lt 1 count || (true && count == 0)) || more) ≡ true
wanted_by more count is = rw is refl

least_by : (name : Key) (least most : ℕ) (words : List (List ℕ)) (found : Option (List ℕ)) → value_in name words ≡ found
    → is_misset words (must name (Number least most)) ≡ false → wrong (must name (Number least most)) words ≡ false → least ≤ number_or 0 found
least_by name least most words None is set fine =
    absurd (true≢false (sym (wanted_by (list_any (λ word. fails (is_word (Number least most)) (value_of name word)) words) (times name words) (missing name words is)) ∙ set))
least_by name least most words (Some v) is set fine =
    number_from_least least most v (number_of v) refl (value_passes (has_number (Number least most)) name words v fine is)

-- the number of an option that has to be there is no smaller than it may be
pub at_least : (name : Key) (least most : ℕ) (words : List (List ℕ)) → is_misset words (must name (Number least most)) ≡ false → wrong (must name (Number least most)) words ≡ false
    → least ≤ number_or 0 (value_in name words)
at_least name least most words set fine = least_by name least most words (value_in name words) refl set fine

-- the third of several that do not hold
third_not : (a b c d : Bool) → (a || (b || (c || d))) ≡ false → c ≡ false
third_not a b c d none = first_not c d (others_not b _ (others_not a _ none))

-- the third number of a line of four words
third_number : (disk from count word : List ℕ) → is_misnumbered (form command.Bad) (disk ∷ from ∷ count ∷ word ∷ []) ≡ false → not (is_within 1 (2 ^ 64 - 1) (number_of count)) ≡ false
third_number disk from count word fine =
    third_not (not (has_number Mention disk)) (not (has_number any_number from)) (not (has_number (number_from 1) count)) (not (has_number (OneOf few.Faults) word) || false)
    (first_not _ _ fine)

-- writes to a bad range fail
kind_by : (io medium : Bool) → (if io then status.Io else (if medium then status.Medium else status.NoSpace)) ≢ status.Ok
kind_by true medium = λ same. cc
kind_by false true = λ same. cc
kind_by false false = λ same. cc

kind_fails : (word : List ℕ) → kind_of_bad word ≢ status.Ok
kind_fails word = kind_by (bytes_eq word (codes "io")) (bytes_eq word (codes "medium"))

-- what the words of a line say that may stand before all writes and is no write is a declaration
meaning_declares : (c : Command) (rest : List (List ℕ)) → is_work c ≡ false → may_stand Front c ≡ true → is_malformed (form c) rest ≡ false → is_misnumbered (form c) rest ≡ false → Declares (meaning c rest)
unfolding meaning
meaning_declares command.Disk [] other stands formed fine = tt
meaning_declares command.Disk (a ∷ []) other stands formed fine = tt
meaning_declares command.Disk (a ∷ b ∷ []) other stands formed fine = (named (any_number ∷ []) a (b ∷ []) (formed_by (form command.Disk) (a ∷ b ∷ []) formed).placed, (refl, refl, refl))
meaning_declares command.Disk (a ∷ b ∷ c ∷ more) other stands formed fine = tt
meaning_declares command.Bad [] other stands formed fine = tt
meaning_declares command.Bad (a ∷ []) other stands formed fine = tt
meaning_declares command.Bad (a ∷ b ∷ []) other stands formed fine = tt
meaning_declares command.Bad (a ∷ b ∷ c ∷ []) other stands formed fine = tt
meaning_declares command.Bad (disk ∷ from ∷ count ∷ word ∷ []) other stands formed fine =
    (number_from_least 1 (2 ^ 64 - 1) count (number_of count) refl (not-false (is_within 1 (2 ^ 64 - 1) (number_of count)) (third_number disk from count word fine)), kind_fails word)
meaning_declares command.Bad (a ∷ b ∷ c ∷ d ∷ e ∷ more) other stands formed fine = tt
meaning_declares command.Linear [] other stands formed fine = tt
meaning_declares command.Linear (a ∷ more) other stands formed fine = (named [] a more (formed_by (form command.Linear) (a ∷ more) formed).placed, tt)
meaning_declares command.Stripe [] other stands formed fine = tt
meaning_declares command.Stripe (a ∷ more) other stands formed fine =
    let by = formed_by (form command.Stripe) (a ∷ more) formed in (
      named [] a more by.placed,
      at_least Chunk 1 (2 ^ 64 - 1) more (third_not (is_misset more (may Reserve any_number)) (is_misset more (may Rescuer (OneOf few.YesNo))) (is_misset more (must Chunk (number_from 1))) false by.set)
          (third_not (wrong (may Reserve any_number) more) (wrong (may Rescuer (OneOf few.YesNo)) more) (wrong (must Chunk (number_from 1)) more) false fine),
    )
meaning_declares command.Zoned [] other stands formed fine = tt
meaning_declares command.Zoned (a ∷ more) other stands formed fine =
    let by = formed_by (form command.Zoned) (a ∷ more) formed in (
      named [] a more by.placed,
      at_least Chunk 1 (2 ^ 64 - 1) more (third_not (is_misset more (may Reserve any_number)) (is_misset more (may Rescuer (OneOf few.YesNo))) (is_misset more (must Chunk (number_from 1))) false by.set)
          (third_not (wrong (may Reserve any_number) more) (wrong (may Rescuer (OneOf few.YesNo)) more) (wrong (must Chunk (number_from 1)) more) false fine),
    )
meaning_declares command.Limit [] other stands formed fine = tt
meaning_declares command.Limit (a ∷ more) other stands formed fine =
    let by = formed_by (form command.Limit) (a ∷ more) formed in (
      named [] a more by.placed,
      at_least Max 1 (2 ^ 64 - 1) more (third_not (is_misset more (may Reserve any_number)) (is_misset more (may Rescuer (OneOf few.YesNo))) (is_misset more (must Max (number_from 1))) (is_misset more (may Chunk any_number) || false) by.set)
          (third_not (wrong (may Reserve any_number) more) (wrong (may Rescuer (OneOf few.YesNo)) more) (wrong (must Max (number_from 1)) more) (wrong (may Chunk any_number) more || false) fine),
    )
meaning_declares command.Mirror [] other stands formed fine = tt
meaning_declares command.Mirror (a ∷ more) other stands formed fine = (named [] a more (formed_by (form command.Mirror) (a ∷ more) formed).placed, tt)
meaning_declares command.Fs rest other stands formed fine = tt
meaning_declares command.Script [] other stands formed fine = tt
meaning_declares command.Script (a ∷ []) other stands formed fine = tt
meaning_declares command.Script (a ∷ b ∷ []) other stands formed fine = tt
meaning_declares command.Script (a ∷ b ∷ c ∷ []) other stands formed fine = tt
meaning_declares command.Script (a ∷ b ∷ c ∷ d ∷ more) other stands formed fine = tt
meaning_declares command.Memory rest other stands formed fine = tt
meaning_declares command.Write rest other stands formed fine = absurd (cc)
meaning_declares command.Sync rest other stands formed fine = absurd (cc)
meaning_declares command.Resize rest other stands formed fine = absurd (cc)

first_declares : (first : List ℕ) (rest : List (List ℕ)) (b : Bool) (o : Option Command) → is_comment first ≡ b → command_of first ≡ o
    → begins_work (first ∷ rest) ≡ false → misplaced Front (first ∷ rest) ≡ false → malformed (first ∷ rest) ≡ false → misnumbered (first ∷ rest) ≡ false → Declares (said (first ∷ rest))
first_declares first rest true o comment of_first other stands formed fine = rw comment tt
first_declares first rest false None comment of_first other stands formed fine = rw (comment, of_first) tt
first_declares first rest false (Some c) comment of_first other stands formed fine =
    rw (comment, of_first) (meaning_declares c rest (rw (comment, of_first) at other) (not-false _ (rw (comment, of_first) at stands)) (rw (comment, of_first) at formed) (rw (comment, of_first) at fine))

pub said_declares : (line : List (List ℕ)) → begins_work line ≡ false → misplaced Front line ≡ false → malformed line ≡ false → misnumbered line ≡ false → Declares (said line)
said_declares [] other stands formed fine = tt
said_declares (first ∷ rest) other stands formed fine = first_declares first rest (is_comment first) (command_of first) refl refl other stands formed fine
