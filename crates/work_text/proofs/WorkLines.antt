-- What lines say that stand where the work is told: writes, ends of rounds and reserves, or nothing.
use Rattle.std.proofs.Common.{◌≡◌, ℕ, ◌^◌, ◌-◌, ◌≤◌, ◌||◌, Bool, true, false, nat_le, nat_lt, not, cond, List, [], ◌∷◌, length, zip, Option, None, Some, refl, true≢false}
use Rattle.std.specs.List.{list_any}
use Rattle.std.specs.Str.Parse.{digits_value}
use Rattle.std.proofs.lemmas.Bool.{and_parts, both_ways, leb-true, not-false, or_parts}
use Rattle.decl_text.specs.Text.{is_number, is_option, number_of}
use Rattle.decl_text.specs.Words.{is_within}
use Rattle.decl_text.specs.Commands.{command_of}
use Rattle.decl_text.specs.Forms.{Form, form, behind_places, is_malformed, is_misnumbered, is_misplaced, is_misset, is_strange}
use Rattle.decl_text.specs.Items.{begins_work, meaning, is_comment, is_work, malformed, misnumbered, number, said}
use Rattle.decl_text.specs.Stands.{is_front, may_stand, misplaced}
use Rattle.decl_text.specs.declared.command.Command.{Command}
use Rattle.decl_text.specs.declared.command.Command.TheVariants as command
use Rattle.decl_text.specs.declared.stand.Stand.{Stand}
use Rattle.decl_text.specs.declared.item.Item.{Item}
use Rattle.decl_text.specs.declared.item.Item.TheVariants as item
use Rattle.work_text.specs.Lines.{IsToldWork}

-- nothing, or something of the work
abbrev pub Works : Option Item → Type 0
Works None = Unit {0}
Works (Some said) = IsToldWork said

-- a write, or the end of a round
abbrev pub Begins : Option Item → Type 0
Begins None = ⊥
Begins (Some (item.Write task dev range tag)) = Unit {0}
Begins (Some item.Sync) = Unit {0}
Begins (Some _) = ⊥

-- a number where one may stand
within_by : (least most n : ℕ) (b : Bool) → not (is_within least most (cond b (Some n) None)) ≡ false → (least ≤ n) × (n ≤ most)
within_by least most n true found =
    let both = and_parts (nat_le least n) (nat_le n most) (not-false _ found) in
    (leb-true least n both.0, leb-true n most both.1)
within_by least most n false found = absurd (true≢false found)

within : (least most : ℕ) (word : List ℕ) → not (is_within least most (number_of word)) ≡ false → (least ≤ number word) × (number word ≤ most)
unfolding number_of
within least most word found = within_by least most (digits_value 10 word) (is_number word) found

-- the words of the work
write_works : (rest : List (List ℕ)) → is_misnumbered (form command.Write) rest ≡ false → Works (meaning command.Write rest)
unfolding meaning
write_works [] numbers = tt
write_works (t ∷ []) numbers = tt
write_works (t ∷ d ∷ []) numbers = tt
write_works (t ∷ d ∷ s ∷ []) numbers = tt
write_works (t ∷ d ∷ s ∷ n ∷ []) numbers = tt
write_works (t ∷ d ∷ s ∷ n ∷ g ∷ []) numbers =
    let places = or_parts _ _ numbers in
    let task = or_parts _ _ places.0 in
    let start = or_parts _ _ task.1 in
    let count = or_parts _ _ start.1 in
    ((within 0 7 t task.0).1, (within 1 (2 ^ 64 - 1) n count.0).0)
write_works (t ∷ d ∷ s ∷ n ∷ g ∷ x ∷ more) numbers = tt

resize_works : (rest : List (List ℕ)) → Works (meaning command.Resize rest)
unfolding meaning
resize_works [] = tt
resize_works (p ∷ []) = tt
resize_works (p ∷ n ∷ []) = tt
resize_works (p ∷ n ∷ x ∷ more) = tt

sync_works : (rest : List (List ℕ)) → Works (meaning command.Sync rest)
unfolding meaning
sync_works rest = tt

-- behind a write or a `sync` line nothing else may stand
meaning_works : (stand : Stand) (c : Command) (rest : List (List ℕ)) → is_front stand ≡ false → may_stand stand c ≡ true → is_misnumbered (form c) rest ≡ false → Works (meaning c rest)
meaning_works stand command.Write rest behind stands numbers = write_works rest numbers
meaning_works stand command.Sync rest behind stands numbers = sync_works rest
meaning_works stand command.Resize rest behind stands numbers = resize_works rest
meaning_works stand _ rest behind stands numbers = absurd (both_ways (is_front stand) behind stands)

-- and a line that begins the work says nothing else
meaning_begun : (c : Command) (rest : List (List ℕ)) → is_work c ≡ true → is_misnumbered (form c) rest ≡ false → Works (meaning c rest)
meaning_begun command.Write rest is numbers = write_works rest numbers
meaning_begun command.Sync rest is numbers = sync_works rest
meaning_begun _ rest is numbers = absurd (cc)

first_works : (stand : Stand) (first : List ℕ) (rest : List (List ℕ)) (b : Bool) (o : Option Command) → is_comment first ≡ b → command_of first ≡ o → is_front stand ≡ false
    → misplaced stand (first ∷ rest) ≡ false → misnumbered (first ∷ rest) ≡ false → Works (said (first ∷ rest))
first_works stand first rest true o comment of_first behind stands numbers = rw comment tt
first_works stand first rest false None comment of_first behind stands numbers = rw (comment, of_first) tt
first_works stand first rest false (Some c) comment of_first behind stands numbers =
    rw (comment, of_first) (meaning_works stand c rest behind (not-false _ (rw (comment, of_first) at stands)) (rw (comment, of_first) at numbers))

pub said_works : (stand : Stand) (line : List (List ℕ)) → is_front stand ≡ false → misplaced stand line ≡ false → misnumbered line ≡ false → Works (said line)
said_works stand [] behind stands numbers = tt
said_works stand (first ∷ rest) behind stands numbers = first_works stand first rest (is_comment first) (command_of first) refl refl behind stands numbers

first_begun : (first : List ℕ) (rest : List (List ℕ)) (b : Bool) (o : Option Command) → is_comment first ≡ b → command_of first ≡ o
    → begins_work (first ∷ rest) ≡ true → misnumbered (first ∷ rest) ≡ false → Works (said (first ∷ rest))
first_begun first rest true o comment of_first is numbers = rw comment tt
first_begun first rest false None comment of_first is numbers = rw (comment, of_first) tt
first_begun first rest false (Some c) comment of_first is numbers =
    rw (comment, of_first) (meaning_begun c rest (rw (comment, of_first) at is) (rw (comment, of_first) at numbers))

pub said_begun : (line : List (List ℕ)) → begins_work line ≡ true → misnumbered line ≡ false → Works (said line)
said_begun [] is numbers = tt
said_begun (first ∷ rest) is numbers = first_begun first rest (is_comment first) (command_of first) refl refl is numbers

-- a word behind those of a write is strange there
strange : (word : List ℕ) (b : Bool) → is_option word ≡ b → is_strange (form command.Write) word ≡ true
strange word true option = rw option refl
strange word false option = rw option refl

any_first : {X : Type 0} (p : X → Bool) (x : X) (xs : List X) → p x ≡ true → list_any p (x ∷ xs) ≡ true
any_first p x xs passes = rw passes refl

third_true : (a b c d : Bool) → c ≡ true → (a || b || c || d) ≡ true
third_true true b c d is = refl
third_true false true c d is = refl
third_true false false c d is = rw is refl

strange_malforms : (form : Form) (words : List (List ℕ)) → list_any (is_strange form) (behind_places form words) ≡ true → is_malformed form words ≡ true
strange_malforms form words some = third_true (nat_lt (length words) (length form.places)) (list_any (λ at. is_misplaced at.0 at.1) (zip form.places words))
    (list_any (is_strange form) (behind_places form words)) (list_any (is_misset (behind_places form words)) form.settings) some

meaning_begins : (c : Command) (rest : List (List ℕ)) → is_work c ≡ true → is_malformed (form c) rest ≡ false → Begins (meaning c rest)
unfolding meaning
meaning_begins command.Write [] is well = absurd (cc)
meaning_begins command.Write (a ∷ []) is well = absurd (cc)
meaning_begins command.Write (a ∷ b ∷ []) is well = absurd (cc)
meaning_begins command.Write (a ∷ b ∷ c ∷ []) is well = absurd (cc)
meaning_begins command.Write (a ∷ b ∷ c ∷ d ∷ []) is well = absurd (cc)
meaning_begins command.Write (a ∷ b ∷ c ∷ d ∷ e ∷ []) is well = tt
meaning_begins command.Write (a ∷ b ∷ c ∷ d ∷ e ∷ f ∷ more) is well =
    absurd (both_ways _ well (strange_malforms (form command.Write) (a ∷ b ∷ c ∷ d ∷ e ∷ f ∷ more)
    (any_first (is_strange (form command.Write)) f more (strange f (is_option f) refl))))
meaning_begins command.Sync rest is well = tt
meaning_begins _ rest is well = absurd (cc)

first_begins : (first : List ℕ) (rest : List (List ℕ)) (b : Bool) (o : Option Command) → is_comment first ≡ b → command_of first ≡ o
    → begins_work (first ∷ rest) ≡ true → malformed (first ∷ rest) ≡ false → Begins (said (first ∷ rest))
first_begins first rest true o comment of_first is well = absurd (let w = rw comment at is in cc)
first_begins first rest false None comment of_first is well = absurd (let w = rw (comment, of_first) at is in cc)
first_begins first rest false (Some c) comment of_first is well =
    rw (comment, of_first) (meaning_begins c rest (rw (comment, of_first) at is) (rw (comment, of_first) at well))

pub said_begins : (line : List (List ℕ)) → begins_work line ≡ true → malformed line ≡ false → Begins (said line)
said_begins [] is well = absurd (cc)
said_begins (first ∷ rest) is well = first_begins first rest (is_comment first) (command_of first) refl refl is well
