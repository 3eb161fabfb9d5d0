-- Refusals of lines before all writes: they are those of what the lines say, up to the first that is wrong by itself.
use Rattle.std.proofs.Common.{◌≡◌, ℕ, ◌+◌, false, List, [], ◌∷◌, Option, None, Some, refl, sym, ◌∙◌, ap}
use Rattle.std.specs.Option.{option_map, option_or}
use Rattle.decl_text.specs.Text.{words}
use Rattle.decl_text.specs.Items.{said}
use Rattle.decl_text.specs.Known.{Declarations, nothing_declared, after, after_line}
use Rattle.decl_text.specs.Read.{IsDeclaration}
use Rattle.decl_text.specs.Stands.{misplaced, stand_of}
use Rattle.decl_text.specs.declared.stand.Stand.TheVariants.{Front}
use Rattle.decl_text.specs.Refusals.{Check, first_found, line_checks, said_reason, refused, refusal, known_after}
use Rattle.decl_text.specs.Reading.{Formed, NonePass, is_work_line, formed, formed_by, refusal_of_items, known_of_items}
use Rattle.decl_text.specs.declared.reason.Reason.{Reason}
use Rattle.decl_text.specs.declared.reason.Refusal.{Refusal}
use Rattle.decl_text.specs.declared.decl.Numbered.{Numbered}
use Rattle.decl_text.specs.declared.item.Item.{Item}
use Rattle.decl_text.specs.declared.item.Item.TheVariants as item
use Rattle.decl_text.proofs.Declaring.{Declares, said_declares}
use Rattle.decl_text.proofs.LineLemmas.{same_found, told_parts}
use Rattle.decl_text.proofs.Unrefused.{or_none}

-- no write and no `sync` line so far
pub record IsFront (known : Declarations) : Type 0 where
  pub writes : known.writes ≡ []
  pub rounds : known.rounds ≡ []
  pub syncs : known.syncs ≡ 0
  pub resizes : known.resizes ≡ []

pub nothing_front : IsFront nothing_declared
nothing_front = record { writes = refl; rounds = refl; syncs = refl; resizes = refl }

pub front_stand : (known : Declarations) → IsFront known → stand_of known ≡ Front
front_stand known front = rw (front.writes, front.syncs) refl

-- a declaration leaves it so
pub after_front : (known : Declarations) (said : Item) → IsDeclaration said → IsFront known → IsFront (after known said)
after_front known (item.Device name does members reserve rescuer) is front = record { writes = front.writes; rounds = front.rounds; syncs = front.syncs; resizes = front.resizes }
after_front known (item.Bad disk range kind) is front = record { writes = front.writes; rounds = front.rounds; syncs = front.syncs; resizes = front.resizes }
after_front known (item.Fs bios vecs) is front = record { writes = front.writes; rounds = front.rounds; syncs = front.syncs; resizes = front.resizes }
after_front known (item.Script pool script) is front = record { writes = front.writes; rounds = front.rounds; syncs = front.syncs; resizes = front.resizes }
after_front known item.NoMemory is front = record { writes = front.writes; rounds = front.rounds; syncs = front.syncs; resizes = front.resizes }
after_front known (item.Write task dev range tag) is front = absurd is
after_front known item.Sync is front = absurd is
after_front known (item.Resize pool min) is front = absurd is

pub line_front : (known : Declarations) (o : Option Item) → Declares o → IsFront known → IsFront (after_line known o)
line_front known None is front = front
line_front known (Some said) is front = after_front known said is front

-- a line there that is not wrong by itself says a declaration, or nothing
pub front_declares : (known : Declarations) (line : List ℕ) → IsFront known → is_work_line line ≡ false → first_found line_checks known line ≡ None → Declares (said (words line))
front_declares known line front other none =
    let right = told_parts known line none in
    said_declares (words line) other (ap (λ s. misplaced s (words line)) (sym (front_stand known front)) ∙ right.placed) right.formed right.numbered

front_step : (checks : List (Check Item)) (known : Declarations) (number : ℕ) (lines : List (List ℕ)) (more : Formed) (f : Option Reason) (o : Option Item)
    → (f ≡ None → refusal checks (after_line known o) (number + 1) lines ≡ refusal_of_items checks (after_line known o) more.items more.fault)
    → option_or (option_map (refused number) (option_or f (said_reason checks known o))) (refusal checks (after_line known o) (number + 1) lines)
    ≡ refusal_of_items checks known (formed_by f number o more).items (formed_by f number o more).fault
unfolding refusal_of_items
front_step checks known number lines more (Some reason) o rest = refl
front_step checks known number lines more None None rest = rest refl
front_step checks known number lines more None (Some said) rest =
    ap (option_or (option_map (refused number) (first_found checks known said))) (rest refl)

pub front_refused : (checks : List (Check Item)) (known : Declarations) (number : ℕ) (lines : List (List ℕ)) → IsFront known → NonePass is_work_line lines
    → refusal checks known number lines ≡ refusal_of_items checks known (formed number lines).items (formed number lines).fault
unfolding refusal formed refusal_of_items
front_refused checks known number [] front others = refl
front_refused checks known number (line ∷ lines) front others =
    let same = same_found known nothing_declared line (front_stand known front) in
    ap (λ f. option_or (option_map (refused number) (option_or f (said_reason checks known (said (words line)))))
    (refusal checks (after_line known (said (words line))) (number + 1) lines)) same
    ∙ front_step checks known number lines (formed (number + 1) lines) (first_found line_checks nothing_declared line) (said (words line))
    (λ none.
    front_refused checks (after_line known (said (words line))) (number + 1) lines
    (line_front known (said (words line)) (front_declares known line front others.0 (same ∙ none)) front) others.1)

known_step : (known : Declarations) (number : ℕ) (lines : List (List ℕ)) (more : Formed) (f : Option Reason) (o : Option Item)
    → ((k : Declarations) → more.fault ≡ None → known_after k lines ≡ known_of_items k more.items)
    → (formed_by f number o more).fault ≡ None → known_after (after_line known o) lines ≡ known_of_items known (formed_by f number o more).items
known_step known number lines more (Some reason) o rest fault = absurd (cc)
known_step known number lines more None None rest fault = rest known fault
known_step known number lines more None (Some said) rest fault = rest (after known said) fault

-- where no line is wrong by itself, what is known behind them is what is known behind what they say
pub front_known : (known : Declarations) (number : ℕ) (lines : List (List ℕ)) → (formed number lines).fault ≡ None
    → known_after known lines ≡ known_of_items known (formed number lines).items
unfolding formed
front_known known number [] fault = refl
front_known known number (line ∷ lines) fault =
    known_step known number lines (formed (number + 1) lines) (first_found line_checks nothing_declared line) (said (words line))
    (λ k. front_known k (number + 1) lines) fault

-- items that are not refused have no faulty line behind them
pub no_fault : (checks : List (Check Item)) (known : Declarations) (items : List Numbered) (fault : Option Refusal) → refusal_of_items checks known items fault ≡ None → fault ≡ None
unfolding refusal_of_items
no_fault checks known [] fault none = none
no_fault checks known (next ∷ more) fault none =
    no_fault checks (after known next.item) more fault
    (or_none (option_map (refused next.line) (first_found checks known next.item)) (refusal_of_items checks (after known next.item) more fault) none).1
