-- How nodes and places are kept. No contract of the public calls speaks of this.
use Rattle.std.specs.Prelude.{◌≡◌, ◌+◌, ◌^◌, ◌<◌, ◌≤◌, ◌==◌, ℕ, List, [], ◌∷◌, length, Option, None, Some, IsSome, All, Bool, true, false, slice_get, slice_index_or, slice_set, MatchOption, Result, Ok, Err}
use Rattle.slab.specs.Slab.{Slab, get, slab_len}
use Rattle.elem_ledger.specs.declared.element.Element.{Element}
use Rattle.bio_records.specs.declared.bio.Pad.{Pad}
use Rattle.bio_records.specs.declared.body.BioBody.{BioBody}
use Rattle.bio_books.specs.declared.attachment.Attachment.{Attachment}
use Rattle.bio_books.specs.declared.attachment.Attachment.TheVariants as attachment
use Rattle.bio_books.specs.Books.{Holding}
use Rattle.bio_books.specs.Views.{bio_of, slip_of, vector_of, IsAlonePart}

-- what a node holds that keeps this bio, and this beside it
abbrev pub held_with : Option (Element (BioBody Pad)) → Attachment → Holding
held_with bio attachment.Nothing = record { bio = bio_of bio; vector = None; slip = None }
held_with bio (attachment.Vector element) = record { bio = bio_of bio; vector = vector_of (Some element); slip = None }
held_with bio (attachment.Slip element) = record { bio = bio_of bio; vector = None; slip = slip_of (Some element) }

-- an open node waits for an end, and the bio that it keeps is in no list
pub record IsOpen (count : ℕ) (bio : Option (Element (BioBody Pad))) : Type 0 where
  pub some : 1 ≤ count
  pub alone : IsAlonePart bio

-- a value was put at a place where none stood
abbrev pub FillsVacant : {T : Type 0} → List (Option T) → ℕ → T → List (Option T) → Type 0
FillsVacant old place value new = (slice_get old place ≡ Some None) × (new ≡ slice_set old place (Some value))

-- a value stands at each place, and stays there
abbrev pub StaysFull : {T : Type 0} → List (Option T) → List (Option T) → Type 0
StaysFull old new = (new ≡ old) × All IsSome old

-- a value was put at the place that is answered, or it is handed back where none is vacant
abbrev pub InsertsOrFull : {T : Type 0} → List (Option T) → T → Result ℕ T → List (Option T) → Type 0
InsertsOrFull old value (Ok place) new = FillsVacant old place value new
InsertsOrFull old value (Err back) new = (back ≡ value) × StaysFull old new

-- the value at a place became another, if there is one there
abbrev pub IsAltered : {T : Type 0} → (T → T) → List (Option T) → ℕ → List (Option T) → Type 0
IsAltered after old place new = MatchOption (slice_index_or old place None) (new ≡ old) (λ value. new ≡ slice_set old place (Some (after value)))

-- the key that is kept beside the number of a place
abbrev pub key_at : List (Option ℕ) → ℕ → Option ℕ
key_at keys place = slice_index_or keys place None

-- what stands at a place with this key
abbrev pub look : {T : Type 0} → Slab T → Option ℕ → Option T
look slots None = None
look slots (Some key) = get slots key

-- how many places have a key
abbrev pub keyed : List (Option ℕ) → ℕ
keyed [] = 0
keyed (None ∷ keys) = keyed keys
keyed (Some key ∷ keys) = keyed keys + 1

-- how often a place stands among the free ones, by what is beside its number: once where there is no key
abbrev pub vacancy : Option (Option ℕ) → ℕ
vacancy None = 0
vacancy (Some None) = 1
vacancy (Some (Some key)) = 0

abbrev pub one_if : Bool → ℕ
one_if true = 1
one_if false = 0

abbrev pub free_count : ℕ → List ℕ → ℕ
free_count place [] = 0
free_count place (other ∷ free) = one_if (other == place) + free_count place free

-- how the slab, the keys and the free places of a container hang together
pub record IsPlaced {T : Type 0} (slots : Slab T) (keys : List (Option ℕ)) (free : List ℕ) (room : ℕ) : Type 0 where
  -- the slab and the free places have room for all
  pub slots_room : length keys ≤ slots.capacity
  pub free_room : length keys ≤ room
  -- each place has a number
  pub numbers : length keys < 2 ^ 32
  -- a place has a key or is free, and each value of the slab has a place
  pub counted : keyed keys + length free ≡ length keys
  pub named : keyed keys ≡ slab_len slots
  -- the free places are those without a key, each once
  pub vacant : (place : ℕ) → free_count place free ≡ vacancy (slice_get keys place)
  -- a key has a value, and no two places have one key
  pub taken : (place key : ℕ) → key_at keys place ≡ Some key → IsSome (get slots key)
  pub distinct : (place other key : ℕ) → key_at keys place ≡ Some key → key_at keys other ≡ Some key → place ≡ other
