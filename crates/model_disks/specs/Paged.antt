-- The words of a disk, kept by pages of 16 sectors, 1,024 words, in slots that stand in the order of the pages' first writes.
use Rattle.std.specs.Prelude.{◌≡◌, ◌⊎◌, ◌+◌, ◌*◌, ◌/◌, ◌%◌, ◌<◌, ◌≤◌, ◌==◌, ◌++◌, ℕ, Bool, false, List, map, length, take, drop, slice_index_or, if◌then◌else◌, vec_capacity}
use Rattle.std.specs.List.{range_with_len}
use Rattle.stack_base.specs.Words.{sector_from, is_written}
use Rattle.image_lanes.specs.Lanes.{counting}
use Rattle.model_disks.specs.Kept.{grown}
use Rattle.model_disks.specs.declared.pages.Pages.{Pages}

-- a number at a place, or 0 behind the last one
abbrev pub number_at : List ℕ → ℕ → ℕ
number_at numbers place = slice_index_or numbers place 0

-- the 64 words from a place on, of which those behind the last one are zeros
unfoldable pub sector_in : List ℕ → ℕ → List ℕ
sector_in words place = map (λ i. number_at words (place + i)) (range_with_len 0 64)

-- where the words of a sector begin, in the slot of its page
unfoldable pub word_place : List ℕ → ℕ → ℕ
word_place slots x = 1024 * number_at slots (x / 16) + 64 * (x % 16)

-- the words of a sector
abbrev pub sector_words : List ℕ → List ℕ → ℕ → List ℕ
sector_words words slots x = sector_in words (word_place slots x)

-- those of each of the first sectors
unfoldable pub paged : ℕ → List ℕ → List ℕ → List (List ℕ)
paged count words slots = map (sector_words words slots) (range_with_len 0 count)

-- a run of words that count up, in the place of those that were there
abbrev pub put_words : ℕ → ℕ → ℕ → List ℕ → List ℕ
put_words from count first words = take from words ++ (counting first count ++ drop (from + count) words)

-- so many sectors that count up from one of a slot on, behind the words of the slots before it, with zeros around them
abbrev pub put_behind : ℕ → ℕ → ℕ → ℕ → List ℕ → List ℕ
put_behind slot start sectors first words = put_words (1024 * slot + 64 * start) (64 * sectors) first (grown 0 (1024 * (slot + 1)) words)

-- each page has a slot, and each slot a page: one list says where a page is, the other whose a slot is
pub record AreInverse (slots owners : List ℕ) : Type 0 where
  pub size : length owners ≡ length slots
  pub slot : (page : ℕ) → page < length slots → number_at slots page < length slots
  pub owner : (slot : ℕ) → slot < length slots → number_at owners slot < length slots
  pub back : (page : ℕ) → page < length slots → number_at owners (number_at slots page) ≡ page
  pub forth : (slot : ℕ) → slot < length slots → number_at slots (number_at owners slot) ≡ slot

-- a slot, where two of them have changed places
unfoldable pub swapped_slot : ℕ → ℕ → ℕ → ℕ
swapped_slot one other slot = if slot == other then one else (if slot == one then other else slot)

-- the pages in two slots have changed places
pub record IsExchanged (one other : ℕ) (slots new : List ℕ) : Type 0 where
  pub size : length new ≡ length slots
  pub slot : (page : ℕ) → page < length slots → number_at new page ≡ swapped_slot one other (number_at slots page)

-- the words in two slots have changed places
pub record AreSwapped (one other : ℕ) (words new : List ℕ) : Type 0 where
  pub size : length new ≡ length words
  pub word : (slot i : ℕ) → i < 1024 → number_at new (1024 * slot + i) ≡ number_at words (1024 * swapped_slot one other slot + i)

-- the first pages are each in the slot of its own number
abbrev pub AreInOrder : List ℕ → ℕ → Type 0
AreInOrder slots count = (page : ℕ) → page < count → number_at slots page ≡ page

-- whole pages of words, of which each has one slot, with room for those of all slots
pub record ArePaged (room : ℕ) (words slots owners : List ℕ) : Type 0 where
  pub inverse : AreInverse slots owners
  pub whole : length words % 1024 ≡ 0
  pub within : length words ≤ 1024 * length slots
  pub fits : 1024 * length slots ≤ room

-- each sector has the words that it had
pub record AreSame (words slots new new_slots : List ℕ) : Type 0 where
  pub size : length new_slots ≡ length slots
  pub sector : (x : ℕ) → x < 16 * length slots → sector_words new new_slots x ≡ sector_words words slots x

-- so many sectors have words that count up, and the others those that they had
pub record AreFilled (start len first : ℕ) (words slots new new_slots : List ℕ) : Type 0 where
  pub size : length new_slots ≡ length slots
  pub inside : (j : ℕ) → j < len → sector_words new new_slots (start + j) ≡ sector_from (first + 64 * j)
  pub outside : (x : ℕ) → x < 16 * length slots → (x < start) ⊎ (start + len ≤ x) → sector_words new new_slots x ≡ sector_words words slots x

-- these of the pages as they are kept
abbrev pub ArePagesKept : Pages → Type 0
ArePagesKept pages = ArePaged (vec_capacity pages.words) pages.words.items pages.slots.items pages.owners.items

abbrev pub StaysSame : Pages → Pages → Type 0
StaysSame old new = AreSame old.words.items old.slots.items new.words.items new.slots.items

abbrev pub IsFilled : ℕ → ℕ → ℕ → Pages → Pages → Type 0
IsFilled start len first old new = AreFilled start len first old.words.items old.slots.items new.words.items new.slots.items

abbrev pub sector_in_pages : Pages → ℕ → List ℕ
sector_in_pages pages x = sector_words pages.words.items pages.slots.items x

abbrev pub in_pages : ℕ → Pages → List (List ℕ)
in_pages count pages = paged count pages.words.items pages.slots.items

-- the flag of each sector that has one says whether it is written
abbrev pub FlagsAreRight : List ℕ → List ℕ → List Bool → Type 0
FlagsAreRight words slots flags = (x : ℕ) → x < length flags → slice_index_or flags x false ≡ is_written (sector_words words slots x)

-- the pages and the flags of an image of so many sectors: none is written of those that have no flag, and there is room for the flags of all
pub record IsImage (count room flags_room : ℕ) (words slots owners : List ℕ) (flags : List Bool) : Type 0 where
  pub kept : ArePaged room words slots owners
  pub all : count ≤ 16 * length slots
  pub noted : map is_written (paged count words slots) ≡ grown false count flags
  pub within : length flags ≤ count
  pub fits : count ≤ flags_room

abbrev pub IsImageOf : ℕ → ℕ → Pages → List Bool → Type 0
IsImageOf count flags_room pages flags = IsImage count (vec_capacity pages.words) flags_room pages.words.items pages.slots.items pages.owners.items flags
