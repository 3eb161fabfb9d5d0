-- What a list shows of the elements in it, and the list of these.
use Rattle.std.specs.Prelude.{◌≡◌, ◌+◌, ◌≤◌, ℕ, List, [], ◌∷◌, ◌++◌, length, remove, reverse, slice_get, Option, None, Some, MatchOption}
use Rattle.std.specs.Global.{Box}
use Rattle.elem_ledger.specs.Ledger.{LedgerId}
use Rattle.elem_ledger.specs.declared.element.Element.{Element}
use Rattle.bio_records.specs.declared.bio.Bio.{Bio}
use Rattle.bio_records.specs.declared.bio.Pad.{Pad}
use Rattle.bio_records.specs.declared.segment.Segment.{Segment}
use Rattle.bio_records.specs.declared.body.BioBody.{BioBody, BioBody', Held-BioBody-next, None', Some', out-BioBody}

-- an element of a pool of bios without its box: the padding, the bio, its own segments, and the ledger that its share is of
pub record Item (F : Type 0) : Type 0 where
  pub pad : F
  pub bio : Bio
  pub short : List Segment
  pub share : LedgerId

-- the elements of a chain, from its first box on
abbrev mutual
  pub chain : {F : Type 0} → Held-BioBody-next F → List (Item F)
  chain None' = []
  chain (Some' p body share) = chain_from body share

  pub chain_from : {F : Type 0} → BioBody F → LedgerId → List (Item F)
  chain_from (BioBody' next pad bio short) share = record { pad = pad; bio = bio; short = short.items; share = share } ∷ chain next

-- the elements of a chain that may be empty
abbrev pub items : {F : Type 0} → Option (Box (BioBody F) × LedgerId) → List (Item F)
items None = []
items (Some first) = chain_from first.0.value first.1

-- the elements of a list that is kept as these two chains, in their order: its front, and its back with the last one first
abbrev pub in_order : {F : Type 0} → Option (Box (BioBody F) × LedgerId) → Option (Box (BioBody F) × LedgerId) → List (Item F)
in_order front back = items front ++ reverse (items back)

-- how many elements two chains have together
abbrev pub joint_length : {F : Type 0} → Option (Box (BioBody F) × LedgerId) → Option (Box (BioBody F) × LedgerId) → ℕ
joint_length one other = length (items one) + length (items other)

abbrev pub item_of : {F : Type 0} → Element (BioBody F) → Item F
item_of {F = F} element = record {
  pad = (out-BioBody F element.body.value).pad;
  bio = (out-BioBody F element.body.value).bio;
  short = (out-BioBody F element.body.value).short.items;
  share = element.share;
}

-- the element is in no list
abbrev pub IsAlone : {F : Type 0} → Element (BioBody F) → Type 0
IsAlone {F = F} element = (out-BioBody F element.body.value).next ≡ None

-- the first element was taken off, and is in no list now; or there was none
abbrev pub PopsFirst : {F : Type 0} → List (Item F) → Option (Element (BioBody F)) → List (Item F) → Type 0
PopsFirst old popped new = MatchOption popped ((old ≡ []) × (new ≡ [])) (λ element. (old ≡ item_of element ∷ new) × IsAlone element)

-- no element stands at this place, and all stay
abbrev pub StaysShort : {F : Type 0} → List (Item F) → ℕ → List (Item F) → Type 0
StaysShort old index new = (length old ≤ index) × (new ≡ old)

-- the element that stood at this place is in no list now, and the others are where they were
abbrev pub IsDetached : {F : Type 0} → List (Item F) → ℕ → Element (BioBody F) → List (Item F) → Type 0
IsDetached old index element new = (slice_get old index ≡ Some (item_of element)) × (new ≡ remove old index) × IsAlone element

-- one of the two, as an element was taken or not
abbrev pub Detaches : {F : Type 0} → List (Item F) → ℕ → Option (Element (BioBody F)) → List (Item F) → Type 0
Detaches old index taken new = MatchOption taken (StaysShort old index new) (λ element. IsDetached old index element new)

-- an element of a list as a walk shows it: the padding, the bio and its own segments
pub record PlainBio : Type 0 where
  pub pad : Pad
  pub bio : Bio
  pub short : List Segment

abbrev pub plain_of : Item Pad → PlainBio
plain_of item = record { pad = item.pad; bio = item.bio; short = item.short }

abbrev pub plain_body : BioBody Pad → PlainBio
plain_body body = record { pad = (out-BioBody Pad body).pad; bio = (out-BioBody Pad body).bio; short = (out-BioBody Pad body).short.items }
