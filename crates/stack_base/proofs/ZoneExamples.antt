-- Worked cases of zones: members of 16, 32 and 20 sectors in chunks of 8, and members of 8, 16 and 16.
use Rattle.std.proofs.Common.{◌≡◌, [], ◌∷◌, refl}
use Rattle.stack_base.specs.declared.stack.Kind.TheVariants.{Zoned}
use Rattle.stack_base.specs.Mapping.{size_of, slot, head, levels, reaching, zones_from, in_zones}

-- two, four and two whole chunks: first all members up to two chunks, and then the second alone
three_levels : levels (2 ∷ 4 ∷ 2 ∷ []) ≡ 2 ∷ 4 ∷ []
unfolding levels
three_levels = refl

three_size : size_of (Zoned 8) (16 ∷ 32 ∷ 20 ∷ []) ≡ 64
unfolding size_of
three_size = refl

-- the last chunk of the first zone, and the first of the second
three_last : slot (Zoned 8) (16 ∷ 32 ∷ 20 ∷ []) 40 ≡ record { member = 2; at = 8 }
unfolding slot levels reaching zones_from in_zones
three_last = refl

three_next : slot (Zoned 8) (16 ∷ 32 ∷ 20 ∷ []) 48 ≡ record { member = 1; at = 16 }
unfolding slot levels reaching zones_from in_zones
three_next = refl

-- chunks of a zone go round its members from its first chunk on, whatever the chunk's number on the device
small_next : slot (Zoned 8) (8 ∷ 16 ∷ 16 ∷ []) 24 ≡ record { member = 1; at = 8 }
unfolding slot levels reaching zones_from in_zones
small_next = refl

small_last : slot (Zoned 8) (8 ∷ 16 ∷ 16 ∷ []) 33 ≡ record { member = 2; at = 9 }
unfolding slot levels reaching zones_from in_zones
small_last = refl

-- a member with less than a chunk is in no zone
none_small : slot (Zoned 8) (7 ∷ 9 ∷ []) 5 ≡ record { member = 1; at = 5 }
unfolding slot levels reaching zones_from in_zones
none_small = refl

-- a piece ends with its chunk
three_head : head (Zoned 8) (16 ∷ 32 ∷ 20 ∷ []) 42 55 ≡ 48
unfolding head
three_head = refl
