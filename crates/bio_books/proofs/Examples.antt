-- The definitions on small books, computed.
use Rattle.std.proofs.Common.{◌≡◌, [], ◌∷◌, Option, None, Some, refl, arith}
use Rattle.stack_base.specs.declared.ids.Status.{Status}
use Rattle.stack_base.specs.declared.ids.Status.TheVariants.{Ok, Io, Medium, NoSpace}
use Rattle.bio_records.specs.declared.bio.Pad.{Pad}
use Rattle.bio_records.specs.Items.{Item}
use Rattle.bio_books.specs.Books.{SlipItem, Node, BookState, top_node, master_node, leg_node, with_kept_part, raised, holding_slip, unmastered}
use Rattle.bio_books.specs.Links.{Masters, Legs, Made, Stray}
use Rattle.bio_books.specs.Drops.{Drops, Left, Up}
use Rattle.bio_books.specs.Endings.{End, all_told}
use Rattle.bio_books.specs.Drops.{closed_of}

end : Status → End
end status = record { status = status; part = None }

-- a master of two legs, of which one fails, and of three that all fail
one_of_two : (slip : SlipItem) → (closed_of (all_told (master_node 7 0 slip 2) (end Medium ∷ end Ok ∷ []))).status ≡ Ok
unfolding end
one_of_two slip = refl

the_first_of_two : (slip : SlipItem) → (closed_of (all_told (master_node 7 0 slip 2) (end Ok ∷ end Medium ∷ []))).status ≡ Ok
unfolding end
the_first_of_two slip = refl

none_of_three : (slip : SlipItem) → (closed_of (all_told (master_node 7 0 slip 3) (end Medium ∷ end NoSpace ∷ end Io ∷ []))).status ≡ Io
unfolding end
none_of_three slip = refl

-- a leg, and a node with a mirror for its own part and two chain children
a_leg : (closed_of (all_told (leg_node 7 1) (end NoSpace ∷ []))).status ≡ NoSpace
unfolding end
a_leg = refl

a_split_node : (closed_of (all_told (raised (raised (top_node 7 None))) (end Ok ∷ end Medium ∷ end Io ∷ []))).status ≡ Medium
unfolding end
a_split_node = refl

book : Option Node → Option Node → Option Node → BookState
book one two three = record { writer = 4; nodes = one ∷ two ∷ three ∷ [] }

-- a master of two legs at place 1 for the node at place 0, whose count stays
a_master : (part : Item Pad) (slip : SlipItem) → Masters (book (Some (top_node 7 None)) None None) 0 part slip 2 (Made 1)
    (book (Some (with_kept_part part (top_node 7 None))) (Some (master_node 7 0 slip 2)) None)
unfolding book
a_master part slip = (refl, refl)

a_stray_master : (part : Item Pad) (slip : SlipItem) → Masters (book (Some (top_node 7 None)) None None) 2 part slip 2 (Stray (unmastered part slip))
    (book (Some (top_node 7 None)) None None)
unfolding book
a_stray_master part slip = (refl, refl)

-- its leg at place 2, whose end leaves it open, and its last end, which hands out the record with the number of legs
its_leg : (top : Node) (slip : SlipItem) → Legs (book (Some top) (Some (master_node 7 0 slip 2)) None) 1 (Made 2)
    (book (Some top) (Some (master_node 7 0 slip 2)) (Some (leg_node 7 1)))
unfolding book
its_leg top slip = (refl, refl)

its_first_end : (top : Node) (slip : SlipItem) → Drops (book (Some top) (Some (master_node 7 0 slip 2)) None) 1 Ok None Left
    (book (Some top) (Some (record (master_node 7 0 slip 1) { status = Ok; held = holding_slip slip 2 })) None)
unfolding book
its_first_end top slip = (omega arith, refl)

its_last_end : (top : Node) (slip : SlipItem)
    → Drops (book (Some top) (Some (record (master_node 7 0 slip 1) { status = Ok; held = holding_slip slip 2 })) None) 1 Medium None
    (Up (record { held = holding_slip slip 2; parent = Some 0; write = 7; status = Ok })) (book (Some top) None None)
unfolding book
its_last_end top slip = (refl, refl, refl, refl)
