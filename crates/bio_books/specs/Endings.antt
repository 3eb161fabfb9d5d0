-- How nodes end, over all of the ends that they are told of.
use Rattle.std.specs.Prelude.{◌≡◌, ℕ, Bool, true, false, not, cond, List, [], ◌∷◌, map, filter, Option, slice_index_or}
use Rattle.std.specs.List.{list_any}
use Rattle.stack_base.specs.declared.ids.Status.{Status}
use Rattle.stack_base.specs.declared.ids.Status.TheVariants.{Ok, Io, Medium, NoSpace}
use Rattle.bio_records.specs.declared.bio.Pad.{Pad}
use Rattle.bio_records.specs.Items.{Item}
use Rattle.bio_books.specs.declared.node.Role.{Role}
use Rattle.bio_books.specs.declared.node.Role.TheVariants.{Top, Chain, Master, Leg}
use Rattle.bio_books.specs.Books.{SlipItem, Node, master_node, told}
use Rattle.bio_books.specs.Drops.{closed_of}

-- an end that a node is told of: how a child or the own part ended, and the bio that comes with it, if one does
pub record End : Type 0 where
  pub status : Status
  pub part : Option (Item Pad)

-- a node that was told of these ends, one after the other
abbrev pub all_told : Node → List End → Node
all_told node [] = node
all_told node (end ∷ ends) = all_told (told node end.status end.part) ends

abbrev pub is_well : Status → Bool
is_well Ok = true
is_well Io = false
is_well Medium = false
is_well NoSpace = false

-- well where one of the ends was, else with an error of no kind
abbrev pub well_if_any : List End → Status
well_if_any ends = cond (list_any (λ end. is_well end.status) ends) Ok Io

-- as the first of the ends that failed, or well where none did
abbrev pub first_failed : List End → Status
first_failed ends = slice_index_or (filter (λ status. not (is_well status)) (map (λ end. end.status) ends)) 0 Ok

abbrev pub IsNoMaster : Role → Type 0
IsNoMaster Top = Unit {0}
IsNoMaster (Chain parent) = Unit {0}
IsNoMaster (Master parent) = ⊥
IsNoMaster (Leg parent) = Unit {0}

-- a master ends well exactly where one of its legs did
abbrev pub OneLegIsEnough : Type 0
OneLegIsEnough = (write parent legs : ℕ) (slip : SlipItem) (ends : List End)
    → (closed_of (all_told (master_node write parent slip legs) ends)).status ≡ well_if_any ends

-- any other node that has not failed ends as the first of its ends that did
abbrev pub TheFirstFailureIsKept : Type 0
TheFirstFailureIsKept = (node : Node) (ends : List End) → IsNoMaster node.role → node.status ≡ Ok
    → (closed_of (all_told node ends)).status ≡ first_failed ends
