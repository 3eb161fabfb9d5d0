-- The trees of devices, each over the trees of those before it.
use Rattle.std.proofs.Common.{◌≡◌, ℕ, zero, suc, ◌+◌, ◌<◌, ◌≤◌, List, [], ◌∷◌, ◌++◌, length, get_or, map, take, drop, fold, Some, refl, ap, ◌∙◌, sym, arith}
use Rattle.std.specs.Prelude.{slice_get, sum}
use Rattle.std.proofs.lemmas.List.{get_or_push, length_push, take-append-drop, length-take}
use Rattle.std.proofs.lemmas.List.Sums.{fold-append, fold_push}
use Rattle.std.proofs.lemmas.Option.{slice_get_within}
use Rattle.stack_base.specs.Tree.{Tree, Leaf, size}
use Rattle.stack_base.specs.declared.stack.Kind.TheVariants as kind
use Rattle.stack_base.proofs.Unfolded.{size-over}
use Rattle.stack_base.proofs.DeclaredKinds.{size_of_le}
use Rattle.stack_base.proofs.ListLemmas.{map_same}
use Rattle.decl_text.specs.declared.item.What.{What}
use Rattle.decl_text.specs.declared.item.What.TheVariants as what
use Rattle.decl_text.specs.Known.{Declared, trees, tree_of, tree_over, device_tree, sectors_of}
use Rattle.decl_text.proofs.DeclarationsFit.{first_stay, one_more}
use Rattle.stack_check.specs.Sound.{what_size}
use Rattle.stack_check.specs.Rows.{size_with}
use Rattle.std.proofs.lemmas.Simd.{map-map}

pub trees_push : (devices : List Declared) (device : Declared) → trees (devices ++ device ∷ []) ≡ trees devices ++ tree_over (trees devices) device ∷ []
trees_push devices device = fold_push one_more [] devices device

grown_length : (below : List Tree) (devices : List Declared) → length (fold one_more below devices) ≡ length below + length devices
grown_length below [] = omega arith
grown_length below (device ∷ devices) =
    omega (arith, grown_length (one_more below device) devices, length_push below (tree_over below device))

-- there are as many as devices
pub trees_length : (devices : List Declared) → length (trees devices) ≡ length devices
trees_length devices = omega (arith, grown_length [] devices)

grown_at :
    (below : List Tree) (devices : List Declared) (p : ℕ) (device : Declared) (n : ℕ) (d : Tree) → slice_get devices p ≡ Some device → n ≡ length below + p
    → get_or (fold one_more below devices) n d ≡ tree_over (fold one_more below (take p devices)) device
grown_at below [] p device n d found is = absurd (grind arith)
grown_at below (first ∷ devices) zero device n d found is =
    let same : first ≡ device = grind arith in
    first_stay (one_more below first) devices n d (omega (arith, length_push below (tree_over below first)))
    ∙ get_or_push below (tree_over below first) d n (omega arith) ∙ ap (tree_over below) same
grown_at below (first ∷ devices) (suc p) device n d found is =
    grown_at (one_more below first) devices p device n d found (omega (arith, length_push below (tree_over below first)))

-- the tree of a device stands over those of the devices before it
pub tree_before :
    (devices : List Declared) (p : ℕ) (device : Declared) (d : Tree) → slice_get devices p ≡ Some device
    → get_or (trees devices) p d ≡ tree_over (trees (take p devices)) device
tree_before devices p device d found = grown_at [] devices p device p d found (omega arith)

-- and these are the first ones of all
pub first_trees : (devices : List Declared) (p k : ℕ) (d : Tree) → p ≤ length devices → k < p → get_or (trees (take p devices)) k d ≡ get_or (trees devices) k d
first_trees devices p k d le lt =
    sym (
    ap (λ ds. get_or (trees ds) k d) (sym (take-append-drop p devices))
    ∙ ap (λ ts. get_or ts k d) (fold-append one_more [] (take p devices) (drop p devices))
    ∙ first_stay (trees (take p devices)) (drop p devices) k d (omega (arith, trees_length (take p devices), length-take p devices))
    )

-- the tree of a device stands over the trees of its members
pub tree_at :
    (devices : List Declared) (p : ℕ) (device : Declared) → slice_get devices p ≡ Some device
    → ((i m : ℕ) → slice_get device.members i ≡ Some m → m < p)
    → tree_of devices p ≡ device_tree p device.what (map (tree_of devices) device.members)
tree_at devices p device found below =
    let within = slice_get_within devices p device found in
    let many : length (trees (take p devices)) ≡ p = omega (arith, trees_length (take p devices), length-take p devices) in
    tree_before devices p device (Leaf p 0) found
    ∙ ap (λ n. device_tree n device.what (map (λ (m : ℕ). get_or (trees (take p devices)) m (Leaf m 0)) device.members)) many
    ∙ ap (device_tree p device.what) (map_same (λ (m : ℕ). get_or (trees (take p devices)) m (Leaf m 0)) (tree_of devices) device.members (λ i m is.
    first_trees devices p m (Leaf m 0) (omega arith) (below i m is)))

-- the size of a device goes by those of its members
pub size-grown : (number : ℕ) (does : What) (members : List Tree) → size (device_tree number does members) ≡ what_size does (map size members)
size-grown number (what.Disk sectors) members = refl
size-grown number what.Linear members = size-over number kind.Linear members
size-grown number (what.Stripe chunk) members = size-over number (kind.Stripe chunk) members
size-grown number (what.Zoned chunk) members = size-over number (kind.Zoned chunk) members
size-grown number (what.Limit longest chunk) members = size-over number (kind.Limit longest chunk) members
size-grown number (what.Mirror records) members = size-over number (kind.Mirror 0) members

-- and is at most its own sectors and theirs
pub what_size_le : (does : What) (sizes : List ℕ) → what_size does sizes ≤ sectors_of does + sum sizes
what_size_le (what.Disk sectors) sizes = omega arith
what_size_le what.Linear sizes = size_of_le kind.Linear sizes
what_size_le (what.Stripe chunk) sizes = size_of_le (kind.Stripe chunk) sizes
what_size_le (what.Zoned chunk) sizes = size_of_le (kind.Zoned chunk) sizes
what_size_le (what.Limit longest chunk) sizes = size_of_le (kind.Limit longest chunk) sizes
what_size_le (what.Mirror records) sizes = size_of_le (kind.Mirror 0) sizes

-- so a device over some members has the size that theirs give it
pub size_with_is : (devices : List Declared) (does : What) (members : List ℕ) → size_with devices does members ≡ what_size does (map (λ m. size (tree_of devices m)) members)
size_with_is devices does members =
    size-grown (length (trees devices)) does (map (tree_of devices) members) ∙ ap (what_size does) (map-map size (tree_of devices) members)
