-- Along lists that are whole tickets rise.
use Rattle.std.proofs.Common.{ℕ, ◌++◌, List, [], ◌∷◌, refl, sym, ◌∙◌}
use Rattle.std.specs.Prelude.{All}
use Rattle.std.specs.Global.{Vec}
use Rattle.std.specs.List.Sorted.{IsNonDecreasingBy}
use Rattle.std.proofs.lemmas.List.{flat_map_more}
use Rattle.std.proofs.lemmas.List.Elements.{All-append, All-cons, All-nil}
use Rattle.run_machine.specs.declared.event.Event.{Event}
use Rattle.shared_objects.specs.declared.noted.Noted.{Noted}
use Rattle.run_merge.specs.Listing.{AreWholeLists, IsList, IsWhole, WholeRises}

abbrev pub ListRises : Vec (ℕ × Event) → Type 0
ListRises list = IsNonDecreasingBy (λ (e : ℕ × Event). e.0) list.items

-- none so far
pub no_lists : AreWholeLists [] []
no_lists = record { whole = All-nil IsWhole; all = refl }

-- and one more
pub one_more : (trace : List Noted) (noted : Noted) (lists : List (Vec (ℕ × Event))) (list : Vec (ℕ × Event)) → AreWholeLists trace lists → IsList noted list.items
    → AreWholeLists (trace ++ noted ∷ []) (lists ++ list ∷ [])
one_more trace noted lists list before is =
    let left = flat_map_more (λ (v : Vec (ℕ × Event)). v.items) [] lists list in
    let right = flat_map_more (λ (n : Noted). n.events.items) [] trace noted in
    record {
      whole = All-append IsWhole trace (noted ∷ []) before.whole (All-cons IsWhole noted [] is.0 (All-nil IsWhole));
      all = sym left ∙ (λ i. before.all i ++ is.1 i) ∙ right;
    }

pub rises_more : (lists : List (Vec (ℕ × Event))) (noted : Noted) (list : Vec (ℕ × Event)) → All ListRises lists → WholeRises noted → IsList noted list.items
    → All ListRises (lists ++ list ∷ [])
rises_more lists noted list before rising is = All-append ListRises lists (list ∷ []) before (All-cons ListRises list [] (rising list.items is) (All-nil ListRises))
