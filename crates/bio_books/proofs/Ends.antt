-- The status of a node over all of its ends.
use Rattle.std.proofs.Common.{◌≡◌, ◌||◌, ℕ, Bool, true, false, cond, not, map, filter, List, [], ◌∷◌, ◌∙◌, refl, ap}
use Rattle.std.specs.Prelude.{slice_index_or}
use Rattle.std.specs.List.{list_any}
use Rattle.stack_base.specs.declared.ids.Status.{Status}
use Rattle.stack_base.specs.declared.ids.Status.TheVariants.{Ok, Io, Medium, NoSpace}
use Rattle.bio_books.specs.declared.node.Role.{Role}
use Rattle.bio_books.specs.declared.node.Role.TheVariants.{Top, Chain, Master, Leg}
use Rattle.bio_books.specs.Books.{Node, first_failing, kept_with, by_mark, closing, told, master_node}
use Rattle.bio_books.specs.Endings.{End, all_told, is_well, first_failed, IsNoMaster, OneLegIsEnough, TheFirstFailureIsKept}

-- the status that a role keeps of these ends
abbrev kept : Role → Status → List End → Status
kept role old [] = old
kept role old (end ∷ ends) = kept role (kept_with role old end.status) ends

kept_told : (node : Node) (ends : List End) → closing (all_told node ends).role (all_told node ends).status ≡ closing node.role (kept node.role node.status ends)
kept_told node [] = refl
kept_told node (end ∷ ends) = kept_told (told node end.status end.part) ends

either : {X : Type 0} (b : Bool) (x : X) → cond b x x ≡ x
either true x = refl
either false x = refl

marked : (parent : ℕ) (old : Status) (ends : List End)
    → by_mark (kept (Master parent) old ends) ≡ cond (list_any (λ end. is_well end.status) ends) Ok (by_mark old)
marked parent old [] = refl
marked parent old (end ∷ ends) = by_case end.status (λ status. marked parent status ends)
  where
    by_case : (status : Status)
        → ((mark : Status) → by_mark (kept (Master parent) mark ends) ≡ cond (list_any (λ end. is_well end.status) ends) Ok (by_mark mark))
        → by_mark (kept (Master parent) (kept_with (Master parent) old status) ends)
        ≡ cond (is_well status || list_any (λ end. is_well end.status) ends) Ok (by_mark old)
    by_case Ok rest = rest Ok ∙ either (list_any (λ end. is_well end.status) ends) Ok
    by_case Io rest = rest old
    by_case Medium rest = rest old
    by_case NoSpace rest = rest old

pub one_leg_is_enough : OneLegIsEnough
one_leg_is_enough write parent legs slip ends = kept_told (master_node write parent slip legs) ends ∙ marked parent Io ends

-- the first of these ends that failed, behind this one
abbrev plain : Status → List End → Status
plain old [] = old
plain old (end ∷ ends) = plain (first_failing old end.status) ends

as_plain : (role : Role) (old : Status) (ends : List End) → IsNoMaster role → closing role (kept role old ends) ≡ plain old ends
as_plain Top old [] no_master = refl
as_plain (Chain parent) old [] no_master = refl
as_plain (Leg parent) old [] no_master = refl
as_plain Top old (end ∷ ends) no_master = as_plain Top (first_failing old end.status) ends no_master
as_plain (Chain parent) old (end ∷ ends) no_master = as_plain (Chain parent) (first_failing old end.status) ends no_master
as_plain (Leg parent) old (end ∷ ends) no_master = as_plain (Leg parent) (first_failing old end.status) ends no_master
as_plain (Master parent) old ends no_master = absurd no_master

stays_io : (ends : List End) → plain Io ends ≡ Io
stays_io [] = refl
stays_io (end ∷ ends) = stays_io ends

stays_medium : (ends : List End) → plain Medium ends ≡ Medium
stays_medium [] = refl
stays_medium (end ∷ ends) = stays_medium ends

stays_full : (ends : List End) → plain NoSpace ends ≡ NoSpace
stays_full [] = refl
stays_full (end ∷ ends) = stays_full ends

first_is_kept : (ends : List End) → plain Ok ends ≡ first_failed ends
first_is_kept [] = refl
first_is_kept (end ∷ ends) = by_case end.status (first_is_kept ends)
  where
    by_case : (status : Status) → plain Ok ends ≡ first_failed ends
        → plain (first_failing Ok status) ends ≡ slice_index_or (filter (λ s. not (is_well s)) (status ∷ map (λ end. end.status) ends)) 0 Ok
    by_case Ok rest = rest
    by_case Io rest = stays_io ends
    by_case Medium rest = stays_medium ends
    by_case NoSpace rest = stays_full ends

pub the_first_failure_is_kept : TheFirstFailureIsKept
the_first_failure_is_kept node ends no_master well =
    kept_told node ends ∙ as_plain node.role node.status ends no_master ∙ ap (λ status. plain status ends) well ∙ first_is_kept ends
