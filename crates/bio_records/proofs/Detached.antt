-- A chain whose first element stays, and of which one behind it is taken.
use Rattle.std.proofs.Common.{◌≡◌, ℕ, ◌-◌, ◌∷◌, List, refl, sym, ap, ◌∙◌, subst}
use Rattle.std.specs.Prelude.{Option, Some, None}
use Rattle.std.specs.Global.{Box as HeapBox}
use Rattle.elem_ledger.specs.declared.element.Element.{Element}
use Rattle.elem_ledger.specs.Ledger.{LedgerId}
use Rattle.bio_records.specs.declared.body.BioBody.{BioBody, BioBody', None', Some'}
use Rattle.bio_records.specs.declared.body.BioBody.TheViews.{out-BioBody, roll-BioBody}
use Rattle.bio_records.specs.Items.{Item, items, item_of, chain_from, IsAlone}
use Rattle.bio_records.proofs.Places.{DetachedAt, behind_one}

module _ {F : Type 0} where
  -- the first element of a chain, as a list shows it
  abbrev first_of : BioBody F → LedgerId → Item F
  first_of body share =
      let b = out-BioBody F body in
      record { pad = b.pad; bio = b.bio; short = b.short.items; share = share }

  chained : (body : BioBody F) (share : LedgerId) → chain_from body share ≡ first_of body share ∷ items (out-BioBody F body).next
  unfolding out-BioBody denote.Hole.Carrier.out
  chained (BioBody' None' pad bio short) share = refl
  chained (BioBody' (Some' p body behind) pad bio short) share = refl

  -- with another chain behind it
  rechained : (body : BioBody F) (share : LedgerId) (next : Option (HeapBox (BioBody F) × LedgerId))
      → chain_from (roll-BioBody F (record (out-BioBody F body) { next = next })) share ≡ first_of body share ∷ items next
  unfolding roll-BioBody denote.Hole.Carrier.roll
  rechained (BioBody' was pad bio short) share None = refl
  rechained (BioBody' was pad bio short) share (Some first) = refl

  pub detached_behind : (body now : BioBody F) (share : LedgerId) (next : Option (HeapBox (BioBody F) × LedgerId)) (index : ℕ)
      (answer : Option (Element (BioBody F))) → now ≡ body → (index ≡ 0 → ⊥)
      → DetachedAt item_of IsAlone (items (out-BioBody F now).next) (index - 1) answer (items next)
      → DetachedAt item_of IsAlone (chain_from body share) index answer (chain_from (roll-BioBody F (record (out-BioBody F now) { next = next })) share)
  detached_behind body now share next index answer same some detached =
      subst (λ (old : List (Item F)). DetachedAt item_of IsAlone old index answer (chain_from (roll-BioBody F (record (out-BioBody F now) { next = next })) share))
      (sym (chained now share) ∙ ap (λ (b : BioBody F). chain_from b share) same)
      (subst (λ (new : List (Item F)). DetachedAt item_of IsAlone (first_of now share ∷ items (out-BioBody F now).next) index answer new) (sym (rechained now share next))
      (behind_one item_of IsAlone (first_of now share) (items (out-BioBody F now).next) (items next) index answer some detached))
