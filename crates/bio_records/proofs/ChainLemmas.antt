-- Chains that are empty.
use Rattle.std.proofs.Common.{◌≡◌, [], Option, None, Some, refl}
use Rattle.std.specs.Global.{Box as HeapBox}
use Rattle.elem_ledger.specs.Ledger.{LedgerId}
use Rattle.bio_records.specs.declared.body.BioBody.{BioBody, BioBody'}
use Rattle.bio_records.specs.Items.{chain_from, items}

chain_some : {F : Type 0} (body : BioBody F) (share : LedgerId) → chain_from body share ≡ [] → ⊥
chain_some (BioBody' next pad bio short) share none = cc

-- a chain that shows nothing is none
pub items_none : {F : Type 0} (link : Option (HeapBox (BioBody F) × LedgerId)) → items link ≡ [] → link ≡ None
items_none None none = refl
items_none (Some first) none = absurd (chain_some first.0.value first.1 none)
