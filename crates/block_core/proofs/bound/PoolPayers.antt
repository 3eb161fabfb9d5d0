-- What elements are, by the numbers of their pools.
use Rattle.std.proofs.Common.{◌≡◌, ◌+◌, ◌*◌, ◌<◌, ℕ, ◌∙◌, ap, arith}
use Rattle.stack_base.specs.declared.ids.PoolId.TheVariants.{FsBios, FsVecs, Bios, Records}
use Rattle.stack_base.specs.Tree.{Tree, Leaf, Split, Mirrored}
use Rattle.bio_records.specs.declared.bio.Bio.{Bio}
use Rattle.bio_records.specs.declared.bio.Pad.{Pad}
use Rattle.bio_records.specs.Items.{Item}
use Rattle.run_machine.specs.Submissions.{legs_of, leg_at}
use Rattle.run_machine.proofs.Frames.{pools_are_numbered}
use Rattle.block_core.specs.Payers.{WriteBio, WriteVector, Record, PieceBio, payer_of, payer_at}

pub is_write_bio : (number : ℕ) → number ≡ 65 → payer_at number ≡ WriteBio
is_write_bio number is = ap payer_at is ∙ ap payer_of (pools_are_numbered FsBios tt)

pub is_write_vector : (number : ℕ) → number ≡ 64 → payer_at number ≡ WriteVector
is_write_vector number is = ap payer_at is ∙ ap payer_of (pools_are_numbered FsVecs tt)

pub is_piece_bio : (number dev : ℕ) → number ≡ 2 * dev → dev < 32 → payer_at number ≡ PieceBio
is_piece_bio number dev is lt = ap payer_at is ∙ ap payer_of (pools_are_numbered (Bios (record { 0 = dev })) lt)

pub is_record : (number dev : ℕ) → number ≡ 2 * dev + 1 → dev < 32 → payer_at number ≡ Record
is_record number dev is lt = ap payer_at is ∙ ap payer_of (pools_are_numbered (Records (record { 0 = dev })) lt)

-- a leg has the bio that was taken for it
pub leg_bio : (bio : Bio) (hand : Item Pad) (leg key n : ℕ) (t : Tree) → leg < legs_of t → hand.share.no ≡ n → (leg_at bio hand leg key t).share.no ≡ n
leg_bio bio hand leg key n (Mirrored number sizes members) lt is = is
leg_bio bio hand leg key n (Leaf number sectors) lt is = absurd (omega (arith, lt))
leg_bio bio hand leg key n (Split number kind sizes members) lt is = absurd (omega (arith, lt))
