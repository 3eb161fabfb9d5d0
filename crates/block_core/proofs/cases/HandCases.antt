-- Hands by hand to which no run comes: a completer that brings a wrong end, one that brings a bio of another disk, and one that fails. And a bio that
-- a mirror copies with the data of another place.
use Rattle.std.proofs.Common.{◌≡◌, ℕ, true, [], None, Some, refl, arith}
use Rattle.elem_ledger.specs.Ledger.{LedgerId}
use Rattle.stack_base.specs.declared.ids.SetId.TheVariants.{Fs}
use Rattle.stack_base.specs.declared.ids.Status.{Status}
use Rattle.stack_base.specs.declared.ids.Status.TheVariants.{Ok, Medium}
use Rattle.stack_base.proofs.DeclaredSums.{device}
use Rattle.layout_model.specs.declared.fragment.Fragment.{Fragment}
use Rattle.bio_records.specs.declared.bio.Bio.{Bio}
use Rattle.bio_records.specs.declared.bio.Pad.{Pad}
use Rattle.bio_records.specs.Items.{Item}
use Rattle.bio_books.specs.Books.{SlipItem}
use Rattle.run_machine.specs.declared.event.Breach.TheVariants as breach
use Rattle.run_machine.specs.Scene.{Setup}
use Rattle.run_machine.specs.Submissions.{Copies, Takes}
use Rattle.run_machine.specs.Tasks.{TaskState, Rescuer, Completer, Brings, Fails}
use Rattle.bio_lists.specs.Submission.{no_lists}
use Rattle.block_core.specs.EachBio.{TaskCopies}
use Rattle.block_core.specs.Hands.{HandIsRight}
use Rattle.block_core.specs.Levels.{HoldsOneLevel}

-- the second sector of the first write of its writer, with the word of the first
abbrev bio : ℕ → Bio
bio dev = record {
  write = 0;
  writer = 0;
  node = 0;
  dev = device dev;
  range = record { start = 1; len = 1 };
  word = 0;
  at = record { segment = 0; done = 1 };
  set = Fs;
}

abbrev brings : LedgerId → ℕ → Status → TaskState
brings share dev end = Completer (device 0) (Brings (record { pad = record { leg = 0 }; bio = bio dev; short = []; share = share }) end)

-- the only disk is bad
abbrev ends : Fragment → Status
ends f = Medium

module _ (setup : Setup) (share : LedgerId) where
  right : HandIsRight setup ends (brings share 0 Medium)
  right = (refl, refl)

  wrong_end : HandIsRight setup ends (brings share 0 Ok) → ⊥
  wrong_end hand = let same = hand.1 in absurd cc

  other_disk : HandIsRight setup ends (brings share 1 Medium) → ⊥
  other_disk hand = let same = hand.0 in omega (arith, same)

  fails : HandIsRight setup ends (Completer (device 0) (Fails breach.Spent [])) → ⊥
  fails hand = hand

-- the word of a bio whose first sector is the second one of a write without a tag
abbrev IsOfSecond : Bio → ℕ → Type 0
IsOfSecond bio master = bio.word ≡ 64

abbrev copying : TaskState
copying = Rescuer (device 2) (record { doing = Copies (bio 1) 1 0 (Takes true); lists = no_lists })

wrong_word : TaskCopies IsOfSecond copying → ⊥
wrong_word copied = omega (arith, copied)

-- a bio of a device's set and a record of its own are of two levels, so no closed node held both
two_levels : (bio : Item Pad) (slip : SlipItem) → bio.share.no ≡ 0 → slip.share.no ≡ 1
    → HoldsOneLevel (record { bio = Some bio; vector = None; slip = Some slip }) → ⊥
two_levels bio slip of_bios of_records held =
    let a = held.1.bio bio refl in
    let b = held.1.slip slip refl in
    omega (arith, a, b, of_bios, of_records)
