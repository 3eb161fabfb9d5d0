-- The two parts of a bio that is split: its front, in an element of its own, and its rest.
use Rattle.std.specs.Prelude.{◌≡◌, ℕ, ◌+◌, ◌<◌, ◌++◌}
use Rattle.stack_base.specs.declared.ids.SetId.{SetId}
use Rattle.bio_records.specs.declared.bio.Bio.{Bio}
use Rattle.bio_records.specs.declared.bio.Pad.{Pad}
use Rattle.bio_records.specs.Items.{Item}
use Rattle.bio_records.specs.Runs.{fronted, advanced, run_of}

-- the bio of the first n sectors, as one of another set and with a node of its own
abbrev pub front_bio : Bio → ℕ → SetId → ℕ → Bio
front_bio bio n set node = record (fronted bio n) { set = set; node = node }

-- the element that the front is put into: it is for no leg, and its own segments and its share stay
abbrev pub split_front : Item Pad → Item Pad → ℕ → SetId → ℕ → Item Pad
split_front whole into n set node = record into { pad = record { leg = 0 }; bio = front_bio whole.bio n set node }

-- the element that is split, which keeps the sectors behind the first n
abbrev pub split_rest : Item Pad → ℕ → Item Pad
split_rest whole n = record whole { bio = advanced whole.bio n }

-- what the parts are to the whole
pub record AreParts (front rest whole : Bio) : Type 0 where
  -- the sectors of the front and then those of the rest are the whole's, each at its sector of the device, with its data and its place
  pub run : run_of front ++ run_of rest ≡ run_of whole
  -- they meet, and each has a sector and fewer than the whole
  pub meet : (front.range.start ≡ whole.range.start) × (rest.range.start ≡ front.range.start + front.range.len)
  pub lengths : front.range.len + rest.range.len ≡ whole.range.len
  pub front_between : (0 < front.range.len) × (front.range.len < whole.range.len)
  pub rest_between : (0 < rest.range.len) × (rest.range.len < whole.range.len)
  -- they are of the same write, by the same writer, and at the same device
  pub write : (front.write ≡ whole.write) × (rest.write ≡ whole.write)
  pub writer : (front.writer ≡ whole.writer) × (rest.writer ≡ whole.writer)
  pub dev : (front.dev ≡ whole.dev) × (rest.dev ≡ whole.dev)

-- a bio that is split behind its first n sectors, which are fewer than it has, loses nothing and has nothing twice
abbrev pub PartsAreTheWhole : Type 0
PartsAreTheWhole =
    (whole into : Item Pad) (n : ℕ) (set : SetId) (node : ℕ) → 0 < n → n < whole.bio.range.len
    → AreParts (split_front whole into n set node).bio (split_rest whole n).bio whole.bio
