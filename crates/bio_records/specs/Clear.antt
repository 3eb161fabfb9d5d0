-- Empty bodies.
use Rattle.std.specs.Prelude.{◌≡◌, [], None}
use Rattle.stack_base.specs.declared.ids.SetId.TheVariants.{Fs}
use Rattle.bio_records.specs.declared.bio.Bio.{Bio}
use Rattle.bio_records.specs.declared.bio.Pad.{Pad}
use Rattle.bio_records.specs.declared.body.BioBody.{BioBody, out-BioBody}
use Rattle.bio_records.specs.declared.segment.Vector.{Vector}
use Rattle.bio_records.specs.declared.bio.Slip.{Slip}

-- a bio of no sectors, with all numbers 0
abbrev pub no_bio : Bio
no_bio = record {
  write = 0;
  writer = 0;
  node = 0;
  dev = record { 0 = 0 };
  range = record { start = 0; len = 0 };
  word = 0;
  at = record { segment = 0; done = 0 };
  set = Fs;
}

-- no bio, no leg and no segment in it, and in no list
pub record IsClearBody (body : BioBody Pad) : Type 0 where
  pub pad : (out-BioBody Pad body).pad ≡ record { leg = 0 }
  pub bio : (out-BioBody Pad body).bio ≡ no_bio
  pub short : (out-BioBody Pad body).short.items ≡ []
  pub alone : (out-BioBody Pad body).next ≡ None

-- vectors and records as pools hand them out
abbrev pub IsClearVector : Vector → Type 0
IsClearVector vector = vector.segments.items ≡ []

abbrev pub IsClearSlip : Slip → Type 0
IsClearSlip slip = slip ≡ record { legs = 0 }
