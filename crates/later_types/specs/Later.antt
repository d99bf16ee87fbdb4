-- What is known of types later, and states whose scope names record types that there are.
use Rattle.std.specs.Prelude.{◌≡◌, ◌<◌, ◌≤◌, ℕ, length, slice_get}
use Rattle.ob_judge.specs.Shapes.{Shape, Known}
use Rattle.ob_judge.specs.Making.{Making}
use Rattle.ob_judge.specs.Modules.{SoFar, first_making}
use Rattle.judged_modules.specs.Agrees.{records_of, bases_of}
use Rattle.judged_modules.specs.steps.Frames.{Begins}
use Rattle.judged_outlines.specs.Among.{PointsAmong}
use Rattle.later_types.specs.Records.{RecordsAmong, RecordsInScope}

abbrev pub Below : (n r : ℕ) → Type 0
Below n r = r < n

-- all types that are known are known later, as they were; and maybe more
pub record StaysKnown (before later : Known) : Type 0 where
  pub records_more : length before.records ≤ length later.records
  pub records : (r : ℕ) → r < length before.records → slice_get later.records r ≡ slice_get before.records r
  pub bases : Begins before.bases later.bases

-- a type that names record types and pointer types that there are
pub record IsRooted (s : Making) (a : Shape) : Type 0 where
  pub points : PointsAmong (length (bases_of s)) a
  pub records : RecordsAmong (Below (length (records_of s))) a

-- all that is in scope names record types that there are
pub record Rooted (s : Making) : Type 0 where
  pub scope : RecordsInScope (Below (length (records_of s))) s.world

-- between modules
pub record RootedSoFar (c : SoFar) : Type 0 where
  pub scope : RecordsInScope (Below (length c.known.records)) (first_making c).world

-- the state, where this is known of types
abbrev pub with_types : Known → Making → Making
with_types later s = record s { world = record s.world { known = later } }
