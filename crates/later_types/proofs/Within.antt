-- What is in scope where more types are known later: of which types, and what of them stays.
use Rattle.std.specs.Prelude.{◌≡◌, ◌<◌, ℕ, Some, slice_get}
use Rattle.ob_judge.specs.Shapes.{Shape, Formals, Known}
use Rattle.ob_judge.specs.Scopes.{Object, World}
use Rattle.ob_judge.specs.Operands.{Operand}
use Rattle.judged_outlines.specs.Among.{PointsAmong, AllPointAmong, ObjectAmong, WorldAmong}
use Rattle.later_types.specs.Records.{RecordsAmong, AllRecordsAmong, ObjectRecords, RecordsInScope}

module _ (P : ℕ → Type 0) (n : ℕ) where
  abbrev pub Within : Shape → Type 0
  Within s = PointsAmong n s × RecordsAmong P s

  abbrev pub AllWithin : Formals → Type 0
  AllWithin ps = AllPointAmong n ps × AllRecordsAmong P ps

  abbrev pub ObjectWithin : Object → Type 0
  ObjectWithin o = ObjectAmong n o × ObjectRecords P o

  abbrev pub OperandWithin : Operand → Type 0
  OperandWithin x = Within x.shape

  pub record Ready (w : World) (later : Known) : Type 0 where
    pub among : WorldAmong n w
    pub scope : RecordsInScope P w
    pub targets : (k r : ℕ) → slice_get w.known.bases k ≡ Some (Some r) → P r
    pub records : (r : ℕ) → P r → slice_get later.records r ≡ slice_get w.known.records r
    pub bases : (k : ℕ) → k < n → slice_get later.bases k ≡ slice_get w.known.bases k

-- where more types are known
abbrev pub more : World → Known → World
more w later = record w { known = later }
