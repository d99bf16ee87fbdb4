-- Pointer types, once their word is read.
use Rattle.std.specs.Prelude.{ℕ}
use Rattle.ob_syntax.specs.Syntax as S
use Rattle.ob_judge.specs.Judged.{some}
use Rattle.ob_judge.specs.Shapes.{Shape, Pointer}
use Rattle.ob_judge.specs.Scopes.{Source}
use Rattle.ob_judge.specs.Making.{Part, ◌>>>◌, give, here, later, set_base}
use Rattle.ob_judge.specs.Types.{place_of_type, record_only}

-- a pointer type whose base is declared later
abbrev pub waits : (pointer name : ℕ) → Part Shape
waits pointer name = later pointer name >>> λ _. give (Pointer pointer)

-- a pointer type to this base, whose type this is: 31 at one that is no record type
abbrev pub points_to : Source → (pointer : ℕ) → S.TypeTree → Shape → Part Shape
points_to p pointer base t = here (λ w. some 31 (place_of_type p base) (record_only t)) >>> λ r. set_base pointer r >>> λ _. give (Pointer pointer)
