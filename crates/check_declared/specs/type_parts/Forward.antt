-- Pointer types whose base is declared later in a TYPE part.
use Rattle.std.specs.Prelude.{◌<◌, ℕ, List, length, map}
use Rattle.ob_judge.specs.Judged.{Judged, ◌>>=◌, some}
use Rattle.ob_judge.specs.Scopes.{World, Source, place, spelled}
use Rattle.ob_judge.specs.Cases.{entry_object}
use Rattle.ob_judge.specs.Making.{Part, ◌>>>◌, ask, last_names}
use Rattle.ob_judge.specs.Types.{record_object}
use Rattle.ob_judge.specs.Declarations.{each, forward_base}
use Rattle.judged_modules.specs.Lists.{Each}
use Rattle.check_making.specs.declared.making.Declaring.{Declaring}
use Rattle.check_making.specs.Making.{forward_of}

-- each is one of those that there are
abbrev pub AreBelow : ℕ → List (ℕ × ℕ) → Type 0
AreBelow n fs = Each (λ f. f.0 < n) fs

abbrev pub AreThere : Declaring → Type 0
AreThere s = AreBelow (length s.types.table.bases.items) (map forward_of s.forward.items)

-- the bases of all that wait for one
abbrev pub bases_part : Source → Part (Unit {0})
bases_part p = ask (λ s. s.forward) >>> λ fs. each (forward_base p) fs

-- the record type of a name of the innermost scope
abbrev pub record_named : Source → ℕ → World → Judged ℕ
record_named p i w = do
  o ← some 30 (place p i) (entry_object (last_names w.levels (spelled p i)))
  some 31 (place p i) (record_object o)
