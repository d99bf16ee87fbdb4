use Rattle.std.proofs.Common.{◌≡◌, ℕ, List, drop}
use Rattle.ob_types.specs.Table.{Table}
use Rattle.check_modules.proofs.importing.Found.{from}
use Rattle.check_modules.proofs.importing.finding.found.Given as goal

abbrev pub invariant-loop-i : goal.invariant-loop-i
invariant-loop-i l = (t : Table) (strings : List (List ℕ)) → from t strings l.name 0 l.modules ≡ from t strings l.name l.i (drop l.i l.modules)
