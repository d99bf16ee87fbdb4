-- A module before, by its number.
use Rattle.std.specs.Prelude.{ℕ}
use Rattle.ob_judge.specs.Scopes.{Imported, Earlier}

abbrev pub earlier : ℕ → Imported
earlier n = Earlier n
