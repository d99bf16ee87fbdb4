-- What is found under a name, judged.
use Rattle.std.specs.Prelude.{ℕ, Option}
use Rattle.ob_judge.specs.Judged.{Judged, Keeps, ◌>>=◌, ◌>>◌, rule, some}
use Rattle.ob_judge.specs.Scopes.{Object, Entry, World, Source, is_visible, place}

-- 30, 34: something is found under the name of this symbol, and is seen here
abbrev pub found_as : Source → World → ℕ → Option Entry → Judged Object
found_as p w i found = do
  entry ← some 30 (place p i) found
  rule 34 (place p i) (is_visible w.procedure entry.object)
  Keeps entry.object
