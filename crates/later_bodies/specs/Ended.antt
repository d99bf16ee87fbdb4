-- A procedure that waits, and then its body.
use Rattle.std.specs.Prelude.{slice_set}
use Rattle.ob_judge.specs.Judged.{Judged, Keeps, ◌>>=◌}
use Rattle.ob_judge.specs.Scopes.{Source}
use Rattle.ob_judge.specs.Making.{Making, Part}
use Rattle.judged_modules.specs.steps.Procedures.{OneProcedure}
use Rattle.judged_modules.specs.steps.Steps.{completed}
use Rattle.judged_modules.specs.steps.Frames.{left}
use Rattle.later_bodies.specs.Waiting.{Waiting, put_off}

-- its body is judged, it is known by its number, and its scope is closed
abbrev pub ended : Source → OneProcedure → Waiting → Judged (Unit {0} × Making)
ended p q w = completed p q w.heading w.inner >>= λ j. Keeps (tt, left w.outer (record w.inner { procedures = slice_set w.inner.procedures w.number j }))

-- a procedure up to its body, and then its body
abbrev pub put_off_and_ended : Source → OneProcedure → Part (Unit {0})
put_off_and_ended p q s = put_off p q s >>= ended p q
