-- Procedures whose bodies wait to be judged.
use Rattle.std.specs.Prelude.{ℕ, List, [], ◌∷◌, is_some, slice_set}
use Rattle.ob_judge.specs.Judged.{Judged, Keeps, ◌>>=◌}
use Rattle.ob_judge.specs.Shapes.{Shape}
use Rattle.ob_judge.specs.Image.{Procedure}
use Rattle.ob_judge.specs.Scopes.{Source}
use Rattle.ob_judge.specs.Making.{Making, new_procedure}
use Rattle.ob_judge.specs.Parameters.{Listed, stand}
use Rattle.ob_judge.specs.Declarations.{heading, decls_part}
use Rattle.judged_modules.specs.steps.Procedures.{OneProcedure}
use Rattle.judged_modules.specs.steps.Frames.{entered, left}

-- a procedure whose body waits: what was made round it once it had its number, its number, its heading, and what was made in
-- its scope
pub record Waiting : Type 0 where
  pub outer : Making
  pub number : ℕ
  pub heading : Listed × Shape
  pub inner : Making

abbrev pub with_procedures : List Procedure → Making → Making
with_procedures qs s = record s { procedures = qs }

-- a procedure up to its body: its name stands, it takes the next number, and its heading and its own declarations are judged
-- in its scope, procedures among them with their bodies
abbrev pub put_off : Source → OneProcedure → Making → Judged Waiting
put_off p q s = do
  r ← stand p (q.name.name ∷ []) s
  f ← new_procedure r.1
  h ← heading p f.0 q.name q.formals (is_some f.1.world.procedure) (entered f.0 f.1)
  d ← decls_part p q.decls h.1
  Keeps (record { outer = f.1; number = f.0; heading = h.0; inner = d.1 })

-- and then its scope is closed
abbrev pub put_aside : Waiting → Making
put_aside w = left w.outer w.inner

-- a procedure that waited, and what it came to
pub record Came : Type 0 where
  pub number : ℕ
  pub procedure : Procedure

-- procedures, in which these are filled in
abbrev pub filled : List Procedure → List Came → List Procedure
filled qs [] = qs
filled qs (x ∷ xs) = filled (slice_set qs x.number x.procedure) xs
