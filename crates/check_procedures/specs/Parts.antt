-- The judgement of declarations by the parts that code goes through (Oberon-07 report, sections 4 to 7 and 10).
use Rattle.std.specs.Prelude.{ℕ, List, [], ◌∷◌, Option, is_some}
use Rattle.ob_syntax.specs.Syntax as S
use Rattle.ob_syntax.specs.declared.names.Identdef.{Identdef}
use Rattle.ob_judge.specs.Judged.{Judged, Keeps, ◌>>=◌}
use Rattle.ob_judge.specs.Shapes.{Shape}
use Rattle.ob_judge.specs.Scopes.{Source}
use Rattle.ob_judge.specs.Making.{Making, Part, ◌>>>◌, new_procedure}
use Rattle.ob_judge.specs.Parameters.{Listed, stand}
use Rattle.ob_judge.specs.Declarations.{each, const_part, types_part, var_part, consts_in, types_in, vars_in, heading}
use Rattle.judged_modules.specs.steps.Procedures.{OneProcedure}
use Rattle.judged_modules.specs.steps.Steps.{completes}
use Rattle.judged_modules.specs.steps.Frames.{entered, left}

-- a procedure whose scope is open: what was made round it, its number, its heading, and what was made in its scope
pub record JudgedOpen : Type 0 where
  pub outer : Making
  pub number : ℕ
  pub heading : Listed × Shape
  pub inner : Making

-- with these pointer types whose base comes later
abbrev pub waiting : List (ℕ × ℕ) → Making → Making
waiting fs s = record s { forward = fs }

module _ (p : Source) where
  -- constants, types and variables
  abbrev pub first_parts : Option S.Consts → Option S.Types → Option S.Vars → Part (Unit {0})
  first_parts consts types vars =
      each (const_part p) (consts_in consts) >>> λ _. types_part p (types_in types) >>> λ _. each (var_part p) (vars_in vars)

  -- a procedure's name stands, and it takes the next number
  abbrev pub next_procedure : (name : ℕ) → Part ℕ
  next_procedure name = stand p (name ∷ []) >>> λ _. new_procedure

  -- and then its heading is judged in its own scope, where no pointer type's base comes later
  abbrev pub opening : Identdef → Option S.Formals → Making → Judged JudgedOpen
  opening name formals s = do
    f ← next_procedure name.name s
    h ← heading p f.0 name formals (is_some f.1.world.procedure) (waiting [] (entered f.0 f.1))
    Keeps (record { outer = f.1; number = f.0; heading = h.0; inner = h.1 })

  -- and it is completed, once its own declarations have made this
  abbrev pub closing : OneProcedure → JudgedOpen → Part (Unit {0})
  closing q o s = completes p o.number q o.heading s >>= λ r. Keeps (r.0, left o.outer r.1)
