-- What is judged where other procedures were judged before.
use Rattle.std.specs.Prelude.{◌≡◌, List, [], ◌∷◌, ◌++◌, length}
use Rattle.ob_judge.specs.Judged.{Keeps}
use Rattle.ob_judge.specs.Image.{Procedure}
use Rattle.ob_judge.specs.Scopes.{Source}
use Rattle.ob_judge.specs.Making.{Making, Part, no_procedure}
use Rattle.judged_modules.specs.steps.Procedures.{OneProcedure}
use Rattle.later_bodies.specs.Waiting.{Waiting, with_procedures, put_off}

-- a part gave this: it left the procedures as they were, and gives the same where these were judged before
pub record SameBeside {A : Type 0} (m : Part A) (s : Making) (ys : List Procedure) (a : A) (t : Making) : Type 0 where
  pub procedures : t.procedures ≡ s.procedures
  pub alike : m (with_procedures ys s) ≡ Keeps (a, with_procedures ys t)

-- or it added procedures, and adds the same where these were judged before
pub record AddedBeside {A : Type 0} (m : Part A) (s : Making) (ys : List Procedure) (a : A) (t : Making) : Type 0 where
  pub added : List Procedure
  pub procedures : t.procedures ≡ s.procedures ++ added
  pub alike : m (with_procedures ys s) ≡ Keeps (a, with_procedures (ys ++ added) t)

-- the same procedure waits where these were judged before, and these were added in its scope
abbrev pub waiting_beside : (ys added : List Procedure) → Waiting → Waiting
waiting_beside ys added w = record {
  outer = with_procedures (ys ++ no_procedure ∷ []) w.outer;
  number = w.number;
  heading = w.heading;
  inner = with_procedures (ys ++ no_procedure ∷ added) w.inner;
}

-- a procedure was put off, and it is put off alike where these were judged before
pub record PutOffBeside (p : Source) (q : OneProcedure) (s : Making) (ys : List Procedure) (w : Waiting) : Type 0 where
  pub added : List Procedure
  pub number : w.number ≡ length s.procedures
  pub outer : w.outer.procedures ≡ s.procedures ++ no_procedure ∷ []
  pub inner : w.inner.procedures ≡ s.procedures ++ no_procedure ∷ added
  pub alike : put_off p q (with_procedures ys s) ≡ Keeps (waiting_beside ys added w)
