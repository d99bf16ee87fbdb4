-- What a whole program says of types, variables and procedures, and so to an image in one of its procedures.
use Rattle.std.specs.Prelude.{ℕ, Bool, Option}
use Rattle.ob_judge.specs.Shapes.{Shape, Formals}
use Rattle.ob_types.specs.declared.program.Program.{Program}
use Rattle.judged_well.specs.Setting.{Setting, IsOrder}
use Rattle.judged_well.specs.OfProgram.{setting_of}

-- the parts of a setting; parameters and variables by the procedure that has them
pub record Final : Type 0 where
  pub extends : ℕ → ℕ → Bool
  pub is_record : ℕ → Bool
  pub target : ℕ → Option ℕ
  pub field : ℕ → ℕ → Option Shape
  pub global : ℕ → ℕ → Option Shape
  pub heading : ℕ → Option (Formals × Shape)
  pub parameter : (procedure number : ℕ) → Option (Bool × Shape)
  pub variable : (procedure number : ℕ) → Option Shape

abbrev pub setting_in : Final → (procedure : ℕ) → Setting
setting_in w f = record {
  extends = w.extends;
  is_record = w.is_record;
  target = w.target;
  field = w.field;
  global = w.global;
  heading = w.heading;
  parameter = w.parameter f;
  variable = w.variable f;
}

-- extension is an order, and what pointer types point to is there
pub record AreOrders (w : Final) : Type 0 where
  pub each : (f : ℕ) → IsOrder (setting_in w f)

-- what a checked program says, as code holds it
abbrev pub final_of : Program → Final
final_of p = record {
  extends = (setting_of p 0).extends;
  is_record = (setting_of p 0).is_record;
  target = (setting_of p 0).target;
  field = (setting_of p 0).field;
  global = (setting_of p 0).global;
  heading = (setting_of p 0).heading;
  parameter = λ f k. (setting_of p f).parameter k;
  variable = λ f v. (setting_of p f).variable v;
}
