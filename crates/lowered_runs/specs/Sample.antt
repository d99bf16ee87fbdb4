-- A program that is covered: a module with a variable, which counts to 3 and is written out. What others do that have calls.
use Rattle.std.specs.Prelude.{◌≡◌, ℕ, [], ◌∷◌, map, Bool, true, false, None}
use Rattle.std.specs.List.{list_any}
use Rattle.run_laws.specs.Runs.{Ended, Going}
use Rattle.ob_types.specs.Meaning.{procedure_of, meaning}
use Rattle.ob_types.specs.declared.program.Program.{Program}
use Rattle.ob_types.specs.declared.statements.Checked.{Checked}
use Rattle.ob_types.specs.declared.statements.Stmt.{Stmt, Assign, Increase, OutInt}
use Rattle.ob_types.specs.declared.statements.Stmt.{Call as Invoke}
use Rattle.ob_types.specs.declared.tree.Base.TheVariants.{Global}
use Rattle.ob_types.specs.declared.tree.Call.{Indirect'}
use Rattle.ob_types.specs.declared.tree.Designator.{Designator, Whole}
use Rattle.ob_types.specs.declared.tree.Expr.{Literal, Load}
use Rattle.ob_types.specs.declared.types.Mode.TheVariants.{Record, Open}
use Rattle.ob_types.specs.declared.types.TypeKind.TheVariants.{Int, Nothing}

abbrev pub variable : Designator
variable = Whole (Global 0 0) Int

abbrev pub number : ℕ → Checked
number n = record { form = Literal n; kind = Int }

abbrev pub sample : Program
sample = record {
  types = record { kinds = Int ∷ Nothing ∷ []; records = []; signatures = [] };
  modules = record { name = 77 ∷ []; objects = []; variables = 0 ∷ []; body = 0 } ∷ [];
  procedures = record {
    «module» = 0;
    line = 1;
    is_body = true;
    formals = [];
    result = 1;
    locals = [];
    texts = [];
    body = Assign variable (number 2) ∷ Increase variable (number 1) ∷ OutInt (record { form = Load variable; kind = Int }) (number 0) ∷ [];
    answer = None;
  } ∷ [];
  imports_in = false;
}

-- a program that takes eight turns, as one whose procedure calls itself three times, and writes an 8
abbrev pub CallsItself : Program → Type 0
CallsItself p = (meaning p [] 7 ≡ Going []) × (meaning p [] 8 ≡ Ended (56 ∷ []))

-- a call through a procedure variable
abbrev pub calls_through : Stmt → Bool
calls_through (Invoke (Indirect' d _ args)) = true
calls_through _ = false

-- a program that calls through a procedure variable and hands over an array with its length and a record with its tag; it takes two turns, and
-- writes a 7
pub record HandsOver (p : Program) : Type 0 where
  pub through : list_any calls_through (procedure_of p 1).body ≡ true
  pub modes : map (λ x. x.mode) (procedure_of p 0).formals ≡ Open ∷ Record ∷ []
  pub asks : meaning p [] 1 ≡ Going []
  pub writes : meaning p [] 2 ≡ Ended (55 ∷ [])
