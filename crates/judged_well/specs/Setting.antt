-- Where an image stands: what the whole program says of types, variables and procedures, and what the procedure that it
-- stands in says of its parameters and variables.
use Rattle.std.specs.Prelude.{◌≡◌, ℕ, Bool, true, Option, Some}
use Rattle.ob_judge.specs.Shapes.{Shape, Formals}

pub record Setting : Type 0 where
  -- the first record type is the second or an extension of it
  pub extends : ℕ → ℕ → Bool
  -- a record type of the program
  pub is_record : ℕ → Bool
  -- the record type that a pointer type points to
  pub target : ℕ → Option ℕ
  -- the type of a field by the record type that adds it, and its place among those
  pub field : ℕ → ℕ → Option Shape
  -- the type of a module's variable
  pub global : ℕ → ℕ → Option Shape
  -- what a procedure that may be called takes and gives
  pub heading : ℕ → Option (Formals × Shape)
  -- the parameters here: whether it is VAR, and its type
  pub parameter : ℕ → Option (Bool × Shape)
  -- the types of the scalar value parameters and the variables here
  pub variable : ℕ → Option Shape

-- extension is an order, and what pointer types point to is there
pub record IsOrder (e : Setting) : Type 0 where
  pub self : (r : ℕ) → e.extends r r ≡ true
  pub through : (s r b : ℕ) → e.extends s r ≡ true → e.extends r b ≡ true → e.extends s b ≡ true
  pub there : (n r : ℕ) → e.target n ≡ Some r → e.is_record r ≡ true
