-- What the value of a constant expression, as the judgement finds it, says of the meaning.
use Rattle.std.specs.Prelude.{◌≡◌, ℕ, Bool, true, false, ◌&&◌, Option, Some, None}
use Rattle.run_laws.specs.Turns.{give}
use Rattle.ob_types.specs.Store.{Cell, Bits, Act, trap}
use Rattle.ob_judge.specs.Image.{Expr, Literal, Apply, Linked, Compare, In, AsByte, Link, Operate, And, Or, Element, Elements}

abbrev mutual
  -- an expression of numbers, operators, relations and sets, without variables, strings and calls
  pub is_fixed : Expr → Bool
  is_fixed (Literal n) = true
  is_fixed (Apply operator x) = is_fixed x
  is_fixed (Linked x l) = is_fixed x && is_fixed_link l
  is_fixed (Compare r x y) = is_fixed x && is_fixed y
  is_fixed (In x s) = is_fixed x && is_fixed s
  is_fixed (AsByte x) = is_fixed x
  is_fixed x = false

  pub is_fixed_link : Link → Bool
  is_fixed_link (Operate operator y) = is_fixed y
  is_fixed_link (And y) = is_fixed y
  is_fixed_link (Or y) = is_fixed y
  is_fixed_link (Element y) = is_fixed y
  is_fixed_link (Elements y z) = is_fixed y && is_fixed z

-- where a value was found, the meaning gives it and does nothing else; where none was, an expression without variables, strings and
-- calls traps, in the procedure that runs
abbrev pub IsMeant : (procedure : ℕ) → (fixed : Bool) → Option ℕ → Act Cell → Type 0
IsMeant procedure fixed (Some n) meaning = meaning ≡ give (Bits n)
IsMeant procedure true None meaning = (kind : ℕ) × (meaning ≡ trap procedure kind)
IsMeant procedure false None meaning = Unit {0}
