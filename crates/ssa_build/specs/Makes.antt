-- A part of a procedure was lowered, whatever it does to what is known of the variables.
use Rattle.ssa_lowered.specs.Pieces.{Low}
use Rattle.ssa_exprs.specs.Making.{View, Follows, Once}

pub record Makes {A : Type 0} (v w : View) (m : Low A) (r : A) : Type 0 where
  pub follows : Follows v w (λ _. m) (λ _. r)
  pub once : Once v w
