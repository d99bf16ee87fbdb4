-- Lists that begin with others, and programs that begin with others.
use Rattle.std.specs.Prelude.{◌≡◌, ◌<◌, ◌≤◌, ℕ, List, ◌++◌, length, Some, slice_get}
use Rattle.ob_judge.specs.Image.{Procedure, Program}

-- the first list is the front of the second
pub record IsFront {A : Type 0} (front whole : List A) : Type 0 where
  pub rest : List A
  pub is : whole ≡ front ++ rest

-- what a program has is the front of what another has
pub record IsStartOf (start whole : Program) : Type 0 where
  pub records : IsFront start.records whole.records
  pub pointers : IsFront start.pointers whole.pointers
  pub modules : IsFront start.modules whole.modules
  pub procedures : IsFront start.procedures whole.procedures

-- so many procedures are of modules before the one of this number, and all others of this one; there are some
pub record IsByModules (number count : ℕ) (procedures : List Procedure) : Type 0 where
  pub before : (f : ℕ) (q : Procedure) → f < count → slice_get procedures f ≡ Some q → q.module_number < number
  pub own : (f : ℕ) (q : Procedure) → count ≤ f → slice_get procedures f ≡ Some q → q.module_number ≡ number
  pub some : count < length procedures
