-- Types, and what is known of types, that name no pointer type beyond the first so many.
use Rattle.std.specs.Prelude.{◌≡◌, ◌<◌, ℕ, List, Some, slice_get}
use Rattle.ob_judge.specs.Shapes.{Shape, Array, Open, Pointer, Procedure, Formals, none, one, Layout}
use Rattle.ob_judge.specs.Shapes.{Field as FieldOf}
use Rattle.ob_judge.specs.Image.{Place, Done, Global, Local, Parameter, Constant, Bits}
use Rattle.ob_judge.specs.Scopes.{Object, AConstant, AType, AVariable, AProcedure, Entry, KnownModule, Narrowing, World}
use Rattle.judged_modules.specs.Sound.{AllNames}
use Rattle.judged_modules.specs.Lists.{Each}

-- a type, with its parts
abbrev mutual
  pub PointsAmong : ℕ → Shape → Type 0
  PointsAmong n (Array m a) = PointsAmong n a
  PointsAmong n (Open a) = PointsAmong n a
  PointsAmong n (Pointer k) = k < n
  PointsAmong n (Procedure ps s) = AllPointAmong n ps × PointsAmong n s
  PointsAmong n s = Unit {0}

  -- the types of all parameters
  pub AllPointAmong : ℕ → Formals → Type 0
  AllPointAmong n none = Unit {0}
  AllPointAmong n (one v s ps) = PointsAmong n s × AllPointAmong n ps

-- where a variable stands that has a name: none is a part of another
abbrev pub IsDeclaredPlace : Place → Type 0
IsDeclaredPlace Done = Unit {0}
IsDeclaredPlace (Global m v) = Unit {0}
IsDeclaredPlace (Local v) = Unit {0}
IsDeclaredPlace (Parameter k) = Unit {0}
IsDeclaredPlace d = ⊥

abbrev pub ConstantAmong : ℕ → Constant → Type 0
ConstantAmong n (Bits s bits) = PointsAmong n s
ConstantAmong n c = Unit {0}

-- what a name stands for
abbrev pub ObjectAmong : ℕ → Object → Type 0
ObjectAmong n (AConstant c) = ConstantAmong n c
ObjectAmong n (AType s) = PointsAmong n s
ObjectAmong n (AVariable v) = PointsAmong n v.shape × IsDeclaredPlace v.place
ObjectAmong n (AProcedure f s is_local) = PointsAmong n s
ObjectAmong n o = Unit {0}

-- all names of a module
abbrev pub OffersAmong : ℕ → KnownModule → Type 0
OffersAmong n m = (q : List ℕ) (x : Entry) → m.names q ≡ Some x → ObjectAmong n x.object

-- all fields of a record type
abbrev pub FieldsAmong : ℕ → Layout → Type 0
FieldsAmong n l = (q : List ℕ) (f : FieldOf) → l.fields q ≡ Some f → PointsAmong n f.shape

abbrev pub NarrowingAmong : ℕ → Narrowing → Type 0
NarrowingAmong n x = PointsAmong n x.shape

-- all that is in scope
pub record WorldAmong (n : ℕ) (w : World) : Type 0 where
  pub names : AllNames (ObjectAmong n) w.levels
  pub members : (k : ℕ) (m : KnownModule) → slice_get w.modules k ≡ Some m → OffersAmong n m
  pub fields : (r : ℕ) (l : Layout) → slice_get w.known.records r ≡ Some l → FieldsAmong n l
  pub narrowed : Each (NarrowingAmong n) w.narrowed
