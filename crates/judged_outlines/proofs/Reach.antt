-- What names no pointer type beyond the first so many names none beyond the first more.
use Rattle.std.proofs.Common.{ℕ, ◌≤◌, List, [], ◌∷◌, Option, arith}
use Rattle.ob_judge.specs.Shapes.{Shape, Integer, Array, Open, Pointer, Procedure, Formals, none, one, Layout}
use Rattle.ob_judge.specs.Image.{Constant, Bits}
use Rattle.ob_judge.specs.Image.{Chars as TheChars}
use Rattle.ob_judge.specs.Scopes.{Object, AConstant, AType, AVariable, AProcedure, AStandard, AModule, Entry, Narrowing, World}
use Rattle.judged_modules.specs.Sound.{AllNames}
use Rattle.judged_modules.specs.Lists.{Each}
use Rattle.judged_outlines.specs.Among.{PointsAmong, AllPointAmong, ConstantAmong, ObjectAmong, FieldsAmong, NarrowingAmong, WorldAmong}

module _ (n m : ℕ) (more : n ≤ m) where
  mutual
    pub shape_later : (s : Shape) → PointsAmong n s → PointsAmong m s
    shape_later (Array k a) h = shape_later a h
    shape_later (Open a) h = shape_later a h
    shape_later (Pointer k) h = omega (arith, h, more)
    shape_later (Procedure ps s) h = (formals_later ps h.0, shape_later s h.1)
    shape_later Integer h = tt
    shape_later _ h = tt

    pub formals_later : (ps : Formals) → AllPointAmong n ps → AllPointAmong m ps
    formals_later none h = tt
    formals_later (one v s ps) h = (shape_later s h.0, formals_later ps h.1)

  constant_later : (c : Constant) → ConstantAmong n c → ConstantAmong m c
  constant_later (Bits s bits) h = shape_later s h
  constant_later (TheChars cs) h = tt

  pub object_later : (o : Object) → ObjectAmong n o → ObjectAmong m o
  object_later (AConstant c) h = constant_later c h
  object_later (AType s) h = shape_later s h
  object_later (AVariable v) h = (shape_later v.shape h.0, h.1)
  object_later (AProcedure f s is_local) h = shape_later s h
  object_later (AStandard s) h = tt
  object_later (AModule k) h = tt

  pub names_later : (ls : List (List ℕ → Option Entry)) → AllNames (ObjectAmong n) ls → AllNames (ObjectAmong m) ls
  names_later [] h = tt
  names_later (l ∷ ls) h = ((λ q x at. object_later x.object (h.0 q x at)), names_later ls h.1)

  pub narrowed_later : (xs : List Narrowing) → Each (NarrowingAmong n) xs → Each (NarrowingAmong m) xs
  narrowed_later [] h = tt
  narrowed_later (x ∷ xs) h = (shape_later x.shape h.0, narrowed_later xs h.1)

  pub fields_later : (l : Layout) → FieldsAmong n l → FieldsAmong m l
  fields_later l h q f at = shape_later f.shape (h q f at)

  pub world_later : (w : World) → WorldAmong n w → WorldAmong m w
  world_later w h = record {
    names = names_later w.levels h.names;
    members = λ k x at q y is. object_later y.object (h.members k x at q y is);
    fields = λ r l at. fields_later l (h.fields r l at);
    narrowed = narrowed_later w.narrowed h.narrowed;
  }
