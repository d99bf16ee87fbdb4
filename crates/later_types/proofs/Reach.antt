-- What names no record type beyond the first so many names none beyond the first more.
use Rattle.std.proofs.Common.{ℕ, ◌≤◌, List, [], ◌∷◌, Option, arith}
use Rattle.ob_judge.specs.Shapes.{Shape, Array, Open, Record, Procedure, Formals, none, one, Layout}
use Rattle.ob_judge.specs.Image.{Constant, Bits}
use Rattle.ob_judge.specs.Scopes.{Object, AConstant, AType, AVariable, AProcedure, Entry, Narrowing, World}
use Rattle.judged_modules.specs.Sound.{AllNames}
use Rattle.judged_modules.specs.Lists.{Each}
use Rattle.later_types.specs.Records.{RecordsAmong, AllRecordsAmong, ConstantRecords, ObjectRecords, FieldsRecords, NarrowingRecords, RecordsInScope}
use Rattle.later_types.specs.Later.{Below}

module _ (n m : ℕ) (more : n ≤ m) where
  mutual
    pub shape_later : (s : Shape) → RecordsAmong (Below n) s → RecordsAmong (Below m) s
    shape_later (Array k a) h = shape_later a h
    shape_later (Open a) h = shape_later a h
    shape_later (Record k) h = omega (arith, h, more)
    shape_later (Procedure ps s) h = (formals_later ps h.0, shape_later s h.1)
    shape_later _ h = tt

    pub formals_later : (ps : Formals) → AllRecordsAmong (Below n) ps → AllRecordsAmong (Below m) ps
    formals_later none h = tt
    formals_later (one v s ps) h = (shape_later s h.0, formals_later ps h.1)

  constant_later : (c : Constant) → ConstantRecords (Below n) c → ConstantRecords (Below m) c
  constant_later (Bits s bits) h = shape_later s h
  constant_later _ h = tt

  pub object_later : (o : Object) → ObjectRecords (Below n) o → ObjectRecords (Below m) o
  object_later (AConstant c) h = constant_later c h
  object_later (AType s) h = shape_later s h
  object_later (AVariable v) h = shape_later v.shape h
  object_later (AProcedure f s is_local) h = shape_later s h
  object_later _ h = tt

  names_later : (ls : List (List ℕ → Option Entry)) → AllNames (ObjectRecords (Below n)) ls → AllNames (ObjectRecords (Below m)) ls
  names_later [] h = tt
  names_later (l ∷ ls) h = ((λ q x at. object_later x.object (h.0 q x at)), names_later ls h.1)

  pub narrowed_later : (xs : List Narrowing) → Each (NarrowingRecords (Below n)) xs → Each (NarrowingRecords (Below m)) xs
  narrowed_later [] h = tt
  narrowed_later (x ∷ xs) h = (shape_later x.shape h.0, narrowed_later xs h.1)

  pub fields_later : (l : Layout) → FieldsRecords (Below n) l → FieldsRecords (Below m) l
  fields_later l h q f at = shape_later f.shape (h q f at)

  pub world_later : (w : World) → RecordsInScope (Below n) w → RecordsInScope (Below m) w
  world_later w h = record {
    names = names_later w.levels h.names;
    members = λ k x at q y is. object_later y.object (h.members k x at q y is);
    fields = λ r l at. fields_later l (h.fields r l at);
    narrowed = narrowed_later w.narrowed h.narrowed;
  }
