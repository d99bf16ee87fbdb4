-- Worked programs: their checked trees, and what holds of them. Written by bench/checked_rows.py from their texts.
use Rattle.std.specs.Prelude.{◌≡◌, [], ◌∷◌, true, false, Some, None, pos, Vec, Box}
use Rattle.std.proofs.Common.{refl, arith}
use Rattle.std.specs.Fmt.{digits}
use Rattle.std.specs.declared.alloc.Global.{Global as Heap}
use Rattle.run_laws.specs.Runs.{Trapped}
use Rattle.ob_types.specs.Store.{Senseless}
use Rattle.ob_types.specs.Meaning.{meaning}
use Rattle.ob_types.specs.WellFormed.{well_formed}
use Rattle.ob_types.specs.declared.types.TypeKind.TheVariants.{Int, Char, Nil, Array, Nothing}
use Rattle.ob_types.specs.declared.types.TypeKind.TheVariants.{Bool as BoolKind, Byte as ByteKind, Text as TextKind, Record as RecordKind, Pointer as PointerKind, Procedure as ProcedureKind}
use Rattle.ob_types.specs.declared.types.Mode.TheVariants.{Value as OfValue, Record as OfRecord, Open as OfOpen}
use Rattle.ob_types.specs.declared.tree.Unary.TheVariants.{Negate, Not}
use Rattle.ob_types.specs.declared.tree.Binary.TheVariants.{Add, Subtract, Multiply, Div, Mod}
use Rattle.ob_types.specs.declared.tree.Relation.TheVariants.{Equal, Unequal, Less, Greater}
use Rattle.ob_types.specs.declared.tree.Base.TheVariants.{Global, Local, Parameter, Text}
use Rattle.ob_types.specs.declared.tree.Expr.{Literal, Routine, Load, Guard', Unary', Chain', Compare', CompareTexts', IsPointer', IsParameter, Byte', Call', end_of-Link, more_of-Link}
use Rattle.ob_types.specs.declared.tree.Link.{Operate, And}
use Rattle.ob_types.specs.declared.tree.Designator.{Whole, Part', end_of-Selector, more_of-Selector}
use Rattle.ob_types.specs.declared.tree.Selector.{Index, Field, Dereference, Narrow}
use Rattle.ob_types.specs.declared.tree.Call.{Direct', Indirect', end_of-Argument, more_of-Argument}
use Rattle.ob_types.specs.declared.tree.Argument.{ByValue, ByRecord, ByOpen}
use Rattle.ob_types.specs.declared.statements.Label.TheVariants.{One, Range}
use Rattle.ob_types.specs.declared.statements.Stmt.{Assign, CopyArray, Increase, New, Assert, OutChar, OutInt, OutString, OutLn, If', While', For', Case', CasePointer', CaseParameter', end_of-Stmt, more_of-Stmt, end_of-Branch, more_of-Branch, end_of-CasePart, more_of-CasePart, end_of-TypePart, more_of-TypePart}
use Rattle.ob_types.specs.declared.statements.Stmt.{Call as Invoke}
use Rattle.ob_types.specs.declared.program.Program.{Program}
use Rattle.ob_types.specs.Trees.{data_tree, record_row}

-- the outside of a box and of a vector
abbrev Outside : Type 0 → Type 0
Outside A = Box (Unit {0}) Heap → Vec (Unit {0}) Heap → A

abbrev vec0 : Vec (Unit {0}) Heap → Vec (Unit {0}) Heap
vec0 v = record { ptr = v.ptr; len = 0; cap = 0; alloc = v.alloc; items = []; ok = (refl, omega arith); small = omega arith }

abbrev vec1 : Vec (Unit {0}) Heap → Vec (Unit {0}) Heap
vec1 v = record { ptr = v.ptr; len = 1; cap = 1; alloc = v.alloc; items = tt ∷ []; ok = (refl, omega arith); small = omega arith }

abbrev vec2 : Vec (Unit {0}) Heap → Vec (Unit {0}) Heap
vec2 v = record { ptr = v.ptr; len = 2; cap = 2; alloc = v.alloc; items = tt ∷ tt ∷ []; ok = (refl, omega arith); small = omega arith }

abbrev vec3 : Vec (Unit {0}) Heap → Vec (Unit {0}) Heap
vec3 v = record { ptr = v.ptr; len = 3; cap = 3; alloc = v.alloc; items = tt ∷ tt ∷ tt ∷ []; ok = (refl, omega arith); small = omega arith }

-- MODULE M; IMPORT Out; BEGIN Out.Int(6*7, 0); Out.Ln END M.
abbrev literal : Outside Program
literal b v = record { types = record { kinds = (Nothing ∷ []); records = []; signatures = [] }; modules = (record { name = []; objects = []; variables = []; body = 0 } ∷ []); procedures = (record { «module» = 0; line = 1; is_body = true; formals = []; result = 0; locals = []; texts = []; body = ((OutInt (record { form = (Chain' b (Literal 18446744073709551616) (vec1 v) (more_of-Link (Operate Multiply (Literal 7)) end_of-Link)); kind = Int }) (record { form = (Literal 0); kind = Int })) ∷ OutLn ∷ []); answer = None } ∷ []); imports_in = false }

pub literal_not : (b : Box (Unit {0}) Heap) (v : Vec (Unit {0}) Heap) → well_formed (literal b v) ≡ false
unfolding data_tree record_row
literal_not b v = refl

-- MODULE M; VAR a: ARRAY 3 OF INTEGER; i: INTEGER; BEGIN i := 2; a[i] := 1; i := 3; a[i] := 1 END M.
abbrev numbered : Outside Program
numbered b v = record { types = record { kinds = (Int ∷ (Array (Some 3) 0) ∷ Nothing ∷ []); records = []; signatures = [] }; modules = (record { name = []; objects = []; variables = (1 ∷ 0 ∷ []); body = 0 } ∷ []); procedures = (record { «module» = 0; line = 1; is_body = true; formals = []; result = 2; locals = []; texts = []; body = ((Assign (Whole (Global 0 2) Int) (record { form = (Literal 2); kind = Int })) ∷ (Assign (Part' b (Global 0 0) Int (vec1 v) (more_of-Selector (Index (Some 3) 0 (Load (Whole (Global 0 1) Int))) end_of-Selector)) (record { form = (Literal 1); kind = Int })) ∷ (Assign (Whole (Global 0 1) Int) (record { form = (Literal 3); kind = Int })) ∷ (Assign (Part' b (Global 0 0) Int (vec1 v) (more_of-Selector (Index (Some 3) 0 (Load (Whole (Global 0 1) Int))) end_of-Selector)) (record { form = (Literal 1); kind = Int })) ∷ []); answer = None } ∷ []); imports_in = false }

pub numbered_not : (b : Box (Unit {0}) Heap) (v : Vec (Unit {0}) Heap) → well_formed (numbered b v) ≡ false
unfolding data_tree record_row
numbered_not b v = refl

pub numbered_run : (b : Box (Unit {0}) Heap) (v : Vec (Unit {0}) Heap) → meaning (numbered b v) [] 5 ≡ Trapped Senseless []
unfolding digits
numbered_run b v = refl

-- MODULE M; VAR a: ARRAY 3 OF INTEGER; i: INTEGER; BEGIN i := 2; a[i] := 1; i := 3; a[i] := 1 END M.
abbrev longer : Outside Program
longer b v = record { types = record { kinds = (Int ∷ (Array (Some 3) 0) ∷ Nothing ∷ []); records = []; signatures = [] }; modules = (record { name = []; objects = []; variables = (1 ∷ 0 ∷ []); body = 0 } ∷ []); procedures = (record { «module» = 0; line = 1; is_body = true; formals = []; result = 2; locals = []; texts = []; body = ((Assign (Whole (Global 0 1) Int) (record { form = (Literal 2); kind = Int })) ∷ (Assign (Part' b (Global 0 0) Int (vec1 v) (more_of-Selector (Index (Some 5) 0 (Load (Whole (Global 0 1) Int))) end_of-Selector)) (record { form = (Literal 1); kind = Int })) ∷ (Assign (Whole (Global 0 1) Int) (record { form = (Literal 3); kind = Int })) ∷ (Assign (Part' b (Global 0 0) Int (vec1 v) (more_of-Selector (Index (Some 3) 0 (Load (Whole (Global 0 1) Int))) end_of-Selector)) (record { form = (Literal 1); kind = Int })) ∷ []); answer = None } ∷ []); imports_in = false }

pub longer_not : (b : Box (Unit {0}) Heap) (v : Vec (Unit {0}) Heap) → well_formed (longer b v) ≡ false
unfolding data_tree record_row
longer_not b v = refl

-- MODULE M; VAR a: ARRAY 3 OF INTEGER; i: INTEGER; BEGIN i := 2; a[i] := 1; i := 3; a[i] := 1 END M.
abbrev element : Outside Program
element b v = record { types = record { kinds = (Int ∷ (Array (Some 3) 0) ∷ Nothing ∷ []); records = []; signatures = [] }; modules = (record { name = []; objects = []; variables = (1 ∷ 0 ∷ []); body = 0 } ∷ []); procedures = (record { «module» = 0; line = 1; is_body = true; formals = []; result = 2; locals = []; texts = []; body = ((Assign (Whole (Global 0 1) Int) (record { form = (Literal 2); kind = Int })) ∷ (Assign (Part' b (Global 0 0) Int (vec1 v) (more_of-Selector (Index (Some 3) 1 (Load (Whole (Global 0 1) Int))) end_of-Selector)) (record { form = (Literal 1); kind = Int })) ∷ (Assign (Whole (Global 0 1) Int) (record { form = (Literal 3); kind = Int })) ∷ (Assign (Part' b (Global 0 0) Int (vec1 v) (more_of-Selector (Index (Some 3) 0 (Load (Whole (Global 0 1) Int))) end_of-Selector)) (record { form = (Literal 1); kind = Int })) ∷ []); answer = None } ∷ []); imports_in = false }

pub element_not : (b : Box (Unit {0}) Heap) (v : Vec (Unit {0}) Heap) → well_formed (element b v) ≡ false
unfolding data_tree record_row
element_not b v = refl

pub element_run : (b : Box (Unit {0}) Heap) (v : Vec (Unit {0}) Heap) → meaning (element b v) [] 5 ≡ Trapped Senseless []
unfolding digits
element_run b v = refl

-- MODULE G; TYPE B = RECORD END; E = RECORD (B) x: INTEGER END; F = RECORD (E) END; PB = POINTER TO B; PE = POINTER TO E; PF = POINTER TO F; VAR p: PB; e: PE; f: PF; BEGIN ASSERT(~(p IS PE)); NEW(e); p := e; e := p(PE); NEW(f); p := f; e := p(PE); ASSERT(p IS PF); NEW(p); e := p(PE) END G.
abbrev unguarded : Outside Program
unguarded b v = record { types = record { kinds = ((RecordKind 0) ∷ (RecordKind 1) ∷ (RecordKind 2) ∷ (PointerKind 0) ∷ (PointerKind 1) ∷ (PointerKind 2) ∷ Nothing ∷ Int ∷ []); records = (record { «module» = 0; base = None; level = 0; fields = []; cells = 0; extent = record { bytes = 0; wide = false } } ∷ record { «module» = 0; base = (Some 0); level = 1; fields = (record { name = []; exported = false; type_number = 7 } ∷ []); cells = 1; extent = record { bytes = 8; wide = true } } ∷ record { «module» = 0; base = (Some 1); level = 2; fields = []; cells = 1; extent = record { bytes = 8; wide = true } } ∷ []); signatures = [] }; modules = (record { name = []; objects = []; variables = (3 ∷ 4 ∷ 5 ∷ []); body = 0 } ∷ []); procedures = (record { «module» = 0; line = 1; is_body = true; formals = []; result = 6; locals = []; texts = []; body = ((Assert (record { form = (Unary' Not b (IsPointer' b (Load (Whole (Global 0 0) (PointerKind 0))) 1)); kind = BoolKind })) ∷ (New (Whole (Global 0 1) (PointerKind 1))) ∷ (Assign (Whole (Global 0 0) (PointerKind 0)) (record { form = (Load (Whole (Global 0 1) (PointerKind 1))); kind = (PointerKind 1) })) ∷ (Assign (Whole (Global 0 1) (PointerKind 1)) (record { form = (Load (Whole (Global 0 0) (PointerKind 0))); kind = (PointerKind 1) })) ∷ (New (Whole (Global 0 2) (PointerKind 2))) ∷ (Assign (Whole (Global 0 0) (PointerKind 0)) (record { form = (Load (Whole (Global 0 2) (PointerKind 2))); kind = (PointerKind 2) })) ∷ (Assign (Whole (Global 0 1) (PointerKind 1)) (record { form = (Guard' b (Whole (Global 0 0) (PointerKind 0)) (1 ∷ [])); kind = (PointerKind 1) })) ∷ (Assert (record { form = (IsPointer' b (Load (Whole (Global 0 0) (PointerKind 0))) 2); kind = BoolKind })) ∷ (New (Whole (Global 0 0) (PointerKind 0))) ∷ (Assign (Whole (Global 0 1) (PointerKind 1)) (record { form = (Guard' b (Whole (Global 0 0) (PointerKind 0)) (1 ∷ [])); kind = (PointerKind 1) })) ∷ []); answer = None } ∷ []); imports_in = false }

pub unguarded_not : (b : Box (Unit {0}) Heap) (v : Vec (Unit {0}) Heap) → well_formed (unguarded b v) ≡ false
unfolding data_tree record_row
unguarded_not b v = refl

-- MODULE G; TYPE B = RECORD END; E = RECORD (B) x: INTEGER END; F = RECORD (E) END; PB = POINTER TO B; PE = POINTER TO E; PF = POINTER TO F; VAR p: PB; e: PE; f: PF; BEGIN ASSERT(~(p IS PE)); NEW(e); p := e; e := p(PE); NEW(f); p := f; e := p(PE); ASSERT(p IS PF); NEW(p); e := p(PE) END G.
abbrev another_type : Outside Program
another_type b v = record { types = record { kinds = ((RecordKind 0) ∷ (RecordKind 1) ∷ (RecordKind 2) ∷ (PointerKind 0) ∷ (PointerKind 1) ∷ (PointerKind 2) ∷ Nothing ∷ Int ∷ []); records = (record { «module» = 0; base = None; level = 0; fields = []; cells = 0; extent = record { bytes = 0; wide = false } } ∷ record { «module» = 0; base = (Some 0); level = 1; fields = (record { name = []; exported = false; type_number = 7 } ∷ []); cells = 1; extent = record { bytes = 8; wide = true } } ∷ record { «module» = 0; base = (Some 1); level = 2; fields = []; cells = 1; extent = record { bytes = 8; wide = true } } ∷ []); signatures = [] }; modules = (record { name = []; objects = []; variables = (3 ∷ 4 ∷ 5 ∷ []); body = 0 } ∷ []); procedures = (record { «module» = 0; line = 1; is_body = true; formals = []; result = 6; locals = []; texts = []; body = ((Assert (record { form = (Unary' Not b (IsPointer' b (Load (Whole (Global 0 0) (PointerKind 0))) 1)); kind = BoolKind })) ∷ (New (Whole (Global 0 1) (PointerKind 0))) ∷ (Assign (Whole (Global 0 0) (PointerKind 0)) (record { form = (Load (Whole (Global 0 1) (PointerKind 1))); kind = (PointerKind 1) })) ∷ (Assign (Whole (Global 0 1) (PointerKind 1)) (record { form = (Guard' b (Whole (Global 0 0) (PointerKind 0)) (1 ∷ [])); kind = (PointerKind 1) })) ∷ (New (Whole (Global 0 2) (PointerKind 2))) ∷ (Assign (Whole (Global 0 0) (PointerKind 0)) (record { form = (Load (Whole (Global 0 2) (PointerKind 2))); kind = (PointerKind 2) })) ∷ (Assign (Whole (Global 0 1) (PointerKind 1)) (record { form = (Guard' b (Whole (Global 0 0) (PointerKind 0)) (1 ∷ [])); kind = (PointerKind 1) })) ∷ (Assert (record { form = (IsPointer' b (Load (Whole (Global 0 0) (PointerKind 0))) 2); kind = BoolKind })) ∷ (New (Whole (Global 0 0) (PointerKind 0))) ∷ (Assign (Whole (Global 0 1) (PointerKind 1)) (record { form = (Guard' b (Whole (Global 0 0) (PointerKind 0)) (1 ∷ [])); kind = (PointerKind 1) })) ∷ []); answer = None } ∷ []); imports_in = false }

pub another_type_not : (b : Box (Unit {0}) Heap) (v : Vec (Unit {0}) Heap) → well_formed (another_type b v) ≡ false
unfolding data_tree record_row
another_type_not b v = refl

-- MODULE G; TYPE B = RECORD END; E = RECORD (B) x: INTEGER END; F = RECORD (E) END; PB = POINTER TO B; PE = POINTER TO E; PF = POINTER TO F; VAR p: PB; e: PE; f: PF; BEGIN ASSERT(~(p IS PE)); NEW(e); p := e; e := p(PE); NEW(f); p := f; e := p(PE); ASSERT(p IS PF); NEW(p); e := p(PE) END G.
abbrev ordered : Outside Program
ordered b v = record { types = record { kinds = ((RecordKind 0) ∷ (RecordKind 1) ∷ (RecordKind 2) ∷ (PointerKind 0) ∷ (PointerKind 1) ∷ (PointerKind 2) ∷ Nothing ∷ Int ∷ []); records = (record { «module» = 0; base = None; level = 0; fields = []; cells = 0; extent = record { bytes = 0; wide = false } } ∷ record { «module» = 0; base = (Some 0); level = 1; fields = (record { name = []; exported = false; type_number = 7 } ∷ []); cells = 1; extent = record { bytes = 8; wide = true } } ∷ record { «module» = 0; base = (Some 1); level = 2; fields = []; cells = 1; extent = record { bytes = 8; wide = true } } ∷ []); signatures = [] }; modules = (record { name = []; objects = []; variables = (3 ∷ 4 ∷ 5 ∷ []); body = 0 } ∷ []); procedures = (record { «module» = 0; line = 1; is_body = true; formals = []; result = 6; locals = []; texts = []; body = ((Assert (record { form = (Compare' Less b (Load (Whole (Global 0 0) (PointerKind 0))) b (Load (Whole (Global 0 1) (PointerKind 1)))); kind = BoolKind })) ∷ (New (Whole (Global 0 1) (PointerKind 1))) ∷ (Assign (Whole (Global 0 0) (PointerKind 0)) (record { form = (Load (Whole (Global 0 1) (PointerKind 1))); kind = (PointerKind 1) })) ∷ (Assign (Whole (Global 0 1) (PointerKind 1)) (record { form = (Guard' b (Whole (Global 0 0) (PointerKind 0)) (1 ∷ [])); kind = (PointerKind 1) })) ∷ (New (Whole (Global 0 2) (PointerKind 2))) ∷ (Assign (Whole (Global 0 0) (PointerKind 0)) (record { form = (Load (Whole (Global 0 2) (PointerKind 2))); kind = (PointerKind 2) })) ∷ (Assign (Whole (Global 0 1) (PointerKind 1)) (record { form = (Guard' b (Whole (Global 0 0) (PointerKind 0)) (1 ∷ [])); kind = (PointerKind 1) })) ∷ (Assert (record { form = (IsPointer' b (Load (Whole (Global 0 0) (PointerKind 0))) 2); kind = BoolKind })) ∷ (New (Whole (Global 0 0) (PointerKind 0))) ∷ (Assign (Whole (Global 0 1) (PointerKind 1)) (record { form = (Guard' b (Whole (Global 0 0) (PointerKind 0)) (1 ∷ [])); kind = (PointerKind 1) })) ∷ []); answer = None } ∷ []); imports_in = false }

pub ordered_not : (b : Box (Unit {0}) Heap) (v : Vec (Unit {0}) Heap) → well_formed (ordered b v) ≡ false
unfolding data_tree record_row
ordered_not b v = refl

-- MODULE G; TYPE B = RECORD END; E = RECORD (B) x: INTEGER END; F = RECORD (E) END; PB = POINTER TO B; PE = POINTER TO E; PF = POINTER TO F; VAR p: PB; e: PE; f: PF; BEGIN ASSERT(~(p IS PE)); NEW(e); p := e; e := p(PE); NEW(f); p := f; e := p(PE); ASSERT(p IS PF); NEW(p); e := p(PE) END G.
abbrev added : Outside Program
added b v = record { types = record { kinds = ((RecordKind 0) ∷ (RecordKind 1) ∷ (RecordKind 2) ∷ (PointerKind 0) ∷ (PointerKind 1) ∷ (PointerKind 2) ∷ Nothing ∷ Int ∷ []); records = (record { «module» = 0; base = None; level = 0; fields = []; cells = 0; extent = record { bytes = 0; wide = false } } ∷ record { «module» = 0; base = (Some 0); level = 1; fields = (record { name = []; exported = false; type_number = 7 } ∷ []); cells = 1; extent = record { bytes = 8; wide = true } } ∷ record { «module» = 0; base = (Some 1); level = 2; fields = []; cells = 1; extent = record { bytes = 8; wide = true } } ∷ []); signatures = [] }; modules = (record { name = []; objects = []; variables = (3 ∷ 4 ∷ 5 ∷ []); body = 0 } ∷ []); procedures = (record { «module» = 0; line = 1; is_body = true; formals = []; result = 6; locals = []; texts = []; body = ((Assert (record { form = (Unary' Not b (IsPointer' b (Load (Whole (Global 0 0) (PointerKind 0))) 1)); kind = BoolKind })) ∷ (New (Whole (Global 0 1) (PointerKind 1))) ∷ (Assign (Whole (Global 0 0) (PointerKind 0)) (record { form = (Load (Whole (Global 0 1) (PointerKind 1))); kind = (PointerKind 1) })) ∷ (Assign (Whole (Global 0 1) (PointerKind 1)) (record { form = (Guard' b (Whole (Global 0 0) (PointerKind 0)) (1 ∷ [])); kind = (PointerKind 1) })) ∷ (New (Whole (Global 0 2) (PointerKind 2))) ∷ (Assign (Whole (Global 0 0) (PointerKind 0)) (record { form = (Load (Whole (Global 0 2) (PointerKind 2))); kind = (PointerKind 2) })) ∷ (Assign (Whole (Global 0 1) (PointerKind 1)) (record { form = (Guard' b (Whole (Global 0 0) (PointerKind 0)) (1 ∷ [])); kind = (PointerKind 1) })) ∷ (Assert (record { form = (Chain' b (Load (Whole (Global 0 0) (PointerKind 0))) (vec1 v) (more_of-Link (Operate Add (Literal 1)) end_of-Link)); kind = BoolKind })) ∷ (New (Whole (Global 0 0) (PointerKind 0))) ∷ (Assign (Whole (Global 0 1) (PointerKind 1)) (record { form = (Guard' b (Whole (Global 0 0) (PointerKind 0)) (1 ∷ [])); kind = (PointerKind 1) })) ∷ []); answer = None } ∷ []); imports_in = false }

pub added_not : (b : Box (Unit {0}) Heap) (v : Vec (Unit {0}) Heap) → well_formed (added b v) ≡ false
unfolding data_tree record_row
added_not b v = refl

pub added_run : (b : Box (Unit {0}) Heap) (v : Vec (Unit {0}) Heap) → meaning (added b v) [] 5 ≡ Trapped Senseless []
unfolding digits
added_run b v = refl

-- MODULE D; IMPORT Out; PROCEDURE D(n: INTEGER); BEGIN IF n > 1 THEN D(n - 1) END END D; BEGIN Out.Char(''a''); D(20); Out.Char(''b'') END D.
abbrev arguments : Outside Program
arguments b v = record { types = record { kinds = (Int ∷ Nothing ∷ []); records = []; signatures = [] }; modules = (record { name = []; objects = []; variables = []; body = 1 } ∷ []); procedures = (record { «module» = 0; line = 1; is_body = false; formals = (record { mode = OfValue; variable = false; type_number = 0 } ∷ []); result = 1; locals = []; texts = []; body = ((If' (vec1 v) (more_of-Branch (record { form = (Compare' Greater b (Load (Whole (Local 0) Int)) b (Literal 1)); kind = BoolKind }) (vec1 v) (more_of-Stmt (Invoke (Direct' 0 (vec1 v) (more_of-Argument (ByValue (Chain' b (Load (Whole (Local 0) Int)) (vec1 v) (more_of-Link (Operate Subtract (Literal 1)) end_of-Link))) end_of-Argument))) end_of-Stmt) end_of-Branch) (vec0 v) end_of-Stmt) ∷ []); answer = None } ∷ record { «module» = 0; line = 1; is_body = true; formals = []; result = 1; locals = []; texts = []; body = ((OutChar (record { form = (Literal 97); kind = Char })) ∷ (Invoke (Direct' 0 (vec0 v) end_of-Argument)) ∷ (OutChar (record { form = (Literal 98); kind = Char })) ∷ []); answer = None } ∷ []); imports_in = false }

pub arguments_not : (b : Box (Unit {0}) Heap) (v : Vec (Unit {0}) Heap) → well_formed (arguments b v) ≡ false
unfolding data_tree record_row
arguments_not b v = refl

pub arguments_run : (b : Box (Unit {0}) Heap) (v : Vec (Unit {0}) Heap) → meaning (arguments b v) [] 9 ≡ Trapped Senseless (97 ∷ [])
unfolding digits
arguments_run b v = refl

-- MODULE A; PROCEDURE Twice*(x: INTEGER): INTEGER; BEGIN RETURN 2*x END Twice; END A. === MODULE B; IMPORT A, Out; BEGIN Out.Int(A.Twice(21), 0); Out.Ln END B.
abbrev result : Outside Program
result b v = record { types = record { kinds = (Int ∷ Nothing ∷ []); records = []; signatures = [] }; modules = (record { name = []; objects = []; variables = []; body = 1 } ∷ record { name = []; objects = []; variables = []; body = 2 } ∷ []); procedures = (record { «module» = 0; line = 1; is_body = false; formals = (record { mode = OfValue; variable = false; type_number = 0 } ∷ []); result = 0; locals = []; texts = []; body = []; answer = None } ∷ record { «module» = 0; line = 1; is_body = true; formals = []; result = 1; locals = []; texts = []; body = []; answer = None } ∷ record { «module» = 1; line = 1; is_body = true; formals = []; result = 1; locals = []; texts = []; body = ((OutInt (record { form = (Call' b (Direct' 0 (vec1 v) (more_of-Argument (ByValue (Literal 21)) end_of-Argument))); kind = Int }) (record { form = (Literal 0); kind = Int })) ∷ OutLn ∷ []); answer = None } ∷ []); imports_in = false }

pub result_not : (b : Box (Unit {0}) Heap) (v : Vec (Unit {0}) Heap) → well_formed (result b v) ≡ false
unfolding data_tree record_row
result_not b v = refl

pub result_run : (b : Box (Unit {0}) Heap) (v : Vec (Unit {0}) Heap) → meaning (result b v) [] 5 ≡ Trapped Senseless []
unfolding digits
result_run b v = refl

-- MODULE C; IMPORT Out; VAR a: ARRAY 4 OF CHAR; PROCEDURE Q(VAR s: ARRAY OF CHAR); BEGIN s := ''abc'' END Q; BEGIN Q(a); Out.String(a) END C.
abbrev readonly : Outside Program
readonly b v = record { types = record { kinds = (Char ∷ (Array (Some 4) 0) ∷ (Array None 0) ∷ Nothing ∷ []); records = []; signatures = [] }; modules = (record { name = []; objects = []; variables = (1 ∷ []); body = 1 } ∷ []); procedures = (record { «module» = 0; line = 1; is_body = false; formals = (record { mode = OfOpen; variable = false; type_number = 2 } ∷ []); result = 3; locals = []; texts = ((97 ∷ 98 ∷ 99 ∷ []) ∷ []); body = ((CopyArray (Whole (Parameter 0) (Array None 0)) (Whole (Text 0) (TextKind 3))) ∷ []); answer = None } ∷ record { «module» = 0; line = 1; is_body = true; formals = []; result = 3; locals = []; texts = []; body = ((Invoke (Direct' 0 (vec1 v) (more_of-Argument (ByOpen (Whole (Global 0 0) (Array (Some 4) 0))) end_of-Argument))) ∷ (OutString (Whole (Global 0 0) (Array (Some 4) 0))) ∷ []); answer = None } ∷ []); imports_in = false }

pub readonly_not : (b : Box (Unit {0}) Heap) (v : Vec (Unit {0}) Heap) → well_formed (readonly b v) ≡ false
unfolding data_tree record_row
readonly_not b v = refl

-- MODULE P; IMPORT Out; TYPE F = PROCEDURE (x: INTEGER): INTEGER; VAR f, g: F; PROCEDURE D(x: INTEGER): INTEGER; BEGIN Out.Int(x, 0) RETURN 2 * x END D; PROCEDURE E(x: INTEGER): INTEGER; BEGIN f := D RETURN f(x) + 1 END E; BEGIN f := E; Out.Int(f(f(4)), 0); IF (f = D) & (g = NIL) THEN Out.Char(''!'') END; Out.Int(g(D(5)), 0) END P.
abbrev called : Outside Program
called b v = record { types = record { kinds = (Int ∷ (ProcedureKind 0) ∷ Nothing ∷ []); records = []; signatures = (record { formals = (record { mode = OfValue; variable = false; type_number = 0 } ∷ []); result = 0 } ∷ []) }; modules = (record { name = []; objects = []; variables = (1 ∷ 1 ∷ []); body = 2 } ∷ []); procedures = (record { «module» = 0; line = 1; is_body = false; formals = (record { mode = OfValue; variable = false; type_number = 0 } ∷ []); result = 0; locals = []; texts = []; body = ((OutInt (record { form = (Load (Whole (Local 0) Int)); kind = Int }) (record { form = (Literal 0); kind = Int })) ∷ []); answer = (Some (record { form = (Chain' b (Literal 2) (vec1 v) (more_of-Link (Operate Multiply (Load (Whole (Local 0) Int))) end_of-Link)); kind = Int })) } ∷ record { «module» = 0; line = 1; is_body = false; formals = (record { mode = OfValue; variable = false; type_number = 0 } ∷ []); result = 0; locals = []; texts = []; body = ((Assign (Whole (Global 0 0) (ProcedureKind 0)) (record { form = (Routine 0); kind = (ProcedureKind 0) })) ∷ []); answer = (Some (record { form = (Chain' b (Call' b (Indirect' (Whole (Global 0 0) (ProcedureKind 0)) (vec1 v) (more_of-Argument (ByValue (Load (Whole (Local 0) Int))) end_of-Argument))) (vec1 v) (more_of-Link (Operate Add (Literal 1)) end_of-Link)); kind = Int })) } ∷ record { «module» = 0; line = 1; is_body = true; formals = []; result = 2; locals = []; texts = []; body = ((Assign (Whole (Global 0 0) (ProcedureKind 0)) (record { form = (Literal 1); kind = (ProcedureKind 0) })) ∷ (OutInt (record { form = (Call' b (Indirect' (Whole (Global 0 0) (ProcedureKind 0)) (vec1 v) (more_of-Argument (ByValue (Call' b (Indirect' (Whole (Global 0 0) (ProcedureKind 0)) (vec1 v) (more_of-Argument (ByValue (Literal 4)) end_of-Argument)))) end_of-Argument))); kind = Int }) (record { form = (Literal 0); kind = Int })) ∷ (If' (vec1 v) (more_of-Branch (record { form = (Chain' b (Compare' Equal b (Load (Whole (Global 0 0) (ProcedureKind 0))) b (Routine 0)) (vec1 v) (more_of-Link (And (Compare' Equal b (Load (Whole (Global 0 1) (ProcedureKind 0))) b (Literal 0))) end_of-Link)); kind = BoolKind }) (vec1 v) (more_of-Stmt (OutChar (record { form = (Literal 33); kind = Char })) end_of-Stmt) end_of-Branch) (vec0 v) end_of-Stmt) ∷ (OutInt (record { form = (Call' b (Indirect' (Whole (Global 0 1) (ProcedureKind 0)) (vec1 v) (more_of-Argument (ByValue (Call' b (Direct' 0 (vec1 v) (more_of-Argument (ByValue (Literal 5)) end_of-Argument)))) end_of-Argument))); kind = Int }) (record { form = (Literal 0); kind = Int })) ∷ []); answer = None } ∷ []); imports_in = false }

pub called_not : (b : Box (Unit {0}) Heap) (v : Vec (Unit {0}) Heap) → well_formed (called b v) ≡ false
unfolding data_tree record_row
called_not b v = refl

pub called_run : (b : Box (Unit {0}) Heap) (v : Vec (Unit {0}) Heap) → meaning (called b v) [] 20 ≡ Trapped Senseless []
unfolding digits
called_run b v = refl

-- MODULE D; IMPORT Out; PROCEDURE D(n: INTEGER); BEGIN IF n > 1 THEN D(n - 1) END END D; BEGIN Out.Char(''a''); D(20); Out.Char(''b'') END D.
abbrev body_called : Outside Program
body_called b v = record { types = record { kinds = (Int ∷ Nothing ∷ []); records = []; signatures = [] }; modules = (record { name = []; objects = []; variables = []; body = 1 } ∷ []); procedures = (record { «module» = 0; line = 1; is_body = false; formals = (record { mode = OfValue; variable = false; type_number = 0 } ∷ []); result = 1; locals = []; texts = []; body = ((If' (vec1 v) (more_of-Branch (record { form = (Compare' Greater b (Load (Whole (Local 0) Int)) b (Literal 1)); kind = BoolKind }) (vec1 v) (more_of-Stmt (Invoke (Direct' 0 (vec1 v) (more_of-Argument (ByValue (Chain' b (Load (Whole (Local 0) Int)) (vec1 v) (more_of-Link (Operate Subtract (Literal 1)) end_of-Link))) end_of-Argument))) end_of-Stmt) end_of-Branch) (vec0 v) end_of-Stmt) ∷ []); answer = None } ∷ record { «module» = 0; line = 1; is_body = true; formals = []; result = 1; locals = []; texts = []; body = ((OutChar (record { form = (Literal 97); kind = Char })) ∷ (Invoke (Direct' 1 (vec0 v) end_of-Argument)) ∷ (OutChar (record { form = (Literal 98); kind = Char })) ∷ []); answer = None } ∷ []); imports_in = false }

pub body_called_not : (b : Box (Unit {0}) Heap) (v : Vec (Unit {0}) Heap) → well_formed (body_called b v) ≡ false
unfolding data_tree record_row
body_called_not b v = refl

-- MODULE B; IMPORT Out; VAR b: BYTE; BEGIN b := 254; INC(b); Out.Int(b, 0); INC(b) END B.
abbrev bytes : Outside Program
bytes b v = record { types = record { kinds = (ByteKind ∷ Nothing ∷ []); records = []; signatures = [] }; modules = (record { name = []; objects = []; variables = (0 ∷ []); body = 0 } ∷ []); procedures = (record { «module» = 0; line = 1; is_body = true; formals = []; result = 1; locals = []; texts = []; body = ((Assign (Whole (Global 0 0) ByteKind) (record { form = (Byte' b (Literal 254)); kind = ByteKind })) ∷ (Increase (Whole (Global 0 0) Int) (record { form = (Literal 1); kind = Int })) ∷ (OutInt (record { form = (Load (Whole (Global 0 0) ByteKind)); kind = ByteKind }) (record { form = (Literal 0); kind = Int })) ∷ (Increase (Whole (Global 0 0) ByteKind) (record { form = (Literal 1); kind = Int })) ∷ []); answer = None } ∷ []); imports_in = false }

pub bytes_not : (b : Box (Unit {0}) Heap) (v : Vec (Unit {0}) Heap) → well_formed (bytes b v) ≡ false
unfolding data_tree record_row
bytes_not b v = refl

-- MODULE M; IMPORT Out; BEGIN Out.Int((-7) DIV 2, 0); Out.Char('' ''); Out.Int((-7) MOD 2, 0) END M.
abbrev kinds : Outside Program
kinds b v = record { types = record { kinds = (Nothing ∷ []); records = []; signatures = [] }; modules = (record { name = []; objects = []; variables = []; body = 0 } ∷ []); procedures = (record { «module» = 0; line = 1; is_body = true; formals = []; result = 0; locals = []; texts = []; body = ((OutInt (record { form = (Chain' b (Unary' Negate b (Literal 7)) (vec1 v) (more_of-Link (Operate Div (Literal 2)) end_of-Link)); kind = Int }) (record { form = (Literal 0); kind = Int })) ∷ (OutChar (record { form = (Literal 32); kind = (PointerKind 0) })) ∷ (OutInt (record { form = (Chain' b (Unary' Negate b (Literal 7)) (vec1 v) (more_of-Link (Operate Mod (Literal 2)) end_of-Link)); kind = Int }) (record { form = (Literal 0); kind = Int })) ∷ []); answer = None } ∷ []); imports_in = false }

pub kinds_not : (b : Box (Unit {0}) Heap) (v : Vec (Unit {0}) Heap) → well_formed (kinds b v) ≡ false
unfolding data_tree record_row
kinds_not b v = refl

-- MODULE M; VAR a: ARRAY 3 OF INTEGER; i: INTEGER; BEGIN i := 2; a[i] := 1; i := 3; a[i] := 1 END M.
abbrev nested : Outside Program
nested b v = record { types = record { kinds = (Int ∷ (Array (Some 3) 1) ∷ Nothing ∷ []); records = []; signatures = [] }; modules = (record { name = []; objects = []; variables = (1 ∷ 0 ∷ []); body = 0 } ∷ []); procedures = (record { «module» = 0; line = 1; is_body = true; formals = []; result = 2; locals = []; texts = []; body = ((Assign (Whole (Global 0 1) Int) (record { form = (Literal 2); kind = Int })) ∷ (Assign (Part' b (Global 0 0) Int (vec1 v) (more_of-Selector (Index (Some 3) 0 (Load (Whole (Global 0 1) Int))) end_of-Selector)) (record { form = (Literal 1); kind = Int })) ∷ (Assign (Whole (Global 0 1) Int) (record { form = (Literal 3); kind = Int })) ∷ (Assign (Part' b (Global 0 0) Int (vec1 v) (more_of-Selector (Index (Some 3) 0 (Load (Whole (Global 0 1) Int))) end_of-Selector)) (record { form = (Literal 1); kind = Int })) ∷ []); answer = None } ∷ []); imports_in = false }

pub nested_not : (b : Box (Unit {0}) Heap) (v : Vec (Unit {0}) Heap) → well_formed (nested b v) ≡ false
unfolding data_tree record_row
nested_not b v = refl

-- MODULE G; TYPE B = RECORD END; E = RECORD (B) x: INTEGER END; F = RECORD (E) END; PB = POINTER TO B; PE = POINTER TO E; PF = POINTER TO F; VAR p: PB; e: PE; f: PF; BEGIN ASSERT(~(p IS PE)); NEW(e); p := e; e := p(PE); NEW(f); p := f; e := p(PE); ASSERT(p IS PF); NEW(p); e := p(PE) END G.
abbrev based : Outside Program
based b v = record { types = record { kinds = ((RecordKind 0) ∷ (RecordKind 1) ∷ (RecordKind 2) ∷ (PointerKind 0) ∷ (PointerKind 1) ∷ (PointerKind 2) ∷ Nothing ∷ Int ∷ []); records = (record { «module» = 0; base = (Some 2); level = 0; fields = []; cells = 0; extent = record { bytes = 0; wide = false } } ∷ record { «module» = 0; base = (Some 0); level = 1; fields = (record { name = []; exported = false; type_number = 7 } ∷ []); cells = 1; extent = record { bytes = 8; wide = true } } ∷ record { «module» = 0; base = (Some 1); level = 2; fields = []; cells = 1; extent = record { bytes = 8; wide = true } } ∷ []); signatures = [] }; modules = (record { name = []; objects = []; variables = (3 ∷ 4 ∷ 5 ∷ []); body = 0 } ∷ []); procedures = (record { «module» = 0; line = 1; is_body = true; formals = []; result = 6; locals = []; texts = []; body = ((Assert (record { form = (Unary' Not b (IsPointer' b (Load (Whole (Global 0 0) (PointerKind 0))) 1)); kind = BoolKind })) ∷ (New (Whole (Global 0 1) (PointerKind 1))) ∷ (Assign (Whole (Global 0 0) (PointerKind 0)) (record { form = (Load (Whole (Global 0 1) (PointerKind 1))); kind = (PointerKind 1) })) ∷ (Assign (Whole (Global 0 1) (PointerKind 1)) (record { form = (Guard' b (Whole (Global 0 0) (PointerKind 0)) (1 ∷ [])); kind = (PointerKind 1) })) ∷ (New (Whole (Global 0 2) (PointerKind 2))) ∷ (Assign (Whole (Global 0 0) (PointerKind 0)) (record { form = (Load (Whole (Global 0 2) (PointerKind 2))); kind = (PointerKind 2) })) ∷ (Assign (Whole (Global 0 1) (PointerKind 1)) (record { form = (Guard' b (Whole (Global 0 0) (PointerKind 0)) (1 ∷ [])); kind = (PointerKind 1) })) ∷ (Assert (record { form = (IsPointer' b (Load (Whole (Global 0 0) (PointerKind 0))) 2); kind = BoolKind })) ∷ (New (Whole (Global 0 0) (PointerKind 0))) ∷ (Assign (Whole (Global 0 1) (PointerKind 1)) (record { form = (Guard' b (Whole (Global 0 0) (PointerKind 0)) (1 ∷ [])); kind = (PointerKind 1) })) ∷ []); answer = None } ∷ []); imports_in = false }

pub based_not : (b : Box (Unit {0}) Heap) (v : Vec (Unit {0}) Heap) → well_formed (based b v) ≡ false
unfolding data_tree record_row
based_not b v = refl

-- MODULE G; TYPE B = RECORD END; E = RECORD (B) x: INTEGER END; F = RECORD (E) END; PB = POINTER TO B; PE = POINTER TO E; PF = POINTER TO F; VAR p: PB; e: PE; f: PF; BEGIN ASSERT(~(p IS PE)); NEW(e); p := e; e := p(PE); NEW(f); p := f; e := p(PE); ASSERT(p IS PF); NEW(p); e := p(PE) END G.
abbrev levels : Outside Program
levels b v = record { types = record { kinds = ((RecordKind 0) ∷ (RecordKind 1) ∷ (RecordKind 2) ∷ (PointerKind 0) ∷ (PointerKind 1) ∷ (PointerKind 2) ∷ Nothing ∷ Int ∷ []); records = (record { «module» = 0; base = None; level = 0; fields = []; cells = 0; extent = record { bytes = 0; wide = false } } ∷ record { «module» = 0; base = (Some 0); level = 0; fields = (record { name = []; exported = false; type_number = 7 } ∷ []); cells = 1; extent = record { bytes = 8; wide = true } } ∷ record { «module» = 0; base = (Some 1); level = 2; fields = []; cells = 1; extent = record { bytes = 8; wide = true } } ∷ []); signatures = [] }; modules = (record { name = []; objects = []; variables = (3 ∷ 4 ∷ 5 ∷ []); body = 0 } ∷ []); procedures = (record { «module» = 0; line = 1; is_body = true; formals = []; result = 6; locals = []; texts = []; body = ((Assert (record { form = (Unary' Not b (IsPointer' b (Load (Whole (Global 0 0) (PointerKind 0))) 1)); kind = BoolKind })) ∷ (New (Whole (Global 0 1) (PointerKind 1))) ∷ (Assign (Whole (Global 0 0) (PointerKind 0)) (record { form = (Load (Whole (Global 0 1) (PointerKind 1))); kind = (PointerKind 1) })) ∷ (Assign (Whole (Global 0 1) (PointerKind 1)) (record { form = (Guard' b (Whole (Global 0 0) (PointerKind 0)) (1 ∷ [])); kind = (PointerKind 1) })) ∷ (New (Whole (Global 0 2) (PointerKind 2))) ∷ (Assign (Whole (Global 0 0) (PointerKind 0)) (record { form = (Load (Whole (Global 0 2) (PointerKind 2))); kind = (PointerKind 2) })) ∷ (Assign (Whole (Global 0 1) (PointerKind 1)) (record { form = (Guard' b (Whole (Global 0 0) (PointerKind 0)) (1 ∷ [])); kind = (PointerKind 1) })) ∷ (Assert (record { form = (IsPointer' b (Load (Whole (Global 0 0) (PointerKind 0))) 2); kind = BoolKind })) ∷ (New (Whole (Global 0 0) (PointerKind 0))) ∷ (Assign (Whole (Global 0 1) (PointerKind 1)) (record { form = (Guard' b (Whole (Global 0 0) (PointerKind 0)) (1 ∷ [])); kind = (PointerKind 1) })) ∷ []); answer = None } ∷ []); imports_in = false }

pub levels_not : (b : Box (Unit {0}) Heap) (v : Vec (Unit {0}) Heap) → well_formed (levels b v) ≡ false
unfolding data_tree record_row
levels_not b v = refl

-- MODULE G; TYPE B = RECORD END; E = RECORD (B) x: INTEGER END; F = RECORD (E) END; PB = POINTER TO B; PE = POINTER TO E; PF = POINTER TO F; VAR p: PB; e: PE; f: PF; BEGIN ASSERT(~(p IS PE)); NEW(e); p := e; e := p(PE); NEW(f); p := f; e := p(PE); ASSERT(p IS PF); NEW(p); e := p(PE) END G.
abbrev counted : Outside Program
counted b v = record { types = record { kinds = ((RecordKind 0) ∷ (RecordKind 1) ∷ (RecordKind 2) ∷ (PointerKind 0) ∷ (PointerKind 1) ∷ (PointerKind 2) ∷ Nothing ∷ Int ∷ []); records = (record { «module» = 0; base = None; level = 0; fields = []; cells = 0; extent = record { bytes = 0; wide = false } } ∷ record { «module» = 0; base = (Some 0); level = 1; fields = (record { name = []; exported = false; type_number = 7 } ∷ []); cells = 2; extent = record { bytes = 8; wide = true } } ∷ record { «module» = 0; base = (Some 1); level = 2; fields = []; cells = 1; extent = record { bytes = 8; wide = true } } ∷ []); signatures = [] }; modules = (record { name = []; objects = []; variables = (3 ∷ 4 ∷ 5 ∷ []); body = 0 } ∷ []); procedures = (record { «module» = 0; line = 1; is_body = true; formals = []; result = 6; locals = []; texts = []; body = ((Assert (record { form = (Unary' Not b (IsPointer' b (Load (Whole (Global 0 0) (PointerKind 0))) 1)); kind = BoolKind })) ∷ (New (Whole (Global 0 1) (PointerKind 1))) ∷ (Assign (Whole (Global 0 0) (PointerKind 0)) (record { form = (Load (Whole (Global 0 1) (PointerKind 1))); kind = (PointerKind 1) })) ∷ (Assign (Whole (Global 0 1) (PointerKind 1)) (record { form = (Guard' b (Whole (Global 0 0) (PointerKind 0)) (1 ∷ [])); kind = (PointerKind 1) })) ∷ (New (Whole (Global 0 2) (PointerKind 2))) ∷ (Assign (Whole (Global 0 0) (PointerKind 0)) (record { form = (Load (Whole (Global 0 2) (PointerKind 2))); kind = (PointerKind 2) })) ∷ (Assign (Whole (Global 0 1) (PointerKind 1)) (record { form = (Guard' b (Whole (Global 0 0) (PointerKind 0)) (1 ∷ [])); kind = (PointerKind 1) })) ∷ (Assert (record { form = (IsPointer' b (Load (Whole (Global 0 0) (PointerKind 0))) 2); kind = BoolKind })) ∷ (New (Whole (Global 0 0) (PointerKind 0))) ∷ (Assign (Whole (Global 0 1) (PointerKind 1)) (record { form = (Guard' b (Whole (Global 0 0) (PointerKind 0)) (1 ∷ [])); kind = (PointerKind 1) })) ∷ []); answer = None } ∷ []); imports_in = false }

pub counted_not : (b : Box (Unit {0}) Heap) (v : Vec (Unit {0}) Heap) → well_formed (counted b v) ≡ false
unfolding data_tree record_row
counted_not b v = refl

-- MODULE G; TYPE B = RECORD END; E = RECORD (B) x: INTEGER END; F = RECORD (E) END; PB = POINTER TO B; PE = POINTER TO E; PF = POINTER TO F; VAR p: PB; e: PE; f: PF; BEGIN ASSERT(~(p IS PE)); NEW(e); p := e; e := p(PE); NEW(f); p := f; e := p(PE); ASSERT(p IS PF); NEW(p); e := p(PE) END G.
abbrev sized : Outside Program
sized b v = record { types = record { kinds = ((RecordKind 0) ∷ (RecordKind 1) ∷ (RecordKind 2) ∷ (PointerKind 0) ∷ (PointerKind 1) ∷ (PointerKind 2) ∷ Nothing ∷ Int ∷ []); records = (record { «module» = 0; base = None; level = 0; fields = []; cells = 0; extent = record { bytes = 0; wide = false } } ∷ record { «module» = 0; base = (Some 0); level = 1; fields = (record { name = []; exported = false; type_number = 7 } ∷ []); cells = 1; extent = record { bytes = 16; wide = true } } ∷ record { «module» = 0; base = (Some 1); level = 2; fields = []; cells = 1; extent = record { bytes = 8; wide = true } } ∷ []); signatures = [] }; modules = (record { name = []; objects = []; variables = (3 ∷ 4 ∷ 5 ∷ []); body = 0 } ∷ []); procedures = (record { «module» = 0; line = 1; is_body = true; formals = []; result = 6; locals = []; texts = []; body = ((Assert (record { form = (Unary' Not b (IsPointer' b (Load (Whole (Global 0 0) (PointerKind 0))) 1)); kind = BoolKind })) ∷ (New (Whole (Global 0 1) (PointerKind 1))) ∷ (Assign (Whole (Global 0 0) (PointerKind 0)) (record { form = (Load (Whole (Global 0 1) (PointerKind 1))); kind = (PointerKind 1) })) ∷ (Assign (Whole (Global 0 1) (PointerKind 1)) (record { form = (Guard' b (Whole (Global 0 0) (PointerKind 0)) (1 ∷ [])); kind = (PointerKind 1) })) ∷ (New (Whole (Global 0 2) (PointerKind 2))) ∷ (Assign (Whole (Global 0 0) (PointerKind 0)) (record { form = (Load (Whole (Global 0 2) (PointerKind 2))); kind = (PointerKind 2) })) ∷ (Assign (Whole (Global 0 1) (PointerKind 1)) (record { form = (Guard' b (Whole (Global 0 0) (PointerKind 0)) (1 ∷ [])); kind = (PointerKind 1) })) ∷ (Assert (record { form = (IsPointer' b (Load (Whole (Global 0 0) (PointerKind 0))) 2); kind = BoolKind })) ∷ (New (Whole (Global 0 0) (PointerKind 0))) ∷ (Assign (Whole (Global 0 1) (PointerKind 1)) (record { form = (Guard' b (Whole (Global 0 0) (PointerKind 0)) (1 ∷ [])); kind = (PointerKind 1) })) ∷ []); answer = None } ∷ []); imports_in = false }

pub sized_not : (b : Box (Unit {0}) Heap) (v : Vec (Unit {0}) Heap) → well_formed (sized b v) ≡ false
unfolding data_tree record_row
sized_not b v = refl

-- MODULE G; TYPE B = RECORD END; E = RECORD (B) x: INTEGER END; F = RECORD (E) END; PB = POINTER TO B; PE = POINTER TO E; PF = POINTER TO F; VAR p: PB; e: PE; f: PF; BEGIN ASSERT(~(p IS PE)); NEW(e); p := e; e := p(PE); NEW(f); p := f; e := p(PE); ASSERT(p IS PF); NEW(p); e := p(PE) END G.
abbrev aligned : Outside Program
aligned b v = record { types = record { kinds = ((RecordKind 0) ∷ (RecordKind 1) ∷ (RecordKind 2) ∷ (PointerKind 0) ∷ (PointerKind 1) ∷ (PointerKind 2) ∷ Nothing ∷ Int ∷ []); records = (record { «module» = 0; base = None; level = 0; fields = []; cells = 0; extent = record { bytes = 0; wide = false } } ∷ record { «module» = 0; base = (Some 0); level = 1; fields = (record { name = []; exported = false; type_number = 7 } ∷ []); cells = 1; extent = record { bytes = 8; wide = false } } ∷ record { «module» = 0; base = (Some 1); level = 2; fields = []; cells = 1; extent = record { bytes = 8; wide = true } } ∷ []); signatures = [] }; modules = (record { name = []; objects = []; variables = (3 ∷ 4 ∷ 5 ∷ []); body = 0 } ∷ []); procedures = (record { «module» = 0; line = 1; is_body = true; formals = []; result = 6; locals = []; texts = []; body = ((Assert (record { form = (Unary' Not b (IsPointer' b (Load (Whole (Global 0 0) (PointerKind 0))) 1)); kind = BoolKind })) ∷ (New (Whole (Global 0 1) (PointerKind 1))) ∷ (Assign (Whole (Global 0 0) (PointerKind 0)) (record { form = (Load (Whole (Global 0 1) (PointerKind 1))); kind = (PointerKind 1) })) ∷ (Assign (Whole (Global 0 1) (PointerKind 1)) (record { form = (Guard' b (Whole (Global 0 0) (PointerKind 0)) (1 ∷ [])); kind = (PointerKind 1) })) ∷ (New (Whole (Global 0 2) (PointerKind 2))) ∷ (Assign (Whole (Global 0 0) (PointerKind 0)) (record { form = (Load (Whole (Global 0 2) (PointerKind 2))); kind = (PointerKind 2) })) ∷ (Assign (Whole (Global 0 1) (PointerKind 1)) (record { form = (Guard' b (Whole (Global 0 0) (PointerKind 0)) (1 ∷ [])); kind = (PointerKind 1) })) ∷ (Assert (record { form = (IsPointer' b (Load (Whole (Global 0 0) (PointerKind 0))) 2); kind = BoolKind })) ∷ (New (Whole (Global 0 0) (PointerKind 0))) ∷ (Assign (Whole (Global 0 1) (PointerKind 1)) (record { form = (Guard' b (Whole (Global 0 0) (PointerKind 0)) (1 ∷ [])); kind = (PointerKind 1) })) ∷ []); answer = None } ∷ []); imports_in = false }

pub aligned_not : (b : Box (Unit {0}) Heap) (v : Vec (Unit {0}) Heap) → well_formed (aligned b v) ≡ false
unfolding data_tree record_row
aligned_not b v = refl

-- MODULE T; IMPORT Out; VAR a: ARRAY 8 OF CHAR; b: ARRAY 2 OF CHAR; BEGIN IF a = b THEN Out.Char(''='') END; b[0] := ''x''; b[1] := ''y''; IF b > ''xx'' THEN Out.Char(''>'') END; IF b < ''xyz'' THEN Out.Char(''<'') END; IF ''ab'' # ''ab'' THEN Out.Char(''#'') END END T.
abbrev character : Outside Program
character b v = record { types = record { kinds = (Char ∷ (Array (Some 8) 0) ∷ (Array (Some 2) 0) ∷ Nothing ∷ []); records = []; signatures = [] }; modules = (record { name = []; objects = []; variables = (1 ∷ 2 ∷ []); body = 0 } ∷ []); procedures = (record { «module» = 0; line = 1; is_body = true; formals = []; result = 3; locals = []; texts = ((120 ∷ 300 ∷ []) ∷ (120 ∷ 121 ∷ 122 ∷ []) ∷ (97 ∷ 98 ∷ []) ∷ (97 ∷ 98 ∷ []) ∷ []); body = ((If' (vec1 v) (more_of-Branch (record { form = (CompareTexts' Equal b (Whole (Global 0 0) (Array (Some 8) 0)) b (Whole (Global 0 1) (Array (Some 2) 0))); kind = BoolKind }) (vec1 v) (more_of-Stmt (OutChar (record { form = (Literal 61); kind = Char })) end_of-Stmt) end_of-Branch) (vec0 v) end_of-Stmt) ∷ (Assign (Part' b (Global 0 1) Char (vec1 v) (more_of-Selector (Index (Some 2) 0 (Literal 0)) end_of-Selector)) (record { form = (Literal 120); kind = Char })) ∷ (Assign (Part' b (Global 0 1) Char (vec1 v) (more_of-Selector (Index (Some 2) 0 (Literal 1)) end_of-Selector)) (record { form = (Literal 121); kind = Char })) ∷ (If' (vec1 v) (more_of-Branch (record { form = (CompareTexts' Greater b (Whole (Global 0 1) (Array (Some 2) 0)) b (Whole (Text 0) (TextKind 2))); kind = BoolKind }) (vec1 v) (more_of-Stmt (OutChar (record { form = (Literal 62); kind = Char })) end_of-Stmt) end_of-Branch) (vec0 v) end_of-Stmt) ∷ (If' (vec1 v) (more_of-Branch (record { form = (CompareTexts' Less b (Whole (Global 0 1) (Array (Some 2) 0)) b (Whole (Text 1) (TextKind 3))); kind = BoolKind }) (vec1 v) (more_of-Stmt (OutChar (record { form = (Literal 60); kind = Char })) end_of-Stmt) end_of-Branch) (vec0 v) end_of-Stmt) ∷ (If' (vec1 v) (more_of-Branch (record { form = (CompareTexts' Unequal b (Whole (Text 2) (TextKind 2)) b (Whole (Text 3) (TextKind 2))); kind = BoolKind }) (vec1 v) (more_of-Stmt (OutChar (record { form = (Literal 35); kind = Char })) end_of-Stmt) end_of-Branch) (vec0 v) end_of-Stmt) ∷ []); answer = None } ∷ []); imports_in = false }

pub character_not : (b : Box (Unit {0}) Heap) (v : Vec (Unit {0}) Heap) → well_formed (character b v) ≡ false
unfolding data_tree record_row
character_not b v = refl

-- MODULE A; PROCEDURE Twice*(x: INTEGER): INTEGER; BEGIN RETURN 2*x END Twice; END A. === MODULE B; IMPORT A, Out; BEGIN Out.Int(A.Twice(21), 0); Out.Ln END B.
abbrev missing : Outside Program
missing b v = record { types = record { kinds = (Int ∷ Nothing ∷ []); records = []; signatures = [] }; modules = (record { name = []; objects = []; variables = []; body = 1 } ∷ record { name = []; objects = []; variables = []; body = 2 } ∷ []); procedures = (record { «module» = 0; line = 1; is_body = false; formals = (record { mode = OfValue; variable = false; type_number = 0 } ∷ []); result = 0; locals = []; texts = []; body = []; answer = (Some (record { form = (Chain' b (Literal 2) (vec1 v) (more_of-Link (Operate Multiply (Load (Whole (Local 0) Int))) end_of-Link)); kind = Int })) } ∷ record { «module» = 0; line = 1; is_body = true; formals = []; result = 1; locals = []; texts = []; body = []; answer = None } ∷ record { «module» = 1; line = 1; is_body = true; formals = []; result = 1; locals = []; texts = []; body = ((OutInt (record { form = (Call' b (Direct' 7 (vec1 v) (more_of-Argument (ByValue (Literal 21)) end_of-Argument))); kind = Int }) (record { form = (Literal 0); kind = Int })) ∷ OutLn ∷ []); answer = None } ∷ []); imports_in = false }

pub missing_not : (b : Box (Unit {0}) Heap) (v : Vec (Unit {0}) Heap) → well_formed (missing b v) ≡ false
unfolding data_tree record_row
missing_not b v = refl

pub missing_run : (b : Box (Unit {0}) Heap) (v : Vec (Unit {0}) Heap) → meaning (missing b v) [] 5 ≡ Trapped Senseless []
unfolding digits
missing_run b v = refl

-- MODULE D; IMPORT Out; PROCEDURE D(n: INTEGER); BEGIN IF n > 1 THEN D(n - 1) END END D; BEGIN Out.Char(''a''); D(20); Out.Char(''b'') END D.
abbrev local : Outside Program
local b v = record { types = record { kinds = (Int ∷ Nothing ∷ []); records = []; signatures = [] }; modules = (record { name = []; objects = []; variables = []; body = 1 } ∷ []); procedures = (record { «module» = 0; line = 1; is_body = false; formals = (record { mode = OfValue; variable = false; type_number = 0 } ∷ []); result = 1; locals = []; texts = []; body = ((If' (vec1 v) (more_of-Branch (record { form = (Compare' Greater b (Load (Whole (Local 0) Int)) b (Literal 1)); kind = BoolKind }) (vec1 v) (more_of-Stmt (Invoke (Direct' 0 (vec1 v) (more_of-Argument (ByValue (Chain' b (Load (Whole (Local 0) Int)) (vec1 v) (more_of-Link (Operate Subtract (Literal 1)) end_of-Link))) end_of-Argument))) end_of-Stmt) end_of-Branch) (vec0 v) end_of-Stmt) ∷ []); answer = None } ∷ record { «module» = 0; line = 1; is_body = true; formals = []; result = 1; locals = []; texts = []; body = ((OutInt (record { form = (Load (Whole (Local 0) Int)); kind = Int }) (record { form = (Literal 0); kind = Int })) ∷ (Invoke (Direct' 0 (vec1 v) (more_of-Argument (ByValue (Literal 20)) end_of-Argument))) ∷ (OutChar (record { form = (Literal 98); kind = Char })) ∷ []); answer = None } ∷ []); imports_in = false }

pub local_not : (b : Box (Unit {0}) Heap) (v : Vec (Unit {0}) Heap) → well_formed (local b v) ≡ false
unfolding data_tree record_row
local_not b v = refl

pub local_run : (b : Box (Unit {0}) Heap) (v : Vec (Unit {0}) Heap) → meaning (local b v) [] 9 ≡ Trapped Senseless []
unfolding digits
local_run b v = refl

-- MODULE M; IMPORT Out; BEGIN Out.Int(6*7, 0); Out.Ln END M.
abbrev wide : Outside Program
wide b v = record { types = record { kinds = (Nothing ∷ []); records = []; signatures = [] }; modules = (record { name = []; objects = []; variables = []; body = 0 } ∷ []); procedures = (record { «module» = 0; line = 1; is_body = true; formals = []; result = 0; locals = []; texts = []; body = ((OutChar (record { form = (Literal 300); kind = Char })) ∷ OutLn ∷ []); answer = None } ∷ []); imports_in = false }

pub wide_not : (b : Box (Unit {0}) Heap) (v : Vec (Unit {0}) Heap) → well_formed (wide b v) ≡ false
unfolding data_tree record_row
wide_not b v = refl

pub wide_run : (b : Box (Unit {0}) Heap) (v : Vec (Unit {0}) Heap) → meaning (wide b v) [] 5 ≡ Trapped Senseless []
unfolding digits
wide_run b v = refl

-- MODULE P; IMPORT Out; TYPE F = PROCEDURE (x: INTEGER): INTEGER; VAR f, g: F; PROCEDURE D(x: INTEGER): INTEGER; BEGIN Out.Int(x, 0) RETURN 2 * x END D; PROCEDURE E(x: INTEGER): INTEGER; BEGIN f := D RETURN f(x) + 1 END E; BEGIN f := E; Out.Int(f(f(4)), 0); IF (f = D) & (g = NIL) THEN Out.Char(''!'') END; Out.Int(g(D(5)), 0) END P.
abbrev mixed : Outside Program
mixed b v = record { types = record { kinds = (Int ∷ (ProcedureKind 0) ∷ Nothing ∷ []); records = []; signatures = (record { formals = (record { mode = OfValue; variable = false; type_number = 0 } ∷ []); result = 0 } ∷ []) }; modules = (record { name = []; objects = []; variables = (1 ∷ 1 ∷ []); body = 2 } ∷ []); procedures = (record { «module» = 0; line = 1; is_body = false; formals = (record { mode = OfValue; variable = false; type_number = 0 } ∷ []); result = 0; locals = []; texts = []; body = ((OutInt (record { form = (Load (Whole (Local 0) Int)); kind = Int }) (record { form = (Literal 0); kind = Int })) ∷ []); answer = (Some (record { form = (Chain' b (Literal 2) (vec1 v) (more_of-Link (Operate Multiply (Load (Whole (Local 0) Int))) end_of-Link)); kind = Int })) } ∷ record { «module» = 0; line = 1; is_body = false; formals = (record { mode = OfValue; variable = false; type_number = 0 } ∷ []); result = 0; locals = []; texts = []; body = ((Assign (Whole (Global 0 0) (ProcedureKind 0)) (record { form = (Routine 0); kind = (ProcedureKind 0) })) ∷ []); answer = (Some (record { form = (Chain' b (Call' b (Indirect' (Whole (Global 0 0) (ProcedureKind 0)) (vec1 v) (more_of-Argument (ByValue (Load (Whole (Local 0) Int))) end_of-Argument))) (vec1 v) (more_of-Link (Operate Add (Literal 1)) end_of-Link)); kind = Int })) } ∷ record { «module» = 0; line = 1; is_body = true; formals = []; result = 2; locals = []; texts = []; body = ((Assert (record { form = (Compare' Equal b (Routine 1) b (Literal 1)); kind = BoolKind })) ∷ (OutInt (record { form = (Call' b (Indirect' (Whole (Global 0 0) (ProcedureKind 0)) (vec1 v) (more_of-Argument (ByValue (Call' b (Indirect' (Whole (Global 0 0) (ProcedureKind 0)) (vec1 v) (more_of-Argument (ByValue (Literal 4)) end_of-Argument)))) end_of-Argument))); kind = Int }) (record { form = (Literal 0); kind = Int })) ∷ (If' (vec1 v) (more_of-Branch (record { form = (Chain' b (Compare' Equal b (Load (Whole (Global 0 0) (ProcedureKind 0))) b (Routine 0)) (vec1 v) (more_of-Link (And (Compare' Equal b (Load (Whole (Global 0 1) (ProcedureKind 0))) b (Literal 0))) end_of-Link)); kind = BoolKind }) (vec1 v) (more_of-Stmt (OutChar (record { form = (Literal 33); kind = Char })) end_of-Stmt) end_of-Branch) (vec0 v) end_of-Stmt) ∷ (OutInt (record { form = (Call' b (Indirect' (Whole (Global 0 1) (ProcedureKind 0)) (vec1 v) (more_of-Argument (ByValue (Call' b (Direct' 0 (vec1 v) (more_of-Argument (ByValue (Literal 5)) end_of-Argument)))) end_of-Argument))); kind = Int }) (record { form = (Literal 0); kind = Int })) ∷ []); answer = None } ∷ []); imports_in = false }

pub mixed_not : (b : Box (Unit {0}) Heap) (v : Vec (Unit {0}) Heap) → well_formed (mixed b v) ≡ false
unfolding data_tree record_row
mixed_not b v = refl

pub mixed_run : (b : Box (Unit {0}) Heap) (v : Vec (Unit {0}) Heap) → meaning (mixed b v) [] 20 ≡ Trapped Senseless []
unfolding digits
mixed_run b v = refl

-- MODULE M; IMPORT Out; BEGIN Out.Int(6*7, 0); Out.Ln END M.
abbrev unmarked : Outside Program
unmarked b v = record { types = record { kinds = (Nothing ∷ []); records = []; signatures = [] }; modules = (record { name = []; objects = []; variables = []; body = 0 } ∷ []); procedures = (record { «module» = 0; line = 1; is_body = false; formals = []; result = 0; locals = []; texts = []; body = ((OutInt (record { form = (Chain' b (Literal 6) (vec1 v) (more_of-Link (Operate Multiply (Literal 7)) end_of-Link)); kind = Int }) (record { form = (Literal 0); kind = Int })) ∷ OutLn ∷ []); answer = None } ∷ []); imports_in = false }

pub unmarked_not : (b : Box (Unit {0}) Heap) (v : Vec (Unit {0}) Heap) → well_formed (unmarked b v) ≡ false
unfolding data_tree record_row
unmarked_not b v = refl

-- MODULE W; BEGIN WHILE TRUE DO END END W.
abbrev no_condition : Outside Program
no_condition b v = record { types = record { kinds = (Nothing ∷ []); records = []; signatures = [] }; modules = (record { name = []; objects = []; variables = []; body = 0 } ∷ []); procedures = (record { «module» = 0; line = 1; is_body = true; formals = []; result = 0; locals = []; texts = []; body = ((While' (vec0 v) end_of-Branch) ∷ []); answer = None } ∷ []); imports_in = false }

pub no_condition_not : (b : Box (Unit {0}) Heap) (v : Vec (Unit {0}) Heap) → well_formed (no_condition b v) ≡ false
unfolding data_tree record_row
no_condition_not b v = refl

-- MODULE A; PROCEDURE Twice*(x: INTEGER): INTEGER; BEGIN RETURN 2*x END Twice; END A. === MODULE B; IMPORT A, Out; BEGIN Out.Int(A.Twice(21), 0); Out.Ln END B.
abbrev silent : Outside Program
silent b v = record { types = record { kinds = (Int ∷ Nothing ∷ []); records = []; signatures = [] }; modules = (record { name = []; objects = []; variables = []; body = 1 } ∷ record { name = []; objects = []; variables = []; body = 2 } ∷ []); procedures = (record { «module» = 0; line = 1; is_body = false; formals = (record { mode = OfValue; variable = false; type_number = 0 } ∷ []); result = 0; locals = []; texts = []; body = []; answer = (Some (record { form = (Chain' b (Literal 2) (vec1 v) (more_of-Link (Operate Multiply (Load (Whole (Local 0) Int))) end_of-Link)); kind = Int })) } ∷ record { «module» = 0; line = 1; is_body = true; formals = []; result = 0; locals = []; texts = []; body = []; answer = (Some (record { form = (Literal 2); kind = Int })) } ∷ record { «module» = 1; line = 1; is_body = true; formals = []; result = 1; locals = []; texts = []; body = ((OutInt (record { form = (Call' b (Direct' 0 (vec1 v) (more_of-Argument (ByValue (Literal 21)) end_of-Argument))); kind = Int }) (record { form = (Literal 0); kind = Int })) ∷ OutLn ∷ []); answer = None } ∷ []); imports_in = false }

pub silent_not : (b : Box (Unit {0}) Heap) (v : Vec (Unit {0}) Heap) → well_formed (silent b v) ≡ false
unfolding data_tree record_row
silent_not b v = refl

-- MODULE M; IMPORT Out; BEGIN Out.Int(6*7, 0); Out.Ln END M.
abbrev no_value : Outside Program
no_value b v = record { types = record { kinds = (Nothing ∷ []); records = []; signatures = [] }; modules = (record { name = []; objects = []; variables = []; body = 0 } ∷ []); procedures = (record { «module» = 0; line = 1; is_body = true; formals = []; result = 0; locals = []; texts = []; body = ((Assert (record { form = (Compare' Equal b (Routine 0) b (Routine 0)); kind = BoolKind })) ∷ OutLn ∷ []); answer = None } ∷ []); imports_in = false }

pub no_value_not : (b : Box (Unit {0}) Heap) (v : Vec (Unit {0}) Heap) → well_formed (no_value b v) ≡ false
unfolding data_tree record_row
no_value_not b v = refl

-- MODULE A; PROCEDURE Twice*(x: INTEGER): INTEGER; BEGIN RETURN 2*x END Twice; END A. === MODULE B; IMPORT A, Out; BEGIN Out.Int(A.Twice(21), 0); Out.Ln END B.
abbrev swapped : Outside Program
swapped b v = record { types = record { kinds = (Int ∷ Nothing ∷ []); records = []; signatures = [] }; modules = (record { name = []; objects = []; variables = []; body = 2 } ∷ record { name = []; objects = []; variables = []; body = 1 } ∷ []); procedures = (record { «module» = 0; line = 1; is_body = false; formals = (record { mode = OfValue; variable = false; type_number = 0 } ∷ []); result = 0; locals = []; texts = []; body = []; answer = (Some (record { form = (Chain' b (Literal 2) (vec1 v) (more_of-Link (Operate Multiply (Load (Whole (Local 0) Int))) end_of-Link)); kind = Int })) } ∷ record { «module» = 0; line = 1; is_body = true; formals = []; result = 1; locals = []; texts = []; body = []; answer = None } ∷ record { «module» = 1; line = 1; is_body = true; formals = []; result = 1; locals = []; texts = []; body = ((OutInt (record { form = (Call' b (Direct' 0 (vec1 v) (more_of-Argument (ByValue (Literal 21)) end_of-Argument))); kind = Int }) (record { form = (Literal 0); kind = Int })) ∷ OutLn ∷ []); answer = None } ∷ []); imports_in = false }

pub swapped_not : (b : Box (Unit {0}) Heap) (v : Vec (Unit {0}) Heap) → well_formed (swapped b v) ≡ false
unfolding data_tree record_row
swapped_not b v = refl

-- MODULE A; PROCEDURE Twice*(x: INTEGER): INTEGER; BEGIN RETURN 2*x END Twice; END A. === MODULE B; IMPORT A, Out; BEGIN Out.Int(A.Twice(21), 0); Out.Ln END B.
abbrev twice : Outside Program
twice b v = record { types = record { kinds = (Int ∷ Nothing ∷ []); records = []; signatures = [] }; modules = (record { name = []; objects = []; variables = []; body = 1 } ∷ record { name = []; objects = []; variables = []; body = 1 } ∷ []); procedures = (record { «module» = 0; line = 1; is_body = false; formals = (record { mode = OfValue; variable = false; type_number = 0 } ∷ []); result = 0; locals = []; texts = []; body = []; answer = (Some (record { form = (Chain' b (Literal 2) (vec1 v) (more_of-Link (Operate Multiply (Load (Whole (Local 0) Int))) end_of-Link)); kind = Int })) } ∷ record { «module» = 0; line = 1; is_body = true; formals = []; result = 1; locals = []; texts = []; body = []; answer = None } ∷ record { «module» = 1; line = 1; is_body = true; formals = []; result = 1; locals = []; texts = []; body = ((OutInt (record { form = (Call' b (Direct' 0 (vec1 v) (more_of-Argument (ByValue (Literal 21)) end_of-Argument))); kind = Int }) (record { form = (Literal 0); kind = Int })) ∷ OutLn ∷ []); answer = None } ∷ []); imports_in = false }

pub twice_not : (b : Box (Unit {0}) Heap) (v : Vec (Unit {0}) Heap) → well_formed (twice b v) ≡ false
unfolding data_tree record_row
twice_not b v = refl

-- MODULE F; IMPORT Out; VAR i: INTEGER; BEGIN FOR i := 6 TO 0 BY -2 DO Out.Int(i, 0) END; Out.Int(i, 0) END F.
abbrev stands : Outside Program
stands b v = record { types = record { kinds = (Int ∷ Nothing ∷ []); records = []; signatures = [] }; modules = (record { name = []; objects = []; variables = (0 ∷ []); body = 0 } ∷ []); procedures = (record { «module» = 0; line = 1; is_body = true; formals = []; result = 1; locals = []; texts = []; body = ((For' b (Whole (Global 0 0) Int) (record { form = (Literal 6); kind = Int }) (record { form = (Literal 0); kind = Int }) (pos 0) (vec1 v) (more_of-Stmt (OutInt (record { form = (Load (Whole (Global 0 0) Int)); kind = Int }) (record { form = (Literal 0); kind = Int })) end_of-Stmt)) ∷ (OutInt (record { form = (Load (Whole (Global 0 0) Int)); kind = Int }) (record { form = (Literal 0); kind = Int })) ∷ []); answer = None } ∷ []); imports_in = false }

pub stands_not : (b : Box (Unit {0}) Heap) (v : Vec (Unit {0}) Heap) → well_formed (stands b v) ≡ false
unfolding data_tree record_row
stands_not b v = refl

-- MODULE F; IMPORT Out; VAR i: INTEGER; BEGIN FOR i := 6 TO 0 BY -2 DO Out.Int(i, 0) END; Out.Int(i, 0) END F.
abbrev leaps : Outside Program
leaps b v = record { types = record { kinds = (Int ∷ Nothing ∷ []); records = []; signatures = [] }; modules = (record { name = []; objects = []; variables = (0 ∷ []); body = 0 } ∷ []); procedures = (record { «module» = 0; line = 1; is_body = true; formals = []; result = 1; locals = []; texts = []; body = ((For' b (Whole (Global 0 0) Int) (record { form = (Literal 6); kind = Int }) (record { form = (Literal 0); kind = Int }) (pos 9223372036854775808) (vec1 v) (more_of-Stmt (OutInt (record { form = (Load (Whole (Global 0 0) Int)); kind = Int }) (record { form = (Literal 0); kind = Int })) end_of-Stmt)) ∷ (OutInt (record { form = (Load (Whole (Global 0 0) Int)); kind = Int }) (record { form = (Literal 0); kind = Int })) ∷ []); answer = None } ∷ []); imports_in = false }

pub leaps_not : (b : Box (Unit {0}) Heap) (v : Vec (Unit {0}) Heap) → well_formed (leaps b v) ≡ false
unfolding data_tree record_row
leaps_not b v = refl

-- MODULE G; TYPE B = RECORD END; E = RECORD (B) x: INTEGER END; F = RECORD (E) END; PB = POINTER TO B; PE = POINTER TO E; PF = POINTER TO F; VAR p: PB; e: PE; f: PF; BEGIN ASSERT(~(p IS PE)); NEW(e); p := e; e := p(PE); NEW(f); p := f; e := p(PE); ASSERT(p IS PF); NEW(p); e := p(PE) END G.
abbrev tested_for_none : Outside Program
tested_for_none b v = record { types = record { kinds = ((RecordKind 0) ∷ (RecordKind 1) ∷ (RecordKind 2) ∷ (PointerKind 0) ∷ (PointerKind 1) ∷ (PointerKind 2) ∷ Nothing ∷ Int ∷ []); records = (record { «module» = 0; base = None; level = 0; fields = []; cells = 0; extent = record { bytes = 0; wide = false } } ∷ record { «module» = 0; base = (Some 0); level = 1; fields = (record { name = []; exported = false; type_number = 7 } ∷ []); cells = 1; extent = record { bytes = 8; wide = true } } ∷ record { «module» = 0; base = (Some 1); level = 2; fields = []; cells = 1; extent = record { bytes = 8; wide = true } } ∷ []); signatures = [] }; modules = (record { name = []; objects = []; variables = (3 ∷ 4 ∷ 5 ∷ []); body = 0 } ∷ []); procedures = (record { «module» = 0; line = 1; is_body = true; formals = []; result = 6; locals = []; texts = []; body = ((Assert (record { form = (Unary' Not b (IsPointer' b (Load (Whole (Global 0 0) (PointerKind 0))) 3)); kind = BoolKind })) ∷ (New (Whole (Global 0 1) (PointerKind 1))) ∷ (Assign (Whole (Global 0 0) (PointerKind 0)) (record { form = (Load (Whole (Global 0 1) (PointerKind 1))); kind = (PointerKind 1) })) ∷ (Assign (Whole (Global 0 1) (PointerKind 1)) (record { form = (Guard' b (Whole (Global 0 0) (PointerKind 0)) (1 ∷ [])); kind = (PointerKind 1) })) ∷ (New (Whole (Global 0 2) (PointerKind 2))) ∷ (Assign (Whole (Global 0 0) (PointerKind 0)) (record { form = (Load (Whole (Global 0 2) (PointerKind 2))); kind = (PointerKind 2) })) ∷ (Assign (Whole (Global 0 1) (PointerKind 1)) (record { form = (Guard' b (Whole (Global 0 0) (PointerKind 0)) (1 ∷ [])); kind = (PointerKind 1) })) ∷ (Assert (record { form = (IsPointer' b (Load (Whole (Global 0 0) (PointerKind 0))) 2); kind = BoolKind })) ∷ (New (Whole (Global 0 0) (PointerKind 0))) ∷ (Assign (Whole (Global 0 1) (PointerKind 1)) (record { form = (Guard' b (Whole (Global 0 0) (PointerKind 0)) (1 ∷ [])); kind = (PointerKind 1) })) ∷ []); answer = None } ∷ []); imports_in = false }

pub tested_for_none_not : (b : Box (Unit {0}) Heap) (v : Vec (Unit {0}) Heap) → well_formed (tested_for_none b v) ≡ false
unfolding data_tree record_row
tested_for_none_not b v = refl

-- MODULE T; IMPORT Out; TYPE B = RECORD x: INTEGER END; E = RECORD (B) y: INTEGER END; PE = POINTER TO E; VAR b: B; e: E; p: PE; PROCEDURE Kind(VAR r: B); BEGIN CASE r OF E: Out.Char(''E''); r.y := 5; r.x := 6 | B: Out.Char(''B'') END; IF r IS E THEN Out.Int(r(E).y, 0) END END Kind; PROCEDURE Pass(VAR r: B); BEGIN Kind(r) END Pass; BEGIN Kind(b); Kind(e); Pass(e); NEW(p); Pass(p^); Out.Int(p.x, 0); Pass(b) END T.
abbrev asked_for_none : Outside Program
asked_for_none b v = record { types = record { kinds = ((RecordKind 0) ∷ (RecordKind 1) ∷ (PointerKind 1) ∷ Nothing ∷ Int ∷ []); records = (record { «module» = 0; base = None; level = 0; fields = (record { name = []; exported = false; type_number = 4 } ∷ []); cells = 1; extent = record { bytes = 8; wide = true } } ∷ record { «module» = 0; base = (Some 0); level = 1; fields = (record { name = []; exported = false; type_number = 4 } ∷ []); cells = 2; extent = record { bytes = 16; wide = true } } ∷ []); signatures = [] }; modules = (record { name = []; objects = []; variables = (0 ∷ 1 ∷ 2 ∷ []); body = 2 } ∷ []); procedures = (record { «module» = 0; line = 1; is_body = false; formals = (record { mode = OfRecord; variable = true; type_number = 0 } ∷ []); result = 3; locals = []; texts = []; body = ((CaseParameter' (Whole (Parameter 0) (RecordKind 0)) (vec2 v) (more_of-TypePart 1 (vec3 v) (more_of-Stmt (OutChar (record { form = (Literal 69); kind = Char })) (more_of-Stmt (Assign (Part' b (Parameter 0) Int (vec2 v) (more_of-Selector (Narrow 1) (more_of-Selector (Field 1 0) end_of-Selector))) (record { form = (Literal 5); kind = Int })) (more_of-Stmt (Assign (Part' b (Parameter 0) Int (vec2 v) (more_of-Selector (Narrow 1) (more_of-Selector (Field 0 0) end_of-Selector))) (record { form = (Literal 6); kind = Int })) end_of-Stmt))) (more_of-TypePart 0 (vec1 v) (more_of-Stmt (OutChar (record { form = (Literal 66); kind = Char })) end_of-Stmt) end_of-TypePart))) ∷ (If' (vec1 v) (more_of-Branch (record { form = (IsParameter (Whole (Parameter 0) (RecordKind 0)) 2); kind = BoolKind }) (vec1 v) (more_of-Stmt (OutInt (record { form = (Load (Part' b (Parameter 0) Int (vec2 v) (more_of-Selector (Narrow 1) (more_of-Selector (Field 1 0) end_of-Selector)))); kind = Int }) (record { form = (Literal 0); kind = Int })) end_of-Stmt) end_of-Branch) (vec0 v) end_of-Stmt) ∷ []); answer = None } ∷ record { «module» = 0; line = 1; is_body = false; formals = (record { mode = OfRecord; variable = true; type_number = 0 } ∷ []); result = 3; locals = []; texts = []; body = ((Invoke (Direct' 0 (vec1 v) (more_of-Argument (ByRecord (Whole (Parameter 0) (RecordKind 0))) end_of-Argument))) ∷ []); answer = None } ∷ record { «module» = 0; line = 1; is_body = true; formals = []; result = 3; locals = []; texts = []; body = ((Invoke (Direct' 0 (vec1 v) (more_of-Argument (ByRecord (Whole (Global 0 0) (RecordKind 0))) end_of-Argument))) ∷ (Invoke (Direct' 0 (vec1 v) (more_of-Argument (ByRecord (Whole (Global 0 1) (RecordKind 1))) end_of-Argument))) ∷ (Invoke (Direct' 1 (vec1 v) (more_of-Argument (ByRecord (Whole (Global 0 1) (RecordKind 1))) end_of-Argument))) ∷ (New (Whole (Global 0 2) (PointerKind 1))) ∷ (Invoke (Direct' 1 (vec1 v) (more_of-Argument (ByRecord (Part' b (Global 0 2) (RecordKind 1) (vec1 v) (more_of-Selector (Dereference []) end_of-Selector))) end_of-Argument))) ∷ (OutInt (record { form = (Load (Part' b (Global 0 2) Int (vec2 v) (more_of-Selector (Dereference []) (more_of-Selector (Field 0 0) end_of-Selector)))); kind = Int }) (record { form = (Literal 0); kind = Int })) ∷ (Invoke (Direct' 1 (vec1 v) (more_of-Argument (ByRecord (Whole (Global 0 0) (RecordKind 0))) end_of-Argument))) ∷ []); answer = None } ∷ []); imports_in = false }

pub asked_for_none_not : (b : Box (Unit {0}) Heap) (v : Vec (Unit {0}) Heap) → well_formed (asked_for_none b v) ≡ false
unfolding data_tree record_row
asked_for_none_not b v = refl

-- MODULE G; TYPE B = RECORD END; E = RECORD (B) x: INTEGER END; F = RECORD (E) END; PB = POINTER TO B; PE = POINTER TO E; PF = POINTER TO F; VAR p: PB; e: PE; f: PF; BEGIN ASSERT(~(p IS PE)); NEW(e); p := e; e := p(PE); NEW(f); p := f; e := p(PE); ASSERT(p IS PF); NEW(p); e := p(PE) END G.
abbrev guarded_by_none : Outside Program
guarded_by_none b v = record { types = record { kinds = ((RecordKind 0) ∷ (RecordKind 1) ∷ (RecordKind 2) ∷ (PointerKind 0) ∷ (PointerKind 1) ∷ (PointerKind 2) ∷ Nothing ∷ Int ∷ []); records = (record { «module» = 0; base = None; level = 0; fields = []; cells = 0; extent = record { bytes = 0; wide = false } } ∷ record { «module» = 0; base = (Some 0); level = 1; fields = (record { name = []; exported = false; type_number = 7 } ∷ []); cells = 1; extent = record { bytes = 8; wide = true } } ∷ record { «module» = 0; base = (Some 1); level = 2; fields = []; cells = 1; extent = record { bytes = 8; wide = true } } ∷ []); signatures = [] }; modules = (record { name = []; objects = []; variables = (3 ∷ 4 ∷ 5 ∷ []); body = 0 } ∷ []); procedures = (record { «module» = 0; line = 1; is_body = true; formals = []; result = 6; locals = []; texts = []; body = ((Assert (record { form = (Unary' Not b (IsPointer' b (Load (Whole (Global 0 0) (PointerKind 0))) 1)); kind = BoolKind })) ∷ (New (Whole (Global 0 1) (PointerKind 1))) ∷ (Assign (Whole (Global 0 0) (PointerKind 0)) (record { form = (Load (Whole (Global 0 1) (PointerKind 1))); kind = (PointerKind 1) })) ∷ (Assign (Whole (Global 0 1) (PointerKind 1)) (record { form = (Guard' b (Whole (Global 0 0) (PointerKind 0)) (3 ∷ 1 ∷ [])); kind = (PointerKind 1) })) ∷ (New (Whole (Global 0 2) (PointerKind 2))) ∷ (Assign (Whole (Global 0 0) (PointerKind 0)) (record { form = (Load (Whole (Global 0 2) (PointerKind 2))); kind = (PointerKind 2) })) ∷ (Assign (Whole (Global 0 1) (PointerKind 1)) (record { form = (Guard' b (Whole (Global 0 0) (PointerKind 0)) (1 ∷ [])); kind = (PointerKind 1) })) ∷ (Assert (record { form = (IsPointer' b (Load (Whole (Global 0 0) (PointerKind 0))) 2); kind = BoolKind })) ∷ (New (Whole (Global 0 0) (PointerKind 0))) ∷ (Assign (Whole (Global 0 1) (PointerKind 1)) (record { form = (Guard' b (Whole (Global 0 0) (PointerKind 0)) (1 ∷ [])); kind = (PointerKind 1) })) ∷ []); answer = None } ∷ []); imports_in = false }

pub guarded_by_none_not : (b : Box (Unit {0}) Heap) (v : Vec (Unit {0}) Heap) → well_formed (guarded_by_none b v) ≡ false
unfolding data_tree record_row
guarded_by_none_not b v = refl

-- MODULE P; IMPORT Out; TYPE B = POINTER TO RB; RB = RECORD x: INTEGER END; E = POINTER TO RE; RE = RECORD (RB) y: INTEGER; next: B END; VAR p: B; e: E; PROCEDURE Show(q: B); BEGIN CASE q OF E: Out.Char(''E''); q.y := 3; Show(q.next) | B: Out.Char(''B'') END END Show; BEGIN Show(p); NEW(e); e.next := e; NEW(e.next); Show(e); p := e; Out.Int(p(E).y, 0); IF p = e THEN Out.Char(''!'') END; e := NIL; p := e.next END P.
abbrev followed_by_none : Outside Program
followed_by_none b v = record { types = record { kinds = ((RecordKind 0) ∷ (RecordKind 1) ∷ (PointerKind 0) ∷ (PointerKind 1) ∷ Nothing ∷ Int ∷ []); records = (record { «module» = 0; base = None; level = 0; fields = (record { name = []; exported = false; type_number = 5 } ∷ []); cells = 1; extent = record { bytes = 8; wide = true } } ∷ record { «module» = 0; base = (Some 0); level = 1; fields = (record { name = []; exported = false; type_number = 5 } ∷ record { name = []; exported = false; type_number = 2 } ∷ []); cells = 3; extent = record { bytes = 24; wide = true } } ∷ []); signatures = [] }; modules = (record { name = []; objects = []; variables = (2 ∷ 3 ∷ []); body = 1 } ∷ []); procedures = (record { «module» = 0; line = 1; is_body = false; formals = (record { mode = OfValue; variable = false; type_number = 2 } ∷ []); result = 4; locals = []; texts = []; body = ((CasePointer' (record { form = (Load (Whole (Local 0) (PointerKind 0))); kind = (PointerKind 0) }) (vec2 v) (more_of-TypePart 1 (vec3 v) (more_of-Stmt (OutChar (record { form = (Literal 69); kind = Char })) (more_of-Stmt (Assign (Part' b (Local 0) Int (vec2 v) (more_of-Selector (Dereference (2 ∷ 1 ∷ [])) (more_of-Selector (Field 1 0) end_of-Selector))) (record { form = (Literal 3); kind = Int })) (more_of-Stmt (Invoke (Direct' 0 (vec1 v) (more_of-Argument (ByValue (Load (Part' b (Local 0) (PointerKind 0) (vec2 v) (more_of-Selector (Dereference (1 ∷ [])) (more_of-Selector (Field 1 1) end_of-Selector))))) end_of-Argument))) end_of-Stmt))) (more_of-TypePart 0 (vec1 v) (more_of-Stmt (OutChar (record { form = (Literal 66); kind = Char })) end_of-Stmt) end_of-TypePart))) ∷ []); answer = None } ∷ record { «module» = 0; line = 1; is_body = true; formals = []; result = 4; locals = []; texts = []; body = ((Invoke (Direct' 0 (vec1 v) (more_of-Argument (ByValue (Load (Whole (Global 0 0) (PointerKind 0)))) end_of-Argument))) ∷ (New (Whole (Global 0 1) (PointerKind 1))) ∷ (Assign (Part' b (Global 0 1) (PointerKind 0) (vec2 v) (more_of-Selector (Dereference []) (more_of-Selector (Field 1 1) end_of-Selector))) (record { form = (Load (Whole (Global 0 1) (PointerKind 1))); kind = (PointerKind 1) })) ∷ (New (Part' b (Global 0 1) (PointerKind 0) (vec2 v) (more_of-Selector (Dereference []) (more_of-Selector (Field 1 1) end_of-Selector)))) ∷ (Invoke (Direct' 0 (vec1 v) (more_of-Argument (ByValue (Load (Whole (Global 0 1) (PointerKind 1)))) end_of-Argument))) ∷ (Assign (Whole (Global 0 0) (PointerKind 0)) (record { form = (Load (Whole (Global 0 1) (PointerKind 1))); kind = (PointerKind 1) })) ∷ (OutInt (record { form = (Load (Part' b (Global 0 0) Int (vec2 v) (more_of-Selector (Dereference (1 ∷ [])) (more_of-Selector (Field 1 0) end_of-Selector)))); kind = Int }) (record { form = (Literal 0); kind = Int })) ∷ (If' (vec1 v) (more_of-Branch (record { form = (Compare' Equal b (Load (Whole (Global 0 0) (PointerKind 0))) b (Load (Whole (Global 0 1) (PointerKind 1)))); kind = BoolKind }) (vec1 v) (more_of-Stmt (OutChar (record { form = (Literal 33); kind = Char })) end_of-Stmt) end_of-Branch) (vec0 v) end_of-Stmt) ∷ (Assign (Whole (Global 0 1) (PointerKind 1)) (record { form = (Literal 0); kind = Nil })) ∷ (Assign (Whole (Global 0 0) (PointerKind 0)) (record { form = (Load (Part' b (Global 0 1) (PointerKind 0) (vec2 v) (more_of-Selector (Dereference []) (more_of-Selector (Field 1 1) end_of-Selector)))); kind = (PointerKind 0) })) ∷ []); answer = None } ∷ []); imports_in = false }

pub followed_by_none_not : (b : Box (Unit {0}) Heap) (v : Vec (Unit {0}) Heap) → well_formed (followed_by_none b v) ≡ false
unfolding data_tree record_row
followed_by_none_not b v = refl

-- MODULE T; TYPE B = RECORD x: INTEGER END; E = RECORD (B) y: INTEGER END; VAR b: B; PROCEDURE Kind(VAR r: B); BEGIN r(E).y := 5 END Kind; BEGIN Kind(b) END T.
abbrev narrowed_to_none : Outside Program
narrowed_to_none b v = record { types = record { kinds = ((RecordKind 0) ∷ (RecordKind 1) ∷ Nothing ∷ Int ∷ []); records = (record { «module» = 0; base = None; level = 0; fields = (record { name = []; exported = false; type_number = 3 } ∷ []); cells = 1; extent = record { bytes = 8; wide = true } } ∷ record { «module» = 0; base = (Some 0); level = 1; fields = (record { name = []; exported = false; type_number = 3 } ∷ []); cells = 2; extent = record { bytes = 16; wide = true } } ∷ []); signatures = [] }; modules = (record { name = []; objects = []; variables = (0 ∷ []); body = 1 } ∷ []); procedures = (record { «module» = 0; line = 1; is_body = false; formals = (record { mode = OfRecord; variable = true; type_number = 0 } ∷ []); result = 2; locals = []; texts = []; body = ((Assign (Part' b (Parameter 0) Int (vec3 v) (more_of-Selector (Narrow 2) (more_of-Selector (Narrow 1) (more_of-Selector (Field 1 0) end_of-Selector)))) (record { form = (Literal 5); kind = Int })) ∷ []); answer = None } ∷ record { «module» = 0; line = 1; is_body = true; formals = []; result = 2; locals = []; texts = []; body = ((Invoke (Direct' 0 (vec1 v) (more_of-Argument (ByRecord (Whole (Global 0 0) (RecordKind 0))) end_of-Argument))) ∷ []); answer = None } ∷ []); imports_in = false }

pub narrowed_to_none_not : (b : Box (Unit {0}) Heap) (v : Vec (Unit {0}) Heap) → well_formed (narrowed_to_none b v) ≡ false
unfolding data_tree record_row
narrowed_to_none_not b v = refl

-- MODULE P; IMPORT Out; TYPE B = POINTER TO RB; RB = RECORD x: INTEGER END; E = POINTER TO RE; RE = RECORD (RB) y: INTEGER; next: B END; VAR p: B; e: E; PROCEDURE Show(q: B); BEGIN CASE q OF E: Out.Char(''E''); q.y := 3; Show(q.next) | B: Out.Char(''B'') END END Show; BEGIN Show(p); NEW(e); e.next := e; NEW(e.next); Show(e); p := e; Out.Int(p(E).y, 0); IF p = e THEN Out.Char(''!'') END; e := NIL; p := e.next END P.
abbrev part_for_none : Outside Program
part_for_none b v = record { types = record { kinds = ((RecordKind 0) ∷ (RecordKind 1) ∷ (PointerKind 0) ∷ (PointerKind 1) ∷ Nothing ∷ Int ∷ []); records = (record { «module» = 0; base = None; level = 0; fields = (record { name = []; exported = false; type_number = 5 } ∷ []); cells = 1; extent = record { bytes = 8; wide = true } } ∷ record { «module» = 0; base = (Some 0); level = 1; fields = (record { name = []; exported = false; type_number = 5 } ∷ record { name = []; exported = false; type_number = 2 } ∷ []); cells = 3; extent = record { bytes = 24; wide = true } } ∷ []); signatures = [] }; modules = (record { name = []; objects = []; variables = (2 ∷ 3 ∷ []); body = 1 } ∷ []); procedures = (record { «module» = 0; line = 1; is_body = false; formals = (record { mode = OfValue; variable = false; type_number = 2 } ∷ []); result = 4; locals = []; texts = []; body = ((CasePointer' (record { form = (Load (Whole (Local 0) (PointerKind 0))); kind = (PointerKind 0) }) (vec2 v) (more_of-TypePart 1 (vec3 v) (more_of-Stmt (OutChar (record { form = (Literal 69); kind = Char })) (more_of-Stmt (Assign (Part' b (Local 0) Int (vec2 v) (more_of-Selector (Dereference (1 ∷ [])) (more_of-Selector (Field 1 0) end_of-Selector))) (record { form = (Literal 3); kind = Int })) (more_of-Stmt (Invoke (Direct' 0 (vec1 v) (more_of-Argument (ByValue (Load (Part' b (Local 0) (PointerKind 0) (vec2 v) (more_of-Selector (Dereference (1 ∷ [])) (more_of-Selector (Field 1 1) end_of-Selector))))) end_of-Argument))) end_of-Stmt))) (more_of-TypePart 2 (vec1 v) (more_of-Stmt (OutChar (record { form = (Literal 66); kind = Char })) end_of-Stmt) end_of-TypePart))) ∷ []); answer = None } ∷ record { «module» = 0; line = 1; is_body = true; formals = []; result = 4; locals = []; texts = []; body = ((Invoke (Direct' 0 (vec1 v) (more_of-Argument (ByValue (Load (Whole (Global 0 0) (PointerKind 0)))) end_of-Argument))) ∷ (New (Whole (Global 0 1) (PointerKind 1))) ∷ (Assign (Part' b (Global 0 1) (PointerKind 0) (vec2 v) (more_of-Selector (Dereference []) (more_of-Selector (Field 1 1) end_of-Selector))) (record { form = (Load (Whole (Global 0 1) (PointerKind 1))); kind = (PointerKind 1) })) ∷ (New (Part' b (Global 0 1) (PointerKind 0) (vec2 v) (more_of-Selector (Dereference []) (more_of-Selector (Field 1 1) end_of-Selector)))) ∷ (Invoke (Direct' 0 (vec1 v) (more_of-Argument (ByValue (Load (Whole (Global 0 1) (PointerKind 1)))) end_of-Argument))) ∷ (Assign (Whole (Global 0 0) (PointerKind 0)) (record { form = (Load (Whole (Global 0 1) (PointerKind 1))); kind = (PointerKind 1) })) ∷ (OutInt (record { form = (Load (Part' b (Global 0 0) Int (vec2 v) (more_of-Selector (Dereference (1 ∷ [])) (more_of-Selector (Field 1 0) end_of-Selector)))); kind = Int }) (record { form = (Literal 0); kind = Int })) ∷ (If' (vec1 v) (more_of-Branch (record { form = (Compare' Equal b (Load (Whole (Global 0 0) (PointerKind 0))) b (Load (Whole (Global 0 1) (PointerKind 1)))); kind = BoolKind }) (vec1 v) (more_of-Stmt (OutChar (record { form = (Literal 33); kind = Char })) end_of-Stmt) end_of-Branch) (vec0 v) end_of-Stmt) ∷ (Assign (Whole (Global 0 1) (PointerKind 1)) (record { form = (Literal 0); kind = Nil })) ∷ (Assign (Whole (Global 0 0) (PointerKind 0)) (record { form = (Load (Part' b (Global 0 1) (PointerKind 0) (vec2 v) (more_of-Selector (Dereference []) (more_of-Selector (Field 1 1) end_of-Selector)))); kind = (PointerKind 0) })) ∷ []); answer = None } ∷ []); imports_in = false }

pub part_for_none_not : (b : Box (Unit {0}) Heap) (v : Vec (Unit {0}) Heap) → well_formed (part_for_none b v) ≡ false
unfolding data_tree record_row
part_for_none_not b v = refl

-- MODULE C; IMPORT Out; VAR c: CHAR; i: INTEGER; BEGIN FOR i := 0 TO 2 DO c := CHR(i * 5 + ORD(''a'')); CASE c OF ''a'': Out.Char(''1'') | ''b''..''f'', ''z'': Out.Char(''2'') | ''k'': Out.Char(''3'') END END; c := CHR(-1 + i * 0) END C.
abbrev downward : Outside Program
downward b v = record { types = record { kinds = (Char ∷ Int ∷ Nothing ∷ []); records = []; signatures = [] }; modules = (record { name = []; objects = []; variables = (0 ∷ 1 ∷ []); body = 0 } ∷ []); procedures = (record { «module» = 0; line = 1; is_body = true; formals = []; result = 2; locals = []; texts = []; body = ((For' b (Whole (Global 0 1) Int) (record { form = (Literal 0); kind = Int }) (record { form = (Literal 2); kind = Int }) (pos 1) (vec2 v) (more_of-Stmt (Assign (Whole (Global 0 0) Char) (record { form = (Byte' b (Chain' b (Load (Whole (Global 0 1) Int)) (vec2 v) (more_of-Link (Operate Multiply (Literal 5)) (more_of-Link (Operate Add (Literal 97)) end_of-Link)))); kind = Char })) (more_of-Stmt (Case' (record { form = (Load (Whole (Global 0 0) Char)); kind = Char }) (vec3 v) (more_of-CasePart (One (pos 97) ∷ []) (vec1 v) (more_of-Stmt (OutChar (record { form = (Literal 49); kind = Char })) end_of-Stmt) (more_of-CasePart (Range (pos 102) (pos 98) ∷ One (pos 122) ∷ []) (vec1 v) (more_of-Stmt (OutChar (record { form = (Literal 50); kind = Char })) end_of-Stmt) (more_of-CasePart (One (pos 107) ∷ []) (vec1 v) (more_of-Stmt (OutChar (record { form = (Literal 51); kind = Char })) end_of-Stmt) end_of-CasePart)))) end_of-Stmt))) ∷ (Assign (Whole (Global 0 0) Char) (record { form = (Byte' b (Chain' b (Unary' Negate b (Literal 1)) (vec1 v) (more_of-Link (Operate Add (Chain' b (Load (Whole (Global 0 1) Int)) (vec1 v) (more_of-Link (Operate Multiply (Literal 0)) end_of-Link))) end_of-Link))); kind = Char })) ∷ []); answer = None } ∷ []); imports_in = false }

pub downward_not : (b : Box (Unit {0}) Heap) (v : Vec (Unit {0}) Heap) → well_formed (downward b v) ≡ false
unfolding data_tree record_row
downward_not b v = refl

-- MODULE C; IMPORT Out; VAR c: CHAR; i: INTEGER; BEGIN FOR i := 0 TO 2 DO c := CHR(i * 5 + ORD(''a'')); CASE c OF ''a'': Out.Char(''1'') | ''b''..''f'', ''z'': Out.Char(''2'') | ''k'': Out.Char(''3'') END END; c := CHR(-1 + i * 0) END C.
abbrev far : Outside Program
far b v = record { types = record { kinds = (Char ∷ Int ∷ Nothing ∷ []); records = []; signatures = [] }; modules = (record { name = []; objects = []; variables = (0 ∷ 1 ∷ []); body = 0 } ∷ []); procedures = (record { «module» = 0; line = 1; is_body = true; formals = []; result = 2; locals = []; texts = []; body = ((For' b (Whole (Global 0 1) Int) (record { form = (Literal 0); kind = Int }) (record { form = (Literal 2); kind = Int }) (pos 1) (vec2 v) (more_of-Stmt (Assign (Whole (Global 0 0) Char) (record { form = (Byte' b (Chain' b (Load (Whole (Global 0 1) Int)) (vec2 v) (more_of-Link (Operate Multiply (Literal 5)) (more_of-Link (Operate Add (Literal 97)) end_of-Link)))); kind = Char })) (more_of-Stmt (Case' (record { form = (Load (Whole (Global 0 0) Char)); kind = Char }) (vec3 v) (more_of-CasePart (One (pos 97) ∷ []) (vec1 v) (more_of-Stmt (OutChar (record { form = (Literal 49); kind = Char })) end_of-Stmt) (more_of-CasePart (Range (pos 98) (pos 102) ∷ One (pos 122) ∷ []) (vec1 v) (more_of-Stmt (OutChar (record { form = (Literal 50); kind = Char })) end_of-Stmt) (more_of-CasePart (One (pos 9223372036854775808) ∷ []) (vec1 v) (more_of-Stmt (OutChar (record { form = (Literal 51); kind = Char })) end_of-Stmt) end_of-CasePart)))) end_of-Stmt))) ∷ (Assign (Whole (Global 0 0) Char) (record { form = (Byte' b (Chain' b (Unary' Negate b (Literal 1)) (vec1 v) (more_of-Link (Operate Add (Chain' b (Load (Whole (Global 0 1) Int)) (vec1 v) (more_of-Link (Operate Multiply (Literal 0)) end_of-Link))) end_of-Link))); kind = Char })) ∷ []); answer = None } ∷ []); imports_in = false }

pub far_not : (b : Box (Unit {0}) Heap) (v : Vec (Unit {0}) Heap) → well_formed (far b v) ≡ false
unfolding data_tree record_row
far_not b v = refl

-- MODULE M; VAR a: ARRAY 3 OF INTEGER; i: INTEGER; BEGIN i := 2; a[i] := 1; i := 3; a[i] := 1 END M.
abbrev many_cells : Outside Program
many_cells b v = record { types = record { kinds = (Int ∷ (Array (Some 3) 0) ∷ Nothing ∷ (Array (Some 1048576) 0) ∷ (Array (Some 2) 3) ∷ []); records = []; signatures = [] }; modules = (record { name = []; objects = []; variables = (1 ∷ 0 ∷ []); body = 0 } ∷ []); procedures = (record { «module» = 0; line = 1; is_body = true; formals = []; result = 2; locals = []; texts = []; body = ((Assign (Whole (Global 0 1) Int) (record { form = (Literal 2); kind = Int })) ∷ (Assign (Part' b (Global 0 0) Int (vec1 v) (more_of-Selector (Index (Some 3) 0 (Load (Whole (Global 0 1) Int))) end_of-Selector)) (record { form = (Literal 1); kind = Int })) ∷ (Assign (Whole (Global 0 1) Int) (record { form = (Literal 3); kind = Int })) ∷ (Assign (Part' b (Global 0 0) Int (vec1 v) (more_of-Selector (Index (Some 3) 0 (Load (Whole (Global 0 1) Int))) end_of-Selector)) (record { form = (Literal 1); kind = Int })) ∷ []); answer = None } ∷ []); imports_in = false }

pub many_cells_not : (b : Box (Unit {0}) Heap) (v : Vec (Unit {0}) Heap) → well_formed (many_cells b v) ≡ false
unfolding data_tree record_row
many_cells_not b v = refl

-- MODULE M; VAR a: ARRAY 3 OF INTEGER; i: INTEGER; BEGIN i := 2; a[i] := 1; i := 3; a[i] := 1 END M.
abbrev empty_array : Outside Program
empty_array b v = record { types = record { kinds = (Int ∷ (Array (Some 3) 0) ∷ Nothing ∷ (Array (Some 0) 0) ∷ []); records = []; signatures = [] }; modules = (record { name = []; objects = []; variables = (1 ∷ 0 ∷ []); body = 0 } ∷ []); procedures = (record { «module» = 0; line = 1; is_body = true; formals = []; result = 2; locals = []; texts = []; body = ((Assign (Whole (Global 0 1) Int) (record { form = (Literal 2); kind = Int })) ∷ (Assign (Part' b (Global 0 0) Int (vec1 v) (more_of-Selector (Index (Some 3) 0 (Load (Whole (Global 0 1) Int))) end_of-Selector)) (record { form = (Literal 1); kind = Int })) ∷ (Assign (Whole (Global 0 1) Int) (record { form = (Literal 3); kind = Int })) ∷ (Assign (Part' b (Global 0 0) Int (vec1 v) (more_of-Selector (Index (Some 3) 0 (Load (Whole (Global 0 1) Int))) end_of-Selector)) (record { form = (Literal 1); kind = Int })) ∷ []); answer = None } ∷ []); imports_in = false }

pub empty_array_not : (b : Box (Unit {0}) Heap) (v : Vec (Unit {0}) Heap) → well_formed (empty_array b v) ≡ false
unfolding data_tree record_row
empty_array_not b v = refl

-- MODULE G; TYPE B = RECORD END; E = RECORD (B) x: INTEGER END; F = RECORD (E) END; PB = POINTER TO B; PE = POINTER TO E; PF = POINTER TO F; VAR p: PB; e: PE; f: PF; BEGIN ASSERT(~(p IS PE)); NEW(e); p := e; e := p(PE); NEW(f); p := f; e := p(PE); ASSERT(p IS PF); NEW(p); e := p(PE) END G.
abbrev long_array : Outside Program
long_array b v = record { types = record { kinds = ((RecordKind 0) ∷ (RecordKind 1) ∷ (RecordKind 2) ∷ (PointerKind 0) ∷ (PointerKind 1) ∷ (PointerKind 2) ∷ Nothing ∷ Int ∷ (Array (Some 1048577) 0) ∷ []); records = (record { «module» = 0; base = None; level = 0; fields = []; cells = 0; extent = record { bytes = 0; wide = false } } ∷ record { «module» = 0; base = (Some 0); level = 1; fields = (record { name = []; exported = false; type_number = 7 } ∷ []); cells = 1; extent = record { bytes = 8; wide = true } } ∷ record { «module» = 0; base = (Some 1); level = 2; fields = []; cells = 1; extent = record { bytes = 8; wide = true } } ∷ []); signatures = [] }; modules = (record { name = []; objects = []; variables = (3 ∷ 4 ∷ 5 ∷ []); body = 0 } ∷ []); procedures = (record { «module» = 0; line = 1; is_body = true; formals = []; result = 6; locals = []; texts = []; body = ((Assert (record { form = (Unary' Not b (IsPointer' b (Load (Whole (Global 0 0) (PointerKind 0))) 1)); kind = BoolKind })) ∷ (New (Whole (Global 0 1) (PointerKind 1))) ∷ (Assign (Whole (Global 0 0) (PointerKind 0)) (record { form = (Load (Whole (Global 0 1) (PointerKind 1))); kind = (PointerKind 1) })) ∷ (Assign (Whole (Global 0 1) (PointerKind 1)) (record { form = (Guard' b (Whole (Global 0 0) (PointerKind 0)) (1 ∷ [])); kind = (PointerKind 1) })) ∷ (New (Whole (Global 0 2) (PointerKind 2))) ∷ (Assign (Whole (Global 0 0) (PointerKind 0)) (record { form = (Load (Whole (Global 0 2) (PointerKind 2))); kind = (PointerKind 2) })) ∷ (Assign (Whole (Global 0 1) (PointerKind 1)) (record { form = (Guard' b (Whole (Global 0 0) (PointerKind 0)) (1 ∷ [])); kind = (PointerKind 1) })) ∷ (Assert (record { form = (IsPointer' b (Load (Whole (Global 0 0) (PointerKind 0))) 2); kind = BoolKind })) ∷ (New (Whole (Global 0 0) (PointerKind 0))) ∷ (Assign (Whole (Global 0 1) (PointerKind 1)) (record { form = (Guard' b (Whole (Global 0 0) (PointerKind 0)) (1 ∷ [])); kind = (PointerKind 1) })) ∷ []); answer = None } ∷ []); imports_in = false }

pub long_array_not : (b : Box (Unit {0}) Heap) (v : Vec (Unit {0}) Heap) → well_formed (long_array b v) ≡ false
unfolding data_tree record_row
long_array_not b v = refl

-- MODULE G; TYPE B = RECORD END; E = RECORD (B) x: INTEGER END; F = RECORD (E) END; PB = POINTER TO B; PE = POINTER TO E; PF = POINTER TO F; VAR p: PB; e: PE; f: PF; BEGIN ASSERT(~(p IS PE)); NEW(e); p := e; e := p(PE); NEW(f); p := f; e := p(PE); ASSERT(p IS PF); NEW(p); e := p(PE) END G.
abbrev many_fields : Outside Program
many_fields b v = record { types = record { kinds = ((RecordKind 0) ∷ (RecordKind 1) ∷ (RecordKind 2) ∷ (PointerKind 0) ∷ (PointerKind 1) ∷ (PointerKind 2) ∷ Nothing ∷ Int ∷ (Array (Some 1048576) 7) ∷ []); records = (record { «module» = 0; base = None; level = 0; fields = []; cells = 0; extent = record { bytes = 0; wide = false } } ∷ record { «module» = 0; base = (Some 0); level = 1; fields = (record { name = []; exported = false; type_number = 7 } ∷ record { name = []; exported = false; type_number = 8 } ∷ []); cells = 1048577; extent = record { bytes = 8388616; wide = true } } ∷ record { «module» = 0; base = (Some 1); level = 2; fields = []; cells = 1048577; extent = record { bytes = 8388616; wide = true } } ∷ []); signatures = [] }; modules = (record { name = []; objects = []; variables = (3 ∷ 4 ∷ 5 ∷ []); body = 0 } ∷ []); procedures = (record { «module» = 0; line = 1; is_body = true; formals = []; result = 6; locals = []; texts = []; body = ((Assert (record { form = (Unary' Not b (IsPointer' b (Load (Whole (Global 0 0) (PointerKind 0))) 1)); kind = BoolKind })) ∷ (New (Whole (Global 0 1) (PointerKind 1))) ∷ (Assign (Whole (Global 0 0) (PointerKind 0)) (record { form = (Load (Whole (Global 0 1) (PointerKind 1))); kind = (PointerKind 1) })) ∷ (Assign (Whole (Global 0 1) (PointerKind 1)) (record { form = (Guard' b (Whole (Global 0 0) (PointerKind 0)) (1 ∷ [])); kind = (PointerKind 1) })) ∷ (New (Whole (Global 0 2) (PointerKind 2))) ∷ (Assign (Whole (Global 0 0) (PointerKind 0)) (record { form = (Load (Whole (Global 0 2) (PointerKind 2))); kind = (PointerKind 2) })) ∷ (Assign (Whole (Global 0 1) (PointerKind 1)) (record { form = (Guard' b (Whole (Global 0 0) (PointerKind 0)) (1 ∷ [])); kind = (PointerKind 1) })) ∷ (Assert (record { form = (IsPointer' b (Load (Whole (Global 0 0) (PointerKind 0))) 2); kind = BoolKind })) ∷ (New (Whole (Global 0 0) (PointerKind 0))) ∷ (Assign (Whole (Global 0 1) (PointerKind 1)) (record { form = (Guard' b (Whole (Global 0 0) (PointerKind 0)) (1 ∷ [])); kind = (PointerKind 1) })) ∷ []); answer = None } ∷ []); imports_in = false }

pub many_fields_not : (b : Box (Unit {0}) Heap) (v : Vec (Unit {0}) Heap) → well_formed (many_fields b v) ≡ false
unfolding data_tree record_row
many_fields_not b v = refl

-- MODULE G; TYPE B = RECORD END; E = RECORD (B) x: INTEGER END; F = RECORD (E) END; PB = POINTER TO B; PE = POINTER TO E; PF = POINTER TO F; VAR p: PB; e: PE; f: PF; BEGIN ASSERT(~(p IS PE)); NEW(e); p := e; e := p(PE); NEW(f); p := f; e := p(PE); ASSERT(p IS PF); NEW(p); e := p(PE) END G.
abbrev points_to_none : Outside Program
points_to_none b v = record { types = record { kinds = ((RecordKind 0) ∷ (RecordKind 1) ∷ (RecordKind 2) ∷ (PointerKind 0) ∷ (PointerKind 1) ∷ (PointerKind 2) ∷ Nothing ∷ Int ∷ (PointerKind 3) ∷ []); records = (record { «module» = 0; base = None; level = 0; fields = []; cells = 0; extent = record { bytes = 0; wide = false } } ∷ record { «module» = 0; base = (Some 0); level = 1; fields = (record { name = []; exported = false; type_number = 7 } ∷ []); cells = 1; extent = record { bytes = 8; wide = true } } ∷ record { «module» = 0; base = (Some 1); level = 2; fields = []; cells = 1; extent = record { bytes = 8; wide = true } } ∷ []); signatures = [] }; modules = (record { name = []; objects = []; variables = (3 ∷ 4 ∷ 5 ∷ []); body = 0 } ∷ []); procedures = (record { «module» = 0; line = 1; is_body = true; formals = []; result = 6; locals = []; texts = []; body = ((Assert (record { form = (Unary' Not b (IsPointer' b (Load (Whole (Global 0 0) (PointerKind 0))) 1)); kind = BoolKind })) ∷ (New (Whole (Global 0 1) (PointerKind 1))) ∷ (Assign (Whole (Global 0 0) (PointerKind 0)) (record { form = (Load (Whole (Global 0 1) (PointerKind 1))); kind = (PointerKind 1) })) ∷ (Assign (Whole (Global 0 1) (PointerKind 1)) (record { form = (Guard' b (Whole (Global 0 0) (PointerKind 0)) (1 ∷ [])); kind = (PointerKind 1) })) ∷ (New (Whole (Global 0 2) (PointerKind 2))) ∷ (Assign (Whole (Global 0 0) (PointerKind 0)) (record { form = (Load (Whole (Global 0 2) (PointerKind 2))); kind = (PointerKind 2) })) ∷ (Assign (Whole (Global 0 1) (PointerKind 1)) (record { form = (Guard' b (Whole (Global 0 0) (PointerKind 0)) (1 ∷ [])); kind = (PointerKind 1) })) ∷ (Assert (record { form = (IsPointer' b (Load (Whole (Global 0 0) (PointerKind 0))) 2); kind = BoolKind })) ∷ (New (Whole (Global 0 0) (PointerKind 0))) ∷ (Assign (Whole (Global 0 1) (PointerKind 1)) (record { form = (Guard' b (Whole (Global 0 0) (PointerKind 0)) (1 ∷ [])); kind = (PointerKind 1) })) ∷ []); answer = None } ∷ []); imports_in = false }

pub points_to_none_not : (b : Box (Unit {0}) Heap) (v : Vec (Unit {0}) Heap) → well_formed (points_to_none b v) ≡ false
unfolding data_tree record_row
points_to_none_not b v = refl

-- MODULE G; TYPE B = RECORD END; E = RECORD (B) x: INTEGER END; F = RECORD (E) END; PB = POINTER TO B; PE = POINTER TO E; PF = POINTER TO F; VAR p: PB; e: PE; f: PF; BEGIN ASSERT(~(p IS PE)); NEW(e); p := e; e := p(PE); NEW(f); p := f; e := p(PE); ASSERT(p IS PF); NEW(p); e := p(PE) END G.
abbrev no_signature : Outside Program
no_signature b v = record { types = record { kinds = ((RecordKind 0) ∷ (RecordKind 1) ∷ (RecordKind 2) ∷ (PointerKind 0) ∷ (PointerKind 1) ∷ (PointerKind 2) ∷ Nothing ∷ Int ∷ (ProcedureKind 0) ∷ []); records = (record { «module» = 0; base = None; level = 0; fields = []; cells = 0; extent = record { bytes = 0; wide = false } } ∷ record { «module» = 0; base = (Some 0); level = 1; fields = (record { name = []; exported = false; type_number = 7 } ∷ []); cells = 1; extent = record { bytes = 8; wide = true } } ∷ record { «module» = 0; base = (Some 1); level = 2; fields = []; cells = 1; extent = record { bytes = 8; wide = true } } ∷ []); signatures = [] }; modules = (record { name = []; objects = []; variables = (3 ∷ 4 ∷ 5 ∷ []); body = 0 } ∷ []); procedures = (record { «module» = 0; line = 1; is_body = true; formals = []; result = 6; locals = []; texts = []; body = ((Assert (record { form = (Unary' Not b (IsPointer' b (Load (Whole (Global 0 0) (PointerKind 0))) 1)); kind = BoolKind })) ∷ (New (Whole (Global 0 1) (PointerKind 1))) ∷ (Assign (Whole (Global 0 0) (PointerKind 0)) (record { form = (Load (Whole (Global 0 1) (PointerKind 1))); kind = (PointerKind 1) })) ∷ (Assign (Whole (Global 0 1) (PointerKind 1)) (record { form = (Guard' b (Whole (Global 0 0) (PointerKind 0)) (1 ∷ [])); kind = (PointerKind 1) })) ∷ (New (Whole (Global 0 2) (PointerKind 2))) ∷ (Assign (Whole (Global 0 0) (PointerKind 0)) (record { form = (Load (Whole (Global 0 2) (PointerKind 2))); kind = (PointerKind 2) })) ∷ (Assign (Whole (Global 0 1) (PointerKind 1)) (record { form = (Guard' b (Whole (Global 0 0) (PointerKind 0)) (1 ∷ [])); kind = (PointerKind 1) })) ∷ (Assert (record { form = (IsPointer' b (Load (Whole (Global 0 0) (PointerKind 0))) 2); kind = BoolKind })) ∷ (New (Whole (Global 0 0) (PointerKind 0))) ∷ (Assign (Whole (Global 0 1) (PointerKind 1)) (record { form = (Guard' b (Whole (Global 0 0) (PointerKind 0)) (1 ∷ [])); kind = (PointerKind 1) })) ∷ []); answer = None } ∷ []); imports_in = false }

pub no_signature_not : (b : Box (Unit {0}) Heap) (v : Vec (Unit {0}) Heap) → well_formed (no_signature b v) ≡ false
unfolding data_tree record_row
no_signature_not b v = refl

-- MODULE M; VAR a: ARRAY 3 OF INTEGER; i: INTEGER; BEGIN i := 2; a[i] := 1; i := 3; a[i] := 1 END M.
abbrev elements_of_none : Outside Program
elements_of_none b v = record { types = record { kinds = (Int ∷ (Array (Some 3) 0) ∷ Nothing ∷ (Array None 9) ∷ []); records = []; signatures = [] }; modules = (record { name = []; objects = []; variables = (1 ∷ 0 ∷ []); body = 0 } ∷ []); procedures = (record { «module» = 0; line = 1; is_body = true; formals = []; result = 2; locals = []; texts = []; body = ((Assign (Whole (Global 0 1) Int) (record { form = (Literal 2); kind = Int })) ∷ (Assign (Part' b (Global 0 0) Int (vec1 v) (more_of-Selector (Index (Some 3) 0 (Load (Whole (Global 0 1) Int))) end_of-Selector)) (record { form = (Literal 1); kind = Int })) ∷ (Assign (Whole (Global 0 1) Int) (record { form = (Literal 3); kind = Int })) ∷ (Assign (Part' b (Global 0 0) Int (vec1 v) (more_of-Selector (Index (Some 3) 0 (Load (Whole (Global 0 1) Int))) end_of-Selector)) (record { form = (Literal 1); kind = Int })) ∷ []); answer = None } ∷ []); imports_in = false }

pub elements_of_none_not : (b : Box (Unit {0}) Heap) (v : Vec (Unit {0}) Heap) → well_formed (elements_of_none b v) ≡ false
unfolding data_tree record_row
elements_of_none_not b v = refl

-- MODULE G; TYPE B = RECORD END; E = RECORD (B) x: INTEGER END; F = RECORD (E) END; PB = POINTER TO B; PE = POINTER TO E; PF = POINTER TO F; VAR p: PB; e: PE; f: PF; BEGIN ASSERT(~(p IS PE)); NEW(e); p := e; e := p(PE); NEW(f); p := f; e := p(PE); ASSERT(p IS PF); NEW(p); e := p(PE) END G.
abbrev extends_none : Outside Program
extends_none b v = record { types = record { kinds = ((RecordKind 0) ∷ (RecordKind 1) ∷ (RecordKind 2) ∷ (PointerKind 0) ∷ (PointerKind 1) ∷ (PointerKind 2) ∷ Nothing ∷ Int ∷ []); records = (record { «module» = 0; base = (Some 3); level = 1; fields = []; cells = 0; extent = record { bytes = 0; wide = false } } ∷ record { «module» = 0; base = (Some 0); level = 2; fields = (record { name = []; exported = false; type_number = 7 } ∷ []); cells = 1; extent = record { bytes = 8; wide = true } } ∷ record { «module» = 0; base = (Some 1); level = 3; fields = []; cells = 1; extent = record { bytes = 8; wide = true } } ∷ []); signatures = [] }; modules = (record { name = []; objects = []; variables = (3 ∷ 4 ∷ 5 ∷ []); body = 0 } ∷ []); procedures = (record { «module» = 0; line = 1; is_body = true; formals = []; result = 6; locals = []; texts = []; body = ((Assert (record { form = (Unary' Not b (IsPointer' b (Load (Whole (Global 0 0) (PointerKind 0))) 1)); kind = BoolKind })) ∷ (New (Whole (Global 0 1) (PointerKind 1))) ∷ (Assign (Whole (Global 0 0) (PointerKind 0)) (record { form = (Load (Whole (Global 0 1) (PointerKind 1))); kind = (PointerKind 1) })) ∷ (Assign (Whole (Global 0 1) (PointerKind 1)) (record { form = (Guard' b (Whole (Global 0 0) (PointerKind 0)) (1 ∷ [])); kind = (PointerKind 1) })) ∷ (New (Whole (Global 0 2) (PointerKind 2))) ∷ (Assign (Whole (Global 0 0) (PointerKind 0)) (record { form = (Load (Whole (Global 0 2) (PointerKind 2))); kind = (PointerKind 2) })) ∷ (Assign (Whole (Global 0 1) (PointerKind 1)) (record { form = (Guard' b (Whole (Global 0 0) (PointerKind 0)) (1 ∷ [])); kind = (PointerKind 1) })) ∷ (Assert (record { form = (IsPointer' b (Load (Whole (Global 0 0) (PointerKind 0))) 2); kind = BoolKind })) ∷ (New (Whole (Global 0 0) (PointerKind 0))) ∷ (Assign (Whole (Global 0 1) (PointerKind 1)) (record { form = (Guard' b (Whole (Global 0 0) (PointerKind 0)) (1 ∷ [])); kind = (PointerKind 1) })) ∷ []); answer = None } ∷ []); imports_in = false }

pub extends_none_not : (b : Box (Unit {0}) Heap) (v : Vec (Unit {0}) Heap) → well_formed (extends_none b v) ≡ false
unfolding data_tree record_row
extends_none_not b v = refl

-- MODULE G; TYPE B = RECORD END; E = RECORD (B) x: INTEGER END; F = RECORD (E) END; PB = POINTER TO B; PE = POINTER TO E; PF = POINTER TO F; VAR p: PB; e: PE; f: PF; BEGIN ASSERT(~(p IS PE)); NEW(e); p := e; e := p(PE); NEW(f); p := f; e := p(PE); ASSERT(p IS PF); NEW(p); e := p(PE) END G.
abbrev typeless : Outside Program
typeless b v = record { types = record { kinds = ((RecordKind 0) ∷ (RecordKind 1) ∷ (RecordKind 2) ∷ (PointerKind 0) ∷ (PointerKind 1) ∷ (PointerKind 2) ∷ Nothing ∷ Int ∷ []); records = (record { «module» = 0; base = None; level = 0; fields = []; cells = 0; extent = record { bytes = 0; wide = false } } ∷ record { «module» = 0; base = (Some 0); level = 1; fields = (record { name = []; exported = false; type_number = 7 } ∷ []); cells = 1; extent = record { bytes = 8; wide = true } } ∷ record { «module» = 0; base = (Some 1); level = 2; fields = []; cells = 1; extent = record { bytes = 8; wide = true } } ∷ []); signatures = [] }; modules = (record { name = []; objects = []; variables = (3 ∷ 4 ∷ 5 ∷ 6 ∷ []); body = 0 } ∷ []); procedures = (record { «module» = 0; line = 1; is_body = true; formals = []; result = 6; locals = []; texts = []; body = ((Assert (record { form = (Unary' Not b (IsPointer' b (Load (Whole (Global 0 0) (PointerKind 0))) 1)); kind = BoolKind })) ∷ (New (Whole (Global 0 1) (PointerKind 1))) ∷ (Assign (Whole (Global 0 0) (PointerKind 0)) (record { form = (Load (Whole (Global 0 1) (PointerKind 1))); kind = (PointerKind 1) })) ∷ (Assign (Whole (Global 0 1) (PointerKind 1)) (record { form = (Guard' b (Whole (Global 0 0) (PointerKind 0)) (1 ∷ [])); kind = (PointerKind 1) })) ∷ (New (Whole (Global 0 2) (PointerKind 2))) ∷ (Assign (Whole (Global 0 0) (PointerKind 0)) (record { form = (Load (Whole (Global 0 2) (PointerKind 2))); kind = (PointerKind 2) })) ∷ (Assign (Whole (Global 0 1) (PointerKind 1)) (record { form = (Guard' b (Whole (Global 0 0) (PointerKind 0)) (1 ∷ [])); kind = (PointerKind 1) })) ∷ (Assert (record { form = (IsPointer' b (Load (Whole (Global 0 0) (PointerKind 0))) 2); kind = BoolKind })) ∷ (New (Whole (Global 0 0) (PointerKind 0))) ∷ (Assign (Whole (Global 0 1) (PointerKind 1)) (record { form = (Guard' b (Whole (Global 0 0) (PointerKind 0)) (1 ∷ [])); kind = (PointerKind 1) })) ∷ []); answer = None } ∷ []); imports_in = false }

pub typeless_not : (b : Box (Unit {0}) Heap) (v : Vec (Unit {0}) Heap) → well_formed (typeless b v) ≡ false
unfolding data_tree record_row
typeless_not b v = refl

-- MODULE D; IMPORT Out; PROCEDURE D(n: INTEGER); BEGIN IF n > 1 THEN D(n - 1) END END D; BEGIN Out.Char(''a''); D(20); Out.Char(''b'') END D.
abbrev typeless_here : Outside Program
typeless_here b v = record { types = record { kinds = (Int ∷ Nothing ∷ []); records = []; signatures = [] }; modules = (record { name = []; objects = []; variables = []; body = 1 } ∷ []); procedures = (record { «module» = 0; line = 1; is_body = false; formals = (record { mode = OfValue; variable = false; type_number = 0 } ∷ []); result = 1; locals = (1 ∷ []); texts = []; body = ((If' (vec1 v) (more_of-Branch (record { form = (Compare' Greater b (Load (Whole (Local 0) Int)) b (Literal 1)); kind = BoolKind }) (vec1 v) (more_of-Stmt (Invoke (Direct' 0 (vec1 v) (more_of-Argument (ByValue (Chain' b (Load (Whole (Local 0) Int)) (vec1 v) (more_of-Link (Operate Subtract (Literal 1)) end_of-Link))) end_of-Argument))) end_of-Stmt) end_of-Branch) (vec0 v) end_of-Stmt) ∷ []); answer = None } ∷ record { «module» = 0; line = 1; is_body = true; formals = []; result = 1; locals = []; texts = []; body = ((OutChar (record { form = (Literal 97); kind = Char })) ∷ (Invoke (Direct' 0 (vec1 v) (more_of-Argument (ByValue (Literal 20)) end_of-Argument))) ∷ (OutChar (record { form = (Literal 98); kind = Char })) ∷ []); answer = None } ∷ []); imports_in = false }

pub typeless_here_not : (b : Box (Unit {0}) Heap) (v : Vec (Unit {0}) Heap) → well_formed (typeless_here b v) ≡ false
unfolding data_tree record_row
typeless_here_not b v = refl

-- MODULE G; TYPE B = RECORD END; E = RECORD (B) x: INTEGER END; F = RECORD (E) END; PB = POINTER TO B; PE = POINTER TO E; PF = POINTER TO F; VAR p: PB; e: PE; f: PF; BEGIN ASSERT(~(p IS PE)); NEW(e); p := e; e := p(PE); NEW(f); p := f; e := p(PE); ASSERT(p IS PF); NEW(p); e := p(PE) END G.
abbrev typeless_field : Outside Program
typeless_field b v = record { types = record { kinds = ((RecordKind 0) ∷ (RecordKind 1) ∷ (RecordKind 2) ∷ (PointerKind 0) ∷ (PointerKind 1) ∷ (PointerKind 2) ∷ Nothing ∷ Int ∷ []); records = (record { «module» = 0; base = None; level = 0; fields = []; cells = 0; extent = record { bytes = 0; wide = false } } ∷ record { «module» = 0; base = (Some 0); level = 1; fields = (record { name = []; exported = false; type_number = 6 } ∷ []); cells = 1; extent = record { bytes = 8; wide = true } } ∷ record { «module» = 0; base = (Some 1); level = 2; fields = []; cells = 1; extent = record { bytes = 8; wide = true } } ∷ []); signatures = [] }; modules = (record { name = []; objects = []; variables = (3 ∷ 4 ∷ 5 ∷ []); body = 0 } ∷ []); procedures = (record { «module» = 0; line = 1; is_body = true; formals = []; result = 6; locals = []; texts = []; body = ((Assert (record { form = (Unary' Not b (IsPointer' b (Load (Whole (Global 0 0) (PointerKind 0))) 1)); kind = BoolKind })) ∷ (New (Whole (Global 0 1) (PointerKind 1))) ∷ (Assign (Whole (Global 0 0) (PointerKind 0)) (record { form = (Load (Whole (Global 0 1) (PointerKind 1))); kind = (PointerKind 1) })) ∷ (Assign (Whole (Global 0 1) (PointerKind 1)) (record { form = (Guard' b (Whole (Global 0 0) (PointerKind 0)) (1 ∷ [])); kind = (PointerKind 1) })) ∷ (New (Whole (Global 0 2) (PointerKind 2))) ∷ (Assign (Whole (Global 0 0) (PointerKind 0)) (record { form = (Load (Whole (Global 0 2) (PointerKind 2))); kind = (PointerKind 2) })) ∷ (Assign (Whole (Global 0 1) (PointerKind 1)) (record { form = (Guard' b (Whole (Global 0 0) (PointerKind 0)) (1 ∷ [])); kind = (PointerKind 1) })) ∷ (Assert (record { form = (IsPointer' b (Load (Whole (Global 0 0) (PointerKind 0))) 2); kind = BoolKind })) ∷ (New (Whole (Global 0 0) (PointerKind 0))) ∷ (Assign (Whole (Global 0 1) (PointerKind 1)) (record { form = (Guard' b (Whole (Global 0 0) (PointerKind 0)) (1 ∷ [])); kind = (PointerKind 1) })) ∷ []); answer = None } ∷ []); imports_in = false }

pub typeless_field_not : (b : Box (Unit {0}) Heap) (v : Vec (Unit {0}) Heap) → well_formed (typeless_field b v) ≡ false
unfolding data_tree record_row
typeless_field_not b v = refl

-- MODULE T; TYPE B = RECORD x: INTEGER END; E = RECORD (B) y: INTEGER END; VAR b: B; PROCEDURE Kind(VAR r: B); BEGIN r(E).y := 5 END Kind; BEGIN Kind(b) END T.
abbrev whole_result : Outside Program
whole_result b v = record { types = record { kinds = ((RecordKind 0) ∷ (RecordKind 1) ∷ Nothing ∷ Int ∷ []); records = (record { «module» = 0; base = None; level = 0; fields = (record { name = []; exported = false; type_number = 3 } ∷ []); cells = 1; extent = record { bytes = 8; wide = true } } ∷ record { «module» = 0; base = (Some 0); level = 1; fields = (record { name = []; exported = false; type_number = 3 } ∷ []); cells = 2; extent = record { bytes = 16; wide = true } } ∷ []); signatures = [] }; modules = (record { name = []; objects = []; variables = (0 ∷ []); body = 1 } ∷ []); procedures = (record { «module» = 0; line = 1; is_body = false; formals = (record { mode = OfRecord; variable = true; type_number = 0 } ∷ []); result = 0; locals = []; texts = []; body = ((Assign (Part' b (Parameter 0) Int (vec2 v) (more_of-Selector (Narrow 1) (more_of-Selector (Field 1 0) end_of-Selector))) (record { form = (Literal 5); kind = Int })) ∷ []); answer = None } ∷ record { «module» = 0; line = 1; is_body = true; formals = []; result = 2; locals = []; texts = []; body = ((Invoke (Direct' 0 (vec1 v) (more_of-Argument (ByRecord (Whole (Global 0 0) (RecordKind 0))) end_of-Argument))) ∷ []); answer = None } ∷ []); imports_in = false }

pub whole_result_not : (b : Box (Unit {0}) Heap) (v : Vec (Unit {0}) Heap) → well_formed (whole_result b v) ≡ false
unfolding data_tree record_row
whole_result_not b v = refl

-- MODULE D; IMPORT Out; PROCEDURE D(n: INTEGER); BEGIN IF n > 1 THEN D(n - 1) END END D; BEGIN Out.Char(''a''); D(20); Out.Char(''b'') END D.
abbrev by_address : Outside Program
by_address b v = record { types = record { kinds = (Int ∷ Nothing ∷ []); records = []; signatures = [] }; modules = (record { name = []; objects = []; variables = []; body = 1 } ∷ []); procedures = (record { «module» = 0; line = 1; is_body = false; formals = (record { mode = OfValue; variable = true; type_number = 0 } ∷ []); result = 1; locals = []; texts = []; body = ((If' (vec1 v) (more_of-Branch (record { form = (Compare' Greater b (Load (Whole (Local 0) Int)) b (Literal 1)); kind = BoolKind }) (vec1 v) (more_of-Stmt (Invoke (Direct' 0 (vec1 v) (more_of-Argument (ByValue (Chain' b (Load (Whole (Local 0) Int)) (vec1 v) (more_of-Link (Operate Subtract (Literal 1)) end_of-Link))) end_of-Argument))) end_of-Stmt) end_of-Branch) (vec0 v) end_of-Stmt) ∷ []); answer = None } ∷ record { «module» = 0; line = 1; is_body = true; formals = []; result = 1; locals = []; texts = []; body = ((OutChar (record { form = (Literal 97); kind = Char })) ∷ (Invoke (Direct' 0 (vec1 v) (more_of-Argument (ByValue (Literal 20)) end_of-Argument))) ∷ (OutChar (record { form = (Literal 98); kind = Char })) ∷ []); answer = None } ∷ []); imports_in = false }

pub by_address_not : (b : Box (Unit {0}) Heap) (v : Vec (Unit {0}) Heap) → well_formed (by_address b v) ≡ false
unfolding data_tree record_row
by_address_not b v = refl
